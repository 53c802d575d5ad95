-- The coefficient analysis, one definition for each function of coefficients.rs. Definitions only.
use Rattle.std.specs.Prelude.{Option, Some, None, cond, Float}
use Rattle.std.specs.Float.Ieee.{neg, lt, le, eq}
use Rattle.float.specs.Operations.{abs, maximum_number, minimum_number}
use Rattle.coefficients.specs.Constants.{f0, f1, f2, f_near1, f_eps, f_e10, f_em10, ◌*f◌, ◌+f◌, ◌/f◌, fma}
use Rattle.coefficients.specs.declared.merging.Vec3.{Vec3}
use Rattle.coefficients.specs.declared.merging.Record.{Record}
use Rattle.coefficients.specs.declared.ranges.Merged.{Merged}
use Rattle.coefficients.specs.declared.ranges.Mat2.{Mat2}
use Rattle.coefficients.specs.declared.ranges.Ranges.{Ranges}
use Rattle.coefficients.specs.declared.ranges.Row.{Row}
use Rattle.coefficients.specs.declared.ranges.Row.TheVariants.{Zero, One, Two}

-- quadratic_merge: the vector's second and third numbers, if there is a record; its first is never read
unfoldable pub quadratic_merge : Vec3 → Option Merged
quadratic_merge v =
    let tmp = fma v.x2 (neg v.x2) f1 in
    let v1 = fma v.x1 (neg v.x2) v.x1 /f tmp in
    cond (eq tmp f0) None (cond (lt f1 (abs v1)) None (Some (record { v1 = v1; v2 = v.x2 })))

-- finish_record, of one number: what stands for it where it is not within -1 and 1
unfoldable pub within_one : Float → Float
within_one x = cond (le f1 x) f_near1 (cond (le x (neg f1)) (neg f_near1) x)

-- finish_record
unfoldable pub finish_record : Float → Float → Record
finish_record a b = record { v1 = fma (within_one b) (within_one a) (within_one a); v2 = within_one b }

-- contrast_vectors
unfoldable pub contrast : Vec3 → Record → Float
contrast a b =
    let val = fma b.v2 b.v1 (neg b.v1) /f fma b.v2 (neg b.v2) f1 in
    let val1 = fma a.x2 a.x2 (fma a.x0 a.x0 (a.x1 *f a.x1)) in
    let val2 = fma a.x0 a.x1 (a.x1 *f a.x2) in
    let val3 = a.x0 *f a.x2 in
    fma (f2 *f fma (neg b.v1) val (neg b.v2)) val3 (fma (f2 *f val) val2 val1)

-- matrix_filter
unfoldable pub matrix_filter : Record → Vec3
matrix_filter s =
    let m21 = neg s.v1 in
    let m22 = neg s.v2 in
    let m11 = fma m22 m21 m21 /f fma m22 (neg m22) f1 in
    let d1 = fma m11 f1 f0 in
    record { x0 = f1; x1 = d1; x2 = fma m22 f1 (fma m21 d1 f0) }

-- one step of merge_finish_record: -x / val where val is above 0, and 0 where it is not
unfoldable pub quotient : Float → Float → Float
quotient val x = cond (lt f0 val) (neg x /f val) f0

-- merge_finish_record
unfoldable pub merge_finish_record : Vec3 → Record
merge_finish_record s =
    let d1 = quotient s.x0 (f0 +f s.x1) in
    let val = s.x0 *f fma d1 (neg d1) f1 in
    let d2 = quotient val (fma d1 s.x1 f0 +f s.x2) in
    finish_record d1 d2

-- the row of the maximumNumber of two, the later of equals; 0 where neither compares
unfoldable pub pivot : Float → Float → Row
pivot a b = cond (le f0 a) (cond (le a b) Two One) (cond (le f0 b) Two Zero)

-- 2, or the row chosen before where a does not compare
unfoldable pub pivot2 : Float → Row → Row
pivot2 a i = cond (le f0 a) Two i

-- rows 1 and 2 change places
abbrev pub exchanged : Mat2 → Mat2
exchanged m = record { a11 = m.a21; a12 = m.a22; a21 = m.a11; a22 = m.a12 }

-- rows 1 and i change places; row 0 holds zeros
unfoldable pub exchange1 : Row → Mat2 → Mat2
exchange1 Zero m = record { a11 = f0; a12 = f0; a21 = m.a21; a22 = m.a22 }
exchange1 One m = m
exchange1 Two m = exchanged m

-- rows 2 and i change places; row 0 holds t1 and t2
unfoldable pub exchange2 : Row → Float → Float → Mat2 → Mat2
exchange2 Zero t1 t2 m = record { a11 = m.a11; a12 = m.a12; a21 = t1; a22 = t2 }
exchange2 One t1 t2 m = exchanged m
exchange2 Two t1 t2 m = m

-- the reciprocal that row 2 has after the first exchange
unfoldable pub pick : Row → Float → Float → Float
pick Zero a b = b
pick One a b = b
pick Two a b = a

-- analyze_ranges past its first loop. The second pivot is 0 only where the first is, and row 0 is then what row 1 was
unfoldable pub decomposed : Mat2 → Float → Float → Option Ranges
decomposed m r1 r2 =
    let i1 = pivot (abs m.a11 *f r1) (abs m.a21 *f r2) in
    let n = exchange1 i1 m in
    let q2 = pick i1 r1 r2 in
    let l21 = n.a21 *f (f1 /f n.a11) in
    let u22 = fma l21 (neg n.a12) n.a22 in
    let i2 = pivot2 (abs u22 *f q2) i1 in
    let o = exchange2 i2 m.a11 m.a12 (record { a11 = n.a11; a12 = n.a12; a21 = l21; a22 = u22 }) in
    let low = minimum_number (minimum_number f_e10 (abs o.a11)) (abs o.a22) in
    let high = maximum_number (maximum_number f0 (abs o.a11)) (abs o.a22) in
    cond (lt (low /f high) f_em10) None (Some (record { m = o; i1 = i1; i2 = i2 }))

-- analyze_ranges: no record where a row is all but zero
unfoldable pub analyze_ranges : Mat2 → Option Ranges
analyze_ranges m =
    let x1 = maximum_number (abs m.a11) (abs m.a12) in
    let x2 = maximum_number (abs m.a21) (abs m.a22) in
    cond (lt x1 f_eps) None (cond (lt x2 f_eps) None (decomposed m (f1 /f x1) (f1 /f x2)))

-- the vector's number at place i
unfoldable pub at : Vec3 → Row → Float
at v Zero = v.x0
at v One = v.x1
at v Two = v.x2

-- the vector with x at place i
unfoldable pub put : Vec3 → Row → Float → Vec3
put v Zero x = record { x0 = x; x1 = v.x1; x2 = v.x2 }
put v One x = record { x0 = v.x0; x1 = x; x2 = v.x2 }
put v Two x = record { x0 = v.x0; x1 = v.x1; x2 = x }

-- bidirectional_filter
unfoldable pub bidirectional_filter : Ranges → Vec3 → Vec3
bidirectional_filter g v =
    let t1 = at v g.i1 in
    let w1 = put (put v g.i1 v.x1) One t1 in
    let t2 = at w1 g.i2 in
    let w2 = put w1 g.i2 w1.x2 in
    let y2 = cond (eq t1 f0) t2 (fma w2.x1 (neg g.m.a21) t2) /f g.m.a22 in
    record { x0 = f1; x1 = fma y2 (neg g.m.a12) w2.x1 /f g.m.a11; x2 = y2 }
