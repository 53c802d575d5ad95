-- Exported for the bounds of the coefficients: finish_record, matrix_filter, merge_finish_record and the last conversion keep within bounds.
use Rattle.std.proofs.Common.{◌≡◌, ℕ, zero, suc, ◌+◌, ◌*◌, ◌/◌, ◌%◌, ◌^◌, ◌<◌, ◌≤◌, min, Bool, true, false, cond, ◌&&◌, ◌||◌, T, eqb, ltb, leb, ℤ, pos, negsuc, neg_ℤ, nat_abs, sym, refl, ap, ◌∙◌, subst, inl, inr, true≢false, zero-le, le_trans, le_of_eq, lt_of_le_of_lt, zero-lt-suc, suc-mul, div-lt_iff_lt-mul, eq-or-lt_of_le, mul-pos, lt_of_not-le, zero-mul, mul-one, mul_left_comm, arith, lit<, lit≤, le→leb, ltb→lt, leb→le, pow_pos, ltb-false, le-ltb}
use native.Mathlib.Nat.{min-le_left}
use native.Mathlib.Decide.{dec_le}
use lib.Dec.{eqb_refl}
use lib.Ieee.{Float, nan, inf, fin, binary64, up, down, neg, add, lt, eq, le, ne, round, of_bits, fits, to_signed}
use lib.Ieee.Fits.{down_pos, div-fits, cond-fits}
use lib.Ieee.Compare.{differs_from_itself}
use Rattle.whole.proofs.SignedLocals.{abs_neg}
use Rattle.float.specs.FusedMultiplyAdd.{times, fused_multiply_add}
use Rattle.float.specs.Operations.{negative, is_less, maximum_number, minimum_number, round_to_integral_ties_to_away}
use Rattle.float.proofs.Sizes.{Size, Reach, Number, nought, unit, size-neg, size-round, holds-up, holds-down, times-size, add-reach, div-number, factor-above, square-size}
use Rattle.float.proofs.Signs.{less-plus, less-minus}
use Rattle.float.proofs.Bounds.{Upto, Least, upto-more, upto-neg, upto_add, upto-fma, upto-mul, upto-div, upto-number}
use Rattle.coefficients.specs.Constants.{f0, f1, f_near1, f2048, f32767, f32768, ◌*f◌, ◌+f◌, ◌/f◌, fma}
use Rattle.coefficients.specs.Analysis.{within_one, finish_record, matrix_filter, quotient, merge_finish_record}
use Rattle.coefficients.specs.Finish.{coefficient}
use Rattle.coefficients.specs.declared.merging.Vec3.{Vec3}
use Rattle.coefficients.specs.declared.merging.Record.{Record}

-- ---- the named numbers
pub f0-is : f0 ≡ nought
unfolding of_bits
f0-is = refl

pub f1-is : f1 ≡ unit
unfolding of_bits
f1-is = refl

pub upto-f0 : Upto f0 0
unfolding of_bits
upto-f0 = record { size = lit≤ tt }

pub upto-f1 : Upto f1 0
unfolding of_bits
upto-f1 = record { size = lit≤ tt }

pub upto-f2048 : Upto f2048 11
unfolding of_bits
upto-f2048 = record { size = lit≤ tt }

-- ---- |x| < 1, that is, |x| is at most the next value below 1, 1 - 1 / 2 ^ 53
pub record Under (x : Float) : Type 0 where
  pub size : Size x 9007199254740991 9007199254740992

near-under : Size f_near1 9007199254740991 9007199254740992
unfolding of_bits
near-under = lit≤ tt

or-false : (x y : Bool) → (x || y) ≡ false → (x ≡ false) × (y ≡ false)
or-false true y h = absurd (true≢false h)
or-false false y h = (refl, h)

no_le : (a b : ℕ) (t : Bool) → T t → (ltb a b || (eqb a b && t)) ≡ false → b < a
no_le a b t u h =
    let p = or-false (ltb a b) (eqb a b && t) h in
    elim (eq-or-lt_of_le (ltb-false a b p.0)) [
      | inl q ↦ absurd (clash (eqb a b) t (subst (λ (x : ℕ). T (eqb a x)) (sym q) (eqb_refl a)) u p.1)
      | inr q ↦ q
    ]
  where
    clash : (x y : Bool) → T x → T y → (x && y) ≡ false → ⊥
    clash true true p q h = true≢false h
    clash true false p q h = q
    clash false y p q h = p

no-ge : (a b : ℕ) (t : Bool) → T t → (ltb b a || (eqb a b && t)) ≡ false → a < b
no-ge a b t u h =
    let p = or-false (ltb b a) (eqb a b && t) h in
    elim (eq-or-lt_of_le (ltb-false b a p.0)) [
      | inl q ↦ absurd (clash (eqb a b) t (subst (λ (x : ℕ). T (eqb a x)) q (eqb_refl a)) u p.1)
      | inr q ↦ q
    ]
  where
    clash : (x y : Bool) → T x → T y → (x && y) ≡ false → ⊥
    clash true true p q h = true≢false h
    clash true false p q h = q
    clash false y p q h = p

-- what `fits` says of a number's digits
digits_lt : (s : Bool) (m : ℕ) (e : ℤ) → T (fits binary64 (fin s (suc m) e)) → suc m < 9007199254740992
unfolding fits
digits_lt s m e t = ltb→lt (suc m) 9007199254740992 (parts (eqb (suc m % 2) 1) (ltb (suc m) 9007199254740992) (leb (down e) (2 ^ 1074)) (ltb (suc m * up e) (2 ^ 1024 * down e)) t)
  where
    parts : (a b c d : Bool) → T (a && b && c && d) → T b
    parts true true c d t = tt
    parts true false c d t = absurd t
    parts false b c d t = absurd t

small-down : (m q : ℕ) → m < 9007199254740992 → m < q → m * 1 * 9007199254740992 ≤ 9007199254740991 * q
small-down m q h l = elim (dec_le 9007199254740992 q) [ yes p ↦ omega arith | no n ↦ near (lt_of_not-le n) ]
  where
    near : q < 9007199254740992 → m * 1 * 9007199254740992 ≤ 9007199254740991 * q
    near p = omega arith

small : (s : Bool) (m : ℕ) (e : ℤ) → T (fits binary64 (fin s m e)) → m * up e < down e → m * up e * 9007199254740992 ≤ 9007199254740991 * down e
small s zero e t h = le_trans (le_of_eq (ap (λ (z : ℕ). z * 9007199254740992) (zero-mul (up e)) ∙ zero-mul 9007199254740992)) zero-le
small s (suc m) (pos k) t h = absurd (none (suc m * 2 ^ k) (mul-pos (zero-lt-suc m) (pow_pos k)) h)
  where
    none : (a : ℕ) → 0 < a → a < 1 → ⊥
    none a p q = omega arith
small s (suc m) (negsuc k) t h = small-down (suc m) (2 ^ suc k) (digits_lt s m (negsuc k) t) (lt_of_le_of_lt (le_of_eq (sym (mul-one (suc m)))) h)

inside : (x : Float) → Number x → T (fits binary64 x) → le unit x ≡ false → le x (neg unit) ≡ false → Size x 9007199254740991 9007199254740992
unfolding le neg lt eq
inside nan n t p q = absurd n
inside (inf true) n t p q = absurd (true≢false q)
inside (inf false) n t p q = absurd (true≢false p)
inside (fin true m e) n t p q = small true m e t (one (m * up e) (down e) (no-ge (m * up e * 1) (1 * down e) true tt q))
  where
    one : (a b : ℕ) → a * 1 < 1 * b → a < b
    one a b h = omega arith
inside (fin false m e) n t p q = small false m e t (one (m * up e) (down e) (no_le (1 * down e) (m * up e * 1) true tt p))
  where
    one : (a b : ℕ) → a * 1 < 1 * b → a < b
    one a b h = omega arith

pub within-one-under : (x : Float) → Number x → T (fits binary64 x) → Under (within_one x)
unfolding within_one
within-one-under x n t = record { size = go (le f1 x) (le x (neg f1)) refl refl }
  where
    go : (p q : Bool) → le f1 x ≡ p → le x (neg f1) ≡ q → Size (cond p f_near1 (cond q (neg f_near1) x)) 9007199254740991 9007199254740992
    go true q e d = near-under
    go false true e d = size-neg f_near1 9007199254740991 9007199254740992 near-under
    go false false e d = inside x n t (ap (λ (z : Float). le z x) (sym f1-is) ∙ e) (ap (λ (z : Float). le x (neg z)) (sym f1-is) ∙ d)

size-one : (x : Float) → Size x 9007199254740991 9007199254740992 → Size x 1 1
size-one nan h = h
size-one (inf s) h = h
size-one (fin s m e) h = less (m * up e) (down e) h
  where
    less : (a b : ℕ) → a * 9007199254740992 ≤ 9007199254740991 * b → a * 1 ≤ 1 * b
    less a b h = omega arith

pub under-upto : {x : Float} → Under x → Upto x 0
under-upto {x} h = record { size = size-one x h.size }

pub under-neg : {x : Float} → Under x → Under (neg x)
under-neg {x} h = record { size = size-neg x 9007199254740991 9007199254740992 h.size }

-- ---- a record
pub record Good (r : Record) : Type 0 where
  pub first : Upto r.v1 1
  pub second : Under r.v2

pub finish-good : (a b : Float) → Number a → T (fits binary64 a) → Number b → T (fits binary64 b) → Good (finish_record a b)
unfolding finish_record
finish-good a b n t n' t' =
    let p = within-one-under a n t in
    let q = within-one-under b n' t' in
    record { first = upto-fma 1 (under-upto q) (under-upto p) (under-upto p) tt tt tt; second = q }

-- ---- matrix_filter

-- 1 - x * x is at least 1 / 2 ^ 53
pub one_less : {x : Float} → Under x → Least (fma x (neg x) f1) 53
unfolding fused_multiply_add
one_less {x} h = record {
  reach =
      subst (λ (o : Float). Reach (add binary64 (times x (neg x)) o) 1 9007199254740992) (sym f1-is)
      (add-reach binary64 (times x (neg x)) unit 9007199254740991 9007199254740992 9007199254740992 1 9007199254740992 (lit< tt) (lit< tt) (lit< tt) (holds-down 53 (lit≤ tt))
      (times-size x (neg x) 9007199254740991 9007199254740992 1 1 h.size (under-upto (under-neg h)).size) (lit≤ tt) (lit≤ tt));
}

pub record Summed (v : Vec3) (k : ℕ) : Type 0 where
  pub first : Upto v.x1 k
  pub second : Upto v.x2 k

pub matrix-within : (r : Record) → Good r → Summed (matrix_filter r) 59
unfolding matrix_filter
matrix-within r g =
    let m21 = upto-neg g.first in
    let m22 = under-neg g.second in
    let m11 = upto-div (upto-fma 2 (under-upto m22) m21 m21 tt tt tt) (one_less m22) tt in
    let d1 = upto-fma 56 m11 upto-f1 upto-f0 tt tt tt in
    let d2 = upto-fma 58 m21 d1 upto-f0 tt tt tt in
    record { first = upto-more 59 d1 tt; second = upto-fma 59 (under-upto m22) upto-f1 d2 tt tt tt }

-- ---- merge_finish_record: whatever its x0 is

is-yes : {b : Bool} → b ≡ true → T b
is-yes e = subst T (sym e) tt

above-nought : (x : Float) → T (lt f0 x) → T (lt nought x)
above-nought x t = subst (λ (z : Float). T (lt z x)) f0-is t

quotient-number : (val x : Float) (k : ℕ) → (T (lt f0 val) → Upto x k) → Number (quotient val x)
unfolding quotient
quotient-number val x k h = go (lt f0 val) refl
  where
    go : (b : Bool) → lt f0 val ≡ b → Number (cond b (neg x /f val) f0)
    go true e = div-number binary64 (neg x) val (2 ^ k) 1 (upto-neg (h (is-yes e))).size (above-nought val (is-yes e))
    go false e = upto-number upto-f0

pub quotient_fits : (val x : Float) → T (fits binary64 (quotient val x))
unfolding quotient
quotient_fits val x = cond-fits binary64 (lt f0 val) (neg x /f val) f0 (div-fits binary64 (neg x) val) zero-fits
  where
    zero-fits : T (fits binary64 f0)
    zero-fits = subst (λ (z : Float). T (fits binary64 z)) (sym f0-is) (unfold fits in tt)

-- the second quotient is taken only where the first is at most 1 in size
first-upto : (x0 x : Float) → Number (quotient x0 x) → T (lt f0 (x0 *f fma (quotient x0 x) (neg (quotient x0 x)) f1)) → Upto (quotient x0 x) 0
first-upto x0 x n t = go (lt f0 x0) refl
  where
    d : Float
    d = quotient x0 x

    none : lt f0 x0 ≡ false → quotient x0 x ≡ f0
    none e = unfold quotient in ap (λ (b : Bool). cond b (neg x /f x0) f0) e

    go : (b : Bool) → lt f0 x0 ≡ b → Upto (quotient x0 x) 0
    go true e =
        let w = fma (quotient x0 x) (neg (quotient x0 x)) f1 in
        let u : T (lt nought w) = factor-above binary64 x0 w (above-nought x0 (is-yes e)) (above-nought (x0 *f w) t) in
        record { size = square-size (quotient x0 x) n (subst (λ (z : Float). T (lt nought (fma (quotient x0 x) (neg (quotient x0 x)) z))) f1-is u) }
    go false e = subst (λ (z : Float). Upto z 0) (sym (none e)) upto-f0

pub merge-good : (s : Vec3) → Summed s 80 → Good (merge_finish_record s)
unfolding merge_finish_record
merge-good s h =
    let e1 = f0 +f s.x1 in
    let d1 = quotient s.x0 e1 in
    let n1 = quotient-number s.x0 e1 81 (λ (t : T (lt f0 s.x0)). upto_add 81 upto-f0 h.first tt tt tt) in
    let val = s.x0 *f fma d1 (neg d1) f1 in
    let e2 = fma d1 s.x1 f0 +f s.x2 in
    let n2 = quotient-number val e2 82 (λ (t : T (lt f0 val)). upto_add 82 (upto-fma 81 (first-upto s.x0 e1 n1 t) h.first upto-f0 tt tt tt) h.second tt tt tt) in
    finish-good d1 (quotient val e2) n1 (quotient_fits s.x0 e1) n2 (quotient_fits val e2)

-- ---- the last conversion

same-itself : (x : Float) (k : ℕ) → Upto x k → ne x x ≡ false
same-itself x k h = go (ne x x) refl
  where
    go : (b : Bool) → ne x x ≡ b → ne x x ≡ false
    go true e = absurd (subst Number (differs_from_itself x (is-yes e)) (upto-number h))
    go false e = e

-- 32767 and 32768 are out of reach
not-over : (x : Float) → Size x 4096 1 → lt (fin false 32767 (pos 0)) x ≡ false
unfolding lt
not-over nan h = refl
not-over (inf s) h = absurd h
not-over (fin true m e) h = refl
not-over (fin false m e) h = le-ltb (32767 * down e) (m * up e * 1) (omega arith)

not-below : (x : Float) → Size x 4096 1 → lt x (fin true 1 (pos 15)) ≡ false
unfolding lt
not-below nan h = refl
not-below (inf s) h = absurd h
not-below (fin true m e) h = le-ltb (32768 * down e) (m * up e * 1) (omega arith)
not-below (fin false m e) h = refl

f32767-is : f32767 ≡ fin false 32767 (pos 0)
unfolding of_bits
f32767-is = refl

f32768-is : neg f32768 ≡ fin true 1 (pos 15)
unfolding of_bits neg
f32768-is = refl

minimum_number-is : (x : Float) → Upto x 12 → minimum_number x f32767 ≡ x
unfolding minimum_number
minimum_number-is x h =
    ap (λ (b : Bool). cond b f32767 (cond (is_less f32767 x) f32767 x)) (same-itself x 12 h)
    ∙ ap (λ (b : Bool). cond b f32767 x) (ap (λ (z : Float). is_less z x) f32767-is ∙ less-plus (fin false 32767 (pos 0)) x refl ∙ not-over x h.size)

maximum_number-is : (x : Float) → Upto x 12 → maximum_number x (neg f32768) ≡ x
unfolding maximum_number
maximum_number-is x h =
    ap (λ (b : Bool). cond b (neg f32768) (cond (is_less x (neg f32768)) (neg f32768) x)) (same-itself x 12 h)
    ∙ ap (λ (b : Bool). cond b (neg f32768) x) (ap (is_less x) f32768-is ∙ less-minus x (fin true 1 (pos 15)) minus ∙ not-below x h.size)
  where
    minus : negative (fin true 1 (pos 15)) ≡ true
    minus = unfold negative in refl

-- half away from zero stays within a whole bound
rounded-size : (x : Float) (k : ℕ) → k ≤ 1023 → Size x (2 ^ k) 1 → Size (round_to_integral_ties_to_away x) (2 ^ k) 1
unfolding round_to_integral_ties_to_away
rounded-size nan k l h = h
rounded-size (inf s) k l h = h
rounded-size (fin s m e) k l h = go (ltb (m * up e) (2 ^ 52 * down e))
  where
    half : (a d q : ℕ) → 0 < d → a * 1 ≤ q * d → 2 * a + d < suc q * (2 * d)
    half a d q D h = rw (suc-mul, mul_left_comm) (omega arith)

    whole : (2 * (m * up e) + down e) / (2 * down e) * 1 ≤ 2 ^ k * 1
    whole = ones ((2 * (m * up e) + down e) / (2 * down e)) (2 ^ k) ((div-lt_iff_lt-mul (mul-pos (lit< tt) (down_pos e))).1 (half (m * up e) (down e) (2 ^ k) (down_pos e) h))
      where
        ones : (x y : ℕ) → x < suc y → x * 1 ≤ y * 1
        ones x y h = omega arith

    go : (b : Bool) → Size (cond b (round binary64 s ((2 * (m * up e) + down e) / (2 * down e)) 1) (fin s m e)) (2 ^ k) 1
    go true = size-round binary64 s ((2 * (m * up e) + down e) / (2 * down e)) 1 (2 ^ k) 1 (lit< tt) (lit< tt) (holds-up k l) whole
    go false = h

signed-size : (x : Float) (q : ℕ) → Size x q 1 → nat_abs (to_signed 15 x) ≤ q
unfolding to_signed
signed-size nan q h = absurd h
signed-size (inf s) q h = absurd h
signed-size (fin s m e) q h = go s
  where
    part : m * up e / down e ≤ q
    part = less (m * up e / down e) q ((div-lt_iff_lt-mul (down_pos e)).1 (next (m * up e) (down e) q (down_pos e) h))
      where
        less : (a q : ℕ) → a < suc q → a ≤ q
        less a q h = omega arith

        next : (a d q : ℕ) → 0 < d → a * 1 ≤ q * d → a < suc q * d
        next a d q D h = rw suc-mul (omega arith)

    go : (b : Bool) → nat_abs (cond b (neg_ℤ (pos (min (m * up e / down e) 32768))) (pos (min (m * up e / down e) 32767))) ≤ q
    go true = le_trans (le_of_eq (abs_neg (pos (min (m * up e / down e) 32768)))) (le_trans (min-le_left (m * up e / down e) 32768) part)
    go false = le_trans (min-le_left (m * up e / down e) 32767) part

pub coefficient-size : (v : Float) (k : ℕ) → Upto v k → T (leb k 1) → nat_abs (coefficient v) ≤ 2 ^ (k + 11)
unfolding coefficient
coefficient-size v k h t =
    let d = neg v *f f2048 in
    let u : Upto d (k + 11) = upto-mul (upto-neg h) upto-f2048 (small-k k t) in
    let w : Upto d 12 = upto-more 12 u (to-12 k t) in
    let e : cond (lt f0 d) (minimum_number d f32767) (maximum_number d (neg f32768))
    ≡ d = pick (lt f0 d) (minimum_number d f32767) (maximum_number d (neg f32768)) d (minimum_number-is d w) (maximum_number-is d w) in
    subst (λ (z : Float). nat_abs (to_signed 15 (round_to_integral_ties_to_away z)) ≤ 2 ^ (k + 11)) (sym e)
    (signed-size (round_to_integral_ties_to_away d) (2 ^ (k + 11)) (rounded-size d (k + 11) (big k t) u.size))
  where
    small-k : (k : ℕ) → T (leb k 1) → T (leb (k + 11) 1023)
    small-k k t = le→leb (k + 11) 1023 (omega (arith, leb→le k 1 t))

    to-12 : (k : ℕ) → T (leb k 1) → T (leb (k + 11) 12)
    to-12 k t = le→leb (k + 11) 12 (omega (arith, leb→le k 1 t))

    big : (k : ℕ) → T (leb k 1) → k + 11 ≤ 1023
    big k t = omega (arith, leb→le k 1 t)

    pick : (b : Bool) (x y d : Float) → x ≡ d → y ≡ d → cond b x y ≡ d
    pick true x y d p q = p
    pick false x y d p q = q
