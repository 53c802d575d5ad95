-- How far the results of a product, a sum and of both in one are from one another, where their operands are close and not large.
use Rattle.std.proofs.Common.{◌≡◌, ℕ, ◌+◌, ◌*◌, ◌^◌, ◌<◌, ◌≤◌, Bool, true, false, sym, refl, ◌∙◌, ap₂, le_trans, le_of_eq, mul-le-mul_right, add-mul, mul-le-mul, mul-pos, le_of_mul-le-mul_right, arith, pow_pos}
use lib.Ieee.{Float, nan, inf, fin, Format, low, up, down, unlike, round, add, mul}
use lib.Ieee.Fits.{down_pos}
use lib.Ieee.Exact.{HasValue}
use lib.Ieee.Scale.{round_same}
use Rattle.float.specs.FusedMultiplyAdd.{fused_multiply_add}
use Rattle.float.specs.Operations.{negative}
use Rattle.float.proofs.InUnits.{mag, plus, minus, over, under, AtMost, at-most-sides}
use Rattle.float.proofs.Value.{value-scale, times-value, add-value, fma-value}
use Rattle.float.proofs.RoundingError.{Close, slack, Ample, Rounded, rounded-move, round-rounded, sum-rounded}

-- what is rounded is at most 1 larger
rounded-at-most : {f : Format} {j : ℕ} {r : Float} {p n c : ℕ} (k : ℕ) → 0 < c → slack f j ≤ 2 ^ low f → p + n ≤ k * c → Rounded f j r p n c → AtMost f r (k + 1)
unfolding over under
rounded-at-most {f} {j} {r} {p} {n} {c} k C S l h = record { is = h.is; size = le_of_mul-le-mul_right (go (negative r) h.near m t) C }
  where
    m : (p + n) * 2 ^ low f ≤ k * c * 2 ^ low f
    m = mul-le-mul_right (2 ^ low f) l

    t : slack f j * c ≤ 2 ^ low f * c
    t = mul-le-mul_right c S

    go : (s : Bool) → Close (plus s (mag f r) * c + n * 2 ^ low f) (minus s (mag f r) * c + p * 2 ^ low f) (slack f j * c) → (p + n) * 2 ^ low f ≤ k * c * 2 ^ low f
        → slack f j * c ≤ 2 ^ low f * c → mag f r * c ≤ (k + 1) * 2 ^ low f * c
    go true d m t = omega arith
    go false d m t = omega arith

-- the exact product of x and y, in squares of the smallest value
abbrev pub cross_over : Format → Float → Float → ℕ
cross_over f x y = over f x * over f y + under f x * under f y

abbrev pub cross_under : Format → Float → Float → ℕ
cross_under f x y = over f x * under f y + under f x * over f y

cross-plus : (s t : Bool) (a b : ℕ) → plus (unlike s t) (a * b) ≡ plus s a * plus t b + minus s a * minus t b
cross-plus true true a b = omega arith
cross-plus true false a b = omega arith
cross-plus false true a b = omega arith
cross-plus false false a b = omega arith

cross-minus : (s t : Bool) (a b : ℕ) → minus (unlike s t) (a * b) ≡ plus s a * minus t b + minus s a * plus t b
cross-minus true true a b = omega arith
cross-minus true false a b = omega arith
cross-minus false true a b = omega arith
cross-minus false false a b = omega arith

plus_times : (s : Bool) (a u : ℕ) → plus s (a * u) ≡ plus s a * u
plus_times true a u = omega arith
plus_times false a u = refl

minus-times : (s : Bool) (a u : ℕ) → minus s (a * u) ≡ minus s a * u
minus-times true a u = refl
minus-times false a u = omega arith

mul-value : (f : Format) (x y : Float) (s t : Bool) (a b c g : ℕ) → 0 < c → 0 < g → HasValue x s a c → HasValue y t b g → mul f x y ≡ round f (unlike s t) (a * b) (c * g)
unfolding mul
mul-value f nan y s t a b c g C G h k = absurd h
mul-value f (inf u) y s t a b c g C G h k = absurd h
mul-value f (fin u m e) nan s t a b c g C G h k = absurd k
mul-value f (fin u m e) (inf v) s t a b c g C G h k = absurd k
mul-value f (fin u m e) (fin v n d) s t a b c g C G h k =
    rw (h.0, k.0) (round_same f (unlike s t) (m * up e * (n * up d)) (down e * down d) (a * b) (c * g) (mul-pos (down_pos e) (down_pos d)) (mul-pos C G)
    (four (m * up e) (n * up d) c g ∙ ap₂ ◌*◌ h.1 k.1 ∙ sym (four a b (down e) (down d))))
  where
    four : (x y c g : ℕ) → x * y * (c * g) ≡ x * c * (y * g)
    four x y c g = omega arith

-- x and y differ by at most k times what a rounding can move
pub record RoundingsApart (f : Format) (j : ℕ) (x y : Float) (k : ℕ) : Type 0 where
  pub is : Close (over f x + under f y) (under f x + over f y) (k * slack f j)

product_le : (a b n m u : ℕ) → a ≤ n * u → b ≤ m * u → a * b ≤ n * m * (u * u)
product_le a b n m u h k = le_trans (mul-le-mul h k) (le_of_eq (four n m u))
  where
    four : (n m u : ℕ) → n * u * (m * u) ≡ n * m * (u * u)
    four n m u = omega arith

pub apart-same : (f : Format) (j : ℕ) (x : Float) → RoundingsApart f j x x 0
apart-same f j x = record { is = record { le = omega arith; ge = omega arith } }

cross-le : {f : Format} {x y : Float} {n m : ℕ} → AtMost f x n → AtMost f y m → cross_over f x y + cross_under f x y ≤ n * m * (2 ^ low f * 2 ^ low f)
cross-le {f} {x} {y} {n} {m} h k =
    le_trans (le_of_eq (split (over f x) (under f x) (over f y) (under f y))) (product_le (over f x + under f x) (over f y + under f y) n m (2 ^ low f) (at-most-sides h) (at-most-sides k))
  where
    split : (a b c d : ℕ) → a * c + b * d + (a * d + b * c) ≡ (a + b) * (c + d)
    split a b c d = omega arith

-- two products with one factor, whose other factors are close
cross-close : (a b c d g h p m u s : ℕ) → Close (a + d) (b + c) (p * s) → g + h ≤ m * u → Close (a * g + b * h + (c * h + d * g)) (a * h + b * g + (c * g + d * h)) (m * p * s * u)
cross-close a b c d g h p m u s e l =
    let x : (a + d) * g ≤ (b + c + p * s) * g = mul-le-mul_right g e.le in
    let x' : (a + d) * h ≤ (b + c + p * s) * h = mul-le-mul_right h e.le in
    let y : (b + c) * h ≤ (a + d + p * s) * h = mul-le-mul_right h e.ge in
    let y' : (b + c) * g ≤ (a + d + p * s) * g = mul-le-mul_right g e.ge in
    let z : (g + h) * (p * s) ≤ m * u * (p * s) = mul-le-mul_right (p * s) l in
    record { le = omega arith; ge = omega arith }

-- one side of what is left
half : (u s r r' g g' t t' z z' v v' X X' W W' d k : ℕ) → r * (u * u) + (X' + z' * u) * u ≤ r' * (u * u) + (X + z * u) * u + s * (u * u)
    → t' * (u * u) + W * u ≤ t * (u * u) + W' * u + s * (u * u) → g' * u + (t + v) * u ≤ g * u + (t' + v') * u + s * u
    → X + W' ≤ X' + W + d * s * u → z + v' ≤ z' + v + k * s → (r + g') * (u * u) ≤ (r' + g + (d + k + 3) * s) * (u * u)
half u s r r' g g' t t' z z' v v' X X' W W' d k A B C D E =
    let q = u * u in
    le_trans (le_of_eq (add-mul r g' q))
    (le_trans (linear (r * q) (r' * q) (g * q) (g' * q) (t * q) (t' * q) (z * q) (z' * q) (v * q) (v' * q) (X * u) (X' * u) (W * u) (W' * u) (d * s * q) (k * s * q) (s * q)
    (spread r r' X X' z z' A) B (shift g g' t t' v v' (mul-le-mul_right u C)) (level X X' W W' (d * s) (mul-le-mul_right u D)) (lift z z' v v' (k * s) (mul-le-mul_right q E)))
    (le_of_eq (gather r' g d k)))
  where
    spread : (r r' X X' z z' : ℕ) → r * (u * u) + (X' + z' * u) * u ≤ r' * (u * u) + (X + z * u) * u + s * (u * u)
        → r * (u * u) + X' * u + z' * (u * u) ≤ r' * (u * u) + X * u + z * (u * u) + s * (u * u)
    spread r r' X X' z z' h = omega arith

    shift : (g g' t t' v v' : ℕ) → (g' * u + (t + v) * u) * u ≤ (g * u + (t' + v') * u + s * u) * u → g' * (u * u) + t * (u * u) + v * (u * u) ≤ g * (u * u) + t' * (u * u) + v' * (u * u) + s * (u * u)
    shift g g' t t' v v' h = omega arith

    level : (X X' W W' d : ℕ) → (X + W') * u ≤ (X' + W + d * u) * u → X * u + W' * u ≤ X' * u + W * u + d * (u * u)
    level X X' W W' d h = omega arith

    lift : (z z' v v' k : ℕ) → (z + v') * (u * u) ≤ (z' + v + k) * (u * u) → z * (u * u) + v' * (u * u) ≤ z' * (u * u) + v * (u * u) + k * (u * u)
    lift z z' v v' k h = omega arith

    gather : (r' g d k : ℕ) → r' * (u * u) + g * (u * u) + (d * s * (u * u) + k * s * (u * u) + 3 * (s * (u * u))) ≡ (r' + g + (d + k + 3) * s) * (u * u)
    gather r' g d k = omega arith

    linear : (r r' g g' t t' z z' v v' X X' W W' d k s : ℕ) → r + X' + z' ≤ r' + X + z + s → t' + W ≤ t + W' + s → g' + t + v ≤ g + t' + v' + s
        → X + W' ≤ X' + W + d → z + v' ≤ z' + v + k → r + g' ≤ r' + g + (d + k + 3 * s)
    linear r r' g g' t t' z z' v v' X X' W W' d k s A B C D E = omega arith

two_products : (u s r r' t t' X X' W W' d : ℕ) → r * (u * u) + X' * u ≤ r' * (u * u) + X * u + s * (u * u) → t' * (u * u) + W * u ≤ t * (u * u) + W' * u + s * (u * u)
    → X + W' ≤ X' + W + d * s * u → (r + t') * (u * u) ≤ (r' + t + (d + 2) * s) * (u * u)
two_products u s r r' t t' X X' W W' d A B D = let e : (X + W') * u ≤ (X' + W + d * s * u) * u = mul-le-mul_right u D in omega arith

-- ---- the sum and the product of two, and both in one: how large, and how far off
module _ {f : Format} {j : ℕ} (ample : Ample f j) where
  add-rounded : {x y : Float} {n m : ℕ} → AtMost f x n → AtMost f y m → n + m ≤ 2 ^ j → Rounded f j (add f x y) (over f x + over f y) (under f x + under f y) (2 ^ low f)
  unfolding over under
  add-rounded {x} {y} {n} {m} h k l =
      let u = 2 ^ low f in
      rw (add-value f x y (negative x) (negative y) (mag f x) (mag f y) u (pow_pos (low f)) h.is k.is)
      (sum-rounded f j ample.bound (negative x) (mag f x) (negative y) (mag f y) u (pow_pos (low f)) (total (mag f x) (mag f y) n m u (2 ^ j) h.size k.size l))
    where
      total : (a b n m u t : ℕ) → a ≤ n * u → b ≤ m * u → n + m ≤ t → a + b ≤ t * u
      total a b n m u t p q l = let r : (n + m) * u ≤ t * u = mul-le-mul_right u l in omega arith

  mul-rounded : {x y : Float} {n m : ℕ} → AtMost f x n → AtMost f y m → n * m ≤ 2 ^ j → Rounded f j (mul f x y) (cross_over f x y) (cross_under f x y) (2 ^ low f * 2 ^ low f)
  unfolding over under
  mul-rounded {x} {y} {n} {m} h k l =
      let u = 2 ^ low f in
      let s = negative x in
      let t = negative y in
      rw (mul-value f x y s t (mag f x) (mag f y) u u (pow_pos (low f)) (pow_pos (low f)) h.is k.is, ← cross-plus s t (mag f x) (mag f y), ← cross-minus s t (mag f x) (mag f y))
      (round-rounded f j ample.bound (unlike s t) (mag f x * mag f y) (u * u) (mul-pos (pow_pos (low f)) (pow_pos (low f)))
      (le_trans (product_le (mag f x) (mag f y) n m u h.size k.size) (mul-le-mul_right (u * u) l)))

  fma-rounded : {x y z : Float} {n m k : ℕ} → AtMost f x n → AtMost f y m → AtMost f z k → n * m + k ≤ 2 ^ j
      → Rounded f j (fused_multiply_add f x y z) (cross_over f x y + over f z * 2 ^ low f) (cross_under f x y + under f z * 2 ^ low f) (2 ^ low f * 2 ^ low f)
  unfolding over under
  fma-rounded {x} {y} {z} {n} {m} {k} h i g l =
      let u = 2 ^ low f in
      let s = negative x in
      let t = negative y in
      let r = negative z in
      rw (
        fma-value f x y z (unlike s t) r (mag f x * mag f y) (mag f z * u) (u * u) (mul-pos (pow_pos (low f)) (pow_pos (low f)))
            (times-value x y s t (mag f x) (mag f y) u u h.is i.is) (value-scale z r (mag f z) u u g.is),
        ← cross-plus s t (mag f x) (mag f y),
        ← cross-minus s t (mag f x) (mag f y),
        ← plus_times r (mag f z) u,
        ← minus-times r (mag f z) u,
      )
      (sum-rounded f j ample.bound (unlike s t) (mag f x * mag f y) r (mag f z * u) (u * u) (mul-pos (pow_pos (low f)) (pow_pos (low f)))
      (total (mag f x * mag f y) (mag f z) n m k u (2 ^ j) (product_le (mag f x) (mag f y) n m u h.size i.size) g.size l))
    where
      total : (a b n m k u t : ℕ) → a ≤ n * m * (u * u) → b ≤ k * u → n * m + k ≤ t → a + b * u ≤ t * (u * u)
      total a b n m k u t p q l =
          let r : (n * m + k) * (u * u) ≤ t * (u * u) = mul-le-mul_right (u * u) l in
          let v : b * u ≤ k * u * u = mul-le-mul_right u q in
          omega arith

  pub add-at-most : {x y : Float} {n m : ℕ} → AtMost f x n → AtMost f y m → n + m ≤ 2 ^ j → AtMost f (add f x y) (n + m + 1)
  add-at-most {x} {y} {n} {m} h k l =
      rounded-at-most (n + m) (pow_pos (low f)) ample.fine (total (over f x) (under f x) (over f y) (under f y) (at-most-sides h) (at-most-sides k)) (add-rounded h k l)
    where
      total : (a b c d : ℕ) → a + b ≤ n * 2 ^ low f → c + d ≤ m * 2 ^ low f → a + c + (b + d) ≤ (n + m) * 2 ^ low f
      total a b c d p q = omega arith

  pub mul-at-most : {x y : Float} {n m : ℕ} → AtMost f x n → AtMost f y m → n * m ≤ 2 ^ j → AtMost f (mul f x y) (n * m + 1)
  mul-at-most {x} {y} {n} {m} h k l =
      rounded-at-most (n * m) (mul-pos (pow_pos (low f)) (pow_pos (low f))) ample.fine (cross-le h k) (mul-rounded h k l)

  pub fma-at-most : {x y z : Float} {n m k : ℕ} → AtMost f x n → AtMost f y m → AtMost f z k → n * m + k ≤ 2 ^ j → AtMost f (fused_multiply_add f x y z) (n * m + k + 1)
  fma-at-most {x} {y} {z} {n} {m} {k} h i g l =
      rounded-at-most (n * m + k) (mul-pos (pow_pos (low f)) (pow_pos (low f))) ample.fine
      (total (cross_over f x y) (cross_under f x y) (over f z) (under f z) (2 ^ low f) (cross-le h i) (mul-le-mul_right (2 ^ low f) (at-most-sides g))) (fma-rounded h i g l)
    where
      total : (a b c d u : ℕ) → a + b ≤ n * m * (u * u) → (c + d) * u ≤ k * u * u → a + c * u + (b + d * u) ≤ (n * m + k) * (u * u)
      total a b c d u p q = omega arith

  -- x * y + z, rounded once, and w * y + v, rounded twice
  pub fma-apart : {x y z w v : Float} {n m k i l : ℕ} (p q : ℕ) → AtMost f x n → AtMost f y m → AtMost f z k → AtMost f w i → AtMost f v l
      → n * m + k ≤ 2 ^ j → i * m + 1 + l ≤ 2 ^ j → RoundingsApart f j x w p → RoundingsApart f j z v q → RoundingsApart f j (fused_multiply_add f x y z) (add f (mul f w y) v) (m * p + q + 3)
  fma-apart {x} {y} {z} {w} {v} {n} {m} {k} {i} {l} p q X Y Z W Q a b d e =
      let u = 2 ^ low f in
      let s = slack f j in
      let r = fused_multiply_add f x y z in
      let t = mul f w y in
      let g = add f t v in
      let R = fma-rounded X Y Z a in
      let T = mul-rounded W Y (short (i * m) l (2 ^ j) b) in
      let G = add-rounded (mul-at-most W Y (short (i * m) l (2 ^ j) b)) Q b in
      let c = cross-close (over f x) (under f x) (over f w) (under f w) (over f y) (under f y) p m u s d.is (at-most-sides Y) in
      let U : 0 < u * u = mul-pos (pow_pos (low f)) (pow_pos (low f)) in
      record {
        is = record {
          le =
              le_of_mul-le-mul_right (half u s (over f r) (under f r) (over f g) (under f g) (over f t) (under f t) (over f z) (under f z) (over f v) (under f v) (cross_over f x y)
              (cross_under f x y) (cross_over f w y) (cross_under f w y) (m * p) q R.near.le T.near.ge G.near.ge c.le e.is.le) U;
          ge =
              le_of_mul-le-mul_right (half u s (under f r) (over f r) (under f g) (over f g) (under f t) (over f t) (under f z) (over f z) (under f v) (over f v) (cross_under f x y)
              (cross_over f x y) (cross_under f w y) (cross_over f w y) (m * p) q R.near.ge T.near.le G.near.le c.ge e.is.ge) U;
        };
      }
    where
      short : (a l t : ℕ) → a + 1 + l ≤ t → a ≤ t
      short a l t h = omega arith

  -- one factor times each of two that are close
  pub mul-apart : {x y w : Float} {n m i : ℕ} (p : ℕ) → AtMost f y m → AtMost f x n → AtMost f w i → m * n ≤ 2 ^ j → m * i ≤ 2 ^ j → RoundingsApart f j x w p
      → RoundingsApart f j (mul f y x) (mul f y w) (m * p + 2)
  mul-apart {x} {y} {w} {n} {m} {i} p Y X W a b d =
      let u = 2 ^ low f in
      let s = slack f j in
      let r = mul f y x in
      let t = mul f y w in
      let R = turned Y X a in
      let T = turned Y W b in
      let c = cross-close (over f x) (under f x) (over f w) (under f w) (over f y) (under f y) p m u s d.is (at-most-sides Y) in
      let U : 0 < u * u = mul-pos (pow_pos (low f)) (pow_pos (low f)) in
      record {
        is = record {
          le =
              le_of_mul-le-mul_right (two_products u s (over f r) (under f r) (over f t) (under f t) (cross_over f x y) (cross_under f x y) (cross_over f w y) (cross_under f w y) (m * p) R.near.le
              T.near.ge c.le) U;
          ge =
              le_of_mul-le-mul_right (two_products u s (under f r) (over f r) (under f t) (over f t) (cross_under f x y) (cross_over f x y) (cross_under f w y) (cross_over f w y) (m * p) R.near.ge
              T.near.le c.ge) U;
        };
      }
    where
      turn : (a b c d : ℕ) → a * c + b * d + (c * b + d * a) ≡ c * a + d * b + (a * d + b * c)
      turn a b c d = omega arith

      turned : {x y : Float} {n m : ℕ} → AtMost f y m → AtMost f x n → m * n ≤ 2 ^ j → Rounded f j (mul f y x) (cross_over f x y) (cross_under f x y) (2 ^ low f * 2 ^ low f)
      turned {x} {y} Y X a = rounded-move (cross_over f x y) (cross_under f x y) (turn (over f y) (under f y) (over f x) (under f x)) (mul-rounded Y X a)

  -- a sum, by the counts of the two
  pub add-near : {x y : Float} {n m : ℕ} → AtMost f x n → AtMost f y m → n + m ≤ 2 ^ j → Close (over f (add f x y) + (under f x + under f y)) (under f (add f x y) + (over f x + over f y)) (slack f j)
  add-near {x} {y} h k l =
      let u = 2 ^ low f in
      let r = add f x y in
      let R = add-rounded h k l in
      record {
        le = le_of_mul-le-mul_right (factored (over f r) (under f x + under f y) (under f r) (over f x + over f y) (slack f j) u R.near.le) (pow_pos (low f));
        ge = le_of_mul-le-mul_right (factored (under f r) (over f x + over f y) (over f r) (under f x + under f y) (slack f j) u R.near.ge) (pow_pos (low f));
      }
    where
      factored : (a b c d e u : ℕ) → a * u + b * u ≤ c * u + d * u + e * u → (a + b) * u ≤ (c + d + e) * u
      factored a b c d e u h = omega arith
