-- The Rust's expression for the number that is clamped to a nibble is the whole-number rule.
use mathlib.Core.Path.{◌≡◌, refl, sym, ap, ◌∙◌, subst}
use mathlib.Core.Logic.{◌⊎◌, inl, inr}
use mathlib.Core.Bool.{Bool, true, false, cond}
use Prim.Native.Nat.{ℕ, zero, suc, ◌+◌, ◌-◌, ◌*◌, ◌/◌, ◌%◌, ◌^◌, ◌≤◌, ◌<◌, compare}
use native.Mathlib.Nat.{le_trans, le_of_eq, lt_of_le_of_lt, mul_comm, mul-pos, mul-one, zero-lt-suc, div-eq_of_lt-le}
use native.Mathlib.Omega.{arith}
use borrow.Author.Tests.{lt-ltb}
use mir.Syntax.{w16}
use mir.Val.{SFits}
use lib.Dec.{T, ltb, lit<, lit≤}
use lib.Pow.{pow-add, pow_pos, pow_mono}
use lib.IntN.{ℤ, pos, negsuc, neg_ℤ, nat_abs, ◌-ℤ◌}
use lib.Ieee.{Float, binary32, binary64, low, size, unlike, round, neg, fits, add, sub, div, of_int, to_signed}
use lib.Ieee.Back.{round_whole}
use lib.Ieee.Digits.{size-le}
use lib.Ieee.Exact.{HasValue}
use lib.Ieee.Fits.{nearest-le, kept-lt, div-fits, fits_widens}
use lib.Ieee.Nearest.{closest}
use lib.Ieee.Positive.{num, den}
use lib.Ieee.Scale.{grid}
use Rattle.frame.specs.Quantise.{unit24, round24, scale, nearest_down, quantise, clamp4}
use Rattle.frame.specs.Pass.{Bounded, residual, reconstruct, code_sample}
use Rattle.frame.specs.Unclamped.{as_f32, near_half, quotient, unclamped}
use Rattle.frame.proofs.LawsFloat.{few-digits, whole-at, round-between, neg-at, div-at, add_at, to_signed-at}
use Rattle.frame.proofs.LawsNearHalf.{NearlyHalf, sum-above, sum_below, down-most}
use Rattle.frame.proofs.LawsQuantise.{round_same, round24-le, down-zero, scale-pos}
use Rattle.frame.proofs.LawsPass.{residual-size}

-- the sign of a whole number, as a float has it
abbrev pub sign_of : ℤ → Bool
sign_of (pos n) = false
sign_of (negsuc n) = true

-- ---- `distance as f32` is the 24-bit rounding
round32 : (s : Bool) (a : ℕ) → a ≤ 2147483648 → HasValue (round binary32 s a 1) s (round24 a) 1
unfolding round24 unit24
round32 s a h = whole-at binary32 s a (lt_of_le_of_lt (round24-le a h) (lt_of_le_of_lt (most a h) (lit< tt)))
  where
    most : (a : ℕ) → a ≤ 2147483648 → a + 256 ≤ 2147483904
    most a h = omega arith

pub cast-at : (d : ℤ) → nat_abs d ≤ 2147483648 → HasValue (as_f32 d) (sign_of d) (round24 (nat_abs d)) 1
unfolding of_int
cast-at (pos n) h = round32 false n h
cast-at (negsuc n) h = round32 true (suc n) h

-- ---- `distance as f32 / scale as f32` loses nothing, the scale being a power of two
plus : (s : Bool) → unlike s false ≡ s
plus false = refl
plus true = refl

scale_at : (p : ℕ) → p ≤ 12 → HasValue (as_f32 (pos (2 ^ p * 2048))) false (2 ^ p * 2048) 1
unfolding of_int
scale_at p h = round_whole binary32 false (2 ^ p * 2048) (omega (arith, pow_mono h))

quotient-exact : (s : Bool) (a p : ℕ) → a ≤ 2147483648 → p ≤ 12 → HasValue (round binary32 s (round24 a) (2 ^ (p + 11))) s (round24 a) (2 ^ (p + 11))
unfolding round24 unit24
quotient-exact s a p h l =
    let k = size a - 24 in
    let digits : closest a (2 ^ k) ≤ 16777216 = le_trans (nearest-le (a / 2 ^ k) (compare (a % 2 ^ k * 2) (2 ^ k))) (kept-lt 24 a) in
    let z : size a ≤ 32 = size-le a 32 (omega arith) in
    few-digits binary32 s (closest a (2 ^ k)) k (p + 11) digits (omega arith) (omega arith)

pub quotient-at : (d : ℤ) (p : ℕ) → nat_abs d ≤ 2147483648 → p ≤ 12 → HasValue (quotient d (pos (2 ^ p * 2048))) (sign_of d) (round24 (nat_abs d)) (2 ^ p * 2048)
unfolding quotient
quotient-at d p h l =
    let r = round24 (nat_abs d) in
    let s = 2 ^ p * 2048 in
    let is : quotient d (pos s) ≡ round binary32 (sign_of d) r s =
    div-at binary32 (as_f32 d) (as_f32 (pos s)) (sign_of d) false r 1 s 1 (lit< tt) (mul-pos (pow_pos p) (lit< tt)) (cast-at d h) (scale_at p l)
    ∙ rw (plus (sign_of d), mul-one r, mul-one s) in
    subst (λ (x : Float). HasValue x (sign_of d) r s) (sym is)
    (subst (λ (n : ℕ). HasValue (round binary32 (sign_of d) r n) (sign_of d) r n) (pow-add 2 p 11) (quotient-exact (sign_of d) (nat_abs d) p h l))

-- `as f64` of it: an f64 holds it
pub quotient_fits : (d s : ℤ) → T (fits binary64 (quotient d s))
unfolding quotient
quotient_fits d s = fits_widens (div binary32 (as_f32 d) (as_f32 s)) (div-fits binary32 (as_f32 d) (as_f32 s))

-- ---- with nearly a half added in f64, of the quotient's sign, and cut towards zero: to the nearest, halves towards zero
parts-exact : (n : ℕ) → n ≤ 9007199254740992 → HasValue (round binary64 false n 67108864) false n 67108864
parts-exact n h = subst (λ (m : ℕ). HasValue (round binary64 false m 67108864) false m 67108864) (mul-one n) (few-digits binary64 false n 0 26 h (lit≤ tt) (lit≤ tt))

cut : (n g l : ℕ) → 0 < l → (n * 67108864 + 1) * l ≤ g * 67108864 → g * 67108864 ≤ (n * 67108864 + 67108863) * l → g / l ≡ n
cut n g l L h k = div-eq_of_lt-le l (omega arith) (omega arith)

pub sum-at : (x y : Float) (s t : Bool) (r k h a c : ℕ) → k ≡ h + h → 2048 ≤ k → k ≤ 8388608 → r ≤ 2147483904 → NearlyHalf a c → (s ≡ t) ⊎ (r ≡ 0)
    → HasValue x s r k → HasValue y t a c → to_signed 31 (add binary64 x y) ≡ cond t (neg_ℤ (pos (nearest_down r k))) (pos (nearest_down r k))
sum-at x y s t r k h a c even k-ge k-le r-le near o u v =
    let n = nearest_down r k in
    let most : n ≤ 1048577 = down-most r k k-ge r-le in
    let K : 0 < k = omega arith in
    let C : 0 < c = near.over in
    let z = round binary64 t (r * c + a * k) (k * c) in
    let g = grid binary64 (r * c + a * k) (k * c) in
    let is : add binary64 x y ≡ z = add_at binary64 x y s t r k a c K C near.some o u v in
    let b = round-between binary64 t (r * c + a * k) (k * c) (n * 67108864 + 1) 67108864 (n * 67108864 + 67108863) 67108864 (mul-pos K C) (lit< tt) (lit< tt) (omega arith) (omega arith)
    (parts-exact (n * 67108864 + 1) (omega arith)) (parts-exact (n * 67108864 + 67108863) (omega arith)) (sum-above r k h a c near even k-le) (sum_below r k h a c near K) in
    let whole : g / 2 ^ low binary64 ≡ n = cut n g (2 ^ low binary64) (pow_pos (low binary64)) b.1 b.2 in
    ap (to_signed 31) is
    ∙ to_signed-at 31 z t g (2 ^ low binary64) (pow_pos (low binary64)) b.0 (lt_of_le_of_lt (le_of_eq whole) (omega arith))
    ∙ ap (λ (m : ℕ). cond t (neg_ℤ (pos m)) (pos m)) whole

-- ---- `0.4999999` as a fraction; of it no more is used than that it is nearly a half
near-half : NearlyHalf (num near_half) (den near_half)
unfolding near_half round
near-half = record { some = lit< tt; over = lit< tt; least = lit≤ tt; most = lit≤ tt }

near-half-at : HasValue near_half false (num near_half) (den near_half)
unfolding near_half round
near-half-at = (refl, refl)

near-half-neg : HasValue (neg near_half) true (num near_half) (den near_half)
near-half-neg = neg-at near_half false (num near_half) (den near_half) near-half-at

-- ---- the expression
-- with y, 0.4999999 of the sign t: the sign of d, or either where d is 0
rounded : (d : ℤ) (p : ℕ) (t : Bool) (y : Float) → nat_abs d ≤ 2147483648 → p ≤ 12 → (sign_of d ≡ t) ⊎ (round24 (nat_abs d) ≡ 0) → HasValue y t (num near_half) (den near_half)
    → to_signed 31 (add binary64 (quotient d (pos (2 ^ p * 2048))) y) ≡ cond t (neg_ℤ (pos (nearest_down (round24 (nat_abs d)) (scale p)))) (pos (nearest_down (round24 (nat_abs d)) (scale p)))
rounded d p t y h l o v =
    let r = round24 (nat_abs d) in
    let r-le : r ≤ 2147483904 = omega (arith, round24-le (nat_abs d) h) in
    sum-at (quotient d (pos (2 ^ p * 2048))) y (sign_of d) t r (2 ^ p * 2048) (2 ^ p * 1024) (num near_half) (den near_half)
    (omega arith) (omega (arith, pow_pos p)) (omega (arith, pow_mono l)) r-le near-half o (quotient-at d p h l) v
    ∙ ap (λ (n : ℕ). cond t (neg_ℤ (pos (nearest_down r n))) (pos (nearest_down r n))) (mul_comm (2 ^ p) 2048)

none : round24 0 ≡ 0
none = sym (round_same 0 (lit< tt))

-- "this equals the Rust's ± 0.4999999": for every D of 32 bits, of either sign or 0, and every p up to 12, the Rust's expression in f32 and f64
-- gives the number of the whole-number rule. The cast is the 24-bit rounding (`cast-at`), the quotient is exact (`quotient-at`), and the sum, which is
-- rounded once, stays 2 ^ -26 off the whole numbers, so that it is cut to the right one (`sum-at`).
pub unclamped-is : (d : ℤ) (p : ℕ) → nat_abs d ≤ 2147483648 → p ≤ 12 → unclamped d p ≡ quantise d p
unfolding unclamped sub quantise
unclamped-is (pos zero) p h l =
    let down : nearest_down (round24 0) (scale p) ≡ 0 = ap (λ (m : ℕ). nearest_down m (scale p)) none ∙ down-zero (scale p) (scale-pos p) in
    rounded (pos 0) p true (neg near_half) h l (inr none) near-half-neg ∙ ap (λ (m : ℕ). neg_ℤ (pos m)) down ∙ ap pos (sym down)
unclamped-is (pos (suc n)) p h l =
    let above : ltb 0 (suc n) ≡ true = lt-ltb 0 (suc n) (zero-lt-suc n) in
    rw above (rounded (pos (suc n)) p false near_half h l (inl refl) near-half-at)
unclamped-is (negsuc n) p h l = rounded (negsuc n) p true (neg near_half) h l (inl refl) near-half-neg

-- no further: at p = 13 this D is over a half of S' by less than 0.4999999 lacks
pub unclamped-13 : (unclamped (pos 8388609) 13 ≡ pos 0) × (quantise (pos 8388609) 13 ≡ pos 1)
unfolding unclamped quotient near_half of_int div add sub to_signed quantise round24 unit24 nearest_down
unclamped-13 = (refl, refl)

-- so the step of a pass is the one with the Rust's expression: every D that it meets is in range
pub step-unclamped : (c0 c1 s0 s1 x : ℤ) (p : ℕ) → Bounded c0 c1 → SFits w16 s0 → SFits w16 s1 → SFits w16 x → p ≤ 12 → code_sample c0 c1 s0 s1 x p ≡
    let u = unclamped (residual c0 c1 s0 s1 x) p in
    record { nibble = clamp4 u; sample = reconstruct c0 c1 s0 s1 (clamp4 u) p; overflow = nat_abs (u -ℤ clamp4 u) }
unfolding code_sample
step-unclamped c0 c1 s0 s1 x p b f g h l =
    let is : unclamped (residual c0 c1 s0 s1 x) p ≡ quantise (residual c0 c1 s0 s1 x) p = unclamped-is (residual c0 c1 s0 s1 x) p (le_trans (residual-size c0 c1 s0 s1 x b f g h) (lit≤ tt)) l in
    rw is
