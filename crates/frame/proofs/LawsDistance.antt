-- The distance of a reconstructed sample from its original, where the nibble was at most one out of range.
use mathlib.Core.Path.{◌≡◌, refl, sym, ap, ◌∙◌, subst}
use mathlib.Core.Bool.{Bool, true, false, cond}
use Prim.Native.Nat.{ℕ, suc, ◌+◌, ◌-◌, ◌*◌, ◌/◌, ◌%◌, ◌^◌, ◌≤◌, ◌<◌}
use native.Mathlib.Nat.{mul-le-mul_right, div-add-mod', mod-lt, lt_of_not-le}
use native.Mathlib.Decide.{dec_le}
use native.Mathlib.Omega.{arith}
use lib.Dec.{ltb}
use lib.Pow.{pow_mono, pow-add}
use lib.IntN.{ℤ, pos, negsuc, neg_ℤ, nat_abs, ◌+ℤ◌, ◌-ℤ◌, ◌*ℤ◌, *ℤ_comm}
use borrow.Author.Tests.{ltb-true, ltb-false}
use lib.Ieee.{size}
use lib.Ieee.Digits.{size_reaches}
use lib.Ieee.Nearest.{closest}
use mir.Syntax.{w16}
use mir.Val.{SFits}
use Rattle.whole.specs.Whole.{floored}
use Rattle.whole.proofs.Differences.{Diff, diff-of, diff-pos, diff-neg, diff-add, diff-sub, diff-times, diff-same, diff-abs, abs_diff, over, under, left, floor-law}
use Rattle.whole.proofs.Clamping.{clamp-nearer}
use Rattle.frame.specs.Estimate.{weigh}
use Rattle.frame.specs.Quantise.{unit24, round24, scale, nearest_down, quantise, clamp4}
use Rattle.frame.specs.Pass.{residual, reconstruct, code_sample}
use Rattle.frame.proofs.LawsQuantise.{closest-near, size_above, unit-pos, round_same, scale-pos, clamp4-size}

-- ---- roundings move a number little

-- the unit of the last of 24 digits is at most m / 2^23
unit-small : (m : ℕ) → 16777216 ≤ m → unit24 m * 8388608 ≤ m
unfolding unit24
unit-small m l =
    let s : 24 < size m = size_above m 24 l in
    let r : 2 ^ (size m - 1) ≤ m = size_reaches m (size m - 1) (omega arith) in
    let e : (size m - 24) + 23 ≡ size m - 1 = omega arith in
    let q : 2 ^ (size m - 1) ≡ 2 ^ (size m - 24) * 8388608 = sym (ap (λ (k : ℕ). 2 ^ k) e) ∙ pow-add 2 (size m - 24) 23 in
    omega arith

-- a number of few bits above 24 moves by 2 at most
round-near : (m : ℕ) → round24 m ≤ 39845888 → (round24 m ≤ m + 2) × (m ≤ round24 m + 2)
unfolding round24
round-near m h = go (dec_le 16777216 m)
  where
    go : Dec (16777216 ≤ m) → (closest m (unit24 m) * unit24 m ≤ m + 2) × (m ≤ closest m (unit24 m) * unit24 m + 2)
    go (yes l) = let s = unit-small m l in let n = closest-near m (unit24 m) (unit-pos m) in (omega arith, omega arith)
    go (no l) = let e : m ≡ closest m (unit24 m) * unit24 m = round_same m (lt_of_not-le l) in (omega arith, omega arith)

-- m / s to the nearest, times s, is within s / 2 of m
down-near : (m s : ℕ) → 0 < s → (nearest_down m s * s * 2 ≤ m * 2 + s) × (m * 2 ≤ nearest_down m s * s * 2 + s)
unfolding nearest_down
down-near m s p = go (ltb s (m % s * 2)) refl
  where
    m-is : m / s * s + m % s ≡ m
    m-is = div-add-mod' m s

    r-lt : m % s < s
    r-lt = mod-lt m p

    go : (t : Bool) → ltb s (m % s * 2) ≡ t → (cond t (m / s + 1) (m / s) * s * 2 ≤ m * 2 + s) × (m * 2 ≤ cond t (m / s + 1) (m / s) * s * 2 + s)
    go true e = let l = ltb-true s (m % s * 2) e in (omega (arith, m-is, r-lt), omega (arith, m-is, r-lt))
    go false e = let l = ltb-false s (m % s * 2) e in (omega (arith, m-is), omega (arith, m-is))

-- ---- the nibble times the scale, against D

-- the same of a number without its sign: n is at most one from q = the nearest of r / s, and r is within 2 of m
near-pos : (m r q s a b : ℕ) → q * s * 2 ≤ r * 2 + s → r * 2 ≤ q * s * 2 + s → r ≤ m + 2 → m ≤ r + 2 → q + b ≤ a + 1 → a ≤ q + b + 1
    → (a * s * 2 ≤ b * s * 2 + m * 2 + (s * 3 + 4)) × (b * s * 2 + m * 2 ≤ a * s * 2 + (s * 3 + 4))
near-pos m r q s a b h1 h2 h3 h4 h5 h6 =
    let x : (q + b) * s ≤ (a + 1) * s = mul-le-mul_right s h5 in
    let y : a * s ≤ (q + b + 1) * s = mul-le-mul_right s h6 in
    (omega arith, omega arith)

-- what the accepted pass knows of one sample: its quotient is at most 9
few : (m r q s a b : ℕ) → r * 2 ≤ q * s * 2 + s → s ≤ 4194304 → q ≤ 9 → r ≤ 39845888
few m r q s a b h l k =
    let x : q * s ≤ 9 * s = mul-le-mul_right s k in
    omega arith

-- a nibble n at most one from the number q, and from −q
beside : (n : ℤ) (q : ℕ) → nat_abs (pos q -ℤ n) ≤ 1 → nat_abs n ≤ 8 → (q + under n ≤ over n + 1) × (over n ≤ q + under n + 1) × (q ≤ 9)
beside n q h k =
    let a = diff-abs (diff-sub (diff-pos q) (diff-of n)) in
    let b = diff-abs (diff-of n) in
    (omega arith, omega arith, omega arith)

beside-neg : (n : ℤ) (q : ℕ) → nat_abs (neg_ℤ (pos q) -ℤ n) ≤ 1 → nat_abs n ≤ 8 → (q + over n ≤ under n + 1) × (under n ≤ q + over n + 1) × (q ≤ 9)
beside-neg n q h k =
    let a = diff-abs (diff-sub (diff-neg (diff-pos q)) (diff-of n)) in
    let b = diff-abs (diff-of n) in
    (omega arith, omega arith, omega arith)

-- twice the nibble times the scale is within three scales and 4 of twice D
abbrev Near : ℤ → ℤ → ℕ → Type 0
Near n d s = (over n * s * 2 + under d * 2 ≤ under n * s * 2 + over d * 2 + (s * 3 + 4)) × (under n * s * 2 + over d * 2 ≤ over n * s * 2 + under d * 2 + (s * 3 + 4))

scale-11 : (p : ℕ) → p ≤ 11 → scale p ≤ 4194304
scale-11 p l = let m : 2 ^ p ≤ 2048 = pow_mono l in omega arith

nibble-near : (d : ℤ) (p : ℕ) → p ≤ 11 → nat_abs (quantise d p -ℤ clamp4 (quantise d p)) ≤ 1 → Near (clamp4 (quantise d p)) d (scale p)
unfolding quantise
nibble-near (pos m) p l h =
    let q = nearest_down (round24 m) (scale p) in
    let b = beside (clamp4 (pos q)) q h (clamp4-size (pos q)) in
    let w = down-near (round24 m) (scale p) (scale-pos p) in
    let r = round-near m (few m (round24 m) q (scale p) 0 0 w.1 (scale-11 p l) b.2) in
    let e = near-pos m (round24 m) q (scale p) (over (clamp4 (pos q))) (under (clamp4 (pos q))) w.0 w.1 r.0 r.1 b.0 b.1 in
    (omega arith, omega arith)
nibble-near (negsuc k) p l h =
    let m = suc k in
    let q = nearest_down (round24 m) (scale p) in
    let b = beside-neg (clamp4 (neg_ℤ (pos q))) q h (clamp4-size (neg_ℤ (pos q))) in
    let w = down-near (round24 m) (scale p) (scale-pos p) in
    let r = round-near m (few m (round24 m) q (scale p) 0 0 w.1 (scale-11 p l) b.2) in
    let e = near-pos m (round24 m) q (scale p) (under (clamp4 (neg_ℤ (pos q)))) (over (clamp4 (neg_ℤ (pos q)))) w.0 w.1 r.0 r.1 b.0 b.1 in
    (omega arith, omega arith)

-- ---- the sample, before clamping and after

floor-near : (a x n : ℤ) (w : ℕ) → Near n (pos 2048 *ℤ x -ℤ a) (2048 * w) → nat_abs (floored (a +ℤ n *ℤ pos (2048 * w) +ℤ pos 1024) 2048 -ℤ x) ≤ (3 * w + 1) / 2
floor-near a x n w h =
    let z = a +ℤ n *ℤ pos (2048 * w) +ℤ pos 1024 in
    let f = floored z 2048 in
    let law = floor-law z 2048 (omega arith) in
    let here : Diff z (over a + over n * (2048 * w) + 1024) (under a + under n * (2048 * w) + 0) = diff-add (diff-add (diff-of a) (diff-times (diff-of n) (2048 * w))) (diff-pos 1024) in
    let there : Diff z (over f * 2048 + left z 2048) (under f * 2048 + 0) =
    subst (λ (v : ℤ). Diff v (over f * 2048 + left z 2048) (under f * 2048 + 0)) (sym law.0) (diff-add (diff-times (diff-of f) 2048) (diff-pos (left z 2048))) in
    let x-times : Diff (pos 2048 *ℤ x) (over x * 2048) (under x * 2048) = subst (λ (v : ℤ). Diff v (over x * 2048) (under x * 2048)) (*ℤ_comm x (pos 2048)) (diff-times (diff-of x) 2048) in
    let e = diff-same here there in
    let d = diff-same (diff-of (pos 2048 *ℤ x -ℤ a)) (diff-sub x-times (diff-of a)) in
    let less = law.1 in
    abs_diff (diff-sub (diff-of f) (diff-of x)) ((3 * w + 1) / 2) (omega arith) (omega arith)

-- a sample whose nibble was at most one out of range is within ⌊(3 × 2^p + 1) / 2⌋ of its original
pub step-distance : (c0 c1 s0 s1 x : ℤ) (p : ℕ) → SFits w16 x → p ≤ 11 → (code_sample c0 c1 s0 s1 x p).overflow ≤ 1 → nat_abs ((code_sample c0 c1 s0 s1 x p).sample -ℤ x) ≤ (3 * 2 ^ p + 1) / 2
unfolding code_sample reconstruct residual
step-distance c0 c1 s0 s1 x p f l h =
    let a = weigh c0 c1 s0 s1 in
    let d = pos 2048 *ℤ x -ℤ a in
    let n = clamp4 (quantise d p) in
    clamp-nearer x (floored (a +ℤ n *ℤ pos (scale p) +ℤ pos 1024) 2048) ((3 * 2 ^ p + 1) / 2) f (floor-near a x n (2 ^ p) (nibble-near d p l h))
