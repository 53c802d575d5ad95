-- Laws of division by 2048 rounded down.
use mathlib.Core.Path.{◌≡◌, sym, ap, ◌∙◌, subst}
use Prim.Native.Nat.{ℕ, ◌+◌, ◌*◌}
use native.Mathlib.Nat.{mul_comm, mul_assoc}
use native.Mathlib.Omega.{arith}
use lib.IntN.{ℤ, pos, ◌+ℤ◌, ◌*ℤ◌}
use Rattle.whole.specs.Whole.{floored}
use Rattle.whole.proofs.Differences.{Diff, diff-of, diff-add, diff-times, diff-pos, diff-eq, diff-same, over, under, left, floor-law}

-- a number by its quotient and what is left
by-quotient : (z : ℤ) → Diff z (over (floored z 2048) * 2048 + left z 2048) (under (floored z 2048) * 2048 + 0)
by-quotient z =
    let q = floored z 2048 in
    subst (λ (v : ℤ). Diff v (over q * 2048 + left z 2048) (under q * 2048 + 0)) (sym (floor-law z 2048 (omega arith)).0)
    (diff-add (diff-times (diff-of q) 2048) (diff-pos (left z 2048)))

-- a multiple of the divisor comes out of the division
floor-add : (x y : ℤ) → floored (x +ℤ y *ℤ pos 2048) 2048 ≡ floored x 2048 +ℤ y
floor-add x y =
    let z = x +ℤ y *ℤ pos 2048 in
    let e = diff-same (by-quotient z) (diff-add (by-quotient x) (diff-times (diff-of y) 2048)) in
    diff-eq (diff-of (floored z 2048)) (diff-add (diff-of (floored x 2048)) (diff-of y))
    (omega (arith, (floor-law z 2048 (omega arith)).1, (floor-law x 2048 (omega arith)).1, e))

-- 2048 times a number within the sum, or that number after the shift
regroup : (a m : ℤ) (k : ℕ) → a +ℤ m *ℤ pos (2048 * k) +ℤ pos 1024 ≡ a +ℤ pos 1024 +ℤ m *ℤ pos k *ℤ pos 2048
regroup a m k =
    let e : over m * (2048 * k) ≡ over m * k * 2048 = ap (λ (v : ℕ). over m * v) (mul_comm 2048 k) ∙ sym (mul_assoc (over m) k 2048) in
    let f : under m * (2048 * k) ≡ under m * k * 2048 = ap (λ (v : ℕ). under m * v) (mul_comm 2048 k) ∙ sym (mul_assoc (under m) k 2048) in
    diff-eq
    (diff-add (diff-add (diff-of a) (diff-times (diff-of m) (2048 * k))) (diff-pos 1024))
    (diff-add (diff-add (diff-of a) (diff-pos 1024)) (diff-times (diff-times (diff-of m) k) 2048))
    (omega (arith, e, f))

-- (a + m × 2048k + 1024) >> 11 is ((a + 1024) >> 11) + m × k
pub floor-scaled : (a m : ℤ) (k : ℕ) → floored (a +ℤ m *ℤ pos (2048 * k) +ℤ pos 1024) 2048 ≡ floored (a +ℤ pos 1024) 2048 +ℤ m *ℤ pos k
floor-scaled a m k = ap (λ (z : ℤ). floored z 2048) (regroup a m k) ∙ floor-add (a +ℤ pos 1024) (m *ℤ pos k)
