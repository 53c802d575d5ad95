-- Laws of the estimate: sizes, the look over the samples, the halvings and the first exponent.
use mathlib.Core.Path.{◌≡◌, refl, ap, ◌∙◌}
use mathlib.Core.Bool.{Bool, true, false, cond}
use mathlib.Core.List.{List}
use Prim.Native.Nat.{ℕ, zero, suc, ◌+◌, ◌-◌, ◌*◌, ◌/◌, ◌^◌, ◌≤◌, ◌<◌}
use native.Mathlib.Nat.{mul-le-mul, le_refl, pow-suc}
use native.Mathlib.Omega.{arith}
use lib.Dec.{ltb}
use lib.IntN.{ℤ, pos, negsuc, neg_ℤ, nat_abs, ◌+ℤ◌, ◌-ℤ◌, ◌*ℤ◌}
use lib.ListN.{get_or}
use lib.Signed.{mag, lt_z, quot_z}
use borrow.Author.Tests.{lt-ltb, le-ltb}
use mir.Syntax.{w16}
use mir.Val.{SFits}
use Rattle.whole.specs.Whole.{towards_zero}
use Rattle.whole.proofs.SignedLocals.{abs-add, abs-mul, abs-sfits}
use Rattle.whole.proofs.Differences.{diff-pos, diff-sub, diff-eq}
use Rattle.whole.proofs.Clamping.{clamp-fits}
use Rattle.whole.specs.declared.History.{History}
use Rattle.frame.specs.Estimate.{weigh, difference, larger_magnitude, is_lowest, look, largest_difference, is_small, halvings_within, halvings, max_z, exponent_of, first_exponent}
use Rattle.frame.specs.Pass.{Bounded}

-- ---- sizes

-- two samples of 16 bits weigh at most 32768 times the magnitudes of the pair
pub weigh-of : (c0 c1 s0 s1 : ℤ) → SFits w16 s0 → SFits w16 s1 → nat_abs (weigh c0 c1 s0 s1) ≤ (nat_abs c0 + nat_abs c1) * 32768
unfolding weigh
weigh-of c0 c1 s0 s1 f g =
    let a : nat_abs c0 * nat_abs s0 ≤ nat_abs c0 * 32768 = mul-le-mul (le_refl (nat_abs c0)) (abs-sfits f) in
    let b : nat_abs c1 * nat_abs s1 ≤ nat_abs c1 * 32768 = mul-le-mul (le_refl (nat_abs c1)) (abs-sfits g) in
    omega (arith, abs-add (c0 *ℤ s0) (c1 *ℤ s1), abs-mul c0 s0, abs-mul c1 s1)

-- by a pair within the limit: 61440 × 32768
pub weigh-size : (c0 c1 s0 s1 : ℤ) → Bounded c0 c1 → SFits w16 s0 → SFits w16 s1 → nat_abs (weigh c0 c1 s0 s1) ≤ 2013265920
weigh-size c0 c1 s0 s1 l f g = omega (arith, l.sum, weigh-of c0 c1 s0 s1 f g)

pub difference-fits : (c0 c1 s0 s1 x : ℤ) → SFits w16 (difference c0 c1 s0 s1 x)
unfolding difference
difference-fits c0 c1 s0 s1 x = clamp-fits (x -ℤ towards_zero (weigh c0 c1 s0 s1) 2048)

pub larger-magnitude-yes : (d e : ℤ) → nat_abs d < nat_abs e → e ≡ larger_magnitude d e
unfolding larger_magnitude
larger-magnitude-yes d e h = rw (lt-ltb _ _ h)

pub larger-magnitude-no : (d e : ℤ) → nat_abs e ≤ nat_abs d → d ≡ larger_magnitude d e
unfolding larger_magnitude
larger-magnitude-no d e h = rw (le-ltb _ _ h)

fits-either : (t : Bool) {a b : ℤ} → SFits w16 a → SFits w16 b → SFits w16 (cond t a b)
fits-either true f g = f
fits-either false f g = g

pub larger-magnitude-fits : (d e : ℤ) → SFits w16 d → SFits w16 e → SFits w16 (larger_magnitude d e)
unfolding larger_magnitude
larger-magnitude-fits d e f g = fits-either (ltb (nat_abs d) (nat_abs e)) g f

-- ---- the look

pub look-fits : (c0 c1 : ℤ) (xs : List ℤ) (k i : ℕ) (d p b : ℤ) → SFits w16 d → SFits w16 (look c0 c1 xs k i d p b)
unfolding look
look-fits c0 c1 xs zero i d p b f = f
look-fits c0 c1 xs (suc k) i d p b f =
    let x = get_or xs i (pos 0) in
    let e = difference c0 c1 p b x in
    fits-either (is_lowest e) (difference-fits c0 c1 p b x) (look-fits c0 c1 xs k (suc i) (larger_magnitude d e) x p (larger-magnitude-fits d e f (difference-fits c0 c1 p b x)))

pub largest-fits : (c0 c1 : ℤ) (h : History) (xs : List ℤ) → SFits w16 (largest_difference c0 c1 h xs)
unfolding largest_difference
largest-fits c0 c1 h xs = look-fits c0 c1 xs 14 0 (pos 0) h.newest h.older (record { sfits = omega arith })

-- ---- the halvings

-- a number below 8 * 2^k in magnitude (−8 * 2^k too) is small after k halvings at most
half-mag : (z : ℤ) (n : ℕ) → mag z < n * 2 → mag (quot_z z (pos 2)) < n
half-mag (pos a) n h = omega arith
half-mag (negsuc a) n h = go (suc a / 2) (omega arith)
  where
    go : (r : ℕ) → r ≤ n → mag (neg_ℤ (pos r)) < n
    go zero l = omega arith
    go (suc r) l = omega arith

small-mag : (z : ℤ) → mag z < 8 → is_small z ≡ true
unfolding is_small
small-mag (pos n) h = lt-ltb n 8 h
small-mag (negsuc n) h = rw (lt-ltb n 8 h)

pub halve-le : (m k : ℕ) (z : ℤ) → mag z < 8 * 2 ^ k → halvings_within m z ≤ k
unfolding halvings_within
halve-le zero k z h = omega arith
halve-le (suc m) zero z h = rw (small-mag z h) (omega arith)
halve-le (suc m) (suc k) z h = go (is_small z) (halve-le m k (quot_z z (pos 2)) (half-mag z (8 * 2 ^ k) (omega (arith, pow-suc 2 k))))
  where
    go : (t : Bool) → halvings_within m (quot_z z (pos 2)) ≤ k → cond t zero (suc (halvings_within m (quot_z z (pos 2)))) ≤ suc k
    go true l = omega arith
    go false l = omega arith

-- a number of 16 bits needs 12 halvings at most, so the bound of 13 never ends them
pub halvings-end : (z : ℤ) → SFits w16 z → halvings z ≤ 12
unfolding halvings
halvings-end z f = halve-le 13 12 z (let h = f.sfits in omega arith)

-- max(h−2, −1) + 1 is h less one, or 0
pub exponent-is : (h : ℕ) → exponent_of h ≡ h - 1
unfolding exponent_of max_z
exponent-is zero = refl
exponent-is (suc zero) = refl
exponent-is (suc (suc n)) =
    let e : pos (suc (suc n)) -ℤ pos 2 ≡ pos n = diff-eq (diff-sub (diff-pos (suc (suc n))) (diff-pos 2)) (diff-pos n) (omega arith) in
    ap (λ (z : ℤ). nat_abs (cond (lt_z z (negsuc 0)) (negsuc 0) z +ℤ pos 1)) e ∙ omega arith

-- no more halvings are counted than are asked for
within-le : (k : ℕ) (z : ℤ) → halvings_within k z ≤ k
unfolding halvings_within
within-le zero z = omega arith
within-le (suc k) z = go (is_small z) (within-le k (towards_zero z 2))
  where
    go : (t : Bool) → halvings_within k (towards_zero z 2) ≤ k → cond t zero (suc (halvings_within k (towards_zero z 2))) ≤ suc k
    go true h = omega arith
    go false h = omega arith

pub exponent-most : (z : ℤ) → exponent_of (halvings z) ≤ 12
unfolding halvings
exponent-most z = omega (arith, exponent-is (halvings_within 13 z), within-le 13 z)

-- the first exponent is 0 to 11
pub first-le : (c0 c1 : ℤ) (h : History) (xs : List ℤ) → first_exponent c0 c1 h xs ≤ 11
unfolding first_exponent
first-le c0 c1 h xs = omega (arith, exponent-is (halvings (largest_difference c0 c1 h xs)), halvings-end (largest_difference c0 c1 h xs) (largest-fits c0 c1 h xs))
