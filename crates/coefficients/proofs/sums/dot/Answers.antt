-- One product more.
use Rattle.std.proofs.Common.{◌≡◌, ℕ, ◌+◌, ◌-◌, ◌*◌, ◌<◌, ◌≤◌, List, get_or, ℤ, pos, ◌+ℤ◌, ◌*ℤ◌, refl, add-one, arith, rules, to_z-of_z, to_z, of_z, w16, w64, SFits, nat_abs}
use Rattle.whole.proofs.SignedLocals.{abs-add, abs-sfits, sfits-abs}
use Rattle.coefficients.specs.Sums.{dot}
use Rattle.coefficients.proofs.SampleSizes.{small_product}
use Rattle.coefficients.proofs.sums.dot.Invariants.{SoFar}
use Rattle.coefficients.proofs.sums.dot.Goals as goal

dot-more : (h : List ℤ) (a b k : ℕ) → dot h a b (k + 1) ≡ dot h a b k +ℤ get_or h (14 + k - a) (pos 0) *ℤ get_or h (14 + k - b) (pos 0)
unfolding dot
dot-more h a b k = rw add-one

-- the sum with a product, as it is computed
one-more : (s d x y : ℤ) (k : ℕ) → k < 14 → SFits w16 x → SFits w16 y → SoFar s d k
    → SoFar (to_z w64 (of_z w64 (s +ℤ to_z w64 (of_z w64 (to_z w64 (of_z w64 x) *ℤ to_z w64 (of_z w64 y)))))) (d +ℤ x *ℤ y) (k + 1)
one-more s d x y k l fx fy i =
    let p = small_product x y fx fy in
    let n : nat_abs (s +ℤ x *ℤ y) ≤ (k + 1) * 1073741824 = omega (arith, abs-add s (x *ℤ y), i.small, p) in
    rw (
      to_z-of_z {w = w64} {z = x} (sfits-abs (abs-sfits fx) tt),
      to_z-of_z {w = w64} {z = y} (sfits-abs (abs-sfits fy) tt),
      to_z-of_z {w = w64} {z = x *ℤ y} (sfits-abs p tt),
      to_z-of_z {w = w64} {z = s +ℤ x *ℤ y} (sfits-abs {n = 15032385536} (omega arith) tt),
      ← i.value,
    )
    (record { value = refl; small = n })

pub loop-k-init : goal.loop-k-init
unfolding dot
loop-k-init c = record { value = refl; small = omega arith }

pub loop-k-preserved : goal.loop-k-preserved
loop-k-preserved c =
    let x = get_or c.args.h.now (14 + c.loop-k.k - c.args.a) (pos 0) in
    let y = get_or c.args.h.now (14 + c.loop-k.k - c.args.b) (pos 0) in
    let fx : SFits w16 x = search rules in
    let fy : SFits w16 y = search rules in
    rw (c.from.ensures, c.from-in-loop-k.ensures, to_z-of_z fx, to_z-of_z fy, dot-more)
    (one-more _ _ x y c.loop-k.k (omega arith) fx fy c.loop-k.invariant)
