-- The pairs that starting accepts, beside the pair of -32768 twice that playing refuses by 13.
use mathlib.Core.Path.{◌≡◌, refl, ap₂, ◌∙◌}
use mathlib.Core.Bool.{Bool, true, false, not, ◌&&◌, ◌||◌, and-false}
use mathlib.Core.List.{List}
use mathlib.Core.Logic.{inl, inr}
use Prim.Native.Nat.{ℕ, zero, suc, ◌≤◌, ◌<◌}
use native.Mathlib.Omega.{arith}
use borrow.Author.Tests.{eqb-true, ne_eqb}
use lib.Dec.{eqb}
use lib.Ieee.{Float}
use lib.IntN.{ℤ, pos, negsuc}
use lib.ListN.{length, replicate}
use Rattle.whole.specs.Outcome.{Outcome, accepted, refused_at}
use Rattle.coefficients.specs.CoefficientLimits.{Within, OfPair}
use Rattle.coefficients.specs.Measure.{finish_answer, finish_by, finish}
use Rattle.coefficients.specs.declared.CoefficientCalculator.{CoefficientCalculator}
use Rattle.coefficients.proofs.AnyStore.{finish-any-store}
use Rattle.frame.specs.Pass.{Bounded}
use Rattle.frame.specs.Choice.{c0_at, c1_at, AllBounded}
use Rattle.frame.specs.Frame.{pair_ok, pairs_ok, coefficients_ok}
use Rattle.frame.proofs.LawsFrame.{bounded-pair, limits-bounded}
use Rattle.block.specs.Refusals.{equal, lowest_among, lowest_pair}
use Rattle.clip.specs.Encoding.{start}
use Rattle.clip.specs.declared.starting.Start.{Start}
use Rattle.clip.proofs.AcceptedCalls.{start-accepted}
use Rattle.clip.proofs.WholeRuns.{start-answered}

-- ---- a pair within the limit is not -32768 twice

not-lowest : (c0 c1 : ℤ) → Bounded c0 c1 → equal c0 (negsuc 32767) && equal c1 (negsuc 32767) ≡ false
not-lowest (pos m) c1 b = refl
not-lowest (negsuc m) (pos n) b = and-false (eqb m 32767)
not-lowest (negsuc m) (negsuc n) b = go (eqb m 32767) refl
  where
    go : (t : Bool) → eqb m 32767 ≡ t → t && eqb n 32767 ≡ false
    go true e = let p = eqb-true m 32767 e in ne_eqb n 32767 (λ q. omega (arith, b.sum))
    go false e = refl

none-lowest : (cs : List ℤ) → AllBounded cs → (k : ℕ) → k ≤ 8 → lowest_among cs k ≡ false
unfolding lowest_among
none-lowest cs b zero h = refl
none-lowest cs b (suc k) h = rw (none-lowest cs b k (omega arith), not-lowest (c0_at cs k) (c1_at cs k) (b.pair k (omega arith)))

pub bounded-lowest : (cs : List ℤ) → AllBounded cs → lowest_pair cs ≡ false
unfolding lowest_pair
bounded-lowest cs b = none-lowest cs b 8 (omega arith)

-- what code 7 accepts is not what code 13 refuses
pub limits-lowest : (cs : List ℤ) → coefficients_ok cs ≡ true → lowest_pair cs ≡ false
limits-lowest cs e = bounded-lowest cs (limits-bounded cs e)

-- a clip that starting accepts has no pair that code 13 refuses
pub started-lowest : (g : Start) (l : List ℕ) → (start g l).outcome ≡ accepted tt → lowest_pair g.coefficients ≡ false
started-lowest g l ok = limits-lowest g.coefficients (start-accepted g (length l) (start-answered g l ok)).within

-- ---- coefficients that are worked out, whatever the store holds

inside : (c0 c1 : ℤ) → Bounded c0 c1 → pair_ok c0 c1 ≡ not (equal c0 (negsuc 32767) && equal c1 (negsuc 32767))
inside c0 c1 b = rw (bounded-pair c0 c1 b, not-lowest c0 c1 b)

-- a pair is within the limit, or is -32768 twice
either-pair : (c0 c1 : ℤ) → Within c0 4096 → Within c1 2048 → pair_ok c0 c1 ≡ not (equal c0 (negsuc 32767) && equal c1 (negsuc 32767))
unfolding pair_ok
either-pair c0 c1 (inr p) (inr q) = rw (p, q)
either-pair c0 c1 (inr p) (inl b) = inside c0 c1 (record { sum = rw p (omega arith) })
either-pair c0 c1 (inl a) (inr q) = inside c0 c1 (record { sum = rw q (omega arith) })
either-pair c0 c1 (inl a) (inl b) = inside c0 c1 (record { sum = omega arith })

not-or : (a b : Bool) → not a && not b ≡ not (a || b)
not-or true b = refl
not-or false b = refl

-- sixteen zeros
zeros-limits : coefficients_ok (replicate 16 (pos 0)) ≡ not (lowest_pair (replicate 16 (pos 0)))
unfolding coefficients_ok pairs_ok pair_ok lowest_pair lowest_among
zeros-limits = refl

-- coefficients that are each within their limit or -32768
module _ (cs : List ℤ) (w : (i : ℕ) → i < 8 → OfPair (λ (c : ℤ). Within c 4096) (λ (c : ℤ). Within c 2048) cs i) where
  either-upto : (k : ℕ) → k ≤ 8 → pairs_ok cs k ≡ not (lowest_among cs k)
  unfolding pairs_ok lowest_among
  either-upto zero h = refl
  either-upto (suc k) h =
      let p = w k (omega arith) in
      ap₂ (λ (a b : Bool). a && b) (either-upto k (omega arith)) (either-pair (c0_at cs k) (c1_at cs k) p.even p.odd)
      ∙ not-or (lowest_among cs k) (equal (c0_at cs k) (negsuc 32767) && equal (c1_at cs k) (negsuc 32767))

  either-limits : coefficients_ok cs ≡ not (lowest_pair cs)
  unfolding coefficients_ok lowest_pair
  either-limits = either-upto 8 (omega arith)

-- whatever the state and the store, code 7 refuses what an asking answers only where a pair is -32768 twice
pub worked-out-limits : (c : CoefficientCalculator) (s : List Float) → (let cs = (finish c s).coefficients in coefficients_ok cs ≡ not (lowest_pair cs))
unfolding finish
worked-out-limits c s = go (finish_answer c.samples c.records (length s))
  where
    go : (o : Outcome Unit) → (let cs = (finish_by o c s).coefficients in coefficients_ok cs ≡ not (lowest_pair cs))
    go (accepted u) = either-limits _ (finish-any-store _)
    go (refused_at n j) = zeros-limits
