-- What comparing was accepted with.
use mathlib.Core.Bool.{false}
use mathlib.Core.List.{List}
use mathlib.Core.Path.{◌≡◌}
use Prim.Native.Nat.{ℕ}
use borrow.Author.Tests.{eq-eqb, ne_eqb}
use Rattle.block.specs.Refusals.{lowest_pair}
use Rattle.whole.specs.Outcome.{accepted}
use Rattle.whole.proofs.Outcomes.{failed}
use Rattle.image.specs.Reading.{total_in, coefficients_in}
use Rattle.image.specs.Opening.{open_answer}
use Rattle.image.specs.inner.Asked.{Opens}
use Rattle.image.specs.Sameness.{compare_answer, both_answer, equal_samples, samples_in, same_sound}
use Rattle.image.proofs.OpenImages.{opened, opens}
use Rattle.image.proofs.TestsInTurn.{and-then}

-- an image that opens and can be played
pub record Comparable (l : List ℕ) : Type 0 where
  pub opens : Opens l
  pub pairs : lowest_pair (coefficients_in l) ≡ false

pub compare-accepted : (l : List ℕ) → compare_answer l ≡ accepted tt → Comparable l
unfolding compare_answer
compare-accepted l p =
    let a = and-then (open_answer l) _ p in
    let c = failed (lowest_pair (coefficients_in l)) 13 (accepted tt) a.1 in
    record { opens = opened l a.0; pairs = c.0 }

pub compare-accepts : (l : List ℕ) → Comparable l → compare_answer l ≡ accepted tt
unfolding compare_answer
compare-accepts l p = rw (opens l p.opens, p.pairs)

pub both-accepted : (a b : List ℕ) → both_answer a b ≡ accepted tt → Comparable a × Comparable b
unfolding both_answer
both-accepted a b p =
    let q = and-then (compare_answer a) (compare_answer b) p in
    (compare-accepted a q.0, compare-accepted b q.1)

-- ---- the answer on two images that are compared

pub other-total : (a b : List ℕ) → (total_in a ≡ total_in b → ⊥) → false ≡ same_sound a b
unfolding same_sound
other-total a b h = rw (ne_eqb (total_in a) (total_in b) h)

pub same_total : (a b : List ℕ) → total_in a ≡ total_in b → equal_samples (samples_in a) (samples_in b) ≡ same_sound a b
unfolding same_sound
same_total a b h = rw (eq-eqb (total_in a) (total_in b) h)
