-- Tests in turn: what their answer tells of each.
use mathlib.Core.Path.{◌≡◌, refl, ap}
use Prim.Native.Nat.{ℕ}
use Rattle.whole.specs.Outcome.{Outcome, accepted, refused_at}
use Rattle.whole.proofs.Outcomes.{not-both}
use Rattle.image.specs.Opening.{and_then}

pub and-then : (a b : Outcome Unit) → and_then a b ≡ accepted tt → (a ≡ accepted tt) × (b ≡ accepted tt)
and-then (accepted u) b p = (refl, p)
and-then (refused_at n j) b p = absurd (not-both p)

-- the first refusal is the answer
pub first-refused : (a b : Outcome Unit) {n j : ℕ} → a ≡ refused_at n j → and_then a b ≡ refused_at n j
first-refused a b p = ap (λ (o : Outcome Unit). and_then o b) p

-- after an accepted one the next are asked
pub next-asked : (a b : Outcome Unit) → a ≡ accepted tt → and_then a b ≡ b
next-asked a b p = ap (λ (o : Outcome Unit). and_then o b) p

-- after the last one nothing is asked
pub then-nothing : (a : Outcome Unit) → and_then a (accepted tt) ≡ a
then-nothing (accepted u) = refl
then-nothing (refused_at n j) = refl
