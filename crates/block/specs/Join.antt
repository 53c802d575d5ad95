-- Joining two blocks. Definitions only.
use Rattle.std.specs.Prelude.{cond, not, List, ◌++◌, ℕ, ◌+◌, ltb, ℤ, length, Result}
use Rattle.std.proofs.lemmas.List.Edits.{sets}
use Rattle.block.specs.declared.Refusal.{Refusal}
use Rattle.block.specs.Refusals.{code, equal_coefficients}
use Rattle.whole.specs.Outcome.{Outcome, accepted, refused, answered, Effect, effect}

-- the sum of the lengths, or the refusal's number
abbrev pub join_outcome : Result ℕ Refusal → Outcome ℕ
join_outcome r = answered code (λ r. 0) r

-- joining: refusals 14 and 18 in that sequence, the output unaltered; else the first block's bytes and then the second's, and the lengths' sum
unfoldable pub extend_samples : List ℕ → ℕ → List ℤ → List ℕ → ℕ → List ℤ → List ℕ → Effect (Outcome ℕ) (List ℕ)
extend_samples first m cs second n ds out =
    cond (ltb (length out) (length first + length second)) (effect (refused 14) out)
    (cond (not (equal_coefficients cs ds)) (effect (refused 18) out)
    (effect (accepted (m + n)) (sets out 0 (first ++ second))))
