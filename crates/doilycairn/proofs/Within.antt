-- The place of a body that C is told lies within the image. Assumes nothing.
use mathlib.Core.List.{List}
use mathlib.Core.Path.{◌≡◌, refl}
use Prim.Native.Nat.{ℕ, ◌+◌, ◌≤◌}
use native.Mathlib.Omega.{arith}
use lib.ListN.{length}
use Rattle.whole.specs.Outcome.{Outcome, accepted, refused_at, if_accepted, outcome_code, outcome_entry}
use Rattle.block.specs.Context.{new_context}
use Rattle.doilycairn.specs.declared.reading.Body.{Body}
use Rattle.image.specs.Bodies.{block_answer}
use Rattle.image.proofs.LawsBody.{block-accepted, found-end}
use Rattle.doilycairn.specs.Reading.{body_at, body_in_c}

-- what a refused call returns
abbrev nowhere : Outcome Unit → Body
nowhere o = record { code = outcome_code o; entry = outcome_entry o; offset = 0; bytes = 0; nibbles = 0; context = new_context }

-- from the offset on, as many bytes; where the call is refused, none
pub body-within : (l : List ℕ) (k : ℕ) → (body_in_c l k).outcome.offset + (body_in_c l k).outcome.bytes ≤ length l
unfolding body_in_c body_at
body-within l k = go (block_answer l k) refl
  where
    go : (a : Outcome Unit) → block_answer l k ≡ a → (if_accepted a (body_at l k) (nowhere a)).offset + (if_accepted a (body_at l k) (nowhere a)).bytes ≤ length l
    go (accepted u) p = found-end l k (block-accepted l k p)
    go (refused_at n j) p = omega arith
