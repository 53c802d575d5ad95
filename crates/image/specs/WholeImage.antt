-- Playing a whole image. Definitions only.
use Rattle.std.specs.Prelude.{List, ℕ, ◌-◌, ℤ, length}
use Rattle.std.proofs.lemmas.List.Edits.{sets}
use Rattle.whole.specs.Outcome.{Outcome, Effect}
use Rattle.block.specs.declared.FrameContext.{FrameContext}
use Rattle.block.specs.Frame.{Playing, playing}
use Rattle.block.specs.Play as Block
use Rattle.image.specs.Reading.{total_in, blocks_in, coefficients_in, length_in, context_in}
use Rattle.image.specs.Opening.{and_then, open_answer}
use Rattle.image.specs.Bodies.{body_in}
use Rattle.image.specs.Playing.{room_answer, played}
use Rattle.image.specs.Sameness.{samples_in}

-- codes 15; 20, 21, 22; 24; 13, 14
unfoldable pub all_answer : List ℕ → ℕ → Outcome Unit
all_answer l room = and_then (open_answer l) (room_answer (coefficients_in l) (total_in l) room)

-- the context that block k leaves, played from its entry
unfoldable pub context_after : List ℕ → ℕ → FrameContext
context_after l k = (Block.play (body_in l k) (coefficients_in l) (length_in l k) (context_in l k)).context

-- "blocks 0 to K−1 are played in turn from their entries with enough room and joined": in the output from its start on, and the context that the last leaves
unfoldable pub all_into : List ℕ → List ℤ → Playing
all_into l out = playing (context_after l (blocks_in l - 1)) (sets out 0 (samples_in l))

-- a whole image is played: N and the samples
unfoldable pub play_all : List ℕ → List ℤ → Effect (Outcome ℕ) Playing
play_all l out = played (all_answer l (length out)) (total_in l) (all_into l out) out
