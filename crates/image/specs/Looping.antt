-- Playing the loop of an image. Definitions only.
use Rattle.std.specs.Prelude.{List, [], ◌++◌, ℕ, zero, suc, ◌-◌, ◌*◌, ◌/◌, ◌%◌, ℤ, length, take}
use Rattle.std.proofs.lemmas.List.Edits.{sets}
use Rattle.whole.specs.Outcome.{Outcome, with_values, if_accepted, Effect, effect}
use Rattle.block.specs.declared.FrameContext.{FrameContext}
use Rattle.block.specs.Address.{sample_to_address}
use Rattle.block.specs.Frame.{playing}
use Rattle.block.specs.Play as Block
use Rattle.image.specs.Reading.{blocks_in, coefficients_in, length_in, loop_in, loop_context_in}
use Rattle.image.specs.Opening.{and_then, open_answer}
use Rattle.image.specs.Bodies.{body_in}
use Rattle.image.specs.Playing.{room_answer}
use Rattle.image.specs.Sameness.{samples_from}
use Rattle.image.specs.Part.{per_block}

-- block k from its sample s on, under a context
unfoldable pub rest_in : List ℕ → ℕ → ℕ → FrameContext → List ℤ
rest_in l k s c = let a = sample_to_address s in (Block.play_from (body_in l k) (coefficients_in l) a (length_in l k - a) (playing c [])).samples

-- from sample `first` on: its block from that sample on under a context, "and each later block from its own"
unfoldable pub samples_on : List ℕ → ℕ → FrameContext → List ℤ
samples_on l first c =
    let k = first / per_block l in
    rest_in l k (first % per_block l) c ++ samples_from l (suc k) (blocks_in l - suc k)

-- how many samples the loop has: "loop end (the sample after the last)"; none without a loop
abbrev pub loop_length : List ℕ → ℕ
loop_length l = let p = loop_in l in p.end - p.start

-- the loop once, "beginning each time from the stored context and each later block from its own"
unfoldable pub loop_once : List ℕ → List ℤ
loop_once l = take (loop_length l) (samples_on l (loop_in l).start (loop_context_in l))

-- "its samples that many times over"
unfoldable pub repeated : ℕ → List ℤ → List ℤ
repeated zero ys = []
repeated (suc t) ys = ys ++ repeated t ys

-- codes 15; 20, 21, 22; 24; 13, 14
unfoldable pub loop_answer : List ℕ → ℕ → ℕ → Outcome Unit
loop_answer l times room = and_then (open_answer l) (room_answer (coefficients_in l) (times * loop_length l) room)

-- "playing the loop any stated number of times": in the output from its start on, the rest of the output as it was; refused, all of it
unfoldable pub play_loop : List ℕ → ℕ → List ℤ → Effect (Outcome ℕ) (List ℤ)
play_loop l times out =
    let o = loop_answer l times (length out) in
    effect (with_values o (times * loop_length l)) (if_accepted o (sets out 0 (repeated times (loop_once l))) out)
