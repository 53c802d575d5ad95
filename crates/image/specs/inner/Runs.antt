-- A run of an image's samples. Definitions only.
use Rattle.std.specs.Prelude.{List, ℕ, ◌/◌, ◌%◌, ℤ, length}
use Rattle.std.proofs.lemmas.List.Edits.{sets}
use Rattle.whole.specs.Outcome.{Outcome, accepted, Effect, effect}
use Rattle.block.specs.declared.FrameContext.{FrameContext}
use Rattle.block.specs.Address.{sample_to_address}
use Rattle.block.specs.Play as Block
use Rattle.image.specs.Reading.{blocks_in, coefficients_in, context_in}
use Rattle.image.specs.Bodies.{body_in}
use Rattle.image.specs.Part.{run_count, run_of, per_block, touched}

-- the context at sample `first` of the clip: what its block's samples before it leave
unfoldable pub context_at_sample : List ℕ → ℕ → FrameContext
context_at_sample l first =
    let k = first / per_block l in
    (Block.play (body_in l k) (coefficients_in l) (sample_to_address (first % per_block l)) (context_in l k)).context

-- what an accepted call answers and leaves
abbrev pub part_of : List ℕ → ℕ → List ℤ → Effect (Outcome (ℕ × ℕ)) (List ℤ)
part_of l first out =
    let n = run_count l first (length out) in
    effect (accepted (n, touched (per_block l) first n (blocks_in l))) (sets out 0 (run_of l first n))
