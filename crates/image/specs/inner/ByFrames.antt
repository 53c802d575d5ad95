-- An image played a frame at a time. Definitions only.
use Rattle.std.specs.Prelude.{cond, List, [], ℕ, zero, suc, ◌+◌, ◌/◌, ◌%◌, eqb, ltb, ℤ, pos, get_or, replicate}
use Rattle.std.proofs.lemmas.List.Edits.{sets}
use Rattle.block.specs.declared.FrameContext.{FrameContext}
use Rattle.block.specs.Context.{new_context, with_header}
use Rattle.block.specs.Frame.{Playing, playing}
use Rattle.block.specs.inner.Frames.{play_frame}
use Rattle.layout.specs.Sizes.{last_frame_samples, frame_place}
use Rattle.whole.specs.Frames.{frame_count}
use Rattle.image.specs.declared.comparing.Frame.{Frame}
use Rattle.image.specs.Reading.{total_in, block_in, shape_in, coefficients_in, context_in}

-- the samples in frame i: fourteen, and m in the last
unfoldable pub frame_samples : ℕ → ℕ → ℕ
frame_samples n i = cond (ltb (i + 1) (frame_count n)) 14 (last_frame_samples n)

-- where frame i stands: bodies of whole frames stand back to back
unfoldable pub frame_place_in : List ℕ → ℕ → ℕ
frame_place_in l i = frame_place (shape_in l) i

-- what frame i is played from: a block's first from its entry's context, another from what the frame before left, under its own header
unfoldable pub context_before : List ℕ → ℕ → FrameContext → FrameContext
context_before l i c =
    cond (eqb (i % (block_in l / 8)) 0) (context_in l (i / (block_in l / 8))) (with_header c (get_or l (frame_place_in l i) 0))

-- the first i frames in turn
unfoldable pub frames_in : List ℕ → ℕ → Playing
frames_in l zero = playing new_context []
frames_in l (suc i) =
    let p = frames_in l i in
    play_frame l (frame_place_in l i) (frame_samples (total_in l) i) (coefficients_in l) (playing (context_before l i p.context) p.samples)

-- one frame, in an array of fourteen samples
unfoldable pub played_frame : List ℕ → ℕ → ℕ → List ℤ → FrameContext → Frame
played_frame l at count cs c =
    let p = play_frame l at count cs (playing c []) in
    record { samples = sets (replicate 14 (pos 0)) 0 p.samples; context = p.context }

unfoldable pub next_frame : List ℕ → ℕ → FrameContext → Frame
next_frame l i c = played_frame l (frame_place_in l i) (frame_samples (total_in l) i) (coefficients_in l) (context_before l i c)
