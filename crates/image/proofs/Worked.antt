-- The worked clip of document 01: the sample 9 with zero coefficients, gain 0, rate 32,000, size 15. Runs of samples. And a clip with a loop.
use mathlib.Core.List.{List, [], ◌∷◌, ◌++◌}
use mathlib.Core.Path.{◌≡◌, refl}
use Prim.Native.Nat.{ℕ}
use lib.IntN.{pos}
use lib.ListN.{replicate, set}
use Rattle.block.specs.Address.{sample_to_address}
use Rattle.block.specs.Context.{predictor, scale, push_sample, with_header}
use Rattle.block.specs.Frame.{nibble_at, next_sample, take_nibble}
use Rattle.block.specs.Play.{take_header, play_from, play}
use Rattle.block.specs.Sample.{decode_sample}
use Rattle.whole.specs.Whole.{signed_nibble, clamp}
use Rattle.layout.specs.Limits.{numbers_ok, loop_ok}
use Rattle.layout.specs.Sizes.{last_frame_samples, block_count, body_bytes, image_size, block_offset, block_length}
use Rattle.whole.specs.Frames.{frame_count}
use Rattle.whole.specs.Outcome.{accepted, refused}
use Rattle.image.specs.Reading.{total_in, rate_in, block_in, loops_in, blocks_in, signed_at, coefficients_up_to, coefficients_in, offset_in, length_in, header_in, newest_in, older_in, entry_zero_in, context_in, loop_in, loop_context_in}
use Rattle.image.specs.Opening.{mark_ok, numbers_fit, head_ok, entry_answer, entries_answer, loop_fits, open_answer}
use Rattle.image.specs.Bodies.{body_in}
use Rattle.image.specs.Looping.{rest_in, samples_on, loop_once}
use Rattle.image.specs.Part.{touched}
use Rattle.image.specs.Sameness.{block_samples, samples_from, samples_in}

-- the clip with a mark of four bytes, a header in its entry and one before its nibbles
abbrev pub clip : List ℕ → ℕ → ℕ → List ℕ
clip mark told header =
    mark
    ++ (0 ∷ 0 ∷ 0 ∷ 1 ∷ 0 ∷ 0 ∷ 0x7D ∷ 0 ∷ 0 ∷ 0 ∷ 0 ∷ 8 ∷ [])
    ++ replicate 36 0
    ++ (0 ∷ 0 ∷ 0 ∷ 1 ∷ 0 ∷ 0 ∷ 0 ∷ 0x48 ∷ 0 ∷ 0 ∷ 0 ∷ 3 ∷ 0 ∷ told ∷ 0 ∷ 0 ∷ 0 ∷ 0 ∷ 0 ∷ 0 ∷ header ∷ 0x40 ∷ [])

-- it opens, and plays 8
pub opens : open_answer (clip (0x44 ∷ 0x53 ∷ 0x50 ∷ 0x43 ∷ []) 1 1) ≡ accepted tt
unfolding open_answer head_ok numbers_fit mark_ok entries_answer entry_answer loop_fits loop_ok loop_in total_in rate_in block_in loops_in blocks_in offset_in length_in header_in entry_zero_in
    numbers_ok frame_count last_frame_samples block_count body_bytes image_size block_offset block_length
opens = refl

pub plays : samples_in (clip (0x44 ∷ 0x53 ∷ 0x50 ∷ 0x43 ∷ []) 1 1) ≡ pos 8 ∷ []
unfolding samples_in samples_from block_samples body_in context_in blocks_in offset_in length_in header_in newest_in older_in coefficients_in coefficients_up_to
    signed_at play play_from take_header take_nibble next_sample nibble_at push_sample with_header predictor scale decode_sample signed_nibble clamp
plays = refl

-- blocks touched, with 14 samples a block and 2 blocks: a run to a block's edge does not touch the next
pub touches : (touched 14 0 14 2 ≡ 1) × (touched 14 0 15 2 ≡ 2) × (touched 14 13 1 2 ≡ 1) × (touched 14 13 2 2 ≡ 2) × (touched 14 14 1 2 ≡ 1) × (touched 14 14 0 2 ≡ 0)
unfolding touched
touches = (refl, refl, refl, refl, refl, refl)

-- twenty samples 1000, 1006 and so on to 1078 and six more of that, in two blocks of a frame, with a loop from sample 5 to before an end; with the header byte
-- and the history that the loop's entry tells
abbrev pub looped : ℕ → ℕ → List ℕ → List ℕ
looped end told history =
    (0x44 ∷ 0x53 ∷ 0x50 ∷ 0x43 ∷ 0 ∷ 0 ∷ 0 ∷ 20 ∷ 0 ∷ 0 ∷ 0x7D ∷ 0 ∷ 0 ∷ 0 ∷ 0 ∷ 8 ∷ 8 ∷ [])
    ++ replicate 31 0
    ++ (0 ∷ 7 ∷ 0 ∷ 1 ∷ 0 ∷ 0 ∷ 0 ∷ 2 ∷ [])
    ++ (0 ∷ 0 ∷ 0 ∷ 104 ∷ 0 ∷ 0 ∷ 0 ∷ 16 ∷ 0 ∷ 0 ∷ 0x03 ∷ 0xE8 ∷ 0x03 ∷ 0xDE ∷ 0 ∷ 0 ∷ [])
    ++ (0 ∷ 0 ∷ 0 ∷ 112 ∷ 0 ∷ 0 ∷ 0 ∷ 8 ∷ 0 ∷ 7 ∷ 0x04 ∷ 0x36 ∷ 0x04 ∷ 0x30 ∷ 0 ∷ 0 ∷ [])
    ++ (0 ∷ 0 ∷ 0 ∷ 5 ∷ 0 ∷ 0 ∷ 0 ∷ end ∷ 0 ∷ told ∷ [])
    ++ history
    ++ (0 ∷ 0 ∷ 0 ∷ 0x06 ∷ 0x66 ∷ 0x66 ∷ 0x66 ∷ 0x66 ∷ 0x66 ∷ 0x66 ∷ 7 ∷ 0 ∷ 0 ∷ 0 ∷ [])

-- the history at its start: samples 4 and 3
abbrev pub before : List ℕ
before = 0x04 ∷ 0x00 ∷ 0x03 ∷ 0xFA ∷ []

-- it opens whatever the history; an end at the start or beyond N, another header byte, an upper one (byte 96) or a last byte (103) that is not zero is 24
pub loop-opens : (open_answer (looped 17 0 before) ≡ accepted tt) × (open_answer (looped 17 0 (replicate 4 0)) ≡ accepted tt) × (open_answer (looped 20 0 before) ≡ accepted tt)
    × (open_answer (looped 5 0 before) ≡ refused 24) × (open_answer (looped 21 0 before) ≡ refused 24) × (open_answer (looped 17 1 before) ≡ refused 24)
    × (open_answer (set (looped 17 0 before) 96 1) ≡ refused 24) × (open_answer (set (looped 17 0 before) 103 1) ≡ refused 24)
unfolding open_answer head_ok numbers_fit mark_ok entries_answer entry_answer loop_fits loop_ok loop_in total_in rate_in block_in loops_in blocks_in offset_in length_in header_in entry_zero_in
    numbers_ok frame_count last_frame_samples block_count body_bytes image_size block_offset block_length
loop-opens = (refl, refl, refl, refl, refl, refl, refl, refl)

-- block 0 is played from the stored history, here zeros, and block 1 from its own; with that of samples 4 and 3 a turn is samples 5 to 16
pub loop-plays :
    (loop_once (looped 17 0 (replicate 4 0)) ≡ pos 6 ∷ pos 12 ∷ pos 18 ∷ pos 24 ∷ pos 30 ∷ pos 36 ∷ pos 42 ∷ pos 48 ∷ pos 54 ∷ pos 1078 ∷ pos 1078 ∷ pos 1078 ∷ [])
    × (loop_once (looped 17 0 before) ≡ pos 1030 ∷ pos 1036 ∷ pos 1042 ∷ pos 1048 ∷ pos 1054 ∷ pos 1060 ∷ pos 1066 ∷ pos 1072 ∷ pos 1078 ∷ pos 1078 ∷ pos 1078 ∷ pos 1078 ∷ [])
unfolding loop_once samples_on rest_in loop_in loop_context_in loops_in block_in samples_from block_samples body_in context_in blocks_in offset_in length_in header_in newest_in older_in coefficients_in coefficients_up_to
    signed_at sample_to_address play play_from take_header take_nibble next_sample nibble_at push_sample with_header predictor scale decode_sample signed_nibble clamp
loop-plays = (refl, refl)
