-- Document 01's worked numbers: one theorem.
use mathlib.Core.Path.{◌≡◌, refl, ap, ◌∙◌}
use mathlib.Core.Bool.{true}
use mathlib.Core.List.{List, [], ◌∷◌, ◌++◌}
use Prim.Native.Nat.{ℕ, ◌+◌, ◌-◌, ◌*◌, ◌/◌, ◌≤◌, ◌<◌}
use native.Mathlib.Nat.{le-div_iff_mul-le, div-lt_iff_lt-mul}
use native.Mathlib.Omega.{arith}
use borrow.Author.Tests.{le-ltb}
use lib.IntN.{pos, negsuc}
use lib.ListN.{length, drop}
use Rattle.whole.specs.Frames.{frame_at, frame_count}
use Rattle.frame.specs.Frame.{pair_ok, pairs_ok, coefficients_ok}
use Rattle.frame.proofs.Worked.{quotients, frames}
use Rattle.block.specs.Context.{predictor, scale, push_sample, with_header}
use Rattle.block.specs.Frame.{nibble_at, next_sample, take_nibble}
use Rattle.block.specs.Play.{take_header, play_from, play}
use Rattle.block.specs.Sample.{decode_sample}
use Rattle.whole.specs.Whole.{signed_nibble, clamp}
use Rattle.block.proofs.Worked.{to-sample, to-address, header}
use Rattle.whole.specs.Outcome.{accepted}
use Rattle.layout.specs.Limits.{loop_ok}
use Rattle.layout.specs.Sizes.{shape, last_frame_samples, block_count, body_bytes, image_size, cut_down, block_offset, block_length}
use Rattle.clip.specs.Image.{cut, coefficient_bytes, head_bytes, entry_bytes, table_bytes, loop_bytes}
use Rattle.clip.specs.Encoding.{Left, start_answer, start}
use Rattle.clip.specs.Runs.{history_at, encoded_at, bodies, context_at, image_after, left_after, feeds, closes, plain_after, state_after, passes_up_to, loop_entry}
use Rattle.clip.proofs.WholeRuns.{encoding-states}
use Rattle.image.proofs.Worked.{plays}
use Rattle.round_trip.specs.Numbers.{of_nine, nine, heard, WorkedNumbers}

heard-are : (heard 0x00 0x80 ≡ negsuc 7 ∷ []) × (heard 0x01 0x40 ≡ pos 8 ∷ [])
unfolding play play_from take_header take_nibble next_sample nibble_at push_sample with_header predictor scale decode_sample signed_nibble clamp
heard-are = (refl, refl)

-- one frame is one block, whatever the block size
one_block : (b : ℕ) → 8 ≤ b → (8 * 1 + b - 1) / b ≡ 1
one_block b h =
    let z : 0 < b = omega arith in
    let lo : 1 ≤ (8 * 1 + b - 1) / b = (le-div_iff_mul-le {x = 1} {y = 8 * 1 + b - 1} z).1 (omega arith) in
    let hi : (8 * 1 + b - 1) / b < 2 = (div-lt_iff_lt-mul {x = 8 * 1 + b - 1} {y = 2} z).1 (omega arith) in
    omega arith

sizes-any : (b : ℕ) → 8 ≤ b → (image_size (shape 1 b 0) ≡ 74) × (image_size (shape 14 b 0) ≡ 80)
unfolding image_size body_bytes block_count last_frame_samples frame_count
sizes-any b h = let k = one_block b h in (omega (arith, k), omega (arith, k))

sizes-are : (image_size (shape 15 8 0) ≡ 98) × (image_size (shape 15 16 0) ≡ 82)
unfolding image_size body_bytes block_count last_frame_samples frame_count
sizes-are = (refl, refl)

started : (l : List ℕ) → 74 ≤ length l → (start of_nine l).outcome ≡ accepted tt
unfolding start start_answer loop_ok coefficients_ok pairs_ok pair_ok image_size body_bytes block_count last_frame_samples frame_count cut_down
started l h = rw (le-ltb (length l) 74 h)

image-is : image_after (cut of_nine) (pos 9 ∷ []) true ≡ nine
unfolding image_after loop_entry loop_bytes head_bytes coefficient_bytes table_bytes entry_bytes context_at bodies encoded_at history_at frame_at cut_down block_offset block_length image_size body_bytes block_count last_frame_samples frame_count
image-is = rw frames.3

pub worked : WorkedNumbers
unfolding left_after plain_after image_size body_bytes block_count last_frame_samples frame_count cut_down state_after image_after passes_up_to context_at bodies encoded_at history_at
worked =
    record {
      to-samples = (to-sample.0, to-sample.1, to-sample.2, to-sample.3, to-sample.4, to-sample.5, to-sample.6, to-sample.7);
      to-addresses = (to-address.0, to-address.1, to-address.2, to-address.3);
      headers = header;
      quantising = quotients;
      encoding = frames;
      playing = heard-are;
      sizes-any = sizes-any;
      sizes = sizes-are;
      image =
          λ l h.
          ap (λ (s : Left). s.bytes) (encoding-states of_nine l refl (started l h) (feeds (pos 9 ∷ []) ∷ closes ∷ [])) ∙ ap (λ (a : List ℕ). a ++ drop 74 l) image-is;
      sound = plays;
    }
