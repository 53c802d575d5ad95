-- Bits of an image that do not count where it is compared. Definitions only.
use Rattle.std.specs.Prelude.{true, List, ◌≡◌, ℕ, ◌+◌, ◌/◌, ◌%◌, ◌≤◌, ◌<◌, length, get_or}
use Rattle.whole.specs.Frames.{frame_count}
use Rattle.layout.specs.declared.Shape.{Shape}
use Rattle.layout.specs.Sizes.{last_frame_samples, block_count, entry_place, image_size, block_offset, frame_place}
use Rattle.image.specs.Reading.{shape_in, blocks_in, header_in, loop_in}

-- where a header byte stands: in a frame, "also where a context or the loop entry repeats it"; the loop's entry, where there is one, follows those of the K blocks
pub data HeaderPlace (s : Shape) : ℕ → Type 0 where
  of-frame : {i : ℕ} → (f : ℕ) → f < frame_count s.total → i ≡ frame_place s f → HeaderPlace s i
  of_entry : {i : ℕ} → (j : ℕ) → j < block_count s + s.extra → i ≡ entry_place j + 9 → HeaderPlace s i

-- byte i of two images of one shape as far as it counts: all of it; "The unused top bit of a header" apart; "the spare nibble of an odd tail" apart
pub data CountsAlike (s : Shape) (a b : List ℕ) (i : ℕ) : Type 0 where
  whole-byte : get_or b i 0 ≡ get_or a i 0 → CountsAlike s a b i
  but-top-bit : HeaderPlace s i → get_or b i 0 % 128 ≡ get_or a i 0 % 128 → CountsAlike s a b i
  but-spare-nibble : i + 1 ≡ image_size s → last_frame_samples s.total % 2 ≡ 1 → get_or b i 0 / 16 ≡ get_or a i 0 / 16 → CountsAlike s a b i

-- b has every byte of image a as far as it counts, and each header of a block's first frame, and of the frame that holds the loop's start, again in the entry
pub record Uncounted (a b : List ℕ) : Type 0 where
  pub long : image_size (shape_in a) ≤ length b
  pub bytes : (i : ℕ) → i < image_size (shape_in a) → CountsAlike (shape_in a) a b i
  pub entries : (j : ℕ) → j < blocks_in a → header_in b j ≡ get_or b (block_offset (shape_in a) j) 0
  pub looped : (loop_in a).present ≡ true → header_in b (blocks_in a) ≡ get_or b (frame_place (shape_in a) ((loop_in a).start / 14)) 0
