-- What an image that opens satisfies.
use Rattle.std.specs.Prelude.{true, false, List, ◌≡◌, ℕ, ◌+◌, ◌-◌, ◌*◌, ◌≤◌, ◌<◌, length}
use Rattle.block.specs.Address.{address_to_sample}
use Rattle.block.specs.Refusals.{lowest_pair}
use Rattle.layout.specs.Limits.{Limits}
use Rattle.layout.specs.Sizes.{block_count, bodies_place, image_size}
use Rattle.whole.specs.Frames.{frame_count}
use Rattle.image.specs.Reading.{total_in, rate_in, block_in, shape_in, loops_in, blocks_in, coefficients_in, length_in, loop_in}
use Rattle.image.specs.Opening.{EntryFits, mark_ok, loop_fits}
use Rattle.image.specs.Looping.{loop_length}
use Rattle.image.specs.Part.{per_block}

-- a head that 15 does not refuse
pub record Headed (l : List ℕ) : Type 0 where
  pub long : 56 ≤ length l
  pub marked : mark_ok l ≡ true
  pub limits : Limits (shape_in l)
  pub rate : 1 ≤ rate_in l
  pub blocks : blocks_in l ≡ block_count (shape_in l)
  pub loops : loops_in l ≤ 1
  pub size : image_size (shape_in l) ≤ length l

pub record Opens (l : List ℕ) : Type 0 where
  pub head : Headed l
  pub entries : (j : ℕ) → j < block_count (shape_in l) → EntryFits l (shape_in l) j
  pub looping : loop_fits l ≡ true

-- the image opens and has a block k
pub record Found (l : List ℕ) (k : ℕ) : Type 0 where
  pub opens : Opens l
  pub block : k < block_count (shape_in l)

-- what playing block k was accepted with
pub record Playable (l : List ℕ) (k room : ℕ) : Type 0 where
  pub found : Found l k
  pub pairs : lowest_pair (coefficients_in l) ≡ false
  pub enough : address_to_sample (length_in l k) ≤ room

-- what playing the whole image was accepted with
pub record AllPlayable (l : List ℕ) (room : ℕ) : Type 0 where
  pub opens : Opens l
  pub pairs : lowest_pair (coefficients_in l) ≡ false
  pub enough : total_in l ≤ room

-- the image opens, B and where the bodies begin are as they were read, and there is a frame i
pub record Source (l : List ℕ) (block at i : ℕ) : Type 0 where
  pub opens : Opens l
  pub size : block ≡ block_in l
  pub bodies : at ≡ bodies_place (shape_in l)
  pub frame : i < frame_count (total_in l)

-- n samples, one or more, from sample s of block k on are all in that block
pub record SomeOf (l : List ℕ) (k s n : ℕ) : Type 0 where
  pub found : Found l k
  pub some : 0 < n
  pub inside : s + n ≤ address_to_sample (length_in l k)

-- n samples from block k's first on are all in the clip; none where there is no block k
pub record Later (l : List ℕ) (k n : ℕ) : Type 0 where
  pub opens : Opens l
  pub inside : n ≤ total_in l - k * per_block l

-- n samples, one or more, from sample `first` on are all in the clip
pub record Run (l : List ℕ) (first n : ℕ) : Type 0 where
  pub opens : Opens l
  pub some : 0 < n
  pub inside : first + n ≤ total_in l

-- the image opens and has a loop, for so many turns of which there is room
pub record Turns (l : List ℕ) (times room : ℕ) : Type 0 where
  pub opens : Opens l
  pub present : (loop_in l).present ≡ true
  pub enough : times * loop_length l ≤ room
