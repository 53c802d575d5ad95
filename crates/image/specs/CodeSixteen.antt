-- Document 01's code 16, in whose place 20, 21 and 22 stand. Definitions only.
use Rattle.std.specs.Prelude.{Bool, true, not, cond, ◌&&◌, List, ◌≢◌, ◌≡◌, ℕ, zero, suc, eqb, leb, ℤ, length, get_or}
use Rattle.whole.specs.Outcome.{Outcome, accepted, refused_at, refused, with_values}
use Rattle.block.specs.Address.{address_to_sample}
use Rattle.block.specs.Refusals.{lowest_pair}
use Rattle.layout.specs.declared.Shape.{Shape}
use Rattle.layout.specs.Sizes.{block_count, block_offset, block_length}
use Rattle.image.specs.Reading.{shape_in, blocks_in, total_in, coefficients_in, offset_in, length_in, header_in, entry_zero_in}
use Rattle.image.specs.Opening.{and_then, head_ok, loop_fits, open_image}
use Rattle.image.specs.Bodies.{block_answer}
use Rattle.image.specs.Looping.{play_loop}
use Rattle.image.specs.Part.{play_from}
use Rattle.image.specs.Playing.{room_answer, play}
use Rattle.image.specs.WholeImage.{play_all}
use Rattle.image.specs.Sameness.{same_sound, agree, same, sounds_same}

-- not "an entry's offset, length or zero bytes are not as in 2, or its predictor-and-scale isn't its body's first byte"
unfoldable pub entry_ok : List ℕ → Shape → ℕ → Bool
entry_ok l s j = eqb (offset_in l j) (block_offset s j) && (eqb (length_in l j) (block_length s j) && (eqb (entry_zero_in l j) 0 && eqb (header_in l j) (get_or l (block_offset s j) 0)))

-- k entries from block j's on
unfoldable pub entries_ok : List ℕ → Shape → ℕ → ℕ → Bool
entries_ok l s j zero = true
entries_ok l s j (suc k) = entry_ok l s j && entries_ok l s (suc j) k

-- codes 15, 16, 24: opening as document 01 has it, but that 15, S and the offsets are as change 5/13 has them and that its 24 follows
unfoldable pub open_answer16 : List ℕ → Outcome Unit
open_answer16 l =
    cond (not (head_ok l)) (refused 15)
    (cond (not (entries_ok l (shape_in l) 0 (block_count (shape_in l)))) (refused 16)
    (cond (not (loop_fits l)) (refused 24)
    (accepted tt)))

-- "Calls on an image run 15, 16 and 17 first; of two images the first is tested through 13 before the second"
unfoldable pub block_answer16 : List ℕ → ℕ → Outcome Unit
block_answer16 l k = and_then (open_answer16 l) (cond (leb (blocks_in l) k) (refused 17) (accepted tt))

unfoldable pub compare_answer16 : List ℕ → Outcome Unit
compare_answer16 l = and_then (open_answer16 l) (cond (lowest_pair (coefficients_in l)) (refused 13) (accepted tt))

-- 16 for 20, 21 and 22, with no block; every other answer as it is
abbrev pub as16 : {A : Type 0} → Outcome A → Outcome A
as16 (accepted a) = accepted a
as16 (refused_at n j) = cond (leb 20 n && leb n 22) (refused 16) (refused_at n j)

-- with 16 for 20, 21 and 22 every call of document 01 on image l, or on l and m, answers by opening as `open_answer16` has it, playing all by that and 13 and 14, comparing by `same` with the meaning of change 7/13, and names no block
pub record Where16Stood (l m : List ℕ) (k : ℕ) (out : List ℤ) : Type 0 where
  pub opening : as16 (open_image l).outcome ≡ open_answer16 l
  pub finding : as16 (block_answer l k) ≡ block_answer16 l k
  pub playing : let n = address_to_sample (length_in l k) in as16 (play l k out).outcome ≡ with_values (and_then (block_answer16 l k) (room_answer (coefficients_in l) n (length out))) n
  pub playing-all : let n = total_in l in as16 (play_all l out).outcome ≡ with_values (and_then (open_answer16 l) (room_answer (coefficients_in l) n (length out))) n
  pub comparing : as16 (same l m) ≡ with_values (and_then (compare_answer16 l) (compare_answer16 m)) (agree l m)
  pub comparing-sound : as16 (sounds_same l m) ≡ with_values (and_then (compare_answer16 l) (compare_answer16 m)) (same_sound l m)

-- no call on image l, or on l and m, is refused by 16
pub record Never16 (l m : List ℕ) (k : ℕ) (out : List ℤ) : Type 0 where
  pub opening : (j : ℕ) → (open_image l).outcome ≢ refused_at 16 j
  pub finding : (j : ℕ) → block_answer l k ≢ refused_at 16 j
  pub playing : (j : ℕ) → (play l k out).outcome ≢ refused_at 16 j
  pub playing-all : (j : ℕ) → (play_all l out).outcome ≢ refused_at 16 j
  pub playing-from : (first j : ℕ) → (play_from l first out).outcome ≢ refused_at 16 j
  pub playing-loop : (times j : ℕ) → (play_loop l times out).outcome ≢ refused_at 16 j
  pub comparing : (j : ℕ) → same l m ≢ refused_at 16 j
  pub comparing-sound : (j : ℕ) → sounds_same l m ≢ refused_at 16 j
