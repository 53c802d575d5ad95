-- Opening: its tests and what it answers. Definitions only.
use Rattle.std.specs.Prelude.{Bool, true, not, cond, ◌&&◌, List, [], ◌∷◌, ◌≡◌, ℕ, zero, suc, ◌/◌, ◌≤◌, ◌<◌, eqb, leb, pos, length, get_or, replicate, Result, Ok, Err}
use Rattle.whole.specs.Outcome.{Outcome, accepted, refused_at, refused, answered, if_accepted, Effect, effect}
use Rattle.block.specs.declared.FrameContext.{FrameContext}
use Rattle.block.specs.Context.{new_context}
use Rattle.layout.specs.declared.Loop.{Loop}
use Rattle.layout.specs.declared.Shape.{Shape}
use Rattle.layout.specs.Fields.{mark}
use Rattle.layout.specs.Limits.{numbers_ok, loop_ok}
use Rattle.layout.specs.Sizes.{shape, no_loop, block_count, image_size, block_offset, block_length, frame_place}
use Rattle.image.specs.declared.Head.{Head}
use Rattle.image.specs.declared.Opening as Declared
use Rattle.image.specs.declared.Refusal.{Refusal}
use Rattle.image.specs.declared.Refusal.TheVariants.{LowestPair, OutputTooShort, BadHead, NoSuchBlock, NoSuchSample, BadOffset, BadLength, BadHeader, BadLoop}
use Rattle.image.specs.Reading.{total_in, rate_in, block_in, loops_in, blocks_in, shape_in, head_in, offset_in, length_in, header_in, entry_zero_in, loop_in, loop_context_in}

-- ---- answers

-- the number of each refusal in documents 01 and 02
abbrev pub code : Refusal → ℕ
code LowestPair = 13
code OutputTooShort = 14
code BadHead = 15
code NoSuchBlock = 17
code NoSuchSample = 19
code (BadOffset j) = 20
code (BadLength j) = 21
code (BadHeader j) = 22
code BadLoop = 24

-- the block whose entry is bad, 0 where none is named
abbrev pub bad_block : Refusal → ℕ
bad_block LowestPair = 0
bad_block OutputTooShort = 0
bad_block BadHead = 0
bad_block NoSuchBlock = 0
bad_block NoSuchSample = 0
bad_block (BadOffset j) = j
bad_block (BadLength j) = j
bad_block (BadHeader j) = j
bad_block BadLoop = 0

-- a refusal's number, and the block that it names
abbrev pub refusal : {A : Type 0} → Refusal → Outcome A
refusal r = refused_at (code r) (bad_block r)

-- what an answer says: accepted, with its values, or the refusal
abbrev pub outcome : {A : Type 0} → Result A Refusal → Outcome A
outcome = answered code bad_block

-- a refusal, or else what the next tests say
abbrev pub and_then : Outcome Unit → Outcome Unit → Outcome Unit
and_then (accepted u) next = next
and_then (refused_at n j) next = refused_at n j

-- ---- 15

-- the bytes from place i on are these
abbrev pub holds : List ℕ → ℕ → List ℕ → Bool
holds l i [] = true
holds l i (v ∷ vs) = eqb (get_or l i 0) v && holds l (suc i) vs

-- "wrong mark"
unfoldable pub mark_ok : List ℕ → Bool
mark_ok l = holds l 0 mark

-- "N, rate, B, K or the zero bytes not as in 2 or outside the limits of 1, 4 and 5, or under S bytes"; "15 allows 0 or 1 at 50", and uses "the new S"
unfoldable pub numbers_fit : ℕ → ℕ → ℕ → ℕ → ℕ → ℕ → Bool
numbers_fit total rate block kk loops len =
    let s = shape total block loops in
    numbers_ok 0 total block rate && (leb loops 1 && (eqb kk (block_count s) && leb (image_size s) len))

-- "under 56 bytes", and the rest
unfoldable pub head_ok : List ℕ → Bool
head_ok l = leb 56 (length l) && (mark_ok l && numbers_fit (total_in l) (rate_in l) (block_in l) (blocks_in l) (loops_in l) (length l))

-- ---- 20, 21, 22

-- an entry with offset, length and zero bytes as in section 2, and its body's first byte as predictor-and-scale
pub record EntryFits (l : List ℕ) (s : Shape) (j : ℕ) : Type 0 where
  pub offset : offset_in l j ≡ block_offset s j
  pub nibbles : length_in l j ≡ block_length s j
  pub zeros : entry_zero_in l j ≡ 0
  pub header : header_in l j ≡ get_or l (block_offset s j) 0

-- "20 for an offset, 21 for a length or zero bytes, 22 for a predictor-and-scale", "tested in that sequence within an entry"
unfoldable pub entry_answer : List ℕ → Shape → ℕ → Outcome Unit
entry_answer l s j =
    cond (not (eqb (offset_in l j) (block_offset s j))) (refused_at 20 j)
    (cond (not (eqb (length_in l j) (block_length s j) && eqb (entry_zero_in l j) 0)) (refused_at 21 j)
    (cond (not (eqb (header_in l j) (get_or l (block_offset s j) 0))) (refused_at 22 j)
    (accepted tt)))

-- "entries in rising order": k entries from block j's on
unfoldable pub entries_answer : List ℕ → Shape → ℕ → ℕ → Outcome Unit
entries_answer l s j zero = accepted tt
entries_answer l s j (suc k) = and_then (entry_answer l s j) (entries_answer l s (suc j) k)

-- ---- 24

-- a loop whose start and end keep the rule of 23, with the header byte of the frame that holds the start, and two zero bytes
pub record LoopRight (l : List ℕ) : Type 0 where
  pub below : (loop_in l).start < (loop_in l).end
  pub within : (loop_in l).end ≤ total_in l
  pub header : header_in l (blocks_in l) ≡ get_or l (frame_place (shape_in l) ((loop_in l).start / 14)) 0
  pub zeros : entry_zero_in l (blocks_in l) ≡ 0

-- not "24 when the stored start and end break that rule, the stored header byte isn't that frame's or the last two bytes aren't zero": the rule of 23
-- first, by which there is a frame that holds the start
unfoldable pub loop_fits : List ℕ → Bool
loop_fits l =
    let p = loop_in l in
    let kk = blocks_in l in
    loop_ok p (total_in l) && cond p.present (eqb (header_in l kk) (get_or l (frame_place (shape_in l) (p.start / 14)) 0) && eqb (entry_zero_in l kk) 0) true

-- ---- opening

-- codes 15; 20, 21, 22; 24, "after 22"
unfoldable pub open_answer : List ℕ → Outcome Unit
open_answer l =
    cond (not (head_ok l)) (refused 15)
    (and_then (entries_answer l (shape_in l) 0 (block_count (shape_in l)))
    (cond (not (loop_fits l)) (refused 24)
    (accepted tt)))

-- what opening tells: the head's values, the loop and the context at its start
pub record Told : Type 0 where
  pub head : Head
  pub looped : Loop
  pub context : FrameContext

abbrev pub told : Head → Loop → FrameContext → Told
told h p c = record { head = h; looped = p; context = c }

-- what a refused opening gives: all zeros
abbrev pub no_head : Head
no_head = record { total = 0; rate = 0; block = 0; gain = 0; coefficients = replicate 16 (pos 0); blocks = 0 }

-- what opening gives, told; refused, all zeros
abbrev pub told_by : Result Declared.Opening Refusal → Told
told_by (Ok o) = told o.head o.looped o.context
told_by (Err r) = told no_head no_loop new_context

-- an image is opened: the outcome, and what it tells
unfoldable pub open_image : List ℕ → Effect (Outcome Unit) Told
open_image l = let o = open_answer l in effect o (if_accepted o (told (head_in l) (loop_in l) (loop_context_in l)) (told no_head no_loop new_context))
