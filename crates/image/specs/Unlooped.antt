-- Opening an image without a loop, as it was before there were loops. Definitions only.
use Rattle.std.specs.Prelude.{Bool, not, cond, ◌&&◌, List, ℕ, eqb, leb, length}
use Rattle.whole.specs.Outcome.{Outcome, refused}
use Rattle.layout.specs.declared.Shape.{Shape}
use Rattle.layout.specs.Limits.{numbers_ok}
use Rattle.layout.specs.Sizes.{shape, block_count, image_size}
use Rattle.image.specs.Reading.{total_in, rate_in, block_in, loops_in, blocks_in}
use Rattle.image.specs.Opening.{mark_ok, entries_answer}

-- the shape that N and B alone say
abbrev pub plain_shape : List ℕ → Shape
plain_shape l = shape (total_in l) (block_in l) 0

-- not "under 56 bytes, wrong mark, N, rate, B, K or the zero bytes not as in 2 or outside the limits of 1, 4 and 5, or under S bytes"
unfoldable pub head_before : List ℕ → Bool
head_before l =
    let s = plain_shape l in
    leb 56 (length l)
    && (mark_ok l && (numbers_ok 0 (total_in l) (block_in l) (rate_in l) && (eqb (blocks_in l) (block_count s) && (eqb (loops_in l) 0 && leb (image_size s) (length l)))))

-- codes 15; 20, 21, 22
unfoldable pub open_before : List ℕ → Outcome Unit
open_before l = let s = plain_shape l in cond (not (head_before l)) (refused 15) (entries_answer l s 0 (block_count s))
