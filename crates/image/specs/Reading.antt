-- What the bytes of an image say. Definitions only.
use Rattle.std.specs.Prelude.{true, cond, List, [], ◌∷◌, ◌++◌, ℕ, zero, suc, ◌+◌, ◌*◌, eqb, ℤ}
use Rattle.std.specs.Int.{w16}
use Rattle.std.proofs.Common.{to_z}
use Rattle.block.specs.declared.FrameContext.{FrameContext}
use Rattle.block.specs.Context.{history_with, context_with, new_context}
use Rattle.layout.specs.declared.Loop.{Loop}
use Rattle.layout.specs.declared.Shape.{Shape}
use Rattle.layout.specs.Fields.{at16, at32}
use Rattle.layout.specs.Sizes.{shape, no_loop, entry_place}
use Rattle.image.specs.declared.Head.{Head}

-- "4 N; 8 rate; 12 B (four bytes each)", "48 gain; 50 two zero bytes; 52 K (four bytes)"; with a loop "Head bytes 50 to 51 become 1"
unfoldable pub total_in : List ℕ → ℕ
total_in l = at32 l 4

unfoldable pub rate_in : List ℕ → ℕ
rate_in l = at32 l 8

unfoldable pub block_in : List ℕ → ℕ
block_in l = at32 l 12

unfoldable pub gain_in : List ℕ → ℕ
gain_in l = at16 l 48

unfoldable pub loops_in : List ℕ → ℕ
loops_in l = at16 l 50

unfoldable pub blocks_in : List ℕ → ℕ
blocks_in l = at32 l 52

-- the signed number that two bytes are
unfoldable pub signed_at : List ℕ → ℕ → ℤ
signed_at l i = to_z w16 (at16 l i)

-- "16 coefficients, two bytes each": the first k
unfoldable pub coefficients_up_to : List ℕ → ℕ → List ℤ
coefficients_up_to l zero = []
coefficients_up_to l (suc k) = coefficients_up_to l k ++ (signed_at l (16 + 2 * k) ∷ [])

-- all sixteen
unfoldable pub coefficients_in : List ℕ → List ℤ
coefficients_in l = coefficients_up_to l 16

-- all the values of a head
unfoldable pub head_in : List ℕ → Head
head_in l = record { total = total_in l; rate = rate_in l; block = block_in l; gain = gain_in l; coefficients = coefficients_in l; blocks = blocks_in l }

-- N, B and the number of loops say what the shape of the clip is
abbrev pub shape_in : List ℕ → Shape
shape_in l = shape (total_in l) (block_in l) (loops_in l)

-- "body offset from the image start (4), length in nibbles (4), predictor-and-scale (2), newest history sample (2), older one (2), zero (2)"
unfoldable pub offset_in : List ℕ → ℕ → ℕ
offset_in l j = at32 l (entry_place j)

unfoldable pub length_in : List ℕ → ℕ → ℕ
length_in l j = at32 l (entry_place j + 4)

unfoldable pub header_in : List ℕ → ℕ → ℕ
header_in l j = at16 l (entry_place j + 8)

unfoldable pub newest_in : List ℕ → ℕ → ℤ
newest_in l j = signed_at l (entry_place j + 10)

unfoldable pub older_in : List ℕ → ℕ → ℤ
older_in l j = signed_at l (entry_place j + 12)

unfoldable pub entry_zero_in : List ℕ → ℕ → ℕ
entry_zero_in l j = at16 l (entry_place j + 14)

-- the context of block k's entry
unfoldable pub context_in : List ℕ → ℕ → FrameContext
context_in l k = context_with (header_in l k) (history_with (newest_in l k) (older_in l k))

-- "one entry … is added after the K others: loop start, loop end, the header byte of the frame that holds the start as two bytes, the two samples
-- played before the start, newest first …, two zero bytes": from its ninth byte on it is laid out as a block's is, so header, history and zero bytes are those of entry K
unfoldable pub loop_in : List ℕ → Loop
loop_in l = let at = entry_place (blocks_in l) in cond (eqb (loops_in l) 1) (record { start = at32 l at; end = at32 l (at + 4); present = true }) no_loop

-- the context at the loop's start, as it is stored; zeros without a loop
unfoldable pub loop_context_in : List ℕ → FrameContext
loop_context_in l = cond (loop_in l).present (context_in l (blocks_in l)) new_context
