-- The bytes of a clip image: head, contents, bodies. Definitions only.
use Rattle.std.specs.Prelude.{cond, List, [], ◌∷◌, ◌++◌, ℕ, zero, suc, ◌*◌, ℤ, replicate}
use Rattle.whole.specs.declared.History.{History}
use Rattle.block.specs.declared.FrameContext.{FrameContext}
use Rattle.layout.specs.declared.Shape.{Shape}
use Rattle.layout.specs.declared.Loop.{Loop}
use Rattle.layout.specs.Fields.{be16, be32, sample16, no_mark}
use Rattle.layout.specs.Sizes.{shape, told_loop, loop_count, block_count, body_bytes, cut_down, block_offset, block_length}
use Rattle.clip.specs.declared.starting.Start.{Start}

-- "The block size is cut down to a multiple of 8, B": what a clip is started with, after that, and with zeros for no loop
abbrev pub cut : Start → Start
cut g = record { total = g.total; rate = g.rate; block = cut_down g.block; gain = g.gain; coefficients = g.coefficients; history = g.history; looped = told_loop g.looped }

-- the shape of a clip that was started so
abbrev pub start_shape : Start → Shape
start_shape g = shape g.total g.block (loop_count g.looped)

-- "coefficients, two bytes each"
unfoldable pub coefficient_bytes : List ℤ → List ℕ
coefficient_bytes [] = []
coefficient_bytes (x ∷ xs) = sample16 x ++ coefficient_bytes xs

-- "Head: 0 to 3 the mark", "4 N; 8 rate; 12 B (four bytes each); 16 coefficients", "48 gain; 50 two zero bytes; 52 K (four bytes)"; with a loop "Head bytes 50 to 51 become 1"
unfoldable pub head_bytes : List ℕ → Start → List ℕ
head_bytes first g =
    first ++ (be32 g.total ++ (be32 g.rate ++ (be32 g.block
    ++ (coefficient_bytes g.coefficients ++ (be16 g.gain ++ (be16 (loop_count g.looped) ++ be32 (block_count (start_shape g))))))))

-- an entry's context: "predictor-and-scale (2), newest history sample (2), older one (2)"
abbrev pub context_bytes : ℕ → History → List ℕ
context_bytes header h = be16 header ++ (sample16 h.newest ++ sample16 h.older)

-- the context of a block whose first frame is not encoded yet
abbrev pub no_context : List ℕ
no_context = replicate 6 0

-- an entry of 16 bytes: "body offset from the image start (4), length in nibbles (4)", its context, "zero (2)"
unfoldable pub entry_bytes : Shape → ℕ → List ℕ → List ℕ
entry_bytes s j context = be32 (block_offset s j) ++ (be32 (block_length s j) ++ (context ++ (0 ∷ 0 ∷ [])))

-- k entries from block j on, each by a rule for its context
unfoldable pub table_bytes : (ℕ → List ℕ) → Shape → ℕ → ℕ → List ℕ
table_bytes context s j zero = []
table_bytes context s j (suc k) = entry_bytes s j (context j) ++ table_bytes context s (suc j) k

-- the entry that a loop adds "after the K others: loop start, loop end, the header byte of the frame that holds the start as two bytes, the two samples played before the start,
-- newest first", "two zero bytes"; none without a loop
unfoldable pub loop_bytes : Loop → FrameContext → List ℕ
loop_bytes p c =
    cond p.present (be32 p.start ++ (be32 p.end ++ (context_bytes c.predictor_and_scale c.last_samples ++ (0 ∷ 0 ∷ [])))) []

-- that entry before closing
abbrev pub no_loop_bytes : Loop → List ℕ
no_loop_bytes p = replicate (16 * loop_count p) 0

-- "Starting writes bytes 0 to S−1: four zeros for the mark, the head, offsets and lengths, the rest zero"
unfoldable pub fresh_bytes : Start → List ℕ
fresh_bytes g =
    head_bytes no_mark g
    ++ (table_bytes (λ (j : ℕ). no_context) (start_shape g) 0 (block_count (start_shape g)) ++ (no_loop_bytes g.looped ++ replicate (body_bytes g.total) 0))
