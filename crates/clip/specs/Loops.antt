-- What a loop does to an image, and what it does not. Definitions only.
use Rattle.std.specs.Prelude.{Bool, cond, List, ◌∷◌, ◌++◌, ◌≡◌, ℕ, ℤ, take, replicate}
use Rattle.layout.specs.declared.Loop.{Loop}
use Rattle.layout.specs.Fields.{be16, be32, mark, no_mark}
use Rattle.layout.specs.Sizes.{shape, block_count, body_bytes}
use Rattle.clip.specs.declared.starting.Start.{Start}
use Rattle.clip.specs.Image.{coefficient_bytes, table_bytes}
use Rattle.clip.specs.Runs.{history_at, encoded_at, bodies, passes_up_to, context_at, frames_done}

-- what a clip is started with, but for the loop
abbrev pub with_loop : Start → Loop → Start
with_loop g p = record { total = g.total; rate = g.rate; block = g.block; gain = g.gain; coefficients = g.coefficients; history = g.history; looped = p }

-- frames, their histories and passes, bodies and contexts of X are the same with another loop
pub record LoopApart (g : Start) (p : Loop) (xs : List ℤ) (k : ℕ) : Type 0 where
  pub history : history_at (with_loop g p) xs k ≡ history_at g xs k
  pub frame : encoded_at (with_loop g p) xs k ≡ encoded_at g xs k
  pub bodies : bodies (with_loop g p) xs k ≡ bodies g xs k
  pub passes : passes_up_to (with_loop g p) xs k ≡ passes_up_to g xs k
  pub contexts : (j : ℕ) → context_at (with_loop g p) xs k j ≡ context_at g xs k j

-- X's image as document 01 has it: "50 two zero bytes", and the bodies after the K entries
unfoldable pub image_before : Start → List ℤ → Bool → List ℕ
image_before g xs closed =
    let s = shape g.total g.block 0 in
    let k = frames_done g xs closed in
    cond closed mark no_mark
    ++ (be32 g.total ++ (be32 g.rate ++ (be32 g.block ++ (coefficient_bytes g.coefficients ++ (be16 g.gain ++ (0 ∷ 0 ∷ be32 (block_count s)
    ++ (table_bytes (context_at g xs k) s 0 (block_count s) ++ take (body_bytes g.total) (bodies g xs k ++ replicate (body_bytes g.total) 0))))))))
