-- Where entries and bodies stand within an image of S bytes or more.
use Prim.Native.Nat.{ℕ, ◌+◌, ◌*◌, ◌≤◌, ◌<◌}
use native.Mathlib.Omega.{arith}
use Rattle.layout.specs.declared.Shape.{Shape}
use Rattle.layout.specs.Limits.{Limits}
use Rattle.layout.specs.Sizes.{block_count, entry_place, bodies_place, body_bytes, image_size, last_frame_samples}
use Rattle.layout.proofs.SizeLaws.{block-first, block-place, frames-le, blocks-most}
use Rattle.whole.specs.Frames.{frame_count}

-- a block's first byte is within the bodies
pub start-body : (s : Shape) (j : ℕ) → Limits s → j < block_count s → j * s.block < body_bytes s.total
unfolding body_bytes frame_count last_frame_samples
start-body s j L h =
    let f = block-first s j L h in
    let p = block-place s.block j L.eights in
    omega (arith, f, p)

-- what is known of block j's entry and body in an image of some length
pub record Within (s : Shape) (j len : ℕ) : Type 0 where
  pub entry : entry_place j + 16 ≤ len
  pub small : entry_place j + 16 < 67108864
  pub first : bodies_place s + j * s.block < len
  pub start : j * s.block < 8388608
  pub all : block_count s ≤ 1048576
  pub further : s.extra ≤ 1

-- an entry and its body's first byte are within the image
pub within : (s : Shape) (j len : ℕ) → Limits s → j < block_count s → image_size s ≤ len → Within s j len
unfolding image_size body_bytes block_count frame_count last_frame_samples
within s j len L h z =
    let a = start-body s j L h in
    let k = blocks-most s L in
    let f = block-first s j L h in
    let p = block-place s.block j L.eights in
    let m = frames-le s.total L.few in
    record { entry = omega arith; small = omega arith; first = omega arith; start = omega arith; all = k; further = L.further }
