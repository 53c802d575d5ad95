-- The sizes of a clip and the places in its image. Definitions only.
use Rattle.std.specs.Prelude.{false, cond, ℕ, ◌+◌, ◌-◌, ◌*◌, ◌/◌, ltb}
use Rattle.whole.specs.Frames.{frame_count}
use Rattle.layout.specs.declared.Shape.{Shape}
use Rattle.layout.specs.declared.Loop.{Loop}

-- a clip of N samples in blocks of B bytes, with x entries after those of its blocks
abbrev pub shape : ℕ → ℕ → ℕ → Shape
shape n b x = record { total = n; block = b; extra = x }

-- no loop
abbrev pub no_loop : Loop
no_loop = record { start = 0; end = 0; present = false }

-- a loop; zeros where there is none
abbrev pub told_loop : Loop → Loop
told_loop p = cond p.present p no_loop

-- how many entries a loop adds
abbrev pub loop_count : Loop → ℕ
loop_count p = cond p.present 1 0

-- "m = N − 14(F−1) the samples in its last frame"
unfoldable pub last_frame_samples : ℕ → ℕ
last_frame_samples n = n - 14 * (frame_count n - 1)

-- "Blocks K = ⌈8F/B⌉"
unfoldable pub block_count : Shape → ℕ
block_count s = (8 * frame_count s.total + s.block - 1) / s.block

-- "Body bytes T = 8(F−1) + 1 + ⌈m/2⌉"
unfoldable pub body_bytes : ℕ → ℕ
body_bytes n = 8 * (frame_count n - 1) + 1 + (last_frame_samples n + 1) / 2

-- where block j's entry stands: after the head of 56 bytes, 16 bytes each
abbrev pub entry_place : ℕ → ℕ
entry_place j = 56 + 16 * j

-- where the bodies begin: after the K entries and those that follow them
abbrev pub bodies_place : Shape → ℕ
bodies_place s = entry_place (block_count s + s.extra)

-- "Image size S = 56 + 16K + T"; with a loop "S grows by 16"
unfoldable pub image_size : Shape → ℕ
image_size s = bodies_place s + body_bytes s.total

-- "The block size is cut down to a multiple of 8, B"
unfoldable pub cut_down : ℕ → ℕ
cut_down size = size / 8 * 8

-- where block j's body begins: the bodies stand back to back; with a loop "body offsets move"
unfoldable pub block_offset : Shape → ℕ → ℕ
block_offset s j = bodies_place s + j * s.block

-- "A length is 16 for each whole frame and m + 2 for the last": B / 8 frames in every block but the last
unfoldable pub block_length : Shape → ℕ → ℕ
block_length s j =
    let per = s.block / 8 in
    let f = frame_count s.total in
    cond (ltb (j * per + per) f) (16 * per) (16 * (f - 1 - j * per) + (last_frame_samples s.total + 2))

-- where frame q's bytes stand
abbrev pub frame_place : Shape → ℕ → ℕ
frame_place s q = bodies_place s + 8 * q

-- where the context in block j's entry stands
abbrev pub context_place : ℕ → ℕ
context_place j = entry_place j + 8
