-- Images whose first S bytes are equal are the same.
use mathlib.Core.Bool.{true}
use mathlib.Core.List.{List}
use mathlib.Core.Path.{◌≡◌, sym, ap₂, ◌∙◌}
use Prim.Native.Nat.{ℕ, ◌+◌, ◌*◌, ◌/◌, ◌≤◌, ◌<◌}
use native.Mathlib.Omega.{arith}
use lib.ListN.{length, get_or}
use Rattle.whole.specs.Frames.{frame_count}
use Rattle.whole.specs.Outcome.{accepted}
use Rattle.layout.specs.declared.Shape.{Shape}
use Rattle.layout.specs.Limits.{Limits}
use Rattle.layout.specs.Sizes.{last_frame_samples, block_count, body_bytes, entry_place, image_size, block_offset, frame_place}
use Rattle.image.specs.Reading.{shape_in, blocks_in, header_in, loop_in}
use Rattle.image.specs.Sameness.{compare_answer, same}
use Rattle.image.specs.Uncounted.{whole-byte, Uncounted}
use Rattle.image.specs.inner.Asked.{Opens}
use Rattle.image.proofs.BlockShape.{block-shape}
use Rattle.image.proofs.LawsBody.{body_end}
use Rattle.image.proofs.LawsLoop.{loop-one, loop-told, loop-within}
use Rattle.image.proofs.LawsSame.{compare-accepted}
use Rattle.image.proofs.UncountedBits.{uncounted-same}

-- a frame that holds a sample begins within the image
frame-within : (s : Shape) (x : ℕ) → x < s.total → frame_place s (x / 14) < image_size s
unfolding image_size body_bytes frame_count last_frame_samples
frame-within s x h = omega (arith, h)

-- so does a body
body-within : (s : Shape) (j : ℕ) → Limits s → j < block_count s → block_offset s j < image_size s
body-within s j L h = let b = block-shape s L j h in let e = body_end s j L h in omega (arith, b.split, b.two, e)

-- and an entry stands there
entry-within : (s : Shape) (j : ℕ) → j < block_count s + s.extra → entry_place j + 16 ≤ image_size s
unfolding image_size
entry-within s j h = omega (arith, h)

module _ (a b : List ℕ) (o : Opens a) (f : (i : ℕ) → i < image_size (shape_in a) → get_or b i 0 ≡ get_or a i 0) where
  header-again : (j : ℕ) → j < block_count (shape_in a) + (shape_in a).extra → header_in b j ≡ header_in a j
  unfolding header_in
  header-again j h =
      let w = entry-within (shape_in a) j h in
      ap₂ (λ (x y : ℕ). x * 256 + y) (f (entry_place j + 8) (omega (arith, w))) (f (entry_place j + 8 + 1) (omega (arith, w)))

  nothing-counts : image_size (shape_in a) ≤ length b → Uncounted a b
  nothing-counts m =
      let k = o.head.blocks in
      record {
        long = m;
        bytes = λ i h. whole-byte (f i h);
        entries = λ j h.
            let w : j < block_count (shape_in a) = omega (arith, h, k) in
            header-again j (omega (arith, w)) ∙ (o.entries j w).header ∙ sym (f (block_offset (shape_in a) j) (body-within (shape_in a) j o.head.limits w));
        looped = λ p.
            let w = loop-within a o p in
            let x = loop-one a p in
            header-again (blocks_in a) (omega (arith, x, k))
            ∙ (loop-told a o p).0
            ∙ sym (f (frame_place (shape_in a) ((loop_in a).start / 14)) (frame-within (shape_in a) (loop_in a).start (omega (arith, w.0, w.1))));
      }

-- Bytes from S on do not count, and equal bytes before them are enough.
pub equal-bytes-same : (a b : List ℕ) → compare_answer a ≡ accepted tt → image_size (shape_in a) ≤ length b
    → ((i : ℕ) → i < image_size (shape_in a) → get_or b i 0 ≡ get_or a i 0) → same a b ≡ accepted true
equal-bytes-same a b e m f = uncounted-same a b e (nothing-counts a b (compare-accepted a e).opens f m)
