-- Where frames stand within an image.
use mathlib.Core.Bool.{Bool, true, false, cond}
use mathlib.Core.List.{List}
use mathlib.Core.Path.{◌≡◌, refl, sym, ap, ◌∙◌, subst}
use Prim.Native.Nat.{ℕ, ◌+◌, ◌-◌, ◌*◌, ◌/◌, ◌%◌, ◌≤◌, ◌<◌}
use native.Mathlib.Omega.{arith}
use borrow.Author.Tests.{ltb-true, ltb-false, lt-ltb, le-ltb}
use lib.Dec.{ltb}
use lib.ListN.{length}
use Rattle.layout.specs.Sizes.{bodies_place, last_frame_samples, block_count, body_bytes, image_size}
use Rattle.whole.specs.Frames.{frame_count}
use Rattle.layout.proofs.SizeLaws.{frames-some, frames-le, blocks-most, first_block}
use Rattle.image.specs.Reading.{shape_in, total_in, block_in}
use Rattle.image.specs.inner.Asked.{Opens, Found, Source}
use Rattle.image.specs.inner.ByFrames.{frame_samples, frame_place_in}

pub count-whole : (n i : ℕ) → i + 1 < frame_count n → frame_samples n i ≡ 14
unfolding frame_samples
count-whole n i h = rw (lt-ltb (i + 1) (frame_count n) h)

pub count-last : (n i : ℕ) → frame_count n ≤ i + 1 → frame_samples n i ≡ last_frame_samples n
unfolding frame_samples
count-last n i h = rw (le-ltb (i + 1) (frame_count n) h)

pub last-most : (n : ℕ) → 1 ≤ n → last_frame_samples n ≤ 14
unfolding last_frame_samples frame_count
last-most n h = (frames-some n h).2

-- a frame's count is at most fourteen, and its bytes are within the bodies
frame-fits : (n i : ℕ) → 1 ≤ n → i < frame_count n → (frame_samples n i ≤ 14) × (16 * i + 2 + frame_samples n i ≤ 2 * body_bytes n)
unfolding frame_samples body_bytes frame_count last_frame_samples
frame-fits n i s h = go (ltb (i + 1) (frame_count n)) refl
  where
    go : (t : Bool) → ltb (i + 1) (frame_count n) ≡ t → (cond t 14 (last_frame_samples n) ≤ 14) × (16 * i + 2 + cond t 14 (last_frame_samples n) ≤ 2 * (8 * (frame_count n - 1) + 1 + (last_frame_samples n + 1) / 2))
    go true e = let q = ltb-true (i + 1) (frame_count n) e in (omega arith, omega arith)
    go false e = let q = ltb-false (i + 1) (frame_count n) e in (last-most n s, omega arith)

pub count_most : (n i : ℕ) → 1 ≤ n → i < frame_count n → frame_samples n i ≤ 14
count_most n i s h = (frame-fits n i s h).0

-- what is known of frame i's place
pub record Placed (l : List ℕ) (i : ℕ) : Type 0 where
  pub few : frame_samples (total_in l) i ≤ 14
  pub bytes : 2 * frame_place_in l i + 2 + frame_samples (total_in l) i ≤ 2 * length l
  pub blocks : block_count (shape_in l) ≤ 1048576
  pub frames : i < 1048576
  pub further : (shape_in l).extra ≤ 1

module _ (l : List ℕ) (block bodies i : ℕ) (s : Source l block bodies i) where
  pub placed : Placed l i
  unfolding frame_place_in image_size block_count body_bytes frame_count last_frame_samples
  placed =
      let L = s.opens.head.limits in
      let z = s.opens.head.size in
      let f = frame-fits (total_in l) i L.some s.frame in
      let m = frames-le (total_in l) L.few in
      let h = s.frame in
      record { few = f.0; bytes = omega (arith, f.1, z); blocks = blocks-most (shape_in l) L; frames = omega arith; further = omega arith }

  -- the byte as it is worked out from what was read
  pub place-made : bodies + 8 * i ≡ frame_place_in l i
  unfolding frame_place_in
  place-made = ap (λ (k : ℕ). k + 8 * i) s.bodies

  -- the block that frame i is the first of
  pub first_found : i % (block / 8) ≡ 0 → Found l (i / (block / 8))
  first_found e =
      let q : i % (block_in l / 8) ≡ 0 = ap (λ (b : ℕ). i % (b / 8)) (sym s.size) ∙ e in
      record {
        opens = s.opens;
        block = subst (λ (b : ℕ). i / (b / 8) < block_count (shape_in l)) (sym s.size) (first_block (shape_in l) i s.opens.head.limits s.frame q);
      }

-- frame i of an image that opens
pub source : (l : List ℕ) (block i : ℕ) → Opens l → block ≡ block_in l → i < frame_count (total_in l) → Source l block (bodies_place (shape_in l)) i
source l block i o e h = record { opens = o; size = e; bodies = refl; frame = h }
