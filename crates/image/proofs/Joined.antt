-- An image's frames in turn are its blocks in turn; the samples of an image are N.
use mathlib.Core.List.{List, [], ◌++◌, append_assoc, append-nil}
use mathlib.Core.Path.{◌≡◌, refl, sym, ap, ◌∙◌}
use Prim.Native.Nat.{ℕ, zero, suc, ◌+◌, ◌-◌, ◌*◌, ◌/◌, ◌≤◌, ◌<◌, min}
use native.Mathlib.Omega.{arith}
use lib.IntN.{ℤ}
use lib.ListN.{length, take}
use lib.Seq.{take-length, take-append-le}
use Rattle.block.specs.Frame.{Playing, playing}
use Rattle.block.specs.inner.Frames.{play_frame}
use Rattle.block.proofs.LawsPlay.{onto, frame-onto, frame-count}
use Rattle.layout.specs.Sizes.{last_frame_samples, block_count}
use Rattle.whole.specs.Frames.{frame_count}
use Rattle.layout.proofs.SizeLaws.{blocks-all, frames-some, block-first}
use Rattle.image.specs.Reading.{shape_in, total_in, block_in, coefficients_in}
use Rattle.image.specs.inner.Asked.{Opens, Found}
use Rattle.image.specs.inner.ByFrames.{frame_samples, frame_place_in, context_before, frames_in}
use Rattle.image.specs.Sameness.{block_samples, samples_from, samples_in}
use Rattle.image.proofs.BlockFrames.{frames-next, block-frames}
use Rattle.image.proofs.FramePlaces.{count-whole, count-last}
use Rattle.image.proofs.BlockShape.{block-shape}

-- ---- blocks in turn

-- a block more
pub samples-snoc : (l : List ℕ) (j k t : ℕ) → t ≡ j + k → samples_from l j (suc k) ≡ samples_from l j k ++ block_samples l t
unfolding samples_from
samples-snoc l j zero t e = let z : j ≡ t = omega arith in append-nil (block_samples l j) ∙ ap (block_samples l) z
samples-snoc l j (suc k) t e =
    ap (λ (r : List ℤ). block_samples l j ++ r) (samples-snoc l (suc j) k t (omega arith))
    ∙ sym (append_assoc (block_samples l j) (samples_from l (suc j) k) (block_samples l t))

module _ (l : List ℕ) (o : Opens l) where
  -- the frames of the first j blocks
  pub frames-blocks : (j : ℕ) → j ≤ block_count (shape_in l) → (frames_in l (min (j * (block_in l / 8)) (frame_count (total_in l)))).samples ≡ samples_from l 0 j
  unfolding frames_in samples_from
  frames-blocks zero h =
      let z : min (0 * (block_in l / 8)) (frame_count (total_in l)) ≡ 0 = omega arith in
      ap (λ (x : ℕ). (frames_in l x).samples) z
  frames-blocks (suc j) h =
      let L = o.head.limits in
      let f : Found l j = record { opens = o; block = omega arith } in
      let s = block-shape (shape_in l) L j f.block in
      let b = block-first (shape_in l) j L f.block in
      let e : min (j * (block_in l / 8)) (frame_count (total_in l)) ≡ j * (block_in l / 8) = omega arith in
      ap (λ (x : ℕ). (frames_in l x).samples) s.ends
      ∙ block-frames l j f
      ∙ ap (λ (x : List ℤ). x ++ block_samples l j) (ap (λ (x : ℕ). (frames_in l x).samples) (sym e) ∙ frames-blocks j (omega arith))
      ∙ sym (samples-snoc l 0 j j (omega arith))

  -- all the frames in turn are the blocks 0 to K−1 in turn
  pub frames-all : (frames_in l (frame_count (total_in l))).samples ≡ samples_in l
  unfolding samples_in
  frames-all =
      let c = blocks-all (shape_in l) o.head.limits in
      let e : frame_count (total_in l) ≡ min (block_count (shape_in l) * (block_in l / 8)) (frame_count (total_in l)) = omega arith in
      ap (λ (x : ℕ). (frames_in l x).samples) e
      ∙ frames-blocks (block_count (shape_in l)) (omega arith)
      ∙ ap (samples_from l 0) (sym o.head.blocks)

-- ---- a frame more

-- frame i alone, after the frames before it
abbrev pub turn_of : List ℕ → ℕ → Playing
turn_of l i = play_frame l (frame_place_in l i) (frame_samples (total_in l) i) (coefficients_in l) (playing (context_before l i (frames_in l i).context) [])

pub frames-grow : (l : List ℕ) (i : ℕ) → frames_in l (suc i) ≡ onto (frames_in l i).samples (turn_of l i)
frames-grow l i =
    frames-next l i
    ∙ ap (λ (xs : List ℤ). play_frame l (frame_place_in l i) (frame_samples (total_in l) i) (coefficients_in l) (playing (context_before l i (frames_in l i).context) xs))
    (sym (append-nil (frames_in l i).samples))
    ∙ frame-onto l (frame_place_in l i) (frame_samples (total_in l) i) (coefficients_in l) (frames_in l i).samples (playing (context_before l i (frames_in l i).context) [])

pub turn-count : (l : List ℕ) (i : ℕ) → length (turn_of l i).samples ≡ frame_samples (total_in l) i
turn-count l i = frame-count l (frame_place_in l i) (frame_samples (total_in l) i) (coefficients_in l) (playing (context_before l i (frames_in l i).context) []) ∙ omega arith

pub frames-more : (l : List ℕ) (i : ℕ) → length (frames_in l (suc i)).samples ≡ length (frames_in l i).samples + frame_samples (total_in l) i
frames-more l i =
    ap (λ (p : Playing). length p.samples) (frames-next l i)
    ∙ frame-count l (frame_place_in l i) (frame_samples (total_in l) i) (coefficients_in l) (playing (context_before l i (frames_in l i).context) (frames_in l i).samples)

-- the samples of earlier frames stand before those of later ones
pub frames-prefix : (l : List ℕ) (i d : ℕ) → (take (length (frames_in l i).samples) (frames_in l (d + i)).samples ≡ (frames_in l i).samples)
    × (length (frames_in l i).samples ≤ length (frames_in l (d + i)).samples)
frames-prefix l i zero =
    let z : 0 + i ≡ i = omega arith in
    (rw z (take-length (frames_in l i).samples), rw z (omega arith))
frames-prefix l i (suc d) =
    let z : suc d + i ≡ suc (d + i) = omega arith in
    let r = frames-prefix l i d in
    let m = frames-more l (d + i) in (
      rw (z, frames-grow l (d + i)) (take-append-le (length (frames_in l i).samples) (frames_in l (d + i)).samples (turn_of l (d + i)).samples r.1 ∙ r.0),
      rw z (omega (arith, r.1, m)),
    )

-- ---- counts

pub frames-before : (l : List ℕ) (i : ℕ) → i < frame_count (total_in l) → length (frames_in l i).samples ≡ 14 * i
unfolding frames_in
frames-before l zero h = refl
frames-before l (suc i) h =
    let c = count-whole (total_in l) i (omega arith) in
    let m = frames-more l i in
    let r = frames-before l i (omega arith) in
    omega (arith, c, m, r)

-- the samples of an image that opens are N
pub samples-count : (l : List ℕ) → Opens l → length (samples_in l) ≡ total_in l
unfolding last_frame_samples frame_count
samples-count l o =
    let n = total_in l in
    let s = frames-some n o.head.limits.some in
    let e : frame_count n ≡ suc (frame_count n - 1) = omega arith in
    let c = count-last n (frame_count n - 1) (omega arith) in
    let m = frames-more l (frame_count n - 1) in
    let r = frames-before l (frame_count n - 1) (omega arith) in
    ap length (sym (frames-all l o)) ∙ ap (λ (x : ℕ). length (frames_in l x).samples) e ∙ m ∙ omega (arith, s, c, r)
