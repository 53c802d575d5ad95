-- A block's frames, played in turn from the image, are the block played from its entry.
use mathlib.Core.List.{List, [], ◌++◌, append-nil}
use mathlib.Core.Path.{◌≡◌, refl, sym, ap, ap₂, ◌∙◌}
use Prim.Native.Nat.{ℕ, zero, suc, ◌+◌, ◌-◌, ◌*◌, ◌/◌, ◌%◌, ◌≤◌, ◌<◌}
use native.Mathlib.Nat.{add-zero, add-suc, mul-div_cancel, mul-mod_left, mul-add-mod_self_right, mod-eq_of_lt}
use native.Mathlib.Omega.{arith}
use borrow.Author.Tests.{eq-eqb, ne_eqb}
use lib.ListN.{get_or}
use Rattle.block.specs.Context.{with_header}
use Rattle.block.specs.Frame.{Playing, playing}
use Rattle.block.specs.inner.Frames.{play_frame, play_frames}
use Rattle.block.specs.Play.{take_header, play}
use Rattle.block.proofs.LawsPlay.{onto, frame-onto, repeats}
use Rattle.layout.specs.Sizes.{block_offset, block_count}
use Rattle.layout.proofs.SizeLaws.{block-place}
use Rattle.image.specs.Reading.{shape_in, total_in, block_in, coefficients_in, offset_in, length_in, context_in}
use Rattle.image.specs.inner.Asked.{Found}
use Rattle.image.specs.Bodies.{body_in}
use Rattle.image.specs.inner.ByFrames.{frame_samples, frame_place_in, context_before, frames_in}
use Rattle.image.specs.Sameness.{block_samples}
use Rattle.image.proofs.FramePlaces.{count-whole}
use Rattle.image.proofs.LawsBody.{found-offset, found-length}
use Rattle.image.proofs.Parts.{part_at, frame-part}
use Rattle.image.proofs.BlockShape.{BlockShape, block-shape}
use Rattle.whole.specs.Frames.{frame_count}

-- the turn of a frame
pub frames-next : (l : List ℕ) (i : ℕ) → frames_in l (suc i) ≡ play_frame l (frame_place_in l i) (frame_samples (total_in l) i) (coefficients_in l)
    (playing (context_before l i (frames_in l i).context) (frames_in l i).samples)
unfolding frames_in
frames-next l i = refl

module _ (l : List ℕ) (j : ℕ) (f : Found l j) where
  -- the frames before block j
  abbrev first : ℕ
  first = j * (block_in l / 8)

  abbrev S : BlockShape (shape_in l) j
  S = block-shape (shape_in l) f.opens.head.limits j f.block

  per-some : 0 < block_in l / 8
  per-some = let w = f.opens.head.limits.wide in omega arith

  -- the block after its first s frames and the next one's header
  abbrev after : ℕ → Playing
  after s = play_frames (body_in l j) (coefficients_in l) s (playing (context_in l j) [])

  -- where the block's frame s stands
  place : (s : ℕ) → offset_in l j + 8 * s ≡ frame_place_in l (first + s)
  unfolding frame_place_in block_offset block_count frame_count
  place s =
      let e = found-offset l j f in
      let p = block-place (block_in l) j f.opens.head.limits.eights in
      omega (arith, e, p)

  split : length_in l j ≡ 16 * S.wholes + S.rest
  split = found-length l j f ∙ S.split

  read-frame : (s count : ℕ) (p : Playing) → 16 * s + 2 + count ≤ length_in l j
      → play_frame l (frame_place_in l (first + s)) count (coefficients_in l) p ≡ play_frame (body_in l j) (8 * s) count (coefficients_in l) p
  unfolding body_in
  read-frame s count p h =
      ap (λ (x : ℕ). play_frame l x count (coefficients_in l) p) (sym (place s))
      ∙ sym (frame-part l (offset_in l j) ((length_in l j + 1) / 2) (8 * s) count (coefficients_in l) p (omega arith))

  read-header : (s : ℕ) → 16 * s + 1 ≤ length_in l j → get_or (body_in l j) (16 * s / 2) 0 ≡ get_or l (frame_place_in l (first + s)) 0
  unfolding body_in
  read-header s h =
      let e : 16 * s / 2 ≡ 8 * s = omega arith in
      rw e (part_at l (offset_in l j) ((length_in l j + 1) / 2) (8 * s) (omega arith) ∙ ap (λ (x : ℕ). get_or l x 0) (place s))

  -- ---- frame by frame

  -- where s frames of the block are played
  abbrev At : ℕ → Type 0
  At s =
      ((frames_in l (first + s)).samples ≡ (frames_in l first).samples ++ (after s).samples)
      × (context_before l (first + s) (frames_in l (first + s)).context ≡ (after s).context)

  at-start : At 0
  unfolding play_frames context_before
  at-start =
      let z : first + 0 ≡ first = add-zero first in
      let m : first % (block_in l / 8) ≡ 0 = mul-mod_left j (block_in l / 8) in
      let d : first / (block_in l / 8) ≡ j = mul-div_cancel j per-some in
      (rw z (sym (append-nil (frames_in l first).samples)), rw (z, eq-eqb (first % (block_in l / 8)) 0 m, d))

  -- one frame more, of any count
  turn : (s count : ℕ) → At s → frame_samples (total_in l) (first + s) ≡ count → 16 * s + 2 + count ≤ length_in l j
      → frames_in l (suc (first + s)) ≡ onto (frames_in l first).samples (play_frame (body_in l j) (8 * s) count (coefficients_in l) (after s))
  turn s count a e h =
      frames-next l (first + s)
      ∙ rw (e, a.0, a.1) refl
      ∙ frame-onto l (frame_place_in l (first + s)) count (coefficients_in l) (frames_in l first).samples (after s)
      ∙ ap (onto (frames_in l first).samples) (read-frame s count (after s) h)

  at_next : (s : ℕ) → s < S.wholes → At s → At (suc s)
  unfolding play_frames take_header context_before
  at_next s lt a =
      let w = S.within in
      let i = S.inside in
      let r = S.two in
      let n = split in
      let c : frame_samples (total_in l) (first + s) ≡ 14 = count-whole (total_in l) (first + s) (omega arith) in
      let t = turn s 14 a c (omega arith) in
      let k : first + suc s ≡ suc (first + s) = add-suc first s in
      let m : (first + suc s) % (block_in l / 8) ≡ suc s = mul-add-mod_self_right j (block_in l / 8) (suc s) ∙ mod-eq_of_lt (omega arith) in
      let o : ((first + suc s) % (block_in l / 8) ≡ 0) → ⊥ = λ z. omega (arith, m, z) in (
        ap (λ (x : ℕ). (frames_in l x).samples) k ∙ ap (λ (p : Playing). p.samples) t,
        rw (ne_eqb ((first + suc s) % (block_in l / 8)) 0 o)
            (ap₂ with_header (ap (λ (x : ℕ). (frames_in l x).context) k ∙ ap (λ (p : Playing). p.context) t) (sym (read-header (suc s) (omega arith)))),
      )

  in_block : (s : ℕ) → s ≤ S.wholes → At s
  in_block zero h = at-start
  in_block (suc s) h = at_next s (omega arith) (in_block s (omega arith))

  -- the whole block
  pub block-frames : (frames_in l (first + suc S.wholes)).samples ≡ (frames_in l first).samples ++ block_samples l j
  unfolding block_samples
  block-frames =
      let q = S.wholes in
      let w = S.two in
      let n = split in
      let t = turn q (S.rest - 2) (in_block q (omega arith)) S.last (omega arith) in
      let r = repeats (body_in l j) (coefficients_in l) q S.rest (context_in l j) (omega arith) S.most in
      ap (λ (x : ℕ). (frames_in l x).samples) (add-suc first q)
      ∙ ap (λ (p : Playing). p.samples) t
      ∙ ap (λ (p : Playing). (frames_in l first).samples ++ p.samples) (sym r ∙ ap (λ (x : ℕ). play (body_in l j) (coefficients_in l) x (context_in l j)) (sym n))
