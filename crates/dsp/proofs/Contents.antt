-- What writing the image of a file stores.
use mathlib.Core.List.{List}
use mathlib.Core.Path.{◌≡◌, refl, sym, ap, ◌∙◌}
use Prim.Native.Nat.{ℕ, suc, ◌+◌, ◌-◌, ◌*◌, ◌/◌, ◌≤◌, ◌<◌}
use native.Mathlib.Nat.{zero-mul}
use native.Mathlib.Omega.{arith}
use lib.ListN.{length, get_or, take, drop, length-drop}
use lib.Seq.{sets, get_or-drop}
use Rattle.whole.proofs.Stores.{spread, part-all}
use Rattle.whole.specs.Frames.{frame_count}
use Rattle.block.specs.declared.FrameContext.{FrameContext}
use Rattle.block.specs.Context.{context_with, with_header}
use Rattle.block.specs.Play.{play_from, play}
use Rattle.layout.specs.declared.Shape.{Shape}
use Rattle.layout.specs.Fields.{mark, no_mark}
use Rattle.layout.specs.Limits.{Limits}
use Rattle.layout.specs.Sizes.{block_count, block_length, block_offset, bodies_place, body_bytes, image_size}
use Rattle.layout.proofs.SizeLaws.{block-place}
use Rattle.clip.specs.declared.starting.Start.{Start}
use Rattle.clip.specs.Image.{head_bytes, coefficient_bytes}
use Rattle.clip.proofs.FieldRuns.{head-length}
use Rattle.image.proofs.LawsBody.{body_end, length_some}
use Rattle.dsp.specs.File.{coefficients_of, context_at, first_of, bodies_of}
use Rattle.dsp.specs.Import.{history_before, context_before}
use Rattle.dsp.specs.inner.Asked.{Tabled}
use Rattle.dsp.proofs.BlockLengths.{whole_length}
use Rattle.dsp.proofs.PlayedInParts.{context_at_frame, history-on}

-- the mark in the place of four zeros
module _ (l : List ℕ) (g : Start) (sixteen : length g.coefficients ≡ 16) (room : 56 ≤ length l) where
  pub marked-head : sets (sets l 0 (head_bytes no_mark g)) 0 mark ≡ sets l 0 (head_bytes mark g)
  unfolding head_bytes coefficient_bytes block_count frame_count
  marked-head =
      let n = head-length no_mark g refl sixteen in
      let m = head-length mark g refl sixteen in
      ap (λ (m : List ℕ). sets m 0 mark) (spread (head_bytes no_mark g) l (omega (arith, n, room))) ∙ sym (spread (head_bytes mark g) l (omega (arith, m, room)))

-- a context is six bytes
pub context-six : (f : List ℕ) (b j : ℕ) → length (context_before f b j) ≡ 6
unfolding context_before
context-six f b j = refl

-- a body ends within the bodies
pub body-inside : (s : Shape) (k : ℕ) → Limits s → k < block_count s → k * s.block + (block_length s k + 1) / 2 ≤ body_bytes s.total
unfolding block_offset image_size
body-inside s k L h = omega (arith, body_end s k L h)

-- before the first block stands the file's first history
first-history : (f : List ℕ) → (context_at f 62).last_samples ≡ history_before f 0
unfolding history_before play play_from
first-history f = refl

pub history-start : (f : List ℕ) (b : ℕ) → (context_at f 62).last_samples ≡ history_before f (0 * b)
history-start f b = first-history f ∙ ap (history_before f) (sym (zero-mul b))

-- ---- the file's bodies from block k on

module _ (f : List ℕ) (s : Shape) (room : ℕ) (T : Tabled f s room) (k : ℕ) where
  abbrev per : ℕ
  per = s.block / 8

  -- the part of the bodies that is lent to playing
  pub part-is : take (length (bodies_of f) - k * s.block) (drop (k * s.block) (bodies_of f)) ≡ drop (8 * (k * (s.block / 8))) (bodies_of f)
  part-is =
      let e : k * s.block ≡ 8 * (k * per) = omega (arith, block-place s.block k T.limits.eights) in
      part-all (bodies_of f) (k * s.block) ∙ ap (λ (i : ℕ). drop i (bodies_of f)) e

  -- its first byte
  pub first_byte : get_or (take (length (bodies_of f) - k * s.block) (drop (k * s.block) (bodies_of f))) 0 0 ≡ get_or (bodies_of f) (k * s.block) 0
  first_byte =
      let e : 8 * (k * per) + 0 ≡ k * s.block = omega (arith, block-place s.block k T.limits.eights) in
      ap (λ (l : List ℕ). get_or l 0 0) part-is ∙ get_or-drop (8 * (k * per)) (bodies_of f) 0 0 ∙ ap (λ (i : ℕ). get_or (bodies_of f) i 0) e

  -- the context of block k's first frame
  abbrev current : FrameContext
  current = context_with (get_or (bodies_of f) (k * s.block) 0) (history_before f (k * (s.block / 8)))

  first-header : (first_of f).predictor_and_scale ≡ get_or (bodies_of f) 0 0
  unfolding context_at
  first-header = T.header

  current-is : context_at_frame (bodies_of f) (coefficients_of f) (first_of f) first-header (k * (s.block / 8)) ≡ current
  unfolding with_header history_before
  current-is =
      let e : 8 * (k * per) ≡ k * s.block = omega (arith, block-place s.block k T.limits.eights) in
      ap (λ (i : ℕ). context_with (get_or (bodies_of f) i 0) (history_before f (k * per))) e

  -- playing block k leaves the history before the next
  pub history-turn : suc k < block_count s → (play (drop (8 * (k * (s.block / 8))) (bodies_of f)) (coefficients_of f) (block_length s k) current).context.last_samples ≡ history_before f (suc k * (s.block / 8))
  unfolding history_before
  history-turn h =
      let n = block_length s k in
      let z : 0 < n = omega (arith, length_some s k T.limits (omega arith)) in
      ap (λ (c : FrameContext). (play (drop (8 * (k * per)) (bodies_of f)) (coefficients_of f) n c).context.last_samples) (sym current-is)
      ∙ ap (λ (c : FrameContext). c.last_samples) (sym (history-on (bodies_of f) (coefficients_of f) (first_of f) first-header (k * per) n z))
      ∙ ap (λ (m : ℕ). (play (bodies_of f) (coefficients_of f) m (first_of f)).context.last_samples) (whole_length s T.limits k h)

  -- the part has the nibbles of block k
  pub part-long : k < block_count s → (0 < block_length s k) × (block_length s k ≤ 2 * length (drop (8 * (k * (s.block / 8))) (bodies_of f)))
  part-long h =
      let b = body-inside s k T.limits h in
      let m = length_some s k T.limits h in
      let d = length-drop (8 * (k * per)) (bodies_of f) in
      let e = length-drop 96 f in
      let p = block-place s.block k T.limits.eights in
      (omega (arith, m), omega (arith, b, d, e, p, T.bodies))

  -- block k begins within the bodies
  pub part-there : k < block_count s → k * s.block < length (bodies_of f)
  part-there h =
      let b = body-inside s k T.limits h in
      let m = length_some s k T.limits h in
      let e = length-drop 96 f in
      omega (arith, b, m, e, T.bodies)

  -- the part that is lent to playing has the nibbles of block k
  pub lent : k < block_count s → (0 < block_length s k) × (block_length s k ≤ 2 * length (take (length (bodies_of f) - k * s.block) (drop (k * s.block) (bodies_of f))))
  lent h = rw part-is (part-long h)

-- where a block's body is, from where the bodies begin
pub offset-is : (s : Shape) (k p : ℕ) → p ≡ bodies_place s → p + k * s.block ≡ block_offset s k
unfolding block_offset block_count frame_count
offset-is s k p e = ap (λ (x : ℕ). x + k * s.block) e
