-- "The bodies follow joined": the bodies of an image's blocks, one after the other, are the part of it from the first one on.
use mathlib.Core.List.{List}
use mathlib.Core.Path.{◌≡◌, refl, sym, ap, ap₂, ◌∙◌}
use Prim.Native.Nat.{ℕ, zero, suc, ◌+◌, ◌-◌, ◌*◌, ◌/◌, ◌<◌}
use native.Mathlib.Nat.{suc-mul}
use native.Mathlib.Omega.{arith}
use lib.ListN.{take, drop}
use Rattle.whole.specs.Outcome.{accepted}
use Rattle.layout.specs.Limits.{Limits}
use Rattle.layout.specs.Sizes.{block_count, body_bytes, bodies_place, block_offset, block_length}
use Rattle.layout.proofs.SizeLaws.{block-place}
use Rattle.image.specs.Reading.{total_in, block_in, shape_in, blocks_in}
use Rattle.image.specs.Opening.{open_answer}
use Rattle.image.specs.Bodies.{body_in}
use Rattle.image.specs.inner.Asked.{Opens}
use Rattle.image.proofs.OpenImages.{opened}
use Rattle.image.proofs.Places.{start-body}
use Rattle.dsp.specs.Export.{bodies_in}
use Rattle.dsp.specs.Returns.{bodies_up_to}
use Rattle.dsp.proofs.BlockLengths.{nibble-bytes, whole_length, last-length, blocks-some}
use Rattle.dsp.proofs.BytesAgain.{parts_are}

module _ (l : List ℕ) (o : Opens l) where
  -- where the bodies begin
  abbrev place : ℕ
  place = bodies_place (shape_in l)

  limits : Limits (shape_in l)
  limits = o.head.limits

  -- a block's body, by its offset and its bytes
  body-part : (k n : ℕ) → k < block_count (shape_in l) → (block_length (shape_in l) k + 1) / 2 ≡ n → take n (drop (place + k * block_in l) l) ≡ body_in l k
  unfolding body_in block_offset
  body-part k n h e =
      let f = o.entries k h in
      ap₂ (λ (m i : ℕ). take m (drop i l)) (sym e ∙ ap (λ (x : ℕ). (x + 1) / 2) (sym f.nibbles)) (sym f.offset)

  -- the bodies of whole blocks
  wholes : (k : ℕ) → k < block_count (shape_in l) → take (k * block_in l) (drop place l) ≡ bodies_up_to l k
  unfolding bodies_up_to
  wholes zero h = let z : 0 * block_in l ≡ 0 = omega arith in ap (λ (n : ℕ). take n (drop place l)) z
  wholes (suc k) h =
      let w = whole_length (shape_in l) limits k h in
      let p = block-place (block_in l) k limits.eights in
      let q = block-place (block_in l) (suc k) limits.eights in
      let d = suc-mul k (block_in l) in
      parts_are l (bodies_up_to l k) (body_in l k) place (k * block_in l) (place + k * block_in l) (block_in l) (suc k * block_in l)
      (wholes k (omega arith)) (body-part k (block_in l) (omega arith) (omega (arith, w, p, q, d))) refl d

  -- all bodies, where there are k and the last
  all : (k : ℕ) → suc k ≡ block_count (shape_in l) → take (body_bytes (total_in l)) (drop place l) ≡ bodies_up_to l (suc k)
  unfolding bodies_up_to
  all k e =
      let n = body_bytes (total_in l) - k * block_in l in
      let w = last-length (shape_in l) limits k e in
      let h = nibble-bytes (total_in l) limits.some in
      let b = start-body (shape_in l) k limits (omega (arith, e)) in
      let p = block-place (block_in l) k limits.eights in
      parts_are l (bodies_up_to l k) (body_in l k) place (k * block_in l) (place + k * block_in l) n (body_bytes (total_in l))
      (wholes k (omega (arith, e))) (body-part k n (omega (arith, e)) (omega (arith, w, h, p))) refl (omega (arith, b))

-- the bodies of all blocks
pub bodies-joined : (l : List ℕ) → open_answer l ≡ accepted tt → bodies_up_to l (blocks_in l) ≡ bodies_in l
bodies-joined l a =
    let o = opened l a in
    let p = blocks-some (shape_in l) o.head.limits in
    let k = block_count (shape_in l) - 1 in
    let e : suc k ≡ block_count (shape_in l) = omega (arith, p) in
    ap (bodies_up_to l) (o.head.blocks ∙ sym e) ∙ sym (all l o k e)
