-- The frames of a block.
use mathlib.Core.Bool.{Bool, true, false}
use mathlib.Core.Path.{◌≡◌, refl, sym, ◌∙◌}
use Prim.Native.Nat.{ℕ, suc, ◌+◌, ◌-◌, ◌*◌, ◌/◌, ◌≤◌, ◌<◌, min}
use native.Mathlib.Nat.{suc-mul}
use native.Mathlib.Omega.{arith}
use borrow.Author.Tests.{ltb-true, ltb-false}
use lib.Dec.{ltb}
use Rattle.layout.specs.declared.Shape.{Shape}
use Rattle.layout.specs.Limits.{Limits}
use Rattle.layout.specs.Sizes.{last_frame_samples, block_count, block_length}
use Rattle.whole.specs.Frames.{frame_count}
use Rattle.layout.proofs.SizeLaws.{block-first}
use Rattle.image.specs.inner.ByFrames.{frame_samples}
use Rattle.image.proofs.FramePlaces.{count-whole, count-last, last-most}

-- block j's frames: those before its last, and the nibbles of its last
pub record BlockShape (s : Shape) (j : ℕ) : Type 0 where
  pub wholes : ℕ
  pub rest : ℕ
  pub split : block_length s j ≡ 16 * wholes + rest
  pub two : 2 ≤ rest
  pub most : rest ≤ 16
  pub inside : wholes < s.block / 8
  pub within : j * (s.block / 8) + wholes < frame_count s.total
  pub last : frame_samples s.total (j * (s.block / 8) + wholes) ≡ rest - 2
  pub ends : min (suc j * (s.block / 8)) (frame_count s.total) ≡ j * (s.block / 8) + suc wholes

module _ (s : Shape) (L : Limits s) where
  per-some : 0 < s.block / 8
  per-some = let w = L.wide in omega arith

  pub block-shape : (j : ℕ) → j < block_count s → BlockShape s j
  unfolding block_length frame_count last_frame_samples
  block-shape j h = go (ltb (j * (s.block / 8) + s.block / 8) (frame_count s.total)) refl
    where
      go : (t : Bool) → ltb (j * (s.block / 8) + s.block / 8) (frame_count s.total) ≡ t → BlockShape s j
      go true e =
          let q = ltb-true (j * (s.block / 8) + s.block / 8) (frame_count s.total) e in
          let p = per-some in
          let d = suc-mul j (s.block / 8) in
          record {
            wholes = s.block / 8 - 1;
            rest = 16;
            split = rw e (omega arith);
            two = omega arith;
            most = omega arith;
            inside = omega arith;
            within = omega arith;
            last = count-whole s.total (j * (s.block / 8) + (s.block / 8 - 1)) (omega arith);
            ends = omega arith;
          }
      go false e =
          let q = ltb-false (j * (s.block / 8) + s.block / 8) (frame_count s.total) e in
          let f = block-first s j L h in
          let m = last-most s.total L.some in
          let d = suc-mul j (s.block / 8) in
          let z : last_frame_samples s.total + 2 - 2 ≡ last_frame_samples s.total = omega arith in
          record {
            wholes = frame_count s.total - 1 - j * (s.block / 8);
            rest = last_frame_samples s.total + 2;
            split = rw e;
            two = omega arith;
            most = omega arith;
            inside = omega arith;
            within = omega arith;
            last = count-last s.total (j * (s.block / 8) + (frame_count s.total - 1 - j * (s.block / 8))) (omega arith) ∙ sym z;
            ends = omega arith;
          }
