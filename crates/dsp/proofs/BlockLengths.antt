-- The lengths of a clip's blocks; "the sum of the block lengths" is the nibble count.
use mathlib.Core.Path.{◌≡◌, sym, ap, ◌∙◌}
use Prim.Native.Nat.{ℕ, zero, suc, ◌+◌, ◌-◌, ◌*◌, ◌/◌, ◌≤◌, ◌<◌}
use native.Mathlib.Nat.{suc-mul}
use native.Mathlib.Omega.{arith}
use borrow.Author.Tests.{le-ltb}
use Rattle.whole.specs.Frames.{frame_count}
use Rattle.block.specs.Address.{sample_to_address}
use Rattle.layout.specs.declared.Shape.{Shape}
use Rattle.layout.specs.Limits.{Limits}
use Rattle.layout.specs.Sizes.{last_frame_samples, block_count, body_bytes, block_length}
use Rattle.layout.proofs.SizeLaws.{block-first, block-whole, blocks_some, blocks-all}
use Rattle.dsp.specs.File.{nibble_count}
use Rattle.dsp.specs.Returns.{lengths_up_to}

-- the body bytes are those of the nibble count
pub nibble-bytes : (n : ℕ) → 1 ≤ n → body_bytes n ≡ (nibble_count n + 1) / 2
unfolding body_bytes nibble_count sample_to_address last_frame_samples frame_count
nibble-bytes n h = omega arith

-- a frame that holds a sample begins within the bodies
pub frame-body : (n x : ℕ) → x < n → 8 * (x / 14) < body_bytes n
unfolding body_bytes last_frame_samples frame_count
frame-body n x h = omega (arith, h)

module _ (s : Shape) (L : Limits s) where
  abbrev per : ℕ
  per = s.block / 8

  -- a block before another is whole, and the next one begins where it ends
  pub whole_length : (j : ℕ) → suc j < block_count s → 16 * (j * per) + block_length s j ≡ 16 * (suc j * per)
  whole_length j h = let d = suc-mul j per in rw (block-whole s j L h) (omega (arith, d))

  -- the last block ends after the last sample
  pub last-length : (j : ℕ) → suc j ≡ block_count s → 16 * (j * per) + block_length s j ≡ nibble_count s.total
  unfolding block_length nibble_count sample_to_address last_frame_samples frame_count
  last-length j e =
      let a = blocks-all s L in
      let f = block-first s j L (omega (arith, e)) in
      let d = suc-mul j per in
      let o = L.some in
      let r : frame_count s.total ≤ suc j * per = rw e a in
      rw (le-ltb (j * per + per) (frame_count s.total) (omega (arith, r, d))) (omega (arith, f, o))

  -- there is a block
  pub blocks-some : 0 < block_count s
  blocks-some = blocks_some s L

  -- the lengths of whole blocks
  wholes : (k : ℕ) → k < block_count s → lengths_up_to s k ≡ 16 * (k * per)
  unfolding lengths_up_to
  wholes zero h = omega arith
  wholes (suc k) h = ap (λ (n : ℕ). n + block_length s k) (wholes k (omega arith)) ∙ whole_length k h

-- "4 nibble count (the sum of the block lengths)"
pub nibbles-sum : (s : Shape) → Limits s → lengths_up_to s (block_count s) ≡ nibble_count s.total
unfolding lengths_up_to
nibbles-sum s L =
    let k = block_count s - 1 in
    let e : suc k ≡ block_count s = omega (arith, blocks-some s L) in
    ap (lengths_up_to s) (sym e) ∙ ap (λ (n : ℕ). n + block_length s k) (wholes s L k (omega (arith, e))) ∙ last-length s L k e
