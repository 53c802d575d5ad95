-- Two images that differ in uncounted bits alone are played to the same samples.
use mathlib.Core.Bool.{Bool, true, false, cond}
use mathlib.Core.List.{List, ◌++◌}
use mathlib.Core.Path.{◌≡◌, refl, sym, ap, ap₂, ◌∙◌, subst}
use Prim.Native.Nat.{ℕ, zero, suc, ◌+◌, ◌-◌, ◌*◌, ◌/◌, ◌%◌, ◌≤◌, ◌<◌}
use native.Mathlib.Omega.{arith}
use borrow.Author.Tests.{ltb-true, eq-eqb}
use lib.Dec.{ltb, eqb}
use lib.IntN.{ℤ}
use lib.ListN.{get_or}
use Rattle.whole.specs.Frames.{frame_count}
use Rattle.layout.specs.declared.Shape.{Shape}
use Rattle.layout.specs.Limits.{Limits}
use Rattle.layout.specs.Sizes.{last_frame_samples, block_count, body_bytes, bodies_place, image_size, block_offset, block_length}
use Rattle.layout.proofs.SizeLaws.{block-place, block-first, frames-some}
use Rattle.block.specs.Frame.{nibble_at}
use Rattle.block.specs.Play as Block
use Rattle.block.proofs.HeardAlike.{ContextsAlike, HeardAlike, heard-play}
use Rattle.image.specs.Reading.{shape_in, blocks_in, coefficients_in, offset_in, length_in, context_in}
use Rattle.image.specs.Bodies.{body_in}
use Rattle.image.specs.Sameness.{block_samples, samples_from, samples_in}
use Rattle.image.specs.Uncounted.{HeaderPlace, CountsAlike, whole-byte, but-top-bit, but-spare-nibble, Uncounted}
use Rattle.image.specs.inner.Asked.{Opens}
use Rattle.image.proofs.LawsBody.{body_end}
use Rattle.image.proofs.Parts.{part_at}
use Rattle.image.proofs.UncountedBytes.{nibble-place, top-bit-at, blocks-same, coefficients-same, offset-same, length-same, newest-same, older-same, header-alike}

-- ---- places in a block's body

-- the image's last byte is no header's
last-place : (s : Shape) (p : ℕ) → 1 ≤ s.total → p % 8 ≡ 0 → bodies_place s + p + 1 ≡ image_size s → ⊥
unfolding image_size body_bytes last_frame_samples frame_count
last-place s p h e q = let f = frames-some s.total h in omega (arith, h, e, q, f.1, f.2)

module _ (s : Shape) (k : ℕ) (L : Limits s) (h : k < block_count s) where
  abbrev first : ℕ
  first = k * (s.block / 8)

  -- a body begins where its first frame does
  offset-place : block_offset s k ≡ bodies_place s + 8 * first
  unfolding block_offset
  offset-place = let p = block-place s.block k L.eights in omega (arith, p)

  -- the low nibble of the last byte is played where m is even alone
  spare-apart : (y : ℕ) → y < block_length s k → block_offset s k + y / 2 + 1 ≡ image_size s → last_frame_samples s.total % 2 ≡ 1 → y % 2 ≡ 0
  unfolding block_length image_size body_bytes
  spare-apart y l e m = go (ltb (first + s.block / 8) (frame_count s.total)) refl l
    where
      go : (t : Bool) → ltb (first + s.block / 8) (frame_count s.total) ≡ t
          → y < cond t (16 * (s.block / 8)) (16 * (frame_count s.total - 1 - first) + (last_frame_samples s.total + 2)) → y % 2 ≡ 0
      go true q i =
          let p = offset-place in
          let r = ltb-true (first + s.block / 8) (frame_count s.total) q in
          absurd (omega (arith, p, r, i, e))
      go false q i =
          let p = offset-place in
          let f = block-first s k L h in
          omega (arith, p, f, i, e, m)

-- ---- nibbles of a byte

nibble-of : (l : List ℕ) (x v : ℕ) → get_or l (x / 2) 0 ≡ v → nibble_at l x ≡ cond (eqb (x % 2) 0) (v / 16) (v % 16)
unfolding nibble_at
nibble-of l x v e = rw e

-- byte i of each, at the end of the image with the low nibble unplayed
nibble-counts : (s : Shape) (a b : List ℕ) (i x : ℕ) → (HeaderPlace s i → ⊥) → (i + 1 ≡ image_size s → last_frame_samples s.total % 2 ≡ 1 → x % 2 ≡ 0) → CountsAlike s a b i
    → cond (eqb (x % 2) 0) (get_or a i 0 / 16) (get_or a i 0 % 16) ≡ cond (eqb (x % 2) 0) (get_or b i 0 / 16) (get_or b i 0 % 16)
nibble-counts s a b i x h e (whole-byte q) = rw q
nibble-counts s a b i x h e (but-top-bit p q) = absurd (h p)
nibble-counts s a b i x h e (but-spare-nibble p m q) = rw (eq-eqb (x % 2) 0 (e p m), q)

-- ---- an entry's context

pub contexts-alike : (a b : List ℕ) → Uncounted a b → (j : ℕ) → j < block_count (shape_in a) + (shape_in a).extra → ContextsAlike (context_in a j) (context_in b j)
unfolding context_in
contexts-alike a b u j h = record { header = sym (header-alike a b u j h); history = rw (newest-same a b u j h, older-same a b u j h) }

-- ---- a block

module _ (a b : List ℕ) (o : Opens a) (u : Uncounted a b) (k : ℕ) (h : k < block_count (shape_in a)) where
  abbrev s : Shape
  s = shape_in a

  among : k < block_count s + s.extra
  among = omega (arith, h)

  -- byte i of block k's body, of either image
  byte_of : (l : List ℕ) (i : ℕ) → offset_in l k ≡ block_offset s k → length_in l k ≡ block_length s k → i < (block_length s k + 1) / 2 → get_or (body_in l k) i 0 ≡ get_or l (block_offset s k + i) 0
  unfolding body_in
  byte_of l i p q m = rw (p, q) (part_at l (block_offset s k) ((block_length s k + 1) / 2) i m)

  first_byte : (i : ℕ) → i < (block_length s k + 1) / 2 → get_or (body_in a k) i 0 ≡ get_or a (block_offset s k + i) 0
  first_byte i m = byte_of a i (o.entries k h).offset (o.entries k h).nibbles m

  second-byte : (i : ℕ) → i < (block_length s k + 1) / 2 → get_or (body_in b k) i 0 ≡ get_or b (block_offset s k + i) 0
  second-byte i m = byte_of b i (offset-same a b u k among ∙ (o.entries k h).offset) (length-same a b u k among ∙ (o.entries k h).nibbles) m

  counted : (i : ℕ) → i < (block_length s k + 1) / 2 → CountsAlike s a b (block_offset s k + i)
  counted i m = let e = body_end s k o.head.limits h in u.bytes (block_offset s k + i) (omega (arith, e, m))

  header-heard : (y : ℕ) → y < block_length s k → y % 16 ≡ 0 → get_or (body_in a k) (y / 2) 0 % 128 ≡ get_or (body_in b k) (y / 2) 0 % 128
  header-heard y l e =
      let m : y / 2 < (block_length s k + 1) / 2 = omega (arith, l) in
      let p = offset-place s k o.head.limits h in
      let z = last-place s (8 * first s k o.head.limits h + y / 2) o.head.limits.some (omega (arith, e)) in
      rw (first_byte (y / 2) m, second-byte (y / 2) m) (sym (top-bit-at a b u (block_offset s k + y / 2) (λ q. z (omega (arith, p, q))) (counted (y / 2) m)))

  nibble-heard : (y : ℕ) → y < block_length s k → 2 ≤ y % 16 → nibble_at (body_in a k) y ≡ nibble_at (body_in b k) y
  nibble-heard y l e =
      let m : y / 2 < (block_length s k + 1) / 2 = omega (arith, l) in
      let L = o.head.limits in
      let p = offset-place s k L h in
      let i = block_offset s k + y / 2 in
      let at : i ≡ bodies_place s + (8 * first s k L h + y / 2) = omega (arith, p) in
      let n = nibble-place s (8 * first s k L h + y / 2) (omega (arith, e)) in
      nibble-of (body_in a k) y (get_or a i 0) (first_byte (y / 2) m)
      ∙ nibble-counts s a b i y (λ q. n (subst (HeaderPlace s) at q)) (spare-apart s k L h y l) (counted (y / 2) m)
      ∙ sym (nibble-of (body_in b k) y (get_or b i 0) (second-byte (y / 2) m))

  heard : (y : ℕ) → 2 ≤ y → y < length_in a k → HeardAlike (body_in a k) (body_in b k) y
  heard y m l =
      let q : y < block_length s k = subst (λ (n : ℕ). y < n) (o.entries k h).nibbles l in
      record { header = header-heard y q; nibble = nibble-heard y q }

  samples-alike : block_samples b k ≡ block_samples a k
  unfolding block_samples
  samples-alike =
      ap₂ (λ (cs : List ℤ) (n : ℕ). (Block.play (body_in b k) cs n (context_in b k)).samples) (coefficients-same a b u) (length-same a b u k among)
      ∙ sym (heard-play (body_in a k) (body_in b k) (coefficients_in a) (length_in a k) (context_in a k) (context_in b k) heard (contexts-alike a b u k among)).samples

-- ---- all blocks

module _ (a b : List ℕ) (o : Opens a) (u : Uncounted a b) where
  from-same : (j n : ℕ) → j + n ≤ block_count (shape_in a) → samples_from b j n ≡ samples_from a j n
  unfolding samples_from
  from-same j zero h = refl
  from-same j (suc n) h = ap₂ ◌++◌ (samples-alike a b o u j (omega arith)) (from-same (suc j) n (omega arith))

  pub samples-same : samples_in b ≡ samples_in a
  unfolding samples_in
  samples-same =
      let k = o.head.blocks in
      ap (samples_from b 0) (blocks-same a b u) ∙ from-same 0 (blocks_in a) (omega (arith, k))
