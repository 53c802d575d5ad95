-- The bytes and fields of two images that differ in uncounted bits alone.
use mathlib.Core.List.{List}
use mathlib.Core.Path.{◌≡◌, refl, ap}
use Prim.Native.Nat.{ℕ, zero, suc, ◌+◌, ◌*◌, ◌%◌, ◌≤◌, ◌<◌}
use native.Mathlib.Omega.{arith}
use lib.ListN.{get_or}
use Rattle.layout.specs.declared.Shape.{Shape}
use Rattle.layout.specs.Fields.{at16, at32}
use Rattle.layout.specs.Sizes.{block_count, body_bytes, entry_place, bodies_place, image_size}
use Rattle.image.specs.Reading.{shape_in, total_in, rate_in, block_in, gain_in, loops_in, blocks_in, signed_at, coefficients_up_to, coefficients_in, offset_in, length_in, header_in, newest_in, older_in, entry_zero_in}
use Rattle.image.specs.Opening.{mark_ok}
use Rattle.image.specs.Uncounted.{HeaderPlace, of-frame, of_entry, CountsAlike, whole-byte, but-top-bit, but-spare-nibble, Uncounted}

-- ---- places of no header

module _ (s : Shape) where
  head-place : (i : ℕ) → i < 56 → HeaderPlace s i → ⊥
  head-place i h (of-frame f l e) = omega (arith, h, e)
  head-place i h (of_entry j l e) = omega (arith, h, e)

  table-place : (j i : ℕ) → j < block_count s + s.extra → entry_place j ≤ i → i < entry_place j + 16 → (i ≡ entry_place j + 9 → ⊥) → HeaderPlace s i → ⊥
  table-place j i h m n d (of-frame f l e) = omega (arith, h, n, e)
  table-place j i h m n d (of_entry k l e) = d (omega (arith, m, n, e))

  pub nibble-place : (p : ℕ) → 1 ≤ p % 8 → HeaderPlace s (bodies_place s + p) → ⊥
  nibble-place p h (of-frame f l e) = omega (arith, h, e)
  nibble-place p h (of_entry j l e) = omega (arith, l, e)

  -- the bodies have a byte at least
  bodies-some : bodies_place s < image_size s
  unfolding image_size body_bytes
  bodies-some = omega arith

-- ---- bytes

module _ (a b : List ℕ) (u : Uncounted a b) where
  abbrev s : Shape
  s = shape_in a

  whole-at : (i : ℕ) → (HeaderPlace s i → ⊥) → (i + 1 ≡ image_size s → ⊥) → CountsAlike s a b i → get_or b i 0 ≡ get_or a i 0
  whole-at i h e (whole-byte q) = q
  whole-at i h e (but-top-bit p q) = absurd (h p)
  whole-at i h e (but-spare-nibble p m q) = absurd (e p)

  head_byte : (i : ℕ) → i < 56 → get_or b i 0 ≡ get_or a i 0
  head_byte i h = let z = bodies-some s in whole-at i (head-place s i h) (λ e. omega (arith, h, z, e)) (u.bytes i (omega (arith, h, z)))

  -- a byte of an entry that is not the header's
  entry-byte : (j i : ℕ) → j < block_count s + s.extra → entry_place j ≤ i → i < entry_place j + 16 → (i ≡ entry_place j + 9 → ⊥) → get_or b i 0 ≡ get_or a i 0
  entry-byte j i h m n d =
      let z = bodies-some s in
      whole-at i (table-place s j i h m n d) (λ e. omega (arith, h, n, z, e)) (u.bytes i (omega (arith, h, n, z)))

  pub top-bit-at : (i : ℕ) → (i + 1 ≡ image_size s → ⊥) → CountsAlike s a b i → get_or b i 0 % 128 ≡ get_or a i 0 % 128
  top-bit-at i e (whole-byte q) = ap (λ (v : ℕ). v % 128) q
  top-bit-at i e (but-top-bit p q) = q
  top-bit-at i e (but-spare-nibble p m q) = absurd (e p)

  -- an entry's header byte
  entry-header : (j : ℕ) → j < block_count s + s.extra → get_or b (entry_place j + 9) 0 % 128 ≡ get_or a (entry_place j + 9) 0 % 128
  entry-header j h = let z = bodies-some s in top-bit-at (entry_place j + 9) (λ e. omega (arith, h, z, e)) (u.bytes (entry_place j + 9) (omega (arith, h, z)))

  -- ---- fields of the head

  same16 : (i : ℕ) → get_or b i 0 ≡ get_or a i 0 → get_or b (i + 1) 0 ≡ get_or a (i + 1) 0 → at16 b i ≡ at16 a i
  same16 i p q = rw (p, q)

  same32 : (i : ℕ) → get_or b i 0 ≡ get_or a i 0 → get_or b (i + 1) 0 ≡ get_or a (i + 1) 0 → get_or b (i + 2) 0 ≡ get_or a (i + 2) 0 → get_or b (i + 3) 0 ≡ get_or a (i + 3) 0 → at32 b i ≡ at32 a i
  same32 i p q r t = rw (p, q, r, t)

  head16 : (i : ℕ) → i + 2 ≤ 56 → at16 b i ≡ at16 a i
  head16 i h = same16 i (head_byte i (omega arith)) (head_byte (i + 1) (omega arith))

  head32 : (i : ℕ) → i + 4 ≤ 56 → at32 b i ≡ at32 a i
  head32 i h = same32 i (head_byte i (omega arith)) (head_byte (i + 1) (omega arith)) (head_byte (i + 2) (omega arith)) (head_byte (i + 3) (omega arith))

  pub total-same : total_in b ≡ total_in a
  unfolding total_in
  total-same = head32 4 (omega arith)

  pub rate-same : rate_in b ≡ rate_in a
  unfolding rate_in
  rate-same = head32 8 (omega arith)

  pub block_same : block_in b ≡ block_in a
  unfolding block_in
  block_same = head32 12 (omega arith)

  pub gain-same : gain_in b ≡ gain_in a
  unfolding gain_in
  gain-same = head16 48 (omega arith)

  pub loops-same : loops_in b ≡ loops_in a
  unfolding loops_in
  loops-same = head16 50 (omega arith)

  pub blocks-same : blocks_in b ≡ blocks_in a
  unfolding blocks_in
  blocks-same = head32 52 (omega arith)

  pub shape_same : shape_in b ≡ shape_in a
  shape_same = rw (total-same, block_same, loops-same)

  pub mark-same : mark_ok b ≡ mark_ok a
  unfolding mark_ok
  mark-same = rw (head_byte 0 (omega arith), head_byte 1 (omega arith), head_byte 2 (omega arith), head_byte 3 (omega arith))

  upto-same : (k : ℕ) → k ≤ 16 → coefficients_up_to b k ≡ coefficients_up_to a k
  unfolding coefficients_up_to signed_at
  upto-same zero h = refl
  upto-same (suc k) h = rw (upto-same k (omega arith), head16 (16 + 2 * k) (omega arith))

  pub coefficients-same : coefficients_in b ≡ coefficients_in a
  unfolding coefficients_in
  coefficients-same = upto-same 16 (omega arith)

  -- ---- fields of an entry

  module _ (j : ℕ) (h : j < block_count s + s.extra) where
    field-byte : (i : ℕ) → entry_place j ≤ i → i < entry_place j + 16 → (i ≡ entry_place j + 9 → ⊥) → get_or b i 0 ≡ get_or a i 0
    field-byte i m n d = entry-byte j i h m n d

    field16 : (i : ℕ) → entry_place j ≤ i → i + 2 ≤ entry_place j + 16 → (i ≡ entry_place j + 8 → ⊥) → (i ≡ entry_place j + 9 → ⊥) → at16 b i ≡ at16 a i
    field16 i m n d e = same16 i (field-byte i m (omega arith) e) (field-byte (i + 1) (omega arith) (omega arith) (λ z. d (omega arith)))

    -- offset or length, start or end
    pub field32 : (i : ℕ) → entry_place j ≤ i → i + 4 ≤ entry_place j + 8 → at32 b i ≡ at32 a i
    field32 i m n =
        same32 i (field-byte i m (omega arith) (λ z. omega arith)) (field-byte (i + 1) (omega arith) (omega arith) (λ z. omega arith))
        (field-byte (i + 2) (omega arith) (omega arith) (λ z. omega arith)) (field-byte (i + 3) (omega arith) (omega arith) (λ z. omega arith))

    pub offset-same : offset_in b j ≡ offset_in a j
    unfolding offset_in
    offset-same = field32 (entry_place j) (omega arith) (omega arith)

    pub length-same : length_in b j ≡ length_in a j
    unfolding length_in
    length-same = field32 (entry_place j + 4) (omega arith) (omega arith)

    pub newest-same : newest_in b j ≡ newest_in a j
    unfolding newest_in signed_at
    newest-same = rw (field16 (entry_place j + 10) (omega arith) (omega arith) (λ z. omega arith) (λ z. omega arith))

    pub older-same : older_in b j ≡ older_in a j
    unfolding older_in signed_at
    older-same = rw (field16 (entry_place j + 12) (omega arith) (omega arith) (λ z. omega arith) (λ z. omega arith))

    pub zeros-same : entry_zero_in b j ≡ entry_zero_in a j
    unfolding entry_zero_in
    zeros-same = field16 (entry_place j + 14) (omega arith) (omega arith) (λ z. omega arith) (λ z. omega arith)

    pub header-alike : header_in b j % 128 ≡ header_in a j % 128
    unfolding header_in
    header-alike =
        let p = field-byte (entry_place j + 8) (omega arith) (omega arith) (λ z. omega arith) in
        let q = entry-header j h in
        let e : entry_place j + 8 + 1 ≡ entry_place j + 9 = omega arith in
        rw (p, e) (omega (arith, q))
