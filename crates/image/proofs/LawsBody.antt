-- Bodies within an image that opens.
use mathlib.Core.Bool.{Bool, true, false, cond}
use mathlib.Core.List.{List, []}
use mathlib.Core.Path.{◌≡◌, refl, sym, ap₂, subst}
use Prim.Native.Nat.{ℕ, ◌+◌, ◌-◌, ◌*◌, ◌/◌, ◌≤◌, ◌<◌}
use native.Mathlib.Omega.{arith}
use borrow.Author.Tests.{leb-false, lt-leb, le-ltb, ltb-true, ltb-false, ne_eqb}
use lib.Dec.{leb, ltb}
use lib.IntN.{ℤ}
use lib.ListN.{length, drop, length-drop}
use lib.Seq.{length-take-le}
use Rattle.block.specs.Address.{address_to_sample}
use Rattle.block.specs.Refusals.{bad_length, lowest_pair}
use Rattle.layout.specs.declared.Shape.{Shape}
use Rattle.layout.specs.Limits.{Limits}
use Rattle.layout.specs.Sizes.{entry_place, bodies_place, last_frame_samples, block_count, body_bytes, image_size, block_offset, block_length}
use Rattle.whole.specs.Frames.{frame_count}
use Rattle.layout.proofs.SizeLaws.{block-place, block-first}
use Rattle.whole.specs.Outcome.{accepted, refused_at}
use Rattle.image.specs.Reading.{shape_in, blocks_in, coefficients_in, offset_in, length_in}
use Rattle.image.specs.Opening.{open_answer}
use Rattle.image.specs.inner.Asked.{Found, Playable}
use Rattle.image.specs.Bodies.{block_answer, body_in, block_body}
use Rattle.image.specs.Playing.{room_answer, play_answer}
use Rattle.whole.proofs.Outcomes.{failed}
use Rattle.image.proofs.TestsInTurn.{and-then}
use Rattle.image.proofs.OpenImages.{opened, opens}
use Rattle.image.proofs.Places.{Within, within}

-- ---- where a body ends

last_some : (m : ℕ) → 1 ≤ m → 14 * (frame_count m - 1) < m
unfolding frame_count
last_some m i = omega arith

module _ (s : Shape) (k : ℕ) (L : Limits s) (h : k < block_count s) where
  -- frames before block k, and those of a block
  abbrev first : ℕ
  first = k * (s.block / 8)

  -- a body ends within the image, at its end where the block is the last
  pub body_end : block_offset s k + (block_length s k + 1) / 2 ≤ image_size s
  unfolding block_offset block_length image_size body_bytes block_count frame_count last_frame_samples
  body_end = go (ltb (first + s.block / 8) (frame_count s.total)) refl
    where
      go : (t : Bool) → ltb (first + s.block / 8) (frame_count s.total) ≡ t
          → bodies_place s + k * s.block + (cond t (16 * (s.block / 8)) (16 * (frame_count s.total - 1 - first) + (last_frame_samples s.total + 2)) + 1) / 2
          ≤ bodies_place s + (8 * (frame_count s.total - 1) + 1 + (last_frame_samples s.total + 1) / 2)
      go true e =
          let p = block-place s.block k L.eights in
          let q = ltb-true (first + s.block / 8) (frame_count s.total) e in
          omega arith
      go false e =
          let p = block-place s.block k L.eights in
          let f = block-first s k L h in
          omega arith

  -- a block has at least one sample
  pub length_some : 3 ≤ block_length s k
  unfolding block_length last_frame_samples frame_count
  length_some = go (ltb (first + s.block / 8) (frame_count s.total)) refl
    where
      go : (t : Bool) → ltb (first + s.block / 8) (frame_count s.total) ≡ t
          → 3 ≤ cond t (16 * (s.block / 8)) (16 * (frame_count s.total - 1 - first) + (s.total - 14 * (frame_count s.total - 1) + 2))
      go true e = let w = L.wide in omega arith
      go false e =
          let o = L.some in
          let g = last_some s.total o in
          omega arith

-- ---- what an accepted call tells

pub block-accepted : (l : List ℕ) (k : ℕ) → block_answer l k ≡ accepted tt → Found l k
unfolding block_answer
block-accepted l k p =
    let a = and-then (open_answer l) _ p in
    let o = opened l a.0 in
    let f = failed (leb (blocks_in l) k) 17 (accepted tt) a.1 in
    record { opens = o; block = subst (λ (x : ℕ). k < x) o.head.blocks (leb-false (blocks_in l) k f.0) }

pub block-accepts : (l : List ℕ) (k : ℕ) → Found l k → block_answer l k ≡ accepted tt
unfolding block_answer
block-accepts l k f =
    let lt : k < blocks_in l = subst (λ (x : ℕ). k < x) (sym f.opens.head.blocks) f.block in
    rw (opens l f.opens, lt-leb (blocks_in l) k lt)

pub room-accepted : (cs : List ℤ) (n room : ℕ) → room_answer cs n room ≡ accepted tt → (lowest_pair cs ≡ false) × (n ≤ room)
unfolding room_answer
room-accepted cs n room p =
    let c = failed (lowest_pair cs) 13 _ p in
    let d = failed (ltb room n) 14 (accepted tt) c.1 in
    (c.0, ltb-false room n d.0)

pub room-accepts : (cs : List ℤ) (n room : ℕ) → lowest_pair cs ≡ false → n ≤ room → room_answer cs n room ≡ accepted tt
unfolding room_answer
room-accepts cs n room p h = rw (p, le-ltb room n h)

pub play-accepted : (l : List ℕ) (k room : ℕ) → play_answer l k room ≡ accepted tt → Playable l k room
unfolding play_answer room_answer
play-accepted l k room p =
    let a = and-then (block_answer l k) _ p in
    let r = room-accepted (coefficients_in l) (address_to_sample (length_in l k)) room a.1 in
    record { found = block-accepted l k a.0; pairs = r.0; enough = r.1 }

pub play-accepts : (l : List ℕ) (k room : ℕ) → Playable l k room → play_answer l k room ≡ accepted tt
unfolding play_answer room_answer
play-accepts l k room p = rw (block-accepts l k p.found, room-accepts (coefficients_in l) (address_to_sample (length_in l k)) room p.pairs p.enough)

-- ---- a block that was found

module _ (l : List ℕ) (k : ℕ) (f : Found l k) where
  pub found_within : Within (shape_in l) k (length l)
  found_within = within (shape_in l) k (length l) f.opens.head.limits f.block f.opens.head.size

  -- its entry, as reading a context asks for it
  pub found-entry : (k ≤ 1048576) × (entry_place k + 16 ≤ length l)
  found-entry = let w = found_within in let a = w.all in let b = f.block in (omega (arith, a, b), w.entry)

  pub found-offset : offset_in l k ≡ block_offset (shape_in l) k
  found-offset = (f.opens.entries k f.block).offset

  pub found-length : length_in l k ≡ block_length (shape_in l) k
  found-length = (f.opens.entries k f.block).nibbles

  pub found_some : 3 ≤ length_in l k
  found_some = subst (λ (x : ℕ). 3 ≤ x) (sym found-length) (length_some (shape_in l) k f.opens.head.limits f.block)

  pub found-end : offset_in l k + (length_in l k + 1) / 2 ≤ length l
  found-end =
      let e = body_end (shape_in l) k f.opens.head.limits f.block in
      let s = f.opens.head.size in
      let g : offset_in l k + (length_in l k + 1) / 2 ≡ block_offset (shape_in l) k + (block_length (shape_in l) k + 1) / 2 = ap₂ (λ (x y : ℕ). x + (y + 1) / 2) found-offset found-length in
      omega (arith, e, s, g)

  pub body-length : length (body_in l k) ≡ (length_in l k + 1) / 2
  unfolding body_in
  body-length = length-take-le ((length_in l k + 1) / 2) (drop (offset_in l k) l) (omega (arith, length-drop (offset_in l k) l, found-end))

  -- code 12 refuses no block of an image
  pub found-good : bad_length (length_in l k) (length (body_in l k)) ≡ false
  unfolding bad_length
  found-good = rw (ne_eqb (length_in l k) 0 (λ z. omega (arith, found_some)), le-ltb (2 * length (body_in l k)) (length_in l k) (omega (arith, body-length)))

-- a body that is handed back has a byte of header and one of nibbles: an empty part tells a refusal
pub body-some : (l : List ℕ) (k : ℕ) → block_answer l k ≡ accepted tt → 2 ≤ length (block_body l k)
unfolding block_body
body-some l k e =
    let f = block-accepted l k e in
    let s = found_some l k f in
    let n = body-length l k f in
    rw e (omega arith)

pub body-none : (l : List ℕ) (k n j : ℕ) → block_answer l k ≡ refused_at n j → block_body l k ≡ []
unfolding block_body
body-none l k n j e = rw e
