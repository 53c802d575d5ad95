-- An image that opens is its fields written again.
use mathlib.Core.Bool.{Bool, true, false}
use mathlib.Core.List.{List, [], ◌∷◌, ◌++◌}
use mathlib.Core.Path.{◌≡◌, refl, sym, ap, ap₂, ◌∙◌}
use Prim.Native.Nat.{ℕ, zero, suc, ◌+◌, ◌*◌, ◌≤◌, ◌<◌}
use native.Mathlib.Omega.{arith}
use lib.ListN.{length, take, drop}
use Rattle.whole.specs.Outcome.{accepted}
use Rattle.layout.specs.declared.Loop.{Loop}
use Rattle.layout.specs.declared.Shape.{Shape}
use Rattle.layout.specs.Fields.{be16, be32, at32, mark}
use Rattle.layout.specs.Sizes.{shape, loop_count, block_count, body_bytes, entry_place, image_size}
use Rattle.clip.specs.Image.{start_shape, coefficient_bytes, head_bytes, context_bytes, entry_bytes, table_bytes, loop_bytes}
use Rattle.image.specs.Reading.{total_in, rate_in, block_in, gain_in, loops_in, blocks_in, shape_in, coefficients_in, offset_in, length_in, header_in, newest_in, older_in, entry_zero_in, context_in, loop_in, loop_context_in}
use Rattle.image.specs.Opening.{mark_ok, open_answer}
use Rattle.image.specs.inner.Asked.{Opens}
use Rattle.image.proofs.LawsLoop.{loop-one, loop-stored, loop-told}
use Rattle.image.proofs.OpenImages.{opened}
use Rattle.dsp.specs.Export.{bodies_in}
use Rattle.dsp.specs.Returns.{Bytes}
use Rattle.dsp.specs.inner.Written.{start_in, written_again}
use Rattle.dsp.proofs.BytesAgain.{parts_are, be16-part, be32-part, context-part, holds-part, coefficients-part}
use Rattle.dsp.proofs.ExportedFields.{loops-none, loops-are}

-- ---- the shape

-- an image has the shape of a clip that is started with what it says
pub shape_is : (l : List ℕ) → Opens l → start_shape (start_in l) ≡ shape_in l
unfolding start_in
shape_is l o = ap (shape (total_in l) (block_in l)) (loops-are l o)

-- ---- an entry

module _ (l : List ℕ) (b : Bytes l) where
  -- a header byte and a history, and two zero bytes
  second-half : (j : ℕ) → entry_place j + 16 ≤ length l → entry_zero_in l j ≡ 0
      → take 8 (drop (entry_place j + 8) l) ≡ context_bytes (header_in l j) (context_in l j).last_samples ++ (0 ∷ 0 ∷ [])
  unfolding header_in newest_in older_in entry_zero_in context_in
  second-half j h z =
      let p = entry_place j in
      parts_are l (context_bytes (header_in l j) (context_in l j).last_samples) (0 ∷ 0 ∷ []) (p + 8) 6 (p + 14) 2 8
      (context-part l b (p + 8) (p + 10) (p + 12) (omega arith) (omega arith) (omega arith)) (be16-part l b (p + 14) (omega arith) ∙ ap be16 z) (omega arith) refl

  -- two numbers of four bytes, and the second half
  halves-part : (j u v : ℕ) → entry_place j + 16 ≤ length l → at32 l (entry_place j) ≡ u → at32 l (entry_place j + 4) ≡ v → entry_zero_in l j ≡ 0
      → take 16 (drop (entry_place j) l) ≡ be32 u ++ (be32 v ++ (context_bytes (header_in l j) (context_in l j).last_samples ++ (0 ∷ 0 ∷ [])))
  halves-part j u v h e f z =
      let p = entry_place j in
      let a = parts_are l (be32 v) _ (p + 4) 4 (p + 8) 8 12 (be32-part l b (p + 4) (omega arith) ∙ ap be32 f) (second-half j h z) (omega arith) refl in
      parts_are l (be32 u) _ p 4 (p + 4) 12 16 (be32-part l b p (omega arith) ∙ ap be32 e) a (omega arith) refl

module _ (l : List ℕ) (b : Bytes l) (o : Opens l) where
  -- ---- the head

  head-part : take 56 l ≡ head_bytes mark (start_in l)
  unfolding head_bytes start_in total_in rate_in block_in gain_in loops_in blocks_in mark_ok
  head-part =
      let n = o.head.long in
      let k : blocks_in l ≡ block_count (start_shape (start_in l)) = o.head.blocks ∙ ap block_count (sym (shape_is l o)) in
      let p = be32-part l b 52 n ∙ ap be32 k in
      let q = parts_are l (be16 (loop_count (loop_in l))) _ 50 2 52 4 6 (be16-part l b 50 (omega arith) ∙ ap be16 (sym (loops-are l o))) p refl refl in
      let r = parts_are l (be16 (gain_in l)) _ 48 2 50 6 8 (be16-part l b 48 (omega arith)) q refl refl in
      let s = parts_are l (coefficient_bytes (coefficients_in l)) _ 16 32 48 8 40 (coefficients-part l b (omega arith)) r refl refl in
      let t = parts_are l (be32 (block_in l)) _ 12 4 16 40 44 (be32-part l b 12 (omega arith)) s refl refl in
      let u = parts_are l (be32 (rate_in l)) _ 8 4 12 44 48 (be32-part l b 8 (omega arith)) t refl refl in
      let v = parts_are l (be32 (total_in l)) _ 4 4 8 48 52 (be32-part l b 4 (omega arith)) u refl refl in
      parts_are l mark _ 0 4 4 52 56 (holds-part l mark 0 (omega arith) o.head.marked) v refl refl

  -- ---- the contents

  -- the context of block j's entry
  abbrev context_of : ℕ → List ℕ
  context_of j = context_bytes (header_in l j) (context_in l j).last_samples

  -- the entries and the bodies are there
  long : entry_place (block_count (shape_in l) + loops_in l) + body_bytes (total_in l) ≤ length l
  unfolding image_size
  long = o.head.size

  -- one entry
  entry-part : (j : ℕ) → j < block_count (shape_in l) → take 16 (drop (entry_place j) l) ≡ entry_bytes (shape_in l) j (context_of j)
  unfolding entry_bytes offset_in length_in
  entry-part j h = let f = o.entries j h in let n = long in halves-part l b j _ _ (omega (arith, n)) f.offset f.nibbles f.zeros

  -- k entries from block j's on
  table-part : (j k : ℕ) → j + k ≤ block_count (shape_in l) → take (16 * k) (drop (entry_place j) l) ≡ table_bytes context_of (shape_in l) j k
  unfolding table_bytes
  table-part j zero h = refl
  table-part j (suc k) h =
      parts_are l (entry_bytes (shape_in l) j (context_of j)) (table_bytes context_of (shape_in l) (suc j) k) (entry_place j) 16 (entry_place (suc j)) (16 * k) (16 * suc k)
      (entry-part j (omega arith)) (table-part (suc j) k (omega arith)) (omega arith) (omega arith)

  -- ---- the entry of the loop

  module _ (e : (loop_in l).present ≡ true) where
    -- where there is one
    here : loop_bytes (loop_in l) (loop_context_in l) ≡ be32 (loop_in l).start ++ (be32 (loop_in l).end ++ (context_of (blocks_in l) ++ (0 ∷ 0 ∷ [])))
    unfolding loop_bytes loop_context_in context_in
    here = rw e

    here-part : take (16 * loops_in l) (drop (entry_place (block_count (shape_in l))) l) ≡ loop_bytes (loop_in l) (loop_context_in l)
    here-part =
        let x = loop-one l e in
        let s = ap (λ (p : Loop). p.start) (loop-stored l x) in
        let f = ap (λ (p : Loop). p.end) (loop-stored l x) in
        let n = long in
        let k = o.head.blocks in
        ap₂ (λ (i j : ℕ). take (16 * i) (drop (entry_place j) l)) x (sym k)
        ∙ halves-part l b (blocks_in l) (loop_in l).start (loop_in l).end (omega (arith, n, x, k)) (sym s) (sym f) (loop-told l o e).1
        ∙ sym here

  -- where there is none
  none-part : (loop_in l).present ≡ false → take (16 * loops_in l) (drop (entry_place (block_count (shape_in l))) l) ≡ loop_bytes (loop_in l) (loop_context_in l)
  unfolding loop_bytes
  none-part e = ap (λ (i : ℕ). take (16 * i) (drop (entry_place (block_count (shape_in l))) l)) (loops-none l o e) ∙ rw e

  -- in both cases
  loop-part : take (16 * loops_in l) (drop (entry_place (block_count (shape_in l))) l) ≡ loop_bytes (loop_in l) (loop_context_in l)
  loop-part = go (loop_in l).present refl
    where
      go : (t : Bool) → (loop_in l).present ≡ t → take (16 * loops_in l) (drop (entry_place (block_count (shape_in l))) l) ≡ loop_bytes (loop_in l) (loop_context_in l)
      go true e = here-part e
      go false e = none-part e

  -- ---- the whole

  whole : take (image_size (shape_in l)) l ≡ written_again l
  unfolding written_again image_size
  whole =
      let kk = block_count (shape_in l) in
      let x = loops_in l in
      let t = body_bytes (total_in l) in
      let p = parts_are l (loop_bytes (loop_in l) (loop_context_in l)) (bodies_in l) (entry_place kk) (16 * x) (entry_place (kk + x)) t (16 * x + t) loop-part refl (omega arith) refl in
      let q = parts_are l (table_bytes context_of (shape_in l) 0 kk) _ 56 (16 * kk) (entry_place kk) (16 * x + t) (16 * kk + (16 * x + t)) (table-part 0 kk (omega arith)) p refl refl in
      parts_are l (head_bytes mark (start_in l)) _ 0 56 56 (16 * kk + (16 * x + t)) (entry_place (kk + x) + t) head-part q refl (omega arith)
      ∙ ap (λ (s : Shape). head_bytes mark (start_in l) ++ (table_bytes context_of s 0 (block_count s) ++ (loop_bytes (loop_in l) (loop_context_in l) ++ bodies_in l))) (sym (shape_is l o))

-- The first S bytes of an image that opens are its fields written again.
pub written_is : (l : List ℕ) → Bytes l → open_answer l ≡ accepted tt → written_again l ≡ take (image_size (shape_in l)) l
written_is l b a = sym (whole l b (opened l a))
