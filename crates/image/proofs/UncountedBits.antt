-- Bits that do not count: images that differ in them alone open alike and are the same.
use mathlib.Core.Bool.{Bool, true, false, cond}
use mathlib.Core.List.{List}
use mathlib.Core.Path.{◌≡◌, refl, sym, ap, ◌∙◌, subst}
use Prim.Native.Nat.{ℕ, ◌+◌, ◌≤◌, ◌<◌}
use native.Mathlib.Omega.{arith}
use borrow.Author.Tests.{eqb-true}
use lib.Dec.{eqb}
use lib.ListN.{length}
use Rattle.whole.specs.Outcome.{accepted}
use Rattle.layout.specs.declared.Loop.{Loop}
use Rattle.layout.specs.declared.Shape.{Shape}
use Rattle.layout.specs.Limits.{Limits}
use Rattle.layout.specs.Fields.{at32}
use Rattle.layout.specs.Sizes.{no_loop, block_count, entry_place, image_size}
use Rattle.block.specs.Context.{new_context}
use Rattle.block.specs.Refusals.{lowest_pair}
use Rattle.image.specs.Reading.{shape_in, loops_in, blocks_in, entry_zero_in, context_in, loop_in, loop_context_in}
use Rattle.image.specs.Opening.{EntryFits, loop_fits}
use Rattle.image.specs.Sameness.{compare_answer, same}
use Rattle.image.specs.Essence.{counted, contexts_from, essence}
use Rattle.image.specs.Uncounted.{Uncounted}
use Rattle.image.specs.inner.Asked.{Headed, Opens}
use Rattle.image.proofs.LawsLoop.{loop-one, fits-none, fits-right, loop-told, loop-within}
use Rattle.image.proofs.LawsSame.{Comparable, compare-accepted, compare-accepts}
use Rattle.image.proofs.AgreedFields.{contexts-listed}
use Rattle.image.proofs.SameClip.{same_if}
use Rattle.image.proofs.UncountedBytes.{mark-same, total-same, rate-same, block_same, gain-same, loops-same, blocks-same, shape_same, coefficients-same, field32, offset-same, length-same, zeros-same}
use Rattle.image.proofs.UncountedSamples.{contexts-alike, samples-same}

module _ (a b : List ℕ) (c : Comparable a) (u : Uncounted a b) where
  abbrev o : Opens a
  o = c.opens

  abbrev s : Shape
  s = shape_in a

  -- ---- the second image opens

  head-opens : Headed b
  unfolding image_size
  head-opens =
      let z = u.long in
      record {
        long = omega (arith, z);
        marked = mark-same a b u ∙ o.head.marked;
        limits = subst Limits (sym (shape_same a b u)) o.head.limits;
        rate = subst (λ (n : ℕ). 1 ≤ n) (sym (rate-same a b u)) o.head.rate;
        blocks = blocks-same a b u ∙ o.head.blocks ∙ ap block_count (sym (shape_same a b u));
        loops = subst (λ (n : ℕ). n ≤ 1) (sym (loops-same a b u)) o.head.loops;
        size = subst (λ (t : Shape). image_size t ≤ length b) (sym (shape_same a b u)) z;
      }

  entry-opens : (j : ℕ) → j < block_count s → EntryFits b s j
  entry-opens j h =
      let m : j < block_count s + s.extra = omega (arith, h) in
      let e = o.entries j h in
      record {
        offset = offset-same a b u j m ∙ e.offset;
        nibbles = length-same a b u j m ∙ e.nibbles;
        zeros = zeros-same a b u j m ∙ e.zeros;
        header = u.entries j (subst (λ (n : ℕ). j < n) (sym o.head.blocks) h);
      }

  -- the loop's entry
  loop-there : loops_in a ≡ 1 → blocks_in a < block_count s + s.extra
  loop-there e = let k = o.head.blocks in omega (arith, e, k)

  loop-same : loop_in b ≡ loop_in a
  unfolding loop_in
  loop-same = rw (loops-same a b u, blocks-same a b u) (go (eqb (loops_in a) 1) refl)
    where
      at : ℕ
      at = entry_place (blocks_in a)

      go : (t : Bool) → eqb (loops_in a) 1 ≡ t
          → cond t (record { start = at32 b at; end = at32 b (at + 4); present = true }) no_loop ≡ cond t (record { start = at32 a at; end = at32 a (at + 4); present = true }) no_loop
      go true e =
          let h = loop-there (eqb-true (loops_in a) 1 e) in
          rw (field32 a b u (blocks_in a) h at (omega arith) (omega arith), field32 a b u (blocks_in a) h (at + 4) (omega arith) (omega arith))
      go false e = refl

  loop-opens : loop_fits b ≡ true
  loop-opens = go (loop_in a).present refl
    where
      there : (loop_in b).present ≡ (loop_in a).present
      there = ap (λ (p : Loop). p.present) loop-same

      go : (t : Bool) → (loop_in a).present ≡ t → loop_fits b ≡ true
      go false e = sym (fits-none b (there ∙ e))
      go true e =
          let w = loop-within a o e in
          let m = loop-there (loop-one a e) in
          fits-right b (there ∙ e)
          (rw loop-same w.0)
          (rw (loop-same, total-same a b u) w.1)
          (rw (loop-same, total-same a b u, block_same a b u, loops-same a b u, blocks-same a b u) (u.looped e))
          (ap (entry_zero_in b) (blocks-same a b u) ∙ zeros-same a b u (blocks_in a) m ∙ (loop-told a o e).1)

  other-opens : Opens b
  other-opens =
      record {
        head = head-opens;
        entries = subst (λ (t : Shape). (j : ℕ) → j < block_count t → EntryFits b t j) (sym (shape_same a b u)) entry-opens;
        looping = loop-opens;
      }

  other-compares : Comparable b
  other-compares = record { opens = other-opens; pairs = ap lowest_pair (coefficients-same a b u) ∙ c.pairs }

  -- ---- and all that counts is equal

  context-same : (j : ℕ) → j < block_count s + s.extra → counted (context_in a j) ≡ counted (context_in b j)
  context-same j h = let e = contexts-alike a b u j h in rw (e.header, e.history)

  loop-context : counted (loop_context_in a) ≡ counted (loop_context_in b)
  unfolding loop_context_in
  loop-context = rw (loop-same, blocks-same a b u) (go (loop_in a).present refl)
    where
      go : (t : Bool) → (loop_in a).present ≡ t → counted (cond t (context_in a (blocks_in a)) new_context) ≡ counted (cond t (context_in b (blocks_in a)) new_context)
      go true e = context-same (blocks_in a) (loop-there (loop-one a e))
      go false e = refl

  contexts-same : contexts_from a 0 (blocks_in a) ≡ contexts_from b 0 (blocks_in b)
  contexts-same =
      let k = o.head.blocks in
      contexts-listed a b 0 (blocks_in a) (λ j p q. context-same j (omega (arith, q, k))) ∙ ap (contexts_from b 0) (sym (blocks-same a b u))

  essence-same : essence a ≡ essence b
  unfolding essence
  essence-same =
      rw (
        ← total-same a b u,
        ← rate-same a b u,
        ← gain-same a b u,
        ← block_same a b u,
        ← coefficients-same a b u,
        contexts-same,
        ← loop-same,
        loop-context,
        ← samples-same a b o u,
      )

-- Top bits of headers, the spare nibble of an odd tail and the bytes after the image do not count.
pub uncounted-same : (a b : List ℕ) → compare_answer a ≡ accepted tt → Uncounted a b → same a b ≡ accepted true
uncounted-same a b e u =
    let c = compare-accepted a e in
    same_if a b e (compare-accepts b (other-compares a b c u)) (essence-same a b c u)
