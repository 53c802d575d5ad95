-- Heads that agree, and contexts compared one by one.
use mathlib.Core.Bool.{Bool, true, false, ◌&&◌, beq}
use mathlib.Core.List.{List}
use mathlib.Core.Path.{◌≡◌, refl, sym, ap, ap₂, ◌∙◌}
use Prim.Native.Nat.{ℕ, ◌+◌, ◌-◌, ◌*◌, ◌/◌, ◌<◌}
use native.Mathlib.Numerals.{add-one}
use native.Mathlib.Omega.{arith}
use borrow.Author.Tests.{eqb-true, eqb-false, eq-eqb}
use lib.Dec.{eqb}
use Rattle.block.specs.Refusals.{equal_coefficients}
use Rattle.layout.specs.declared.Loop.{Loop}
use Rattle.layout.specs.Sizes.{block_count}
use Rattle.layout.proofs.LimitLaws.{both_true}
use Rattle.whole.specs.Frames.{frame_count}
use Rattle.image.specs.Reading.{total_in, rate_in, block_in, gain_in, blocks_in, coefficients_in, head_in, loops_in, context_in, loop_in, loop_context_in}
use Rattle.image.specs.Sameness.{same_head, same_context, same_contexts, same_loop}
use Rattle.image.specs.inner.Asked.{Headed}
use Rattle.image.proofs.LawsEqual.{never, all-stop}
use Rattle.image.proofs.LawsLoop.{loop-one, loop-stored}

-- what heads that agree have in common
pub record OneHead (a b : List ℕ) : Type 0 where
  pub total : total_in a ≡ total_in b
  pub rate : rate_in a ≡ rate_in b
  pub gain : gain_in a ≡ gain_in b
  pub block : block_in a ≡ block_in b
  pub coefficients : equal_coefficients (coefficients_in a) (coefficients_in b) ≡ true

pub one-head : (a b : List ℕ) → same_head (head_in a) (head_in b) ≡ true → OneHead a b
unfolding same_head head_in
one-head a b e =
    let n = both_true (eqb (total_in a) (total_in b)) _ e in
    let r = both_true (eqb (rate_in a) (rate_in b)) _ n.1 in
    let g = both_true (eqb (gain_in a) (gain_in b)) _ r.1 in
    let k = both_true (eqb (block_in a) (block_in b)) _ g.1 in
    record {
      total = eqb-true (total_in a) (total_in b) n.0;
      rate = eqb-true (rate_in a) (rate_in b) r.0;
      gain = eqb-true (gain_in a) (gain_in b) g.0;
      block = eqb-true (block_in a) (block_in b) k.0;
      coefficients = k.1;
    }

pub head-agrees : (a b : List ℕ) → OneHead a b → same_head (head_in a) (head_in b) ≡ true
unfolding same_head head_in
head-agrees a b h =
    rw (
      eq-eqb (total_in a) (total_in b) h.total,
      eq-eqb (rate_in a) (rate_in b) h.rate,
      eq-eqb (gain_in a) (gain_in b) h.gain,
      eq-eqb (block_in a) (block_in b) h.block,
    )
    h.coefficients

-- as many blocks
pub one-count : (a b : List ℕ) → Headed a → Headed b → OneHead a b → blocks_in a ≡ blocks_in b
unfolding block_count
one-count a b p q h = p.blocks ∙ ap₂ (λ (n k : ℕ). (8 * frame_count n + k - 1) / k) h.total h.block ∙ sym q.blocks

module _ (a b : List ℕ) where
  -- a block more
  pub contexts-more : (k : ℕ) → same_contexts a b k ≡ true → same_context (context_in a k) (context_in b k) ≡ true → same_contexts a b (k + 1) ≡ true
  unfolding same_contexts
  contexts-more k e f = rw (add-one k, e, f)

  -- a context that differs
  pub contexts-stop : (k n : ℕ) → k < n → same_context (context_in a k) (context_in b k) ≡ false → same_contexts a b n ≡ false
  unfolding same_contexts
  contexts-stop k n h e = all-stop (same_contexts a b) (λ j. same_context (context_in a j) (context_in b j)) (λ j. refl) k n h e

-- ---- the loops of two images

-- of the loop's fields the last is asked first
and-turned : (s e p q : Bool) → s && (e && p) ≡ true → q ≡ p && (s && (e && q))
and-turned true true true q h = refl
and-turned true true false q h = absurd (never h)
and-turned true false p q h = absurd (never h)
and-turned false e p q h = absurd (never h)

and-stopped : (s e p q : Bool) → s && (e && p) ≡ false → false ≡ p && (s && (e && q))
and-stopped true true true q h = absurd (never (sym h))
and-stopped true true false q h = refl
and-stopped true false true q h = refl
and-stopped true false false q h = refl
and-stopped false e true q h = refl
and-stopped false e false q h = refl

no-loops : (l : List ℕ) → Headed l → (loop_in l).present ≡ false → loops_in l ≡ 0
no-loops l h p = go (eqb (loops_in l) 1) refl
  where
    go : (t : Bool) → eqb (loops_in l) 1 ≡ t → loops_in l ≡ 0
    go true e = absurd (never (sym p ∙ ap (λ (x : Loop). x.present) (loop-stored l (eqb-true (loops_in l) 1 e))))
    go false e = let n = eqb-false (loops_in l) 1 e in let m = h.loops in omega (arith, m, n)

module _ (a b : List ℕ) (h : Headed a) (g : Headed b) (x y : Loop) (p : x ≡ loop_in a) (q : y ≡ loop_in b) where
  -- as many loops, where both have one or neither has
  as-many : beq x.present y.present ≡ eqb (loops_in a) (loops_in b)
  as-many = rw (p, q) (go (loop_in a).present (loop_in b).present refl refl)
    where
      go : (s t : Bool) → (loop_in a).present ≡ s → (loop_in b).present ≡ t → beq (loop_in a).present (loop_in b).present ≡ eqb (loops_in a) (loops_in b)
      go true true m n = rw (m, n, loop-one a m, loop-one b n)
      go true false m n = rw (m, n, loop-one a m, no-loops b g n)
      go false true m n = rw (m, n, no-loops a h m, loop-one b n)
      go false false m n = rw (m, n, no-loops a h m, no-loops b g n)

  pub loops-alike : eqb x.start y.start && (eqb x.end y.end && beq x.present y.present) ≡ true → same_context (loop_context_in a) (loop_context_in b) ≡ same_loop a b
  unfolding same_loop
  loops-alike e = rw (← as-many, ← p, ← q) (and-turned (eqb x.start y.start) (eqb x.end y.end) (beq x.present y.present) _ e)

  pub loops-differ : eqb x.start y.start && (eqb x.end y.end && beq x.present y.present) ≡ false → false ≡ same_loop a b
  unfolding same_loop
  loops-differ e = rw (← as-many, ← p, ← q) (and-stopped (eqb x.start y.start) (eqb x.end y.end) (beq x.present y.present) _ e)
