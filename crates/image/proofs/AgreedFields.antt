-- What agrees of two images, field by field, and back.
use mathlib.Core.Bool.{Bool, true, false, cond}
use mathlib.Core.List.{List}
use mathlib.Core.Path.{◌≡◌, refl, sym, ap, ◌∙◌, subst}
use Prim.Native.Nat.{ℕ, zero, suc, ◌+◌, ◌%◌, ◌≤◌, ◌<◌}
use native.Mathlib.Omega.{arith}
use borrow.Author.Tests.{eqb-true, eqb-false, eq-eqb}
use lib.Dec.{eqb}
use lib.ListN.{get_or, take, drop}
use lib.Seq.{take-length}
use Rattle.block.specs.declared.FrameContext.{FrameContext}
use Rattle.block.specs.Context.{new_context}
use Rattle.block.specs.Refusals.{equal, equal_coefficients}
use Rattle.block.proofs.LawsRefusals.{equal-self, equal-true}
use Rattle.layout.specs.declared.Loop.{Loop}
use Rattle.layout.specs.Sizes.{no_loop}
use Rattle.layout.proofs.LimitLaws.{both_true}
use Rattle.image.specs.Reading.{loops_in, coefficients_in, context_in, loop_in, loop_context_in}
use Rattle.image.specs.Sameness.{same_context, same_contexts, same_loop}
use Rattle.image.specs.Essence.{counted, contexts_from}
use Rattle.image.specs.inner.Asked.{Headed}
use Rattle.image.proofs.Coefficients.{coefficients-length}
use Rattle.image.proofs.LawsAgree.{contexts-stop}
use Rattle.image.proofs.LawsEqual.{never, upto-refl, upto_take}
use Rattle.image.proofs.LawsLoop.{stored}

-- ---- coefficients

pub coefficients-agreed : (a b : List ℕ) → equal_coefficients (coefficients_in a) (coefficients_in b) ≡ true → coefficients_in a ≡ coefficients_in b
unfolding equal_coefficients coefficients_in
coefficients-agreed a b e =
    let xs = coefficients_in a in
    let ys = coefficients_in b in
    let m = coefficients-length a 16 in
    let n = coefficients-length b 16 in
    sym (ap (λ (k : ℕ). take k xs) (sym m) ∙ take-length xs) ∙ upto_take xs ys 16 (omega (arith, m)) (omega (arith, n)) e ∙ (ap (λ (k : ℕ). take k ys) (sym n) ∙ take-length ys)

pub coefficients-agree : (a b : List ℕ) → coefficients_in a ≡ coefficients_in b → equal_coefficients (coefficients_in a) (coefficients_in b) ≡ true
unfolding equal_coefficients
coefficients-agree a b e = rw e (upto-refl (coefficients_in b) 16)

-- ---- contexts

context-agreed : (c d : FrameContext) → same_context c d ≡ true → counted c ≡ counted d
unfolding same_context
context-agreed c d e =
    let h = c.last_samples in
    let g = d.last_samples in
    let x = both_true (eqb (c.predictor_and_scale % 128) (d.predictor_and_scale % 128)) _ e in
    let y = both_true (equal h.newest g.newest) _ x.1 in
    rw (
      eqb-true (c.predictor_and_scale % 128) (d.predictor_and_scale % 128) x.0,
      equal-true h.newest g.newest y.0,
      equal-true h.older g.older y.1,
    )

context-agrees : (c d : FrameContext) → counted c ≡ counted d → same_context c d ≡ true
unfolding same_context
context-agrees c d e =
    rw (
      eq-eqb (c.predictor_and_scale % 128) (d.predictor_and_scale % 128) (ap (λ (x : FrameContext). x.predictor_and_scale) e),
      ap (λ (x : FrameContext). x.last_samples.newest) e,
      ap (λ (x : FrameContext). x.last_samples.older) e,
      equal-self d.last_samples.newest,
      equal-self d.last_samples.older,
    )

module _ (a b : List ℕ) where
  -- each of the first n
  each-agreed : (n : ℕ) → same_contexts a b n ≡ true → (k : ℕ) → k < n → counted (context_in a k) ≡ counted (context_in b k)
  each-agreed n e k h = go (same_context (context_in a k) (context_in b k)) refl
    where
      go : (t : Bool) → same_context (context_in a k) (context_in b k) ≡ t → counted (context_in a k) ≡ counted (context_in b k)
      go true z = context-agreed (context_in a k) (context_in b k) z
      go false z = absurd (never (sym (contexts-stop a b k n h z) ∙ e))

  each-agrees : (n : ℕ) → ((k : ℕ) → k < n → counted (context_in a k) ≡ counted (context_in b k)) → same_contexts a b n ≡ true
  unfolding same_contexts
  each-agrees zero f = refl
  each-agrees (suc n) f = rw (each-agrees n (λ k h. f k (omega arith)), context-agrees (context_in a n) (context_in b n) (f n (omega arith)))

  -- the contexts of n blocks from block j on
  pub contexts-listed : (j n : ℕ) → ((k : ℕ) → j ≤ k → k < j + n → counted (context_in a k) ≡ counted (context_in b k)) → contexts_from a j n ≡ contexts_from b j n
  unfolding contexts_from
  contexts-listed j zero f = refl
  contexts-listed j (suc n) f = rw (f j (omega arith) (omega arith), contexts-listed (suc j) n (λ k p q. f k (omega arith) (omega arith)))

  each-listed : (j n : ℕ) → contexts_from a j n ≡ contexts_from b j n → (k : ℕ) → j ≤ k → k < j + n → counted (context_in a k) ≡ counted (context_in b k)
  unfolding contexts_from
  each-listed j zero e k p q = absurd (omega arith)
  each-listed j (suc n) e k p q = go (each-listed (suc j) n (ap (drop 1) e) k) (eqb k j) refl
    where
      go : (suc j ≤ k → k < suc j + n → counted (context_in a k) ≡ counted (context_in b k)) → (t : Bool) → eqb k j ≡ t → counted (context_in a k) ≡ counted (context_in b k)
      go rec true z =
          subst (λ (i : ℕ). counted (context_in a i) ≡ counted (context_in b i)) (sym (eqb-true k j z)) (ap (λ (cs : List FrameContext). get_or cs 0 new_context) e)
      go rec false z = let d = eqb-false k j z in rec (omega (arith, d, p)) (omega arith)

  -- the contexts of n blocks
  pub contexts-agreed : (n : ℕ) → same_contexts a b n ≡ true → contexts_from a 0 n ≡ contexts_from b 0 n
  contexts-agreed n e = contexts-listed 0 n (λ k p q. each-agreed n e k (omega arith))

  pub contexts-agree : (n : ℕ) → contexts_from a 0 n ≡ contexts_from b 0 n → same_contexts a b n ≡ true
  contexts-agree n e = each-agrees n (λ k h. each-listed 0 n e k (omega arith) (omega arith))

-- ---- the loop

-- a loop is its start, its end and whether it is there
loop-parts : (p q : Loop) → p.start ≡ q.start → p.end ≡ q.end → p.present ≡ q.present → p ≡ q
loop-parts p q s e t =
    ap (λ (x : ℕ). record { start = x; end = p.end; present = p.present }) s
    ∙ ap (λ (x : ℕ). record { start = q.start; end = x; present = p.present }) e
    ∙ ap (λ (x : Bool). record { start = q.start; end = q.end; present = x }) t

there : (l : List ℕ) → (loop_in l).present ≡ eqb (loops_in l) 1
unfolding loop_in
there l = go (eqb (loops_in l) 1)
  where
    go : (t : Bool) → (cond t (stored l) no_loop).present ≡ t
    go true = refl
    go false = refl

-- as many loops where both are there or neither is
loops-alike : (a b : List ℕ) → Headed a → Headed b → (loop_in a).present ≡ (loop_in b).present → loops_in a ≡ loops_in b
loops-alike a b p q e = go (eqb (loops_in a) 1) refl (eqb (loops_in b) 1) refl (sym (there a) ∙ e ∙ there b)
  where
    go : (t : Bool) → eqb (loops_in a) 1 ≡ t → (r : Bool) → eqb (loops_in b) 1 ≡ r → eqb (loops_in a) 1 ≡ eqb (loops_in b) 1 → loops_in a ≡ loops_in b
    go true x r y z = eqb-true (loops_in a) 1 x ∙ sym (eqb-true (loops_in b) 1 (sym z ∙ x))
    go false x r y z =
        let m = p.loops in
        let n = q.loops in
        let u = eqb-false (loops_in a) 1 x in
        let v = eqb-false (loops_in b) 1 (sym z ∙ x) in
        omega (arith, m, n, u, v)

-- the loop, and the context at its start
pub loop-agreed : (a b : List ℕ) → same_loop a b ≡ true → (loop_in a ≡ loop_in b) × (counted (loop_context_in a) ≡ counted (loop_context_in b))
unfolding same_loop
loop-agreed a b e =
    let n = both_true (eqb (loops_in a) (loops_in b)) _ e in
    let s = both_true (eqb (loop_in a).start (loop_in b).start) _ n.1 in
    let t = both_true (eqb (loop_in a).end (loop_in b).end) _ s.1 in
    let p : (loop_in a).present ≡ (loop_in b).present = there a ∙ ap (λ (x : ℕ). eqb x 1) (eqb-true (loops_in a) (loops_in b) n.0) ∙ sym (there b) in (
      loop-parts (loop_in a) (loop_in b) (eqb-true (loop_in a).start (loop_in b).start s.0) (eqb-true (loop_in a).end (loop_in b).end t.0) p,
      context-agreed (loop_context_in a) (loop_context_in b) t.1,
    )

pub loop-agrees : (a b : List ℕ) → Headed a → Headed b → loop_in a ≡ loop_in b → counted (loop_context_in a) ≡ counted (loop_context_in b) → same_loop a b ≡ true
unfolding same_loop
loop-agrees a b p q e f =
    rw (
      eq-eqb (loops_in a) (loops_in b) (loops-alike a b p q (ap (λ (x : Loop). x.present) e)),
      eq-eqb (loop_in a).start (loop_in b).start (ap (λ (x : Loop). x.start) e),
      eq-eqb (loop_in a).end (loop_in b).end (ap (λ (x : Loop). x.end) e),
      context-agrees (loop_context_in a) (loop_context_in b) f,
    )
