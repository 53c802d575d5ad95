-- Two images are the same exactly where all that counts of them is equal.
use mathlib.Core.Bool.{Bool, true, false}
use mathlib.Core.List.{List}
use mathlib.Core.Path.{◌≡◌, refl, sym, ap, ◌∙◌}
use Prim.Native.Nat.{ℕ}
use borrow.Author.Tests.{eq-eqb}
use Rattle.whole.specs.Outcome.{Outcome, accepted, refused_at, with_values, value_or}
use Rattle.whole.proofs.Outcomes.{not-both}
use Rattle.layout.proofs.LimitLaws.{both_true}
use Rattle.image.specs.Reading.{total_in, blocks_in, head_in}
use Rattle.image.specs.Sameness.{samples_in, same_sound, same_head, same_contexts, same_loop, agree, compare_answer, both_answer, same, sounds_same}
use Rattle.image.specs.Essence.{Essence, contexts_from, essence}
use Rattle.image.specs.inner.Asked.{Headed}
use Rattle.image.proofs.TestsInTurn.{and-then}
use Rattle.image.proofs.LawsEqual.{equal-refl, equal-lists}
use Rattle.image.proofs.LawsSame.{compare-accepted}
use Rattle.image.proofs.LawsAgree.{OneHead, one-head, head-agrees, one-count}
use Rattle.image.proofs.AgreedFields.{coefficients-agreed, coefficients-agree, contexts-agreed, contexts-agree, loop-agreed, loop-agrees}

-- ---- what agrees and what is equal

module _ (a b : List ℕ) (p : Headed a) (q : Headed b) where
  agreed-essence : agree a b ≡ true → essence a ≡ essence b
  unfolding agree essence
  agreed-essence e =
      let h = both_true (same_head (head_in a) (head_in b)) _ e in
      let c = both_true (same_contexts a b (blocks_in a)) _ h.1 in
      let l = both_true (same_loop a b) _ c.1 in
      let o = one-head a b h.0 in
      let w = loop-agreed a b l.0 in
      rw (
        o.total,
        o.rate,
        o.gain,
        o.block,
        coefficients-agreed a b o.coefficients,
        contexts-agreed a b (blocks_in a) c.0 ∙ ap (contexts_from b 0) (one-count a b p q o),
        w.0,
        w.1,
        equal-lists (samples_in a) (samples_in b) l.1,
      )

  essence-head : essence a ≡ essence b → OneHead a b
  unfolding essence
  essence-head e =
      record {
        total = ap (λ (x : Essence). x.total) e;
        rate = ap (λ (x : Essence). x.rate) e;
        gain = ap (λ (x : Essence). x.gain) e;
        block = ap (λ (x : Essence). x.block) e;
        coefficients = coefficients-agree a b (ap (λ (x : Essence). x.coefficients) e);
      }

  essence-agrees : essence a ≡ essence b → agree a b ≡ true
  unfolding agree essence
  essence-agrees e =
      let o = essence-head e in
      rw (
        head-agrees a b o,
        contexts-agree a b (blocks_in a) (ap (λ (x : Essence). x.contexts) e ∙ ap (contexts_from b 0) (sym (one-count a b p q o))),
        loop-agrees a b p q (ap (λ (x : Essence). x.looped) e) (ap (λ (x : Essence). x.context) e),
        ap (λ (x : Essence). x.samples) e,
        equal-refl (samples_in b),
      )

-- ---- what an answer tells

told : (o : Outcome Unit) (t : Bool) → with_values o t ≡ accepted true → (o ≡ accepted tt) × (t ≡ true)
told (accepted u) t e = (refl, ap (λ (x : Outcome Bool). value_or x false) e)
told (refused_at n j) t e = absurd (not-both e)

-- both images are accepted, and they agree
same-told : (a b : List ℕ) → same a b ≡ accepted true → (compare_answer a ≡ accepted tt) × (compare_answer b ≡ accepted tt) × (agree a b ≡ true)
unfolding same both_answer
same-told a b e =
    let w = told (both_answer a b) (agree a b) e in
    let v = and-then (compare_answer a) (compare_answer b) w.0 in
    (v.0, v.1, w.1)

module _ (a b : List ℕ) (x : compare_answer a ≡ accepted tt) (y : compare_answer b ≡ accepted tt) where
  -- images that comparing accepts are the same only if all that counts of them is equal
  pub same-only : same a b ≡ accepted true → essence a ≡ essence b
  same-only e = agreed-essence a b (compare-accepted a x).opens.head (compare-accepted b y).opens.head (same-told a b e).2

  -- and they are if it is
  pub same_if : essence a ≡ essence b → same a b ≡ accepted true
  unfolding same both_answer
  same_if e = rw (x, y, essence-agrees a b (compare-accepted a x).opens.head (compare-accepted b y).opens.head e)

-- ---- a relation of its own

-- Sameness is reflexive on the images that comparing accepts.
pub same_refl : (a : List ℕ) → compare_answer a ≡ accepted tt → same a a ≡ accepted true
same_refl a x = same_if a a x x refl

-- It is symmetric.
pub same-sym : (a b : List ℕ) → same a b ≡ accepted true → same b a ≡ accepted true
same-sym a b e = let w = same-told a b e in same_if b a w.1 w.0 (sym (same-only a b w.0 w.1 e))

-- It is transitive.
pub same-trans : (a b c : List ℕ) → same a b ≡ accepted true → same b c ≡ accepted true → same a c ≡ accepted true
same-trans a b c e f =
    let w = same-told a b e in
    let v = same-told b c f in
    same_if a c w.0 v.1 (same-only a b w.0 w.1 e ∙ same-only b c v.0 v.1 f)

-- Any two that are the same are the same under the earlier meaning.
pub same-sounds : (a b : List ℕ) → same a b ≡ accepted true → sounds_same a b ≡ accepted true
unfolding sounds_same both_answer same_sound essence
same-sounds a b e =
    let w = same-told a b e in
    let s = same-only a b w.0 w.1 e in
    rw (w.0, w.1, eq-eqb (total_in a) (total_in b) (ap (λ (x : Essence). x.total) s), ap (λ (x : Essence). x.samples) s, equal-refl (samples_in b))
