-- The loop over the histories before blocks.
use mathlib.Core.Bool.{true, false, not, cond, ◌&&◌}
use mathlib.Core.List.{List}
use mathlib.Core.Path.{◌≡◌, ap, ap₂, ◌∙◌}
use Prim.Native.Nat.{ℕ, suc, ◌+◌, ◌-◌, ◌*◌, ◌/◌, ◌≤◌, ◌<◌}
use native.Mathlib.Numerals.{add-one}
use native.Mathlib.Omega.{arith}
use lib.IntN.{ℤ}
use lib.ListN.{length, take, drop}
use Rattle.std.specs.Ordering.{int_eq}
use Rattle.std.proofs.lemmas.Bool.Decides.{same_from_decides, Decides-int_eq}
use Rattle.whole.specs.Outcome.{accepted, refused_at}
use Rattle.block.specs.declared.FrameContext.{FrameContext}
use Rattle.block.specs.Play.{play}
use Rattle.block.specs.Refusals.{equal}
use Rattle.block.proofs.LawsRefusals.{equal-self, equal-true}
use Rattle.image.specs.declared.bodies.Entry.{Entry}
use Rattle.image.specs.inner.Asked.{Found}
use Rattle.image.specs.Bodies.{body_in}
use Rattle.image.specs.Playing.{read_entry}
use Rattle.image.specs.Reading.{coefficients_in, context_in}
use Rattle.image.specs.WholeImage.{context_after}
use Rattle.image.proofs.LawsBody.{found_some, body-length}
use Rattle.dsp.specs.Export.{equal_history, goes_on, histories_answer}

module _ (l : List ℕ) (n j : ℕ) where
  step : j < n → histories_answer l j (n - j) ≡ cond (not (goes_on l j)) (refused_at 35 (suc j)) (histories_answer l (suc j) (n - suc j))
  unfolding histories_answer
  step lt =
      let e : n - j ≡ suc (n - suc j) = omega arith in
      ap (histories_answer l j) e

  pub history-wrong : j < n → goes_on l j ≡ false → histories_answer l j (n - j) ≡ refused_at 35 (j + 1)
  history-wrong lt e = step lt ∙ rw (e, add-one j)

  pub history-right : j < n → goes_on l j ≡ true → histories_answer l j (n - j) ≡ histories_answer l (j + 1) (n - (j + 1))
  history-right lt e = step lt ∙ rw (e, add-one j)

  pub histories-none : n ≤ j → histories_answer l j (n - j) ≡ accepted tt
  unfolding histories_answer
  histories-none h = let z : n - j ≡ 0 = omega arith in ap (histories_answer l j) z

-- ---- what the code asks of a block

equal-is : (x y : ℤ) → int_eq x y ≡ equal x y
equal-is x y = same_from_decides (int_eq x y) (equal x y) (Decides-int_eq x y) (equal-true x y, λ e. rw e (equal-self y))

-- whether the next block's history is what this one leaves
pub goes : (l : List ℕ) (j : ℕ) (a n : FrameContext) → a ≡ context_after l j → n ≡ context_in l (j + 1)
    → (int_eq a.last_samples.newest n.last_samples.newest && int_eq a.last_samples.older n.last_samples.older) ≡ goes_on l j
unfolding goes_on
goes l j a n p q =
    ap₂ ◌&&◌ (equal-is a.last_samples.newest n.last_samples.newest) (equal-is a.last_samples.older n.last_samples.older)
    ∙ ap₂ (λ (x y : FrameContext). equal_history x.last_samples y.last_samples) p (q ∙ ap (context_in l) (add-one j))

module _ (l : List ℕ) (j : ℕ) (e : Entry) (b : List ℕ) (p : e ≡ read_entry l j) (q : b ≡ take ((e.nibbles + 1) / 2) (drop e.offset l)) where
  body-is : b ≡ body_in l j
  unfolding body_in
  body-is = q ∙ ap (λ (x : Entry). take ((x.nibbles + 1) / 2) (drop x.offset l)) p

  -- the context that block j leaves
  pub left-is : (cs : List ℤ) → cs ≡ coefficients_in l → (play b cs e.nibbles e.context).context ≡ context_after l j
  unfolding context_after
  left-is cs r = rw (body-is, p, r)

  -- its body has its nibbles
  pub left-long : Found l j → (0 < e.nibbles) × (e.nibbles ≤ 2 * length b)
  left-long F = let s = found_some l j F in let m = body-length l j F in rw (body-is, p) (omega (arith, s), omega (arith, m))
