-- The loop over the entries.
use mathlib.Core.Bool.{true, false, false≢true}
use mathlib.Core.Path.{◌≡◌, sym, ap, ◌∙◌}
use mathlib.Core.List.{List}
use Prim.Native.Nat.{ℕ, suc, ◌+◌, ◌-◌, ◌≤◌, ◌<◌}
use native.Mathlib.Numerals.{add-one}
use native.Mathlib.Omega.{arith}
use Rattle.std.specs.Prelude.{Result, Ok, Err}
use Rattle.std.specs.Result.{is_err}
use Rattle.layout.specs.declared.Shape.{Shape}
use Rattle.whole.specs.Outcome.{accepted, refused_at}
use Rattle.image.specs.declared.Refusal.{Refusal}
use Rattle.image.specs.Opening.{outcome, and_then, entry_answer, entries_answer}
use Rattle.image.proofs.TestsInTurn.{first-refused, next-asked, then-nothing}

module _ (l : List ℕ) (s : Shape) (kk j : ℕ) where
  entry-step : j < kk → entries_answer l s j (kk - j) ≡ and_then (entry_answer l s j) (entries_answer l s (suc j) (kk - suc j))
  unfolding entries_answer
  entry-step lt =
      let e : kk - j ≡ suc (kk - suc j) = omega arith in
      ap (entries_answer l s j) e

  pub entry-wrong : {n i : ℕ} → j < kk → entry_answer l s j ≡ refused_at n i → entries_answer l s j (kk - j) ≡ refused_at n i
  entry-wrong lt e = entry-step lt ∙ first-refused (entry_answer l s j) _ e

  pub entry-right : j < kk → entry_answer l s j ≡ accepted tt → entries_answer l s j (kk - j) ≡ entries_answer l s (j + 1) (kk - (j + 1))
  entry-right lt e = entry-step lt ∙ next-asked (entry_answer l s j) _ e ∙ rw (add-one j)

  pub entries_none : kk ≤ j → entries_answer l s j (kk - j) ≡ accepted tt
  unfolding entries_answer
  entries_none h = let z : kk - j ≡ 0 = omega arith in ap (entries_answer l s j) z

-- what the code's answer for an entry says of the answer from it on
module _ (l : List ℕ) (s : Shape) (kk j : ℕ) (lt : j < kk) where
  pub answer-stays : (r : Result Unit Refusal) → outcome r ≡ entry_answer l s j → is_err r ≡ true → entries_answer l s j (kk - j) ≡ entry_answer l s j
  answer-stays (Ok u) p i = absurd (false≢true i)
  answer-stays (Err e) p i = entry-wrong l s kk j lt (sym p) ∙ p

  pub next-entry : (r : Result Unit Refusal) → outcome r ≡ entry_answer l s j → is_err r ≡ false → entries_answer l s j (kk - j) ≡ entries_answer l s (j + 1) (kk - (j + 1))
  next-entry (Ok u) p i = entry-right l s kk j lt (sym p)
  next-entry (Err e) p i = absurd (false≢true (sym i))

pub entries-all : (l : List ℕ) (s : Shape) (kk : ℕ) → entries_answer l s 0 kk ≡ entries_answer l s 0 (kk - 0)
entries-all l s kk = let z : kk ≡ kk - 0 = omega arith in ap (entries_answer l s 0) z

-- from the last entry on, the answer is that entry's
pub entries-last : (l : List ℕ) (s : Shape) (kk j : ℕ) → suc j ≡ kk → entries_answer l s j (kk - j) ≡ entry_answer l s j
entries-last l s kk j e =
    entry-step l s kk j (omega (arith, e)) ∙ ap (and_then (entry_answer l s j)) (entries_none l s kk (suc j) (omega (arith, e))) ∙ then-nothing (entry_answer l s j)
