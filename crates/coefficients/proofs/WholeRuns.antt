-- Whole runs: for every list of measurings and askings from the fresh state on one store, refused ones included, each answer is the plain machine's, and
-- the state and the store that are left are functions of the samples accepted, of the first store and of what had been measured at each asking.
use Rattle.std.proofs.Common.{◌≡◌, ℕ, ◌+◌, ◌/◌, ◌≤◌, Bool, true, false, cond, ltb, List, [], ◌∷◌, ◌++◌, length, ℤ, sym, refl, ap, ◌∙◌, subst, ap₂, append_assoc, append-nil, arith, length-append, ltb-false, le-leb}
use mathlib.Core.List.{foldl}
use lib.Ieee.{Float}
use Rattle.whole.specs.Frames.{most}
use Rattle.whole.specs.Outcome.{Outcome, accepted, refused_at, refused, with_values}
use Rattle.whole.proofs.Outcomes.{failed}
use Rattle.coefficients.specs.Measure.{needed, Measuring, measuring, fresh, valid, process_answer, process, finish_answer, finish, finish_by}
use Rattle.coefficients.proofs.ByOutcome.{ProcessEffect, process_by}
use Rattle.coefficients.specs.Runs.{coefficients_of, Call, measures, asks, plain_outcome, plain_next, plain_run, call_outcome, call_next, run}
use Rattle.coefficients.specs.StateOfSamples.{state_of, store_of}
use Rattle.coefficients.specs.StateOfSamples.{asked_at, plain_after, plain_asked}
use Rattle.coefficients.proofs.StateOfSamples.{Follows, count-few, state-is, fresh-follows, piece-follows, asked, asked-follows}

-- ---- what the calls answer

-- values leave a refusal as it is
values-cond : (b : Bool) (n : ℕ) (o : Outcome Unit) (cs : List ℤ) → with_values (cond b (refused n) o) cs ≡ cond b (refused n) (with_values o cs)
values-cond true n o cs = refl
values-cond false n o cs = refl

-- the plain machine's tests
abbrev piece_answer : ℕ → List ℤ → List ℤ → Outcome Unit
piece_answer size xs p = cond (ltb most (length xs + length p)) (refused 2) (cond (ltb size (needed (length xs + length p))) (refused 3) (accepted tt))

abbrev asking_answer : ℕ → List ℤ → Outcome Unit
asking_answer size xs = cond (ltb size (needed (length xs))) (refused 3) (accepted tt)

plain-piece : (size : ℕ) (xs p : List ℤ) → plain_outcome size xs (measures p) ≡ with_values (piece_answer size xs p) []
plain-piece size xs p =
    let a = ltb most (length xs + length p) in
    let b = ltb size (needed (length xs + length p)) in
    sym (values-cond a 2 (cond b (refused 3) (accepted tt)) [] ∙ ap (cond a (refused 2)) (values-cond b 3 (accepted tt) []))

plain-asking : (size : ℕ) (xs : List ℤ) → plain_outcome size xs asks ≡ with_values (asking_answer size xs) (coefficients_of xs)
plain-asking size xs = sym (values-cond (ltb size (needed (length xs))) 3 (accepted tt) (coefficients_of xs))

-- an accepted piece is within the limits
piece-fits : (size : ℕ) (xs p : List ℤ) → piece_answer size xs p ≡ accepted tt → (length xs + length p ≤ most) × (needed (length xs + length p) ≤ size)
piece-fits size xs p e =
    let v = failed (ltb most (length xs + length p)) 2 _ e in
    let u = failed (ltb size (needed (length xs + length p))) 3 _ v.1 in
    (ltb-false most (length xs + length p) v.0, ltb-false size (needed (length xs + length p)) u.0)

asking-fits : (size : ℕ) (xs : List ℤ) → asking_answer size xs ≡ accepted tt → needed (length xs) ≤ size
asking-fits size xs e = ltb-false size (needed (length xs)) (failed (ltb size (needed (length xs))) 3 _ e).0

-- ---- a call

-- what a call answers, and that what it leaves follows the plain machine
pub record Step (s : List Float) (ws : List (List ℤ)) (xs : List ℤ) (m : Measuring) (c : Call) : Type 0 where
  pub answers : call_outcome m c ≡ plain_outcome (length s) xs c
  pub leaves : (let o = plain_outcome (length s) xs c in Follows s (ws ++ asked_at o xs c) (plain_next o xs c) (call_next m c))
  pub few : length (plain_next (plain_outcome (length s) xs c) xs c) ≤ most

module _ (s : List Float) (ws : List (List ℤ)) (xs : List ℤ) (m : Measuring) (f : Follows s ws xs m) (l : length xs ≤ most) where
  state-valid : valid m.calculator.samples m.calculator.records ≡ true
  unfolding valid
  state-valid =
      let few = count-few s ws xs m f in
      let a = le-leb m.calculator.samples most (omega (arith, f.samples)) in
      let b = le-leb m.calculator.records (m.calculator.samples / 14) (omega (arith, f.samples, few)) in
      rw (a, b)

  process-answer : (p : List ℤ) → process_answer m.calculator.samples m.calculator.records (length p) (length m.store) ≡ piece_answer (length s) xs p
  unfolding process_answer
  process-answer p = rw (state-valid, f.samples, f.size)

  finish-answer : finish_answer m.calculator.samples m.calculator.records (length m.store) ≡ asking_answer (length s) xs
  unfolding finish_answer
  finish-answer = rw (state-valid, f.samples, f.size)

  none-asked : Follows s (ws ++ []) xs m
  none-asked = subst (λ (v : List (List ℤ)). Follows s v xs m) (sym (append-nil ws)) f

  measure-step : (p : List ℤ) → Step s ws xs m (measures p)
  measure-step p = go (piece_answer (length s) xs p) refl
    where
      by : (o : Outcome Unit) → piece_answer (length s) xs p ≡ o → process m.calculator p m.store ≡ process_by o m p
      by o e = unfold process in ap (λ (a : Outcome Unit). process_by a m p) (process-answer p ∙ e)

      next : (o : Outcome Unit) → piece_answer (length s) xs p ≡ o → call_next m (measures p) ≡ (process_by o m p).left
      next o e = ap (λ (f : ProcessEffect). f.left) (by o e)

      plain : (o : Outcome Unit) → piece_answer (length s) xs p ≡ o → plain_outcome (length s) xs (measures p) ≡ with_values o []
      plain o e = plain-piece (length s) xs p ∙ ap (λ (a : Outcome Unit). with_values a []) e

      go : (o : Outcome Unit) → piece_answer (length s) xs p ≡ o → Step s ws xs m (measures p)
      go (accepted u) e =
          let w = piece-fits (length s) xs p e in
          record {
            answers = rw (by (accepted u) e, plain (accepted u) e);
            leaves = rw (next (accepted u) e, plain (accepted u) e) (rw append-nil (piece-follows s ws xs p m f w.1));
            few = rw (plain (accepted u) e) (omega (arith, length-append xs p, w.0));
          }
      go (refused_at n j) e =
          record {
            answers = rw (by (refused_at n j) e, plain (refused_at n j) e);
            leaves = rw (next (refused_at n j) e, plain (refused_at n j) e) none-asked;
            few = rw (plain (refused_at n j) e) l;
          }

  ask-step : Step s ws xs m asks
  ask-step = go (asking_answer (length s) xs) refl
    where
      by : (o : Outcome Unit) → asking_answer (length s) xs ≡ o → finish m.calculator m.store ≡ finish_by o m.calculator m.store
      by o e = unfold finish in ap (λ (a : Outcome Unit). finish_by a m.calculator m.store) (finish-answer ∙ e)

      plain : (o : Outcome Unit) → asking_answer (length s) xs ≡ o → plain_outcome (length s) xs asks ≡ with_values o (coefficients_of xs)
      plain o e = plain-asking (length s) xs ∙ ap (λ (a : Outcome Unit). with_values a (coefficients_of xs)) e

      go : (o : Outcome Unit) → asking_answer (length s) xs ≡ o → Step s ws xs m asks
      go (accepted u) e =
          record {
            answers = rw (by (accepted u) e, plain (accepted u) e) (ap accepted (asked s ws xs m f (asking-fits (length s) xs e)));
            leaves = rw (by (accepted u) e, plain (accepted u) e) (asked-follows s ws xs m f);
            few = rw (plain (accepted u) e) l;
          }
      go (refused_at n j) e =
          record {
            answers = rw (by (refused_at n j) e, plain (refused_at n j) e);
            leaves = rw (by (refused_at n j) e, plain (refused_at n j) e) none-asked;
            few = rw (plain (refused_at n j) e) l;
          }

  pub call_step : (c : Call) → Step s ws xs m c
  call_step (measures p) = measure-step p
  call_step asks = ask-step

-- ---- the run

run-follows : (cs : List Call) (s : List Float) (ws : List (List ℤ)) (xs : List ℤ) (m : Measuring) → Follows s ws xs m → length xs ≤ most → run m cs ≡ plain_run (length s) xs cs
unfolding run plain_run
run-follows [] s ws xs m f l = refl
run-follows (c ∷ cs) s ws xs m f l =
    let t = call_step s ws xs m f l c in
    ap₂ (λ (a : Outcome (List ℤ)) (b : List (Outcome (List ℤ))). a ∷ b) t.answers (run-follows cs s _ _ (call_next m c) t.leaves t.few)

states-follow : (cs : List Call) (s : List Float) (ws : List (List ℤ)) (xs : List ℤ) (m : Measuring) → Follows s ws xs m → length xs ≤ most
    → foldl call_next m cs ≡ (let ys = plain_after (length s) xs cs in measuring (state_of ys) (store_of s (ws ++ plain_asked (length s) xs cs) ys))
unfolding plain_after plain_asked
states-follow [] s ws xs m f l = state-is s ws xs m f ∙ ap (λ (v : List (List ℤ)). measuring (state_of xs) (store_of s v xs)) (sym (append-nil ws))
states-follow (c ∷ cs) s ws xs m f l =
    let t = call_step s ws xs m f l c in
    let o = plain_outcome (length s) xs c in
    let ys = plain_after (length s) (plain_next o xs c) cs in
    states-follow cs s (ws ++ asked_at o xs c) (plain_next o xs c) (call_next m c) t.leaves t.few
    ∙ ap (λ (v : List (List ℤ)). measuring (state_of ys) (store_of s v ys)) (append_assoc ws (asked_at o xs c) (plain_asked (length s) (plain_next o xs c) cs))

-- Document 01, Whole runs: measuring and asking for coefficients, from the fresh state, on one store.
pub measuring-runs : (s : List Float) (cs : List Call) → run (measuring fresh s) cs ≡ plain_run (length s) [] cs
measuring-runs s cs = run-follows cs s [] [] (measuring fresh s) (fresh-follows s) (omega arith)

-- The state and the store after any such list, refused calls included: functions of the samples accepted, of the first store and of
-- what had been measured at each accepted asking.
pub measuring-states : (s : List Float) (cs : List Call)
    → foldl call_next (measuring fresh s) cs ≡ (let xs = plain_after (length s) [] cs in measuring (state_of xs) (store_of s (plain_asked (length s) [] cs) xs))
measuring-states s cs = states-follow cs s [] [] (measuring fresh s) (fresh-follows s) (omega arith)
