-- An older measuring state goes on with a later store as if nothing had come after it.
use Rattle.std.proofs.Common.{◌≡◌, ℕ, zero, suc, ◌+◌, ◌*◌, ◌%◌, ◌≤◌, Bool, true, false, cond, eqb, ◌≢◌, List, [], ◌∷◌, ◌++◌, length, get_or, ℤ, sym, refl, ap, ◌∙◌, subst, ap₂, le_refl, arith}
use mathlib.Core.List.{foldl}
use lib.Ieee.{Float, nan}
use Rattle.whole.specs.Outcome.{Outcome, accepted, refused_at, with_values}
use Rattle.whole.proofs.Outcomes.{not-both}
use Rattle.coefficients.specs.declared.CoefficientCalculator.{CoefficientCalculator}
use Rattle.std.specs.Prelude.{Option}
use Rattle.coefficients.specs.declared.merging.Record.{Record}
use Rattle.coefficients.specs.FrameRecord.{analyse, stored, counted}
use Rattle.coefficients.specs.Finish.{record_coefficients}
use Rattle.coefficients.specs.Measure.{FinishEffect, Measuring, measuring, fresh, padded, padded_store, padded_count, process_answer, process, finish_answer, finish_by}
use Rattle.coefficients.specs.Measure.{finish}
use Rattle.coefficients.proofs.ByOutcome.{ProcessEffect, process_by}
use Rattle.coefficients.specs.Runs.{Call, measures, asks, plain_run, call_outcome, call_next, run}
use Rattle.coefficients.specs.Undo.{SameSoFar, Same, Steps, done, call, undone, reached, kept, step_run}
use Rattle.coefficients.specs.Store as Store
use Rattle.coefficients.specs.Store.{read_record}
use Rattle.coefficients.proofs.FrameHistories.{stored-length}
use Rattle.coefficients.proofs.WholeRuns.{measuring-runs}
use Rattle.coefficients.proofs.SameStores.{same_refl, same-trans, same-earlier, found-same, found-writes, found-counts, Later, later_refl, later_trans, piece-same, piece-later}

-- ---- the calls: processing

-- two measurings of a piece: the same outcome and state, and stores that are the same in the records that it counts
pub record SameProcess (e f : ProcessEffect) : Type 0 where
  pub outcome : e.outcome ≡ f.outcome
  pub calculator : e.left.calculator ≡ f.left.calculator
  pub store : SameSoFar e.left.calculator.records e.left.store f.left.store

process-by : (o : Outcome Unit) (m n : Measuring) (xs : List ℤ) → Same m n → SameProcess (process_by o m xs) (process_by o n xs)
process-by (accepted u) m n xs s = let q = piece-same xs m n s in record { outcome = refl; calculator = q.state; store = q.store }
process-by (refused_at k j) m n xs s = record { outcome = refl; calculator = s.state; store = s.store }

-- Processing a piece on two stores of one length that are the same in the numbers of the records counted.
pub process-same : (c : CoefficientCalculator) (xs : List ℤ) (s t : List Float) → SameSoFar c.records s t → SameProcess (process c xs s) (process c xs t)
unfolding process
process-same c xs s t a =
    let o = process_answer c.samples c.records (length xs) (length s) in
    subst (λ (n : ℕ). SameProcess (process_by o (measuring c s) xs) (process_by (process_answer c.samples c.records (length xs) n) (measuring c t) xs)) a.size
    (process-by o (measuring c s) (measuring c t) xs (record { state = refl; store = a }))

process-by-later : (o : Outcome Unit) (m : Measuring) (xs : List ℤ) → Later m (process_by o m xs).left
process-by-later (accepted u) m xs = piece-later xs m
process-by-later (refused_at k j) m xs = later_refl m

-- Processing leaves the numbers of the records counted before it.
pub process-later : (c : CoefficientCalculator) (xs : List ℤ) (s : List Float) → Later (measuring c s) (process c xs s).left
unfolding process
process-later c xs s = process-by-later (process_answer c.samples c.records (length xs) (length s)) (measuring c s) xs

-- ---- the calls: asking

-- two askings: the same outcome, coefficients and state, and stores that are the same in the records that it counts, with the padded frame's where one was written
pub record SameFinish (e f : FinishEffect) : Type 0 where
  pub outcome : e.outcome ≡ f.outcome
  pub coefficients : e.coefficients ≡ f.coefficients
  pub calculator : e.calculator ≡ f.calculator
  pub store : SameSoFar e.calculator.records e.store f.store
  pub written : e.outcome ≡ accepted tt → SameSoFar (padded_count e.calculator) e.store f.store

-- the first records of two such stores
records-same : (r : ℕ) (s t : List Float) → SameSoFar r s t → Store.records s r ≡ Store.records t r
unfolding Store.records read_record
records-same zero s t a = refl
records-same (suc r) s t a =
    ap₂ (λ (l : List Record) (x : Record). l ++ (x ∷ [])) (records-same r s t (same-earlier r (suc r) s t (omega arith) a))
    (ap₂ (λ (v w : Float). record { v1 = v; v2 = w }) (a.numbers (2 * r) (omega arith)) (a.numbers (2 * r + 1) (omega arith)))

module _ (c : CoefficientCalculator) where
  abbrev found : Option Record
  found = analyse (padded c.history (c.samples % 14))

  padded-same : (s t : List Float) → SameSoFar c.records s t → SameSoFar (padded_count c) (padded_store c s) (padded_store c t)
  unfolding padded_count padded_store
  padded-same s t a = go (eqb (c.samples % 14) 0)
    where
      go : (b : Bool) → SameSoFar (cond b c.records (counted c.records found)) (cond b s (stored s c.records found)) (cond b t (stored t c.records found))
      go true = a
      go false = found-same c.records s t found a

  padded-counts : c.records ≤ padded_count c
  unfolding padded_count
  padded-counts = go (eqb (c.samples % 14) 0)
    where
      go : (b : Bool) → c.records ≤ cond b c.records (counted c.records found)
      go true = le_refl c.records
      go false = found-counts c.records found

  padded-length : (s : List Float) → length (padded_store c s) ≡ length s
  unfolding padded_store
  padded-length s = go (eqb (c.samples % 14) 0)
    where
      go : (b : Bool) → length (cond b s (stored s c.records found)) ≡ length s
      go true = refl
      go false = stored-length s c.records found

  padded-writes : (s : List Float) (i : ℕ) → i ≢ 2 * c.records → i ≢ 2 * c.records + 1 → get_or (padded_store c s) i nan ≡ get_or s i nan
  unfolding padded_store
  padded-writes s i n k = go (eqb (c.samples % 14) 0)
    where
      go : (b : Bool) → get_or (cond b s (stored s c.records found)) i nan ≡ get_or s i nan
      go true = refl
      go false = found-writes c.records s found i n k

  finish-by : (o : Outcome Unit) (s t : List Float) → SameSoFar c.records s t → SameFinish (finish_by o c s) (finish_by o c t)
  finish-by (accepted u) s t a =
      let q = padded-same s t a in
      record {
        outcome = refl;
        coefficients = ap record_coefficients (records-same (padded_count c) (padded_store c s) (padded_store c t) q);
        calculator = refl;
        store = same-earlier c.records (padded_count c) (padded_store c s) (padded_store c t) padded-counts q;
        written = λ e. q;
      }
  finish-by (refused_at k j) s t a = record { outcome = refl; coefficients = refl; calculator = refl; store = a; written = λ e. absurd (not-both e) }

  -- Asking on two such stores.
  pub finish-same : (s t : List Float) → SameSoFar c.records s t → SameFinish (finish c s) (finish c t)
  unfolding finish
  finish-same s t a =
      subst (λ (n : ℕ). SameFinish (finish_by (finish_answer c.samples c.records (length s)) c s) (finish_by (finish_answer c.samples c.records n) c t)) a.size
      (finish-by (finish_answer c.samples c.records (length s)) s t a)

  writes-by : (o : Outcome Unit) (s : List Float) (i : ℕ) → i ≢ 2 * c.records → i ≢ 2 * c.records + 1 → get_or (finish_by o c s).store i nan ≡ get_or s i nan
  writes-by (accepted u) s i n k = padded-writes s i n k
  writes-by (refused_at l j) s i n k = refl

  -- Asking writes numbers 2r and 2r + 1 at most, those of the record after the r that the state counts.
  pub finish-writes : (s : List Float) (i : ℕ) → i ≢ 2 * c.records → i ≢ 2 * c.records + 1 → get_or (finish c s).store i nan ≡ get_or s i nan
  unfolding finish
  finish-writes s i n k = writes-by (finish_answer c.samples c.records (length s)) s i n k

  finish-by-later : (o : Outcome Unit) (s : List Float) → Later (measuring c s) (let e = finish_by o c s in measuring e.calculator e.store)
  finish-by-later (accepted u) s =
      record {
        count = le_refl c.records;
        store = record { size = sym (padded-length s); numbers = λ i l. sym (padded-writes s i (λ e. omega arith) (λ e. omega arith)) };
      }
  finish-by-later (refused_at k j) s = later_refl (measuring c s)

  -- So it leaves the numbers of the records counted.
  pub finish-later : (s : List Float) → Later (measuring c s) (let o = finish c s in measuring o.calculator o.store)
  unfolding finish
  finish-later s = finish-by-later (finish_answer c.samples c.records (length s)) s

-- ---- lists of calls

call_same : (k : Call) (m n : Measuring) → Same m n → Same (call_next m k) (call_next n k) × (call_outcome n k ≡ call_outcome m k)
call_same k m n a = subst (λ (c : CoefficientCalculator). Same (call_next m k) (call_next (measuring c n.store) k) × (call_outcome (measuring c n.store) k ≡ call_outcome m k)) a.state (go k)
  where
    go : (k : Call) → Same (call_next m k) (call_next (measuring m.calculator n.store) k) × (call_outcome (measuring m.calculator n.store) k ≡ call_outcome m k)
    go (measures p) =
        let q = process-same m.calculator p m.store n.store a.store in
        (record { state = q.calculator; store = q.store }, ap (λ (v : Outcome Unit). with_values v []) (sym q.outcome))
    go asks =
        let q = finish-same m.calculator m.store n.store a.store in
        (record { state = q.calculator; store = q.store }, ap₂ with_values (sym q.outcome) (sym q.coefficients))

call-later : (k : Call) (m : Measuring) → Later m (call_next m k)
call-later (measures p) m = process-later m.calculator p m.store
call-later asks m = finish-later m.calculator m.store

-- Whatever is called from a state, the store that is left is one that it goes on with alike.
pub calls-later : (ks : List Call) (m : Measuring) → Later m (foldl call_next m ks)
calls-later [] m = later_refl m
calls-later (k ∷ ks) m = later_trans m (call_next m k) (foldl call_next (call_next m k) ks) (call-later k m) (calls-later ks (call_next m k))

pub calls_same : (ks : List Call) (m n : Measuring) → Same m n → Same (foldl call_next m ks) (foldl call_next n ks) × (run n ks ≡ run m ks)
unfolding run
calls_same [] m n a = (a, refl)
calls_same (k ∷ ks) m n a =
    let q = call_same k m n a in
    let r = calls_same ks (call_next m k) (call_next n k) q.0 in
    (r.0, ap₂ (λ (v : Outcome (List ℤ)) (l : List (Outcome (List ℤ))). v ∷ l) q.1 r.1)

-- An older measuring state with a later store: any calls lead where they would have led had those in between not been, and answer so.
pub older-state : (m : Measuring) (between ks : List Call)
    → (let old = measuring m.calculator (foldl call_next m between).store in Same (foldl call_next m ks) (foldl call_next old ks) × (run old ks ≡ run m ks))
older-state m between ks = calls_same ks m (measuring m.calculator (foldl call_next m between).store) (record { state = refl; store = (calls-later between m).store })

-- ---- steps, some of them taken back, in any nesting

-- where steps lead and what those not taken back answered, against the calls alone
record Stepped (m n : Measuring) (t : Steps) : Type 0 where
  same : Same (foldl call_next m (kept t)) (reached n t)
  answers : step_run n t ≡ run m (kept t)
  later : Later n (reached n t)

steps-same : (t : Steps) (m n : Measuring) → Same m n → Stepped m n t
unfolding step_run run kept reached
steps-same done m n a = record { same = a; answers = refl; later = later_refl n }
steps-same (call k t) m n a =
    let q = call_same k m n a in
    let r = steps-same t (call_next m k) (call_next n k) q.0 in
    record {
      same = r.same;
      answers = ap₂ (λ (v : Outcome (List ℤ)) (l : List (Outcome (List ℤ))). v ∷ l) q.1 r.answers;
      later = later_trans n (call_next n k) (reached (call_next n k) t) (call-later k n) r.later;
    }
steps-same (undone u t) m n a =
    let b = (steps-same u m n a).later.store in
    let back = measuring n.calculator (reached n u).store in
    let w : SameSoFar m.calculator.records n.store (reached n u).store = subst (λ (c : CoefficientCalculator). SameSoFar c.records n.store (reached n u).store) (sym a.state) b in
    let r = steps-same t m back (record { state = a.state; store = same-trans m.calculator.records m.store n.store (reached n u).store a.store w }) in
    record { same = r.same; answers = r.answers; later = later_trans n back (reached back t) (record { count = le_refl n.calculator.records; store = b }) r.later }

stepped : (m : Measuring) (t : Steps) → Stepped m m t
stepped m t = steps-same t m m (record { state = refl; store = same_refl m.calculator.records m.store })

-- With steps taken back as often and as deep as one likes, one stands where the calls that were not taken back lead.
pub steps-stand : (m : Measuring) (t : Steps) → Same (foldl call_next m (kept t)) (reached m t)
steps-stand m t = (stepped m t).same

-- From the fresh state, with steps taken back as often and as deep as one likes: the calls that were not taken back answer
-- as the plain machine does that never saw the others.
pub measuring-steps : (s : List Float) (t : Steps) → step_run (measuring fresh s) t ≡ plain_run (length s) [] (kept t)
measuring-steps s t = (stepped (measuring fresh s) t).answers ∙ measuring-runs s (kept t)
