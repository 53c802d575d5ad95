-- What an accepted call tells: the state is valid, and there is room for what is written.
use Rattle.std.proofs.Common.{◌≡◌, ℕ, ◌+◌, ◌*◌, ◌/◌, ◌%◌, ◌<◌, ◌≤◌, Bool, true, false, cond, not, ◌&&◌, T, eqb, ltb, leb, List, length, ℤ, sym, refl, ap, ◌∙◌, subst, arith, ltb-false, le-ltb, le-leb, leb-true}
use borrow.Author.Tests.{eqb-false}
use lib.Ieee.{Float}
use Rattle.whole.specs.Frames.{most, frame_count}
use Rattle.whole.specs.Outcome.{Outcome, accepted, refused}
use Rattle.whole.proofs.Outcomes.{passed, failed}
use Rattle.coefficients.specs.declared.CoefficientCalculator.{CoefficientCalculator}
use Rattle.coefficients.specs.FrameRecord.{analyse, counted}
use Rattle.coefficients.specs.Measure.{Measuring, measuring, valid, needed, push, padded, process_answer, finish_answer, padded_count}
use Rattle.coefficients.specs.inner.Measurable.{Measurable}
use Rattle.coefficients.proofs.OneSample.{found-le, pushed-samples, push-records}

-- ---- a valid state

and_left : (a b : Bool) → a && b ≡ true → a ≡ true
and_left true b e = refl
and_left false b e = e

and_right : (a b : Bool) → a && b ≡ true → b ≡ true
and_right true b e = e
and_right false b e = absurd (subst T (sym e) tt)

pub valid-samples : (n r : ℕ) → valid n r ≡ true → n ≤ most
unfolding valid
valid-samples n r e = leb-true n most (and_left (leb n most) (leb r (n / 14)) e)

pub valid-records : (n r : ℕ) → valid n r ≡ true → r ≤ n / 14
unfolding valid
valid-records n r e = leb-true r (n / 14) (and_right (leb n most) (leb r (n / 14)) e)

-- ---- an accepted call

pub process-measurable : (n r len size : ℕ) → process_answer n r len size ≡ accepted tt → Measurable n r len size
unfolding process_answer
process-measurable n r len size p =
    let v = passed (valid n r) 1 _ p in
    let w = failed (ltb most (n + len)) 2 _ v.1 in
    let u = failed (ltb size (needed (n + len))) 3 _ w.1 in
    record {
      records = valid-records n r v.0;
      samples = ltb-false most (n + len) w.0;
      store = ltb-false size (needed (n + len)) u.0;
    }

-- and back
pub measurable-accepted : (n r len size : ℕ) → Measurable n r len size → process_answer n r len size ≡ accepted tt
unfolding process_answer valid
measurable-accepted n r len size p =
    let a = le-leb n most (omega (arith, p.samples)) in
    let b = le-leb r (n / 14) p.records in
    let d = le-ltb most (n + len) p.samples in
    let e = le-ltb size (needed (n + len)) p.store in
    rw (a, b, d, e)

-- an asking is tested as a piece of no samples
pub finish-tested : (n r size : ℕ) → finish_answer n r size ≡ process_answer n r 0 size
unfolding finish_answer process_answer valid
finish-tested n r size = go (leb n most) refl (leb r (n / 14))
  where
    e : n + 0 ≡ n
    e = omega arith

    go : (a : Bool) → leb n most ≡ a → (b : Bool)
        → ◌≡◌ {A = Outcome Unit} (cond (not (a && b)) (refused 1) (cond (ltb size (needed n)) (refused 3) (accepted tt)))
        (cond (not (a && b)) (refused 1) (cond (ltb most (n + 0)) (refused 2) (cond (ltb size (needed (n + 0))) (refused 3) (accepted tt))))
    go false p b = refl
    go true p false = refl
    go true p true = rw (e, le-ltb most n (leb-true n most p))

pub finish-measurable : (n r size : ℕ) → finish_answer n r size ≡ accepted tt → Measurable n r 0 size
unfolding finish_answer
finish-measurable n r size p =
    let v = passed (valid n r) 1 _ p in
    let u = failed (ltb size (needed n)) 3 _ v.1 in
    let e : n + 0 ≡ n = omega arith in
    record {
      records = valid-records n r v.0;
      samples = rw e (valid-samples n r v.0);
      store = rw e (ltb-false size (needed n) u.0);
    }

-- ---- room in the store

-- for a record while there are samples left
pub measurable-room : (n r len size : ℕ) → Measurable n r len size → 0 < len → 2 * r + 1 < size
unfolding frame_count
measurable-room n r len size p l = omega (arith, p.records, p.store)

-- for one sample where there is room for some
pub measurable-one : (n r len size : ℕ) → Measurable n r len size → 0 < len → Measurable n r 1 size
unfolding frame_count
measurable-one n r len size p l = record { records = p.records; samples = omega (arith, p.samples); store = omega (arith, p.store) }

-- for the samples that are left after one
pub measurable-next : (c d : CoefficientCalculator) (s t : List Float) (x : ℤ) (len : ℕ) → Measurable c.samples c.records (len + 1) (length s)
    → length t ≡ length s → measuring d t ≡ push (measuring c s) x → Measurable d.samples d.records len (length t)
measurable-next c d s t x len p l e =
    let n : d.samples ≡ c.samples + 1 = ap (λ (m : Measuring). m.calculator.samples) e ∙ pushed-samples c s x in
    let r : d.records ≡ (push (measuring c s) x).calculator.records = ap (λ (m : Measuring). m.calculator.records) e in
    let k : c.samples + 1 + len ≡ c.samples + (len + 1) = omega arith in
    rw (n, l)
    (record { records = rw r (push-records c.samples c.records c.history s x p.records); samples = rw k p.samples; store = rw k p.store })

-- for the record of a frame that is not full
pub measurable-padded : (n r size : ℕ) → Measurable n r 0 size → (n % 14 ≡ 0 → ⊥) → 2 * r + 1 < size
unfolding frame_count
measurable-padded n r size p k = omega (arith, p.store, p.records)

-- for all records with that of the padded frame
pub padded-le : (c : CoefficientCalculator) (size : ℕ) → Measurable c.samples c.records 0 size → (2 * padded_count c ≤ size) × (padded_count c ≤ 1048576)
unfolding padded_count frame_count
padded-le c size p = go (eqb (c.samples % 14) 0) refl
  where
    go : (t : Bool) → eqb (c.samples % 14) 0 ≡ t
        → let q = cond t c.records (counted c.records (analyse (padded c.history (c.samples % 14)))) in (2 * q ≤ size) × (q ≤ 1048576)
    go true e = (omega (arith, p.store, p.records), omega (arith, p.samples, p.records))
    go false e =
        let z = eqb-false (c.samples % 14) 0 e in
        let f = found-le c.records (analyse (padded c.history (c.samples % 14))) in
        (omega (arith, f, p.store, p.records), omega (arith, f, p.samples, p.records))
