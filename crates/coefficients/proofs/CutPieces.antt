-- A piece that is cut in two: measuring it is measuring its parts in turn.
use Rattle.std.proofs.Common.{◌≡◌, ◌+◌, ◌/◌, ◌%◌, ◌≤◌, Bool, true, false, cond, eqb, List, [], ◌∷◌, ◌++◌, length, set, ℤ, sym, refl, ap, ◌∙◌, arith, length-append}
use mathlib.Core.List.{foldl, foldl-append}
use lib.Ieee.{Float}
use Rattle.whole.specs.Frames.{frame_count}
use Rattle.whole.specs.Outcome.{Outcome, accepted, effect}
use Rattle.coefficients.specs.declared.CoefficientCalculator.{CoefficientCalculator}
use Rattle.coefficients.specs.FrameRecord.{analyse}
use Rattle.coefficients.specs.Measure.{Measuring, calculator, measuring, framed, push, process_answer, process}
use Rattle.coefficients.proofs.ByOutcome.{ProcessEffect, process_by}
use Rattle.coefficients.specs.inner.Measurable.{Measurable}
use Rattle.coefficients.proofs.FrameHistories.{stored-length}
use Rattle.coefficients.proofs.OneSample.{push-records}
use Rattle.coefficients.proofs.AcceptedCalls.{process-measurable, measurable-accepted}

-- ---- what a piece does to the counts and to the store's length

module _ (m : Measuring) (x : ℤ) where
  abbrev c : CoefficientCalculator
  c = m.calculator

  abbrev h : List ℤ
  h = set c.history (14 + c.samples % 14) x

  abbrev either : Bool → Measuring
  either t = cond t (framed (c.samples + 1) c.records h m.store) (measuring (calculator (c.samples + 1) c.records h) m.store)

  push-samples : (push m x).calculator.samples ≡ c.samples + 1
  unfolding push framed
  push-samples = go (eqb (c.samples % 14) 13)
    where
      go : (t : Bool) → (either t).calculator.samples ≡ c.samples + 1
      go true = refl
      go false = refl

  push-store : length (push m x).store ≡ length m.store
  unfolding push framed
  push-store = go (eqb (c.samples % 14) 13)
    where
      go : (t : Bool) → length (either t).store ≡ length m.store
      go true = stored-length m.store c.records (analyse h)
      go false = refl

piece-samples : (xs : List ℤ) (m : Measuring) → (foldl push m xs).calculator.samples ≡ m.calculator.samples + length xs
piece-samples [] m = omega arith
piece-samples (x ∷ xs) m = piece-samples xs (push m x) ∙ omega (arith, push-samples m x)

piece_store : (xs : List ℤ) (m : Measuring) → length (foldl push m xs).store ≡ length m.store
piece_store [] m = refl
piece_store (x ∷ xs) m = piece_store xs (push m x) ∙ push-store m x

piece-records : (xs : List ℤ) (m : Measuring) → m.calculator.records ≤ m.calculator.samples / 14 → (foldl push m xs).calculator.records ≤ (m.calculator.samples + length xs) / 14
piece-records [] m l = omega arith
piece-records (x ∷ xs) m l =
    let s = push-samples m x in
    let r = push-records m.calculator.samples m.calculator.records m.calculator.history m.store x l in
    omega (arith, s, piece-records xs (push m x) (omega (arith, s, r)))

-- ---- a call that is accepted

-- what may be measured with a store: the state, a piece and the store
abbrev Fits : CoefficientCalculator → List ℤ → List Float → Type 0
Fits c xs s = Measurable c.samples c.records (length xs) (length s)

outcome-is : (c : CoefficientCalculator) (xs : List ℤ) (s : List Float) → (process c xs s).outcome ≡ process_answer c.samples c.records (length xs) (length s)
unfolding process
outcome-is c xs s = refl

fits-accepted : (c : CoefficientCalculator) (xs : List ℤ) (s : List Float) → Fits c xs s → process c xs s ≡ effect (accepted tt) (foldl push (measuring c s) xs)
unfolding process
fits-accepted c xs s p = ap (λ (o : Outcome Unit). process_by o (measuring c s) xs) (measurable-accepted c.samples c.records (length xs) (length s) p)

accepted-fits : (c : CoefficientCalculator) (xs : List ℤ) (s : List Float) → (process c xs s).outcome ≡ accepted tt → Fits c xs s
accepted-fits c xs s e = process-measurable c.samples c.records (length xs) (length s) (sym (outcome-is c xs s) ∙ e)

-- ---- two parts

module _ (c : CoefficientCalculator) (a b : List ℤ) (s : List Float) where
  -- the state and the store after the first part
  abbrev between : Measuring
  between = foldl push (measuring c s) a

  fits-first : Fits c (a ++ b) s → Fits c a s
  unfolding frame_count
  fits-first p = let l = length-append a b in record { records = p.records; samples = omega (arith, p.samples); store = omega (arith, p.store) }

  fits-second : Fits c (a ++ b) s → Fits between.calculator b between.store
  unfolding frame_count
  fits-second p =
      let l = length-append a b in
      let n = piece-samples a (measuring c s) in
      let z = piece_store a (measuring c s) in
      let r = piece-records a (measuring c s) p.records in
      record { records = omega (arith, n, r); samples = omega (arith, n, p.samples); store = omega (arith, n, z, p.store) }

  fits_both : Fits c a s → Fits between.calculator b between.store → Fits c (a ++ b) s
  unfolding frame_count
  fits_both p q =
      let l = length-append a b in
      let n = piece-samples a (measuring c s) in
      let z = piece_store a (measuring c s) in
      record { records = p.records; samples = omega (arith, n, q.samples); store = omega (arith, n, z, q.store) }

  abbrev first : ProcessEffect
  first = process c a s

  abbrev second : ProcessEffect
  second = process first.left.calculator b first.left.store

  second_is : Fits c a s → second ≡ process between.calculator b between.store
  second_is p = ap (λ (e : ProcessEffect). process e.left.calculator b e.left.store) (fits-accepted c a s p)

  -- where the whole piece is accepted, so are its parts in turn
  pub cut-accepted : (process c (a ++ b) s).outcome ≡ accepted tt → ((process c a s).outcome ≡ accepted tt)
      × ((let e = process c a s in process e.left.calculator b e.left.store).outcome ≡ accepted tt)
  cut-accepted e =
      let p = accepted-fits c (a ++ b) s e in (
        ap (λ (o : ProcessEffect). o.outcome) (fits-accepted c a s (fits-first p)),
        ap (λ (o : ProcessEffect). o.outcome) (second_is (fits-first p) ∙ fits-accepted between.calculator b between.store (fits-second p)),
      )

  -- where the parts are accepted in turn, so is the whole piece
  pub joined-accepted : (process c a s).outcome ≡ accepted tt → (let e = process c a s in process e.left.calculator b e.left.store).outcome ≡ accepted tt → (process c (a ++ b) s).outcome
      ≡ accepted tt
  joined-accepted e d =
      let p = accepted-fits c a s e in
      let q = accepted-fits between.calculator b between.store (sym (ap (λ (o : ProcessEffect). o.outcome) (second_is p)) ∙ d) in
      ap (λ (o : ProcessEffect). o.outcome) (fits-accepted c (a ++ b) s (fits_both p q))

  -- and then it is the parts in turn
  pub process-cut : (process c (a ++ b) s).outcome ≡ accepted tt → process c (a ++ b) s ≡ (let e = process c a s in process e.left.calculator b e.left.store)
  process-cut e =
      let p = accepted-fits c (a ++ b) s e in
      fits-accepted c (a ++ b) s p
      ∙ ap (effect (accepted tt)) (foldl-append push (measuring c s) a b)
      ∙ sym (second_is (fits-first p) ∙ fits-accepted between.calculator b between.store (fits-second p))
