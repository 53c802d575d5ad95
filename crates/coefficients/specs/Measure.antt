-- Measuring pieces and asking for coefficients: what each call does to its state and to the lent store. Definitions only.
use Rattle.std.specs.Prelude.{ℕ, zero, suc, Result, Ok, Err, ◌+◌, ◌-◌, ◌*◌, ◌/◌, ◌%◌, Bool, cond, not, ◌&&◌, List, length, set, replicate, ℤ, pos, ◌==◌, nat_le, nat_lt, slice_index_or, slice_set, Float}
use mathlib.Core.List.{foldl}
use Rattle.std.proofs.lemmas.List.Edits.{sets}
use Rattle.whole.specs.Frames.{most, frame_count}
use Rattle.whole.specs.Outcome.{Outcome, accepted, refused_at, refused, if_accepted, Effect, effect}
use Rattle.coefficients.specs.declared.CoefficientCalculator.{CoefficientCalculator}
use Rattle.coefficients.specs.declared.Refusal.{Refusal}
use Rattle.coefficients.specs.declared.Refusal.TheVariants.{InvalidState, TooManySamples, StoreTooShort}
use Rattle.coefficients.specs.Store as Store
use Rattle.coefficients.specs.FrameRecord.{analyse, stored, counted}
use Rattle.coefficients.specs.Finish.{record_coefficients}

-- ---- the answers

-- document 01's number of each refusal
abbrev pub code : Refusal → ℕ
code InvalidState = 1
code TooManySamples = 2
code StoreTooShort = 3

-- what an answer says, its value left out
abbrev pub outcome : {A : Type 0} → Result A Refusal → Outcome Unit
outcome (Ok v) = accepted tt
outcome (Err e) = refused (code e)

-- ---- the state

-- n samples so far, r records, 28 samples of history
abbrev pub calculator : ℕ → ℕ → List ℤ → CoefficientCalculator
calculator n r h = record { samples = n; records = r; history = h }

-- a fresh one is all zeros
unfoldable pub fresh : CoefficientCalculator
fresh = calculator 0 0 (replicate 28 (pos 0))

-- whether n samples and r records can be those of some samples: if not, code 1
unfoldable pub valid : ℕ → ℕ → Bool
valid n r = nat_le n most && nat_le r (n / 14)

-- numbers that the store must have for n samples
abbrev pub needed : ℕ → ℕ
needed n = 2 * frame_count n

-- the state and the store
pub record Measuring : Type 0 where
  pub calculator : CoefficientCalculator
  pub store : List Float

-- a state and a store
abbrev pub measuring : CoefficientCalculator → List Float → Measuring
measuring c s = record { calculator = c; store = s }

-- ---- a piece is measured

-- the first k of the last fourteen samples are copied to the front
unfoldable pub copied : List ℤ → ℕ → List ℤ
copied h zero = h
copied h (suc k) = slice_set (copied h k) k (slice_index_or (copied h k) (14 + k) (pos 0))

-- all fourteen are
unfoldable pub shift : List ℤ → List ℤ
shift h = copied h 14

-- a full frame: its record, if it has one, goes to place r, and the history is shifted
unfoldable pub framed : ℕ → ℕ → List ℤ → List Float → Measuring
framed n r h s = measuring (calculator n (counted r (analyse h)) (shift h)) (stored s r (analyse h))

-- one sample
unfoldable pub push : Measuring → ℤ → Measuring
push m x =
    let n = m.calculator.samples in
    let r = m.calculator.records in
    let h = set m.calculator.history (14 + n % 14) x in
    cond (n % 14 == 13) (framed (n + 1) r h m.store) (measuring (calculator (n + 1) r h) m.store)

-- codes 1, 2, 3 for a piece of some length and a store of some size
unfoldable pub process_answer : ℕ → ℕ → ℕ → ℕ → Outcome Unit
process_answer n r len size =
    cond (not (valid n r)) (refused 1)
    (cond (nat_lt most (n + len)) (refused 2)
    (cond (nat_lt size (needed (n + len))) (refused 3)
    (accepted tt)))

-- a piece on a store: outcome, state and store; an accepted piece is measured sample by sample, a refused one changes nothing
unfoldable pub process : CoefficientCalculator → List ℤ → List Float → Effect (Outcome Unit) Measuring
process c xs s =
    let o = process_answer c.samples c.records (length xs) (length s) in
    effect o (if_accepted o (foldl push (measuring c s) xs) (measuring c s))

-- ---- coefficients are asked for

-- zeros after the k samples of the frame that is not full
unfoldable pub padded : List ℤ → ℕ → List ℤ
padded h k = sets h (14 + k) (replicate (14 - k) (pos 0))

-- the store with the padded frame's record, if there is such a frame and it has one
unfoldable pub padded_store : CoefficientCalculator → List Float → List Float
padded_store c s =
    let k = c.samples % 14 in
    cond (k == 0) s (stored s c.records (analyse (padded c.history k)))

-- the count of records with it
unfoldable pub padded_count : CoefficientCalculator → ℕ
padded_count c =
    let k = c.samples % 14 in
    cond (k == 0) c.records (counted c.records (analyse (padded c.history k)))

-- codes 1 and 3
unfoldable pub finish_answer : ℕ → ℕ → ℕ → Outcome Unit
finish_answer n r size = cond (not (valid n r)) (refused 1) (cond (nat_lt size (needed n)) (refused 3) (accepted tt))

-- sixteen zeros, in place of what a refused asking would answer
abbrev pub no_coefficients : List ℤ
no_coefficients = replicate 16 (pos 0)

-- what `finish` answers and leaves
pub record FinishEffect : Type 0 where
  pub outcome : Outcome Unit
  pub coefficients : List ℤ
  pub calculator : CoefficientCalculator
  pub store : List Float

-- an outcome and coefficients, and the state and the store that are left
abbrev pub finish_effect : Outcome Unit → List ℤ → CoefficientCalculator → List Float → FinishEffect
finish_effect o cs c s = record { outcome = o; coefficients = cs; calculator = c; store = s }

-- an accepted asking leaves the state as it was; a refused one changes nothing, and its coefficients are zeros
abbrev pub finish_by : Outcome Unit → CoefficientCalculator → List Float → FinishEffect
finish_by (accepted u) c s = finish_effect (accepted u) (record_coefficients (Store.records (padded_store c s) (padded_count c))) c (padded_store c s)
finish_by (refused_at n j) c s = finish_effect (refused_at n j) (replicate 16 (pos 0)) c s

-- an asking on a store
unfoldable pub finish : CoefficientCalculator → List Float → FinishEffect
finish c s = finish_by (finish_answer c.samples c.records (length s)) c s
