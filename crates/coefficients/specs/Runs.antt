-- Whole runs of measuring: a plain machine that sees only the calls and the store's length. Definitions only.
use Rattle.std.specs.Prelude.{Option, Some, None, ℕ, zero, suc, ◌+◌, cond, List, [], ◌∷◌, ◌++◌, length, take, drop, replicate, ℤ, pos, nat_lt}
use Rattle.whole.specs.Frames.{frame_at, most, frame_count}
use Rattle.whole.specs.Outcome.{Outcome, accepted, refused_at, refused, with_values}
use Rattle.coefficients.specs.declared.merging.Record.{Record}
use Rattle.coefficients.specs.FrameRecord.{analyse}
use Rattle.coefficients.specs.Finish.{record_coefficients}
use Rattle.coefficients.specs.Measure.{needed, Measuring, measuring, process, finish}

-- ---- the coefficients of X

-- a history with the frame in its last fourteen places
unfoldable pub holding : List ℤ → List ℤ → List ℤ
holding h f = take 14 h ++ f

-- what the frames before frame i left, at first 28 zeros: the last fourteen samples, moved to the front too
unfoldable pub left_at : List ℤ → ℕ → List ℤ
left_at xs zero = replicate 28 (pos 0)
left_at xs (suc i) = let h = holding (left_at xs i) (frame_at xs i) in drop 14 h ++ drop 14 h

-- the record of a frame, if it has one
abbrev pub record_of : Option Record → List Record
record_of None = []
record_of (Some x) = x ∷ []

-- the records of the first k frames, in order
unfoldable pub records_of : List ℤ → ℕ → List Record
records_of xs zero = []
records_of xs (suc k) = records_of xs k ++ record_of (analyse (holding (left_at xs k) (frame_at xs k)))

-- the coefficients of X: those of all its frames' records
unfoldable pub coefficients_of : List ℤ → List ℤ
coefficients_of xs = record_coefficients (records_of xs (frame_count (length xs)))

-- ---- the plain machine

-- a piece is measured, or coefficients are asked for
pub data Call : Type 0 where
  measures : List ℤ → Call
  asks : Call

-- the store has some size, X is what was accepted so far: a measuring that is accepted has no values, an asking has coefficients
abbrev pub plain_outcome : ℕ → List ℤ → Call → Outcome (List ℤ)
plain_outcome size xs (measures p) = cond (nat_lt most (length xs + length p)) (refused 2) (cond (nat_lt size (needed (length xs + length p))) (refused 3) (accepted []))
plain_outcome size xs asks = cond (nat_lt size (needed (length xs))) (refused 3) (accepted (coefficients_of xs))

-- X after a call: an accepted piece joins it
abbrev pub plain_next : Outcome (List ℤ) → List ℤ → Call → List ℤ
plain_next (accepted cs) xs (measures p) = xs ++ p
plain_next (accepted cs) xs asks = xs
plain_next (refused_at n j) xs c = xs

-- what a list of calls answers
unfoldable pub plain_run : ℕ → List ℤ → List Call → List (Outcome (List ℤ))
plain_run size xs [] = []
plain_run size xs (c ∷ cs) =
    let o = plain_outcome size xs c in
    o ∷ plain_run size (plain_next o xs c) cs

-- ---- the calls' own definitions, one after the other

-- what a call answers
abbrev pub call_outcome : Measuring → Call → Outcome (List ℤ)
call_outcome m (measures p) = with_values (process m.calculator p m.store).outcome []
call_outcome m asks = let e = finish m.calculator m.store in with_values e.outcome e.coefficients

-- the state and the store after it
abbrev pub call_next : Measuring → Call → Measuring
call_next m (measures p) = (process m.calculator p m.store).left
call_next m asks = let e = finish m.calculator m.store in measuring e.calculator e.store

-- what a list of calls answers
unfoldable pub run : Measuring → List Call → List (Outcome (List ℤ))
run m [] = []
run m (c ∷ cs) = call_outcome m c ∷ run (call_next m c) cs
