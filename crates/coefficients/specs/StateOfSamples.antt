-- The state and the store after some calls, as functions of what was measured. Definitions only.
use Rattle.std.specs.Prelude.{ℕ, ◌*◌, ◌/◌, List, [], ◌∷◌, ◌++◌, length, drop, ℤ, Float}
use Rattle.std.proofs.lemmas.List.Edits.{sets}
use Rattle.whole.specs.Frames.{frame_count}
use Rattle.whole.specs.Outcome.{Outcome, accepted, refused_at}
use Rattle.coefficients.specs.declared.CoefficientCalculator.{CoefficientCalculator}
use Rattle.coefficients.specs.declared.merging.Record.{Record}
use Rattle.coefficients.specs.Measure.{calculator}
use Rattle.coefficients.specs.Runs.{left_at, records_of, Call, measures, asks, plain_outcome, plain_next}

-- ---- of X

-- the history of the state after X, of which the first k frames are full
unfoldable pub history_at : List ℤ → ℕ → List ℤ
history_at xs k = sets (left_at xs k) 14 (drop (14 * k) xs)

-- the state after X
unfoldable pub state_of : List ℤ → CoefficientCalculator
state_of xs = let k = length xs / 14 in calculator (length xs) (length (records_of xs k)) (history_at xs k)

-- ---- the store

-- two numbers for each record
unfoldable pub numbers_of : List Record → List Float
numbers_of [] = []
numbers_of (r ∷ rs) = r.v1 ∷ r.v2 ∷ numbers_of rs

-- the store with these records at its front, in order
unfoldable pub with_records : List Float → List Record → List Float
with_records s rs = sets s 0 (numbers_of rs)

-- the first store with what askings wrote: for each, the records of all frames of what had been measured by then, its last frame filled with zeros
unfoldable pub asked_of : List Float → List (List ℤ) → List Float
asked_of s [] = s
asked_of s (w ∷ ws) = asked_of (with_records s (records_of w (frame_count (length w)))) ws

-- and with the records of X's full frames
unfoldable pub store_of : List Float → List (List ℤ) → List ℤ → List Float
store_of s ws xs = with_records (asked_of s ws) (records_of xs (length xs / 14))

-- ---- after some calls

-- X after some calls
unfoldable pub plain_after : ℕ → List ℤ → List Call → List ℤ
plain_after size xs [] = xs
plain_after size xs (c ∷ cs) = plain_after size (plain_next (plain_outcome size xs c) xs c) cs

-- what had been measured at a call, if it is an asking and accepted
abbrev pub asked_at : Outcome (List ℤ) → List ℤ → Call → List (List ℤ)
asked_at (accepted cs) xs (measures p) = []
asked_at (accepted cs) xs asks = xs ∷ []
asked_at (refused_at n j) xs c = []

-- what had been measured at each accepted asking of some calls, in turn
unfoldable pub plain_asked : ℕ → List ℤ → List Call → List (List ℤ)
plain_asked size xs [] = []
plain_asked size xs (c ∷ cs) =
    let o = plain_outcome size xs c in
    asked_at o xs c ++ plain_asked size (plain_next o xs c) cs
