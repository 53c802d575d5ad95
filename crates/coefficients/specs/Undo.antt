-- Steps taken back: calls some of which are undone, by going on from the state before them with the store as they left it. Definitions only.
use Rattle.std.specs.Prelude.{◌≡◌, ℕ, ◌*◌, ◌<◌, List, [], ◌∷◌, length, ℤ, slice_index_or, Float}
use Rattle.std.specs.Float.{nan}
use Rattle.whole.specs.Outcome.{Outcome}
use Rattle.coefficients.specs.Measure.{Measuring, measuring}
use Rattle.coefficients.specs.Runs.{Call, call_outcome, call_next}

-- a call and the steps after it; or some steps that are taken back, and the steps after that
pub data Steps : Type 0 where
  done : Steps
  call : Call → Steps → Steps
  undone : Steps → Steps → Steps

-- state and store after some steps: the state is the one from before what was taken back, the store is not
unfoldable pub reached : Measuring → Steps → Measuring
reached m done = m
reached m (call c t) = reached (call_next m c) t
reached m (undone u t) = reached (measuring m.calculator (reached m u).store) t

-- the calls that were not taken back
unfoldable pub kept : Steps → List Call
kept done = []
kept (call c t) = c ∷ kept t
kept (undone u t) = kept t

-- what these answered
unfoldable pub step_run : Measuring → Steps → List (Outcome (List ℤ))
step_run m done = []
step_run m (call c t) = call_outcome m c ∷ step_run (call_next m c) t
step_run m (undone u t) = step_run (measuring m.calculator (reached m u).store) t

-- ---- stores that a state goes on with alike

-- two stores of one length, the same in the numbers of r records
pub record SameSoFar (r : ℕ) (s t : List Float) : Type 0 where
  pub size : length s ≡ length t
  pub numbers : (i : ℕ) → i < 2 * r → slice_index_or s i nan ≡ slice_index_or t i nan

-- one state, and stores that are the same in the records that it counts
pub record Same (m n : Measuring) : Type 0 where
  pub state : m.calculator ≡ n.calculator
  pub store : SameSoFar m.calculator.records m.store n.store
