-- Measuring a piece, by the call's outcome.
use Rattle.std.proofs.Common.{List, ℤ}
use mathlib.Core.List.{foldl}
use Rattle.whole.specs.Outcome.{Outcome, if_accepted, Effect, effect}
use Rattle.coefficients.specs.Measure.{Measuring, push}

-- what measuring a piece answers and leaves
abbrev pub ProcessEffect : Type 0
ProcessEffect = Effect (Outcome Unit) Measuring

abbrev pub process_by : Outcome Unit → Measuring → List ℤ → ProcessEffect
process_by o m xs = effect o (if_accepted o (foldl push m xs) m)
