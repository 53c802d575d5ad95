-- Measuring and asking for coefficients, as C sees them. Definitions only.
use Rattle.std.specs.Prelude.{List, Float}
use Rattle.whole.specs.Outcome.{Outcome, outcome_code, Effect, effect}
use Rattle.coefficients.specs.Measure.{Measuring, FinishEffect}
use Rattle.doilycairn.specs.declared.measuring.Processed.{Processed}
use Rattle.doilycairn.specs.declared.measuring.Finished.{Finished}

-- what C sees of measuring a piece: what the call returns, and the store after it
abbrev pub process_seen : Effect (Outcome Unit) Measuring → Effect Processed (List Float)
process_seen e = effect (record { code = outcome_code e.outcome; calculator = e.left.calculator }) e.left.store

-- what C sees of asking for coefficients: the same
abbrev pub finish_seen : FinishEffect → Effect Finished (List Float)
finish_seen e = effect (record { code = outcome_code e.outcome; coefficients = e.coefficients; calculator = e.calculator }) e.store
