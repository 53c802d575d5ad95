-- What a frame's record does to the count and to the store. Definitions only.
use Rattle.std.specs.Prelude.{Option, ◌≡◌, ℕ, List, Float}
use Rattle.coefficients.specs.declared.CoefficientCalculator.{CoefficientCalculator}
use Rattle.coefficients.specs.declared.merging.Record.{Record}
use Rattle.coefficients.specs.FrameRecord.{stored, counted}
use Rattle.coefficients.specs.Measure.{padded_count, padded_store}

-- q records, and the store t, after a frame that showed f
pub record Kept (s : List Float) (r : ℕ) (f : Option Record) (q : ℕ) (t : List Float) : Type 0 where
  pub count : q ≡ counted r f
  pub store : t ≡ stored s r f

-- q records, and the store t, with the padded frame's
pub record KeptPadded (c : CoefficientCalculator) (s : List Float) (q : ℕ) (t : List Float) : Type 0 where
  pub count : q ≡ padded_count c
  pub store : t ≡ padded_store c s
