-- What the calls' tests leave. Definitions only.
use Rattle.std.specs.Prelude.{ℕ, ◌+◌, ◌/◌, ◌≤◌}
use Rattle.whole.specs.Frames.{most}
use Rattle.coefficients.specs.Measure.{needed}

-- a state of n samples with r records, len samples more and a store of some size: no call refuses them
pub record Measurable (n r len size : ℕ) : Type 0 where
  pub records : r ≤ n / 14
  pub samples : n + len ≤ most
  pub store : needed (n + len) ≤ size
