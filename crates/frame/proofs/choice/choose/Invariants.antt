-- What is held after k candidates.
use Rattle.std.proofs.Common.{◌≡◌}
use Rattle.frame.specs.Choice.{held_after}
use Rattle.frame.specs.inner.Places.{history_of, samples_of}
use Rattle.frame.proofs.choice.choose.Given as goal

abbrev pub invariant-loop-k : goal.invariant-loop-k
invariant-loop-k l = l.held ≡ held_after (history_of l.frame.samples) (samples_of l.frame.samples) l.bank.coefficients l.k
