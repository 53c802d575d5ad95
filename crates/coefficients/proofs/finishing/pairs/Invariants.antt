-- After k turns the first k pairs are written.
use Rattle.std.proofs.Common.{◌≡◌}
use Rattle.coefficients.specs.Finish.{pairs}
use Rattle.coefficients.proofs.finishing.pairs.Given as goal

abbrev pub invariant-loop-k : goal.invariant-loop-k
invariant-loop-k l = l.cs ≡ pairs l.vs l.k
