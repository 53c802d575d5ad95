-- After i turns the first i vectors have their neighbours.
use Rattle.std.proofs.Common.{◌≡◌}
use Rattle.coefficients.specs.Clusters.{doubled}
use Rattle.coefficients.proofs.clusters.double.Given as goal

abbrev pub invariant-loop-i : goal.invariant-loop-i
invariant-loop-i l = l.vs ≡ doubled l.initial.vs l.half l.i
