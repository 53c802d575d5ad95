-- After i turns the first i vectors are made anew.
use Rattle.std.proofs.Common.{◌≡◌}
use Rattle.coefficients.specs.Clusters.{renewed}
use Rattle.coefficients.proofs.clusters.renew.Given as goal

abbrev pub invariant-loop-i : goal.invariant-loop-i
invariant-loop-i l = l.vs ≡ renewed l.initial.vs l.clusters l.i
