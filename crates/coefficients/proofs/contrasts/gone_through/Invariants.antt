-- After i turns the contrasts with the first i vectors are gone through.
use Rattle.std.proofs.Common.{◌≡◌}
use Rattle.coefficients.specs.inner.SharedTerms.{gone_through}
use Rattle.coefficients.proofs.contrasts.gone_through.Given as goal

abbrev pub invariant-loop-i : goal.invariant-loop-i
invariant-loop-i g l = l.kept ≡ gone_through g.C.Contrasts.none g.C.Contrasts.and g.C.Contrasts.contrast l.ts l.s l.i
