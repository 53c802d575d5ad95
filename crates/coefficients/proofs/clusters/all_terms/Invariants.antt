-- After i turns the first i are the terms of the first i vectors.
use Rattle.std.proofs.Common.{◌≡◌, length, map, take}
use Rattle.coefficients.specs.inner.SharedTerms.{vector_terms}
use Rattle.coefficients.proofs.clusters.all_terms.Given as goal

abbrev pub invariant-loop-i : goal.invariant-loop-i
invariant-loop-i l = (length l.terms ≡ 8) × (take l.i l.terms ≡ map vector_terms (take l.i l.vs))
