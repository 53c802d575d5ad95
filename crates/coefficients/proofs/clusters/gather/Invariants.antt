-- After k turns the first k records have joined, and no count is above k.
use Rattle.std.proofs.Common.{◌≡◌, length, map, take}
use mathlib.Core.List.{foldl}
use Rattle.coefficients.specs.Clusters.{empty}
use Rattle.coefficients.specs.inner.SharedTerms.{vector_terms}
use Rattle.coefficients.proofs.ChosenVector.{CountsWithin}
use Rattle.coefficients.proofs.SharedTerms.{add_to_nearest_by_terms}
use Rattle.coefficients.proofs.clusters.gather.Given as goal

abbrev pub invariant-loop-k : goal.invariant-loop-k
invariant-loop-k l = (l.clusters ≡ foldl (add_to_nearest_by_terms (map vector_terms l.vs) (length l.vs)) empty (take l.k l.records)) × CountsWithin l.clusters l.k
