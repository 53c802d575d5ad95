-- What record_terms works out is what matrix_filter adds.
use Rattle.coefficients.specs.Store.{add_filtered}
use Rattle.coefficients.proofs.SharedTerms.{filter-terms}
use Rattle.coefficients.proofs.store.add_filtered.Goals as goal

pub returns : goal.returns
unfolding add_filtered
returns c = simp (← filter-terms, ← c.record_terms-d.ensures)
