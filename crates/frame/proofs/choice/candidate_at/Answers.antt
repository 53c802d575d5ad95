-- `candidate_at` meets its contract: the search with the pair's coefficients.
use Rattle.frame.specs.Choice.{candidate_at}
use Rattle.frame.proofs.choice.candidate_at.Goals as goal

pub returns : goal.returns
unfolding candidate_at
returns c = rw (c.pair.ensures.first, c.pair.ensures.second) at c.try_coefficients.ensures
