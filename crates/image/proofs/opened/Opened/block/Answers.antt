use Rattle.std.proofs.Common.{ap, ◌∙◌, subst}
use Rattle.image.specs.Reading.{block_in}
use Rattle.image.specs.inner.Asked.{Opens}
use Rattle.image.proofs.opened.Opened.block.Goals as goal

pub returns-clause-read : goal.returns-clause-read
unfolding block_in
returns-clause-read c = c.get32.ensures ∙ ap block_in c.self.view_is

pub returns-clause-opens : goal.returns-clause-opens
returns-clause-opens c = subst Opens c.self.view_is c.self.invariant.0
