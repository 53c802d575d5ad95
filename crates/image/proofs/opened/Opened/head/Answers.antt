use Rattle.std.proofs.Common.{ap, ◌∙◌, subst}
use Rattle.image.specs.Reading.{head_in}
use Rattle.image.specs.inner.Asked.{Opens}
use Rattle.image.proofs.opened.Opened.head.Goals as goal

pub read_head-requires : goal.read_head-requires
read_head-requires c = c.self.invariant.0.head.long

pub returns-clause-read : goal.returns-clause-read
returns-clause-read c = c.read_head.ensures ∙ ap head_in c.self.view_is

pub returns-clause-opens : goal.returns-clause-opens
returns-clause-opens c = subst Opens c.self.view_is c.self.invariant.0
