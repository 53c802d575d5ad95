use Rattle.std.proofs.Common.{ap, ◌∙◌, subst}
use Rattle.image.specs.Reading.{loop_in}
use Rattle.image.specs.inner.Asked.{Opens}
use Rattle.image.proofs.opened.Opened.looped.Goals as goal

pub read_loop-requires : goal.read_loop-requires
read_loop-requires c = c.self.invariant.0.head

pub returns-clause-read : goal.returns-clause-read
returns-clause-read c = c.read_loop.ensures ∙ ap loop_in c.self.view_is

pub returns-clause-opens : goal.returns-clause-opens
returns-clause-opens c = subst Opens c.self.view_is c.self.invariant.0
