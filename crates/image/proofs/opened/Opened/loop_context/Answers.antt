use Rattle.std.proofs.Common.{ap, ◌∙◌}
use Rattle.image.specs.Reading.{loop_context_in}
use Rattle.image.proofs.opened.Opened.loop_context.Goals as goal

pub loop_context-requires : goal.loop_context-requires
loop_context-requires c = (c.self.invariant.0.head, rw c.self.view_is c.requires)

pub returns : goal.returns
returns c = c.loop_context.ensures ∙ ap loop_context_in c.self.view_is
