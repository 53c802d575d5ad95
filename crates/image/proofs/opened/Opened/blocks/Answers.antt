use Rattle.std.proofs.Common.{ap, ◌∙◌}
use Rattle.image.specs.Reading.{blocks_in}
use Rattle.image.proofs.opened.Opened.blocks.Goals as goal

pub returns : goal.returns
unfolding blocks_in
returns c = c.get32.ensures ∙ ap blocks_in c.self.view_is
