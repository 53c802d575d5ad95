use Rattle.std.proofs.Common.{ap, ◌∙◌}
use Rattle.image.specs.Reading.{coefficients_in}
use Rattle.image.proofs.opened.Opened.coefficients.Goals as goal

pub returns : goal.returns
returns c = c.self.invariant.1 ∙ ap coefficients_in c.self.view_is
