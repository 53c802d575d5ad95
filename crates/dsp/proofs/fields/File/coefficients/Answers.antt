use Rattle.std.proofs.Common.{ap, ◌∙◌}
use Rattle.whole.proofs.Stores.{part-all}
use Rattle.image.specs.Reading.{coefficients_in}
use Rattle.dsp.specs.File.{coefficients_of}
use Rattle.dsp.proofs.fields.File.coefficients.Goals as goal

pub returns : goal.returns
unfolding coefficients_of
returns c = c.read_coefficients.ensures ∙ ap coefficients_in (part-all c.self.inside.bytes.now 12) ∙ ap coefficients_of c.self.view_is
