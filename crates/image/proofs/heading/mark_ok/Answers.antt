use Rattle.std.proofs.Common.{◌∙◌, arith}
use Rattle.layout.specs.Fields.{mark}
use Rattle.image.specs.Opening.{mark_ok}
use Rattle.image.proofs.Marks.{begins}
use Rattle.image.proofs.heading.mark_ok.Goals as goal

pub returns : goal.returns
unfolding mark_ok
returns c = c.starts_with.ensures.value ∙ begins c.args.image.now mark 0 (omega arith)
