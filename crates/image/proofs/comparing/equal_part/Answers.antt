use Rattle.std.proofs.Common.{◌∙◌, arith}
use Rattle.image.proofs.LawsEqual.{library_equal_parts}
use Rattle.image.proofs.comparing.equal_part.Goals as goal

pub returns : goal.returns
returns c = c.eq.ensures ∙ library_equal_parts c.args.xs c.args.ys c.args.count (omega arith) (omega arith)
