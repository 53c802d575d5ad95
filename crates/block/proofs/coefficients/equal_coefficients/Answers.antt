use Rattle.std.proofs.Common.{◌∙◌, arith}
use Rattle.block.proofs.LawsRefusals.{same-coefficients}
use Rattle.block.proofs.coefficients.equal_coefficients.Goals as goal

pub returns : goal.returns
returns c = c.eq.ensures ∙ same-coefficients c.args.first c.args.second (omega arith) (omega arith)
