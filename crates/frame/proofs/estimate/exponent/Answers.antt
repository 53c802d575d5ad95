-- `exponent` meets its contract: the leading zeros count the halvings.
use lib.IntN.{pos}
use Rattle.frame.proofs.LawsEnds.{zeros-le, exponent-by-zeros}
use Rattle.frame.proofs.LawsEstimate.{exponent-most}
use Rattle.frame.proofs.estimate.exponent.Goals as goal

pub overflow_sub-result : goal.overflow_sub-result
overflow_sub-result c = zeros-le c.args.m c.requires

pub invariant_of-result : goal.invariant_of-result
invariant_of-result c = record { most = rw (exponent-by-zeros c.args.m c.requires) (exponent-most (pos c.args.m)) }

pub returns : goal.returns
returns c = exponent-by-zeros c.args.m c.requires
