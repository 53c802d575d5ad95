use Rattle.std.proofs.Common.{◌∙◌}
use Rattle.float.proofs.HalfAway.{abs-is}
use Rattle.float.proofs.abs.Goals as goal

pub returns : goal.returns
returns c = c.abs.ensures.value ∙ abs-is c.args.x
