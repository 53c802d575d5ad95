use Rattle.std.proofs.Common.{◌∙◌}
use Rattle.float.proofs.HalfAway.{round-is}
use Rattle.float.proofs.SpecialValues.{held}
use Rattle.float.proofs.round.Goals as goal

pub returns : goal.returns
returns c = c.round.ensures ∙ round-is c.args.x (held c.well_formed.0.1)
