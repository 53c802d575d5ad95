use Rattle.std.proofs.Common.{sym, ap, ◌∙◌}
use lib.Ieee.{ne}
use Rattle.float.proofs.SpecialValues.{zero_is, plain-finite-some, plain-endless}
use Rattle.float.proofs.fusing.is_plain.Goals as goal

pub returns-then-is_finite : goal.returns-then-is_finite
returns-then-is_finite c = ap (ne c.args.x) zero_is ∙ plain-finite-some c.args.x (sym c.is_finite.ensures.value ∙ c.if-is_finite.true)

pub returns-else-is_finite : goal.returns-else-is_finite
returns-else-is_finite c = c.if-is_finite.false ∙ plain-endless c.args.x (sym c.is_finite.ensures.value ∙ c.if-is_finite.false)
