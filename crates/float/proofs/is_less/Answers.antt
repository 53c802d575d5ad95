use Rattle.std.proofs.Common.{sym, ◌∙◌}
use Rattle.float.proofs.LessThan.{less-minus, less-plus, less-apart}
use Rattle.float.proofs.is_less.Goals as goal

pub returns-then-is_sign_negative : goal.returns-then-is_sign_negative
returns-then-is_sign_negative c = c.is_sign_positive.ensures ∙ less-minus c.args.a c.args.b c.if-a-b.true (sym c.is_sign_negative.ensures ∙ c.if-is_sign_negative.true)

pub returns-else-is_sign_negative : goal.returns-else-is_sign_negative
returns-else-is_sign_negative c = c.if-is_sign_negative.false ∙ less-plus c.args.a c.args.b c.if-a-b.true (sym c.is_sign_negative.ensures ∙ c.if-is_sign_negative.false)

pub returns-else-a-b : goal.returns-else-a-b
returns-else-a-b c = less-apart c.args.a c.args.b c.if-a-b.false
