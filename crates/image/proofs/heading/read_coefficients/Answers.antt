use Rattle.std.proofs.Common.{◌∙◌, pos, replicate, arith}
use mir.Facts.{to_z-of_z}
use mir.Syntax.{w16}
use Rattle.image.proofs.Coefficients.{coefficients-none, coefficient-turn, coefficients-all}
use Rattle.image.proofs.heading.read_coefficients.Goals as goal

pub loop-i-init : goal.loop-i-init
loop-i-init c = coefficients-none _ _

pub loop-i-preserved : goal.loop-i-preserved
loop-i-preserved c = coefficient-turn c.args.image.now (replicate 16 (pos 0)) c.loop-i.c-items c.loop-i.i _ c.loop-i.invariant (to_z-of_z {w = w16} (record { sfits = c.signed_at.type_inv }) ∙ c.signed_at.ensures)

pub returns : goal.returns
returns c = coefficients-all c.args.image.now _ c.loop-i.i (omega arith) c.loop-i.invariant
