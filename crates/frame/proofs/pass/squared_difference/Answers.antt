-- `squared_difference` meets its contract: the difference fits in 32 bits.
use Rattle.std.proofs.Common.{◌∙◌, w32}
use Rattle.std.proofs.Math.Facts.{to_z-of_z}
use Rattle.whole.proofs.SignedLocals.{is_call, is-sub, abs-sfits}
use Rattle.frame.specs.Pass.{squared_difference}
use Rattle.frame.proofs.pass.squared_difference.Goals as goal

pub returns : goal.returns
unfolding squared_difference
returns c =
    let f = c.ranges in
    let x = is_call {w = w32} (c.from.ensures ∙ to_z-of_z f.x) (abs-sfits f.x) tt in
    let y = is_call {w = w32} (c.from-2.ensures ∙ to_z-of_z f.y) (abs-sfits f.y) tt in
    rw ((rw (is-sub x y tt).is at c.unsigned_abs-d.ensures.value))
