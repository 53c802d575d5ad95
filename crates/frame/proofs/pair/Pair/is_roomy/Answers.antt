-- `is_roomy` meets its contract: it compares the sum of the magnitudes with its limit.
use Rattle.std.proofs.Common.{rules, w16}
use Rattle.std.proofs.Math.Facts.{to_z-of_z}
use mir.Val.{SFits}
use Rattle.frame.specs.inner.Quick.{is_roomy}
use Rattle.frame.proofs.pair.Pair.is_roomy.Goals as goal

pub returns : goal.returns
unfolding is_roomy
returns c =
    let f : SFits w16 c.args.self.c0 = search rules in
    let g : SFits w16 c.args.self.c1 = search rules in
    rw (c.magnitudes.ensures, to_z-of_z f, to_z-of_z g)
