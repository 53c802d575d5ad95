-- `pair` meets its contract: two coefficients in a row, as they stand.
use Rattle.std.proofs.Common.{rules, w16}
use Rattle.std.proofs.Math.Facts.{to_z-of_z}
use mir.Val.{SFits}
use Rattle.frame.specs.Choice.{c0_at, c1_at}
use Rattle.frame.proofs.bank.Bank.pair.Goals as goal

pub returns : goal.returns
returns c =
    let cs = c.args.self.now.coefficients in
    let f : SFits w16 (c0_at cs c.args.k) = search rules in
    let g : SFits w16 (c1_at cs c.args.k) = search rules in
    record { first = to_z-of_z f; second = to_z-of_z g }
