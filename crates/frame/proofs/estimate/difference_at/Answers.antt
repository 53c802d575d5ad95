-- `difference_at` meets its contract: three samples in a row.
use Rattle.std.proofs.Common.{◌+◌, ◌∙◌, arith, w16}
use Rattle.std.proofs.Math.Facts.{to_z-of_z}
use Rattle.frame.specs.inner.Ends.{difference_at}
use Rattle.frame.proofs.estimate.difference_at.Goals as goal

pub returns : goal.returns
unfolding difference_at
returns c =
    let f = c.args.frame.now.padded.fit in
    let i = c.args.i in
    to_z-of_z {w = w16} (record { sfits = c.difference.type_inv })
    ∙ rw (to_z-of_z (f.at (i + 1) (omega arith)), to_z-of_z (f.at i (omega arith)), to_z-of_z (f.at (i + 2) (omega arith))) at c.difference.ensures
