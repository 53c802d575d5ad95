-- `placed` meets its contract.
use Rattle.std.proofs.Common.{rules, w16}
use Rattle.std.proofs.Math.Facts.{to_z-of_z}
use mir.Val.{SFits}
use Rattle.frame.proofs.LawsArrays.{array-length, array-fits}
use Rattle.frame.proofs.LawsPlaces.{placed-whole}
use Rattle.frame.proofs.places.placed.Goals as goal

pub returns : goal.returns
returns c =
    let h = c.args.history in
    let xs = c.args.samples in
    let n : SFits w16 h.newest = search rules in
    let o : SFits w16 h.older = search rules in
    let l = array-length w16 14 xs _ c.well_formed.1.0 in
    let f = array-fits 14 xs _ c.well_formed.1.0 in
    rw (to_z-of_z o, to_z-of_z n, c.copy_from_slice.ensures.after) (placed-whole h.older h.newest xs l o n f)
