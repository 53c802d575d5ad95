-- `ends_of` meets its contract.
use Rattle.std.proofs.Common.{refl, ◌∙◌, arith, w16}
use Rattle.std.proofs.Math.Facts.{to_z-of_z}
use mir.Val.{SFits}
use Rattle.frame.proofs.LawsEnds.{higher-more, lower-more, higher-done, lower-done, library-max, library-min}
use Rattle.frame.proofs.estimate.ends_of.Goals as goal

pub loop-i-init : goal.loop-i-init
loop-i-init c = (refl, refl)

pub loop-i-preserved : goal.loop-i-preserved
loop-i-preserved c =
    let a = c.args.pair in
    let fs = c.args.frame.now.samples in
    let fd : SFits w16 c.difference_at-d.result = record { sfits = c.difference_at-d.type_inv } in
    let fe : SFits w16 c.difference_at-e.result = record { sfits = c.difference_at-e.type_inv } in
    let fm : SFits w16 c.max.result = record { sfits = c.max.type_inv } in
    let fh : SFits w16 c.max-high.result = record { sfits = c.max-high.type_inv } in
    let fn : SFits w16 c.min.result = record { sfits = c.min.type_inv } in
    let fl : SFits w16 c.min-low.result = record { sfits = c.min-low.type_inv } in
    let m = rw (to_z-of_z fd, c.difference_at-d.ensures) at c.max.ensures.value in
    let h = rw (to_z-of_z fm, to_z-of_z fe, c.difference_at-e.ensures) at c.max-high.ensures.value in
    let n = rw (to_z-of_z fd, c.difference_at-d.ensures) at c.min.ensures.value in
    let l = rw (to_z-of_z fn, to_z-of_z fe, c.difference_at-e.ensures) at c.min-low.ensures.value in (
      rw (to_z-of_z fh) (higher-more a.c0 a.c1 fs c.loop-i.i _ _ _ c.loop-i.invariant.0 (m ∙ library-max _ _) (h ∙ library-max _ _)),
      rw (to_z-of_z fl) (lower-more a.c0 a.c1 fs c.loop-i.i _ _ _ c.loop-i.invariant.1 (n ∙ library-min _ _) (l ∙ library-min _ _)),
    )

pub returns : goal.returns
returns c =
    let a = c.args.pair in
    let fs = c.args.frame.now.samples in
    let h = higher-done a.c0 a.c1 fs c.loop-i.i _ (omega arith) (omega arith) c.loop-i.invariant.0 in
    let l = lower-done a.c0 a.c1 fs c.loop-i.i _ (omega arith) (omega arith) c.loop-i.invariant.1 in
    rw (h, l)
