-- `run_pass` meets its contract.
use Rattle.std.proofs.Common.{◌+◌, refl, ◌∙◌, length-set, rules, arith, w8, w16}
use Rattle.std.proofs.Math.Facts.{to_z-of_z}
use mir.Val.{SFits}
use Rattle.frame.specs.Pass.{upto}
use Rattle.frame.proofs.LawsPass.{carried-more, carried-done}
use Rattle.frame.proofs.LawsPlaces.{sample-at}
use Rattle.frame.proofs.pass.run_pass.Goals as goal

pub loop-i-init : goal.loop-i-init
unfolding upto
loop-i-init c =
    let f = c.args.frame.now.padded.fit in
    (refl, refl, omega arith, rw (to_z-of_z (f.at 1 (omega arith)), to_z-of_z (f.at 0 (omega arith))))

pub loop-i-preserved : goal.loop-i-preserved
loop-i-preserved c =
    let inv = c.loop-i.invariant in
    let fs = c.args.frame.now.samples in
    let i = c.loop-i.i in
    let xf = c.args.frame.now.padded.fit.at (i + 2) (omega arith) in
    let nf : SFits w8 c.code_sample-step.result.nibble = search rules in
    let sf : SFits w16 c.code_sample-step.result.sample = search rules in
    let e = c.from-distance.ensures ∙ rw (to_z-of_z xf, to_z-of_z sf) at c.squared_difference.ensures in
    let t = rw (to_z-of_z xf, ← sample-at fs i (omega arith)) at c.code_sample-step.ensures in (
      simp length-set inv.0,
      simp length-set inv.1,
      omega arith,
      rw (to_z-of_z sf, to_z-of_z nf, c.max-overflow.ensures, e, ← sample-at fs i (omega arith))
          (carried-more c.args.pair.c0 c.args.pair.c1 _ _ c.args.p.value i _ _ _ _ _ _ c.code_sample-step.result (omega arith) (omega arith) inv.3 t),
    )

pub returns : goal.returns
returns c = carried-done _ _ _ _ _ _ _ _ _ _ _ _ (omega arith) c.loop-i.invariant.0 c.loop-i.invariant.1 c.loop-i.invariant.3
