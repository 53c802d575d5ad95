-- One sample more.
use Rattle.std.proofs.Common.{get_or, pos, rules, to_z-of_z, w16, SFits, ◌≡◌, ◌+◌, ◌-◌, length, arith, ◌∙◌}
use Rattle.coefficients.specs.Measure.{measuring}
use Rattle.coefficients.proofs.AcceptedCalls.{measurable-one, measurable-next}
use Rattle.coefficients.proofs.OneSample.{all-step}
use Rattle.coefficients.proofs.CoefficientCalculator.push_all.Goals as goal

pub push-requires : goal.push-requires
push-requires c = measurable-one _ _ _ _ c.loop-x.invariant.0 (omega arith)

pub loop-x-preserved : goal.loop-x-preserved
loop-x-preserved c =
    let v = c.loop-x.invariant in
    let k : length c.args.samples.now - c.loop-x.x-index ≡ length c.args.samples.now - (c.loop-x.x-index + 1) + 1 = omega arith in
    let f : SFits w16 (get_or c.args.samples.now c.loop-x.x-index (pos 0)) = search rules in (
      measurable-next c.loop-x.next c.push.new.self c.loop-x.s c.push.new.s _ _ (rw k at v.0) c.push.auto.s c.push.ensures,
      c.push.auto.s ∙ v.1,
      all-step c.args.samples.now c.loop-x.x-index _ (measuring c.loop-x.next c.loop-x.s) _ _ (omega arith) (to_z-of_z f) v.2 c.push.ensures,
    )
