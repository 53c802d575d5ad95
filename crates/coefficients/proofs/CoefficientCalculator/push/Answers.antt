-- A sample that fills its frame, and one that does not.
use Rattle.std.proofs.Common.{◌∙◌, length-set, ◌≡◌, arith, length, rules, to_z-of_z}
use Rattle.coefficients.proofs.AcceptedCalls.{measurable-room}
use Rattle.coefficients.proofs.OneSample.{push-full, push-part, kept-le, shift-is}
use Rattle.coefficients.proofs.CoefficientCalculator.push.Goals as goal

pub process_frame-requires : goal.process_frame-requires
process_frame-requires c = measurable-room _ _ _ _ c.requires (omega arith)

pub overflow_cast-self-then-k-eq13 : goal.overflow_cast-self-then-k-eq13
overflow_cast-self-then-k-eq13 c =
    record { fits = omega (arith, kept-le _ _ _ _ _ c.process_frame.ensures, c.requires.records, c.requires.samples) }

pub returns-then-k-eq13 : goal.returns-then-k-eq13
returns-then-k-eq13 c =
    let a = c.args.self.now in
    let l : length a.history ≡ 28 = search rules in
    push-full a.samples a.records c.process_frame.result a.history c.copy_within.new.self c.args.s.now c.process_frame.new.s c.args.x _ (to_z-of_z c.ranges.x) c.if-k-eq13.true c.process_frame.ensures
    (c.copy_within.ensures.after ∙ shift-is _ (length-set a.history _ _ ∙ l))

pub returns-else-k-eq13 : goal.returns-else-k-eq13
returns-else-k-eq13 c =
    let a = c.args.self.now in
    push-part a.samples a.records a.history c.args.s.now c.args.x _ (to_z-of_z c.ranges.x) c.if-k-eq13.false
