use Rattle.std.proofs.Common.{sym, ◌∙◌, arith}
use Rattle.whole.specs.Frames.{frame_count}
use Rattle.image.proofs.FramePlaces.{count-whole, count-last}
use Rattle.image.proofs.comparing.frame_samples.Goals as goal

pub overflow_add-i : goal.overflow_add-i
unfolding frame_count
overflow_add-i c = omega arith

pub returns-then-i-frame_count-clause-same : goal.returns-then-i-frame_count-clause-same
returns-then-i-frame_count-clause-same c = sym (count-whole c.args.total c.args.i (omega (arith, c.if-i-frame_count.true, c.frame_count.ensures.same)))

pub returns-else-i-frame_count-clause-same : goal.returns-else-i-frame_count-clause-same
returns-else-i-frame_count-clause-same c = c.last_samples.ensures.same ∙ sym (count-last c.args.total c.args.i (omega (arith, c.if-i-frame_count.false, c.frame_count.ensures.same)))
