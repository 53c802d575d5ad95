use Rattle.std.proofs.Common.{sym}
use Rattle.image.proofs.LawsSame.{compare-accepted}
use Rattle.dsp.proofs.opened.Opened.read.Goals as goal

pub invariant_of-result : goal.invariant_of-result
invariant_of-result c = (compare-accepted c.args.bytes.now (sym c.in_ok-compare_answer.ensures)).opens
