use Rattle.std.proofs.Common.{arith}
use borrow.Author.Tests.{ne_eqb}
use Rattle.whole.specs.Frames.{frame_count}
use Rattle.layout.specs.Sizes.{last_frame_samples, body_bytes}
use Rattle.dsp.specs.Import.{needed}
use Rattle.dsp.proofs.checks.needed.Goals as goal

pub returns-then-total-eq0 : goal.returns-then-total-eq0
unfolding needed
returns-then-total-eq0 c = rw c.if-total-eq0.true

pub returns : goal.returns
unfolding needed body_bytes last_frame_samples frame_count
returns c = rw (c.div_ceil-before.ensures, ne_eqb _ _ c.if-total-eq0.false) (omega arith)
