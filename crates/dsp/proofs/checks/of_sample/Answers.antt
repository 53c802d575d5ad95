use borrow.Author.Tests.{lt-leb, lt-ltb, le-leb}
use Rattle.dsp.specs.Import.{of_sample}
use Rattle.dsp.proofs.checks.of_sample.Goals as goal

pub returns-then-not-in_header : goal.returns-then-not-in_header
unfolding of_sample
returns-then-not-in_header c = rw (c.from.ensures, c.address_to_sample.ensures, le-leb _ _ c.if-not-in_header.true)

pub returns-else-not-in_header : goal.returns-else-not-in_header
unfolding of_sample
returns-else-not-in_header c = simp (lt-leb _ _ c.if-not-in_header.false, lt-ltb _ _ c.if-not-in_header.false)
