use Rattle.std.proofs.Common.{arith}
use borrow.Author.Tests.{lt-leb, le-leb}
use Rattle.dsp.specs.Import.{long_enough}
use Rattle.dsp.proofs.TestLaws.{needed-small}
use Rattle.dsp.proofs.checks.long_enough.Goals as goal

pub overflow_add-result : goal.overflow_add-result
overflow_add-result c = let s = needed-small c.get32.result in omega (arith, s, c.needed.ensures, c.get32.type_inv)

pub returns-then-file-ge-HEADER_BYTES : goal.returns-then-file-ge-HEADER_BYTES
unfolding long_enough
returns-then-file-ge-HEADER_BYTES c = simp (c.needed.ensures, c.get32.ensures, le-leb _ _ c.if-file-ge-HEADER_BYTES.true)

pub returns-else-file-ge-HEADER_BYTES : goal.returns-else-file-ge-HEADER_BYTES
unfolding long_enough
returns-else-file-ge-HEADER_BYTES c = simp (lt-leb _ _ c.if-file-ge-HEADER_BYTES.false)
