use Rattle.std.proofs.Common.{arith, tests}
use Rattle.dsp.specs.inner.Asked.{numbers_ok}
use Rattle.dsp.proofs.fields.File.numbers_ok.Goals as goal

pub returns-then-get16-eq0 : goal.returns-then-get16-eq0
unfolding numbers_ok
returns-then-get16-eq0 c = let e = c.self.view_is in grind (arith, tests)

pub returns-else-get16-eq0 : goal.returns-else-get16-eq0
unfolding numbers_ok
returns-else-get16-eq0 c = let e = c.self.view_is in grind (arith, tests)
