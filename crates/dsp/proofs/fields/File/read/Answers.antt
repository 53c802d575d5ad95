use Rattle.std.proofs.Common.{sym, ◌∙◌, arith, tests}
use Rattle.dsp.specs.inner.Asked.{whole_answer}
use Rattle.dsp.proofs.TestLaws.{long-says, whole_says}
use Rattle.dsp.proofs.fields.File.read.Goals as goal

pub returns-then-not-long_enough : goal.returns-then-not-long_enough
unfolding whole_answer
returns-then-not-long_enough c = simp (← c.long_enough.ensures, c.if-not-long_enough.true)

pub get32-requires : goal.get32-requires
get32-requires c = let t = long-says c.args.bytes.now (sym c.long_enough.ensures ∙ c.if-not-long_enough.false) in omega (arith, t.0)

pub returns-then-not-contains : goal.returns-then-not-contains
unfolding whole_answer
returns-then-not-contains c = grind (arith, tests)

pub invariant_of-result : goal.invariant_of-result
invariant_of-result c = whole_says c.args.bytes.now (sym c.long_enough.ensures ∙ c.if-not-long_enough.false) (grind (arith, tests)) (grind (arith, tests))

pub returns : goal.returns
unfolding whole_answer
returns c = grind (arith, tests)
