-- `raise` meets its contract.
use Rattle.std.proofs.Common.{refl, rules, arith}
use Rattle.frame.specs.Search.{raise}
use Rattle.frame.proofs.LawsSearch.{left-more, left-done}
use Rattle.frame.proofs.search.raise.Goals as goal

pub loop-y-init : goal.loop-y-init
unfolding raise
loop-y-init c = (c.args.first.most, (24, omega arith, refl))

pub loop-y-preserved : goal.loop-y-preserved
loop-y-preserved c = (omega arith, left-more _ _ _ _ c.loop-y-test.true (search rules) c.loop-y.invariant.1)

pub returns : goal.returns
returns c = left-done _ _ _ c.loop-y-test.false c.loop-y.invariant.1

pub invariant_of-result : goal.invariant_of-result
invariant_of-result c = record { most = c.loop-y.invariant.0 }
