-- After k turns the sums are those of the first k records.
use Rattle.std.proofs.Common.{◌≡◌, take}
use Rattle.coefficients.specs.Store as Store
use Rattle.coefficients.proofs.store.totals.Given as goal

abbrev pub invariant-loop-k : goal.invariant-loop-k
invariant-loop-k l = l.sums ≡ Store.totals (take l.k l.records)
