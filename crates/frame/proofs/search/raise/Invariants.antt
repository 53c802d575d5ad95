-- Some number of turns leads from here to what the definition gives.
use Rattle.std.proofs.Common.{◌≤◌}
use Rattle.frame.specs.Search.{raise}
use Rattle.frame.proofs.LawsSearch.{Left}
use Rattle.frame.proofs.search.raise.Given as goal

abbrev pub invariant-loop-y : goal.invariant-loop-y
invariant-loop-y l = (l.p ≤ 12) × Left (raise l.overflow l.fn.first.value) l.y l.p

abbrev pub decreases-loop-y : goal.decreases-loop-y
decreases-loop-y l = l.y
