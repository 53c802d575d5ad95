use Rattle.std.proofs.Common.{◌≡◌, true}
use Rattle.image.specs.Sameness.{same_contexts}
use Rattle.image.proofs.opened.Opened.tables_agree.Given as goal

abbrev pub invariant-loop-k : goal.invariant-loop-k
invariant-loop-k l = same_contexts l.self l.other l.k ≡ true
