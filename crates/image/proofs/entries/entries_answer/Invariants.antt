use Rattle.std.proofs.Common.{◌≡◌, ◌-◌}
use Rattle.layout.specs.Sizes.{block_count}
use Rattle.image.specs.Opening.{entries_answer}
use Rattle.image.proofs.entries.entries_answer.Given as goal

abbrev pub invariant-loop-j : goal.invariant-loop-j
invariant-loop-j l =
    (l.first ≡ l.last) × (entries_answer l.image l.shape 0 (block_count l.shape) ≡ entries_answer l.image l.shape l.j (block_count l.shape - l.j))
