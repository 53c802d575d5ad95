use Rattle.std.proofs.Common.{◌≡◌, ◌<◌, ℕ, length, get_or}
use Rattle.block.proofs.join.copy.Given as goal

abbrev pub invariant-loop-j : goal.invariant-loop-j
invariant-loop-j l = (length l.place-items ≡ length l.source) × ((k : ℕ) → k < l.j → get_or l.place-items k 0 ≡ get_or l.source k 0)
