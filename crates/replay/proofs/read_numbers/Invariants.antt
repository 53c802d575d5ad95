use Rattle.std.proofs.Common.{◌≡◌, ℕ, ◌+◌, ◌*◌, ◌<◌, length, get_or}
use Rattle.replay.proofs.read_numbers.Given as goal

abbrev pub invariant-loop-i : goal.invariant-loop-i
invariant-loop-i g l =
    (length l.numbers ≡ l.i-end) × ((k : ℕ) (d : g.row.T.Denot) → k < l.i → get_or l.numbers k d ≡ g.T.Number.number_at l.line (l.at + g.T.Number.DIGITS * k))
