use Rattle.std.proofs.Common.{◌≤◌}
use Rattle.replay.proofs.DigitsDisplay.fmt.Given as goal

abbrev pub invariant-loop-number : goal.invariant-loop-number
invariant-loop-number g l = l.used ≤ 128
