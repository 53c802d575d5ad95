-- The first i nibbles and samples, then zeros.
use Rattle.std.proofs.Common.{◌≡◌, ◌-◌, ◌++◌, take, replicate}
use lib.IntN.{pos}
use Rattle.frame.proofs.seen.Seen.finished.Given as goal

abbrev pub invariant-loop-i : goal.invariant-loop-i
invariant-loop-i l =
    (l.nibbles ≡ take l.i l.self.nibbles ++ replicate (14 - l.i) (pos 0)) × (l.samples ≡ take l.i l.room.s ++ replicate (14 - l.i) (pos 0))
