-- The ends of the first i differences and of i from place 6 on.
use Rattle.std.proofs.Common.{◌≡◌}
use lib.IntN.{pos, neg_ℤ}
use Rattle.frame.proofs.LawsEnds.{two_tops, over_at, under_at}
use Rattle.frame.proofs.estimate.ends_of.Given as goal

abbrev pub invariant-loop-i : goal.invariant-loop-i
invariant-loop-i l =
    (l.high ≡ pos (two_tops (over_at l.pair.c0 l.pair.c1 l.frame.samples) l.i)) × (l.low ≡ neg_ℤ (pos (two_tops (under_at l.pair.c0 l.pair.c1 l.frame.samples) l.i)))
