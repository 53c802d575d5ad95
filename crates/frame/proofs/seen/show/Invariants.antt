-- What is shown of the first i places, of which the last two add nothing.
use Rattle.frame.proofs.LawsShow.{SeenTo}
use Rattle.frame.proofs.seen.show.Given as goal

abbrev pub invariant-loop-i : goal.invariant-loop-i
invariant-loop-i l = SeenTo l.frame.samples l.room.w l.room.s l.p.value l.nibbles l.most l.near l.high l.low l.i
