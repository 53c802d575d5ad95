-- What is written is the pass's, and newest, y and g are made of what the pass has after i samples.
use Rattle.std.proofs.Common.{◌≡◌}
use Rattle.frame.proofs.LawsQuick.{newest_at, lifted, started, Ran}
use Rattle.frame.proofs.quick.run_quick.Given as goal

abbrev pub invariant-loop-i : goal.invariant-loop-i
invariant-loop-i l =
    Ran l.fn.pair.c0 l.fn.pair.c1 l.frame.samples l.fn.p.value l.i l.room.w l.room.s
    × (l.newest ≡ newest_at l.fn.pair.c0 l.fn.pair.c1 l.frame.samples l.fn.p.value l.i)
    × (l.y ≡ lifted l.fn.pair.c0 l.fn.pair.c1 l.frame.samples l.fn.p.value l.i)
    × (l.g ≡ started l.fn.pair.c0 l.fn.pair.c1 l.frame.samples l.fn.p.value l.i)
