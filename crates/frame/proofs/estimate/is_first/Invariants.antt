-- The first from place i on decides as the first of all does.
use Rattle.std.proofs.Common.{◌≡◌, ◌-◌}
use Rattle.frame.specs.inner.Ends.{up_first}
use Rattle.frame.proofs.estimate.is_first.Given as goal

abbrev pub invariant-loop-i : goal.invariant-loop-i
invariant-loop-i l =
    up_first l.pair.c0 l.pair.c1 l.frame.samples l.n (14 - l.i) l.i ≡ up_first l.pair.c0 l.pair.c1 l.frame.samples l.n 14 0
