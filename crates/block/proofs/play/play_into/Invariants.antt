use Rattle.std.proofs.Common.{◌≡◌, []}
use lib.Seq.{sets}
use Rattle.block.specs.Frame.{playing}
use Rattle.block.specs.inner.Frames.{play_frames}
use Rattle.block.proofs.play.play_into.Given as goal

abbrev pub invariant-loop-k : goal.invariant-loop-k
invariant-loop-k l =
    let p = play_frames l.bytes l.coefficients l.k (playing l.fn.context []) in
    record { now : p.context ≡ l.current; stored : l.out ≡ sets l.initial.out 0 p.samples }
