use Rattle.std.proofs.Common.{◌≡◌, []}
use Rattle.block.specs.Frame.{playing}
use Rattle.block.specs.inner.Frames.{play_frames}
use Rattle.block.proofs.part.context_after.Given as goal

abbrev pub invariant-loop-k : goal.invariant-loop-k
invariant-loop-k l = (play_frames l.bytes l.coefficients l.k (playing l.fn.context [])).context ≡ l.current
