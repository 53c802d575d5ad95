use Rattle.std.proofs.Common.{ap}
use Rattle.block.specs.Frame.{Playing}
use Rattle.image.specs.inner.ByFrames.{played_frame}
use Rattle.image.proofs.comparing.played_frame.Goals as goal

pub returns : goal.returns
unfolding played_frame
returns c = ap (λ (x : Playing). record { samples = x.samples; context = x.context }) c.play_frame-context.ensures
