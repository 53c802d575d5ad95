-- `pair_ok` meets its contract: it compares the sum of the magnitudes with the limit.
use Rattle.std.proofs.Math.Facts.{to_z-of_z}
use Rattle.frame.specs.Frame.{pair_ok}
use Rattle.frame.proofs.pair_ok.Goals as goal

pub returns : goal.returns
unfolding pair_ok
returns c = rw (c.magnitudes.ensures, to_z-of_z c.ranges.c0, to_z-of_z c.ranges.c1)
