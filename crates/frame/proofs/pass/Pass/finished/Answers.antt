-- `finished` meets its contract: the pass's own nibbles, samples and distance.
use Rattle.std.proofs.Common.{refl}
use Rattle.frame.specs.Search.{finished}
use Rattle.frame.proofs.pass.Pass.finished.Goals as goal

pub returns : goal.returns
unfolding finished
returns c = refl
