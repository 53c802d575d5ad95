use Rattle.std.proofs.Common.{rules}
use Rattle.image.specs.Reading.{signed_at}
use Rattle.image.proofs.heading.signed_at.Goals as goal

pub returns : goal.returns
unfolding signed_at
returns c = search rules
