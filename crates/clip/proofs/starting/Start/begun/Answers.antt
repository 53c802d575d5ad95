use Rattle.clip.proofs.Defaults.{default-none}
use Rattle.clip.proofs.starting.Start.begun.Goals as goal

pub returns : goal.returns
returns c = rw (default-none c.default.result c.default.ensures)
