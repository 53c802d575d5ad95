use Rattle.whole.proofs.Stores.{part-all}
use Rattle.dsp.proofs.fields.File.bodies.Goals as goal

pub returns : goal.returns
returns c = rw (← c.self.view_is) (part-all c.self.inside.bytes.now 96)
