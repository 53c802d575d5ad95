use Rattle.dsp.specs.File.{context_at}
use Rattle.dsp.proofs.fields.File.first.Goals as goal

pub returns : goal.returns
unfolding context_at
returns c = rw (← c.self.view_is) c.context_at.ensures
