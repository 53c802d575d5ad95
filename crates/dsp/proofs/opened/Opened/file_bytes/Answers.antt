use Rattle.std.proofs.Common.{ℕ, ◌+◌, ap, ◌∙◌}
use Rattle.layout.specs.Sizes.{body_bytes}
use Rattle.dsp.specs.File.{file_bytes}
use Rattle.dsp.proofs.opened.Opened.file_bytes.Goals as goal

pub returns : goal.returns
unfolding file_bytes
returns c = ap (λ (n : ℕ). 96 + n) (c.body_bytes.ensures.same ∙ ap body_bytes c.total.ensures.same)
