use Rattle.std.proofs.Common.{ℕ, ◌*◌, ◌/◌, ap, ◌∙◌}
use Rattle.image.specs.Reading.{block_in}
use Rattle.image.specs.Part.{per_block}
use Rattle.image.proofs.opened.Opened.per_block.Goals as goal

pub returns : goal.returns
unfolding block_in
returns c = ap (λ (b : ℕ). 14 * (b / 8)) c.get32.ensures ∙ ap per_block c.self.view_is
