use Rattle.std.proofs.Common.{sym, ◌∙◌}
use Rattle.layout.proofs.LimitLaws.{numbers-sound}
use Rattle.image.proofs.heading.numbers_fit.Goals as goal

pub block_count-requires : goal.block_count-requires
block_count-requires c = rw c.shape_of-shape.ensures ((numbers-sound _ _ _ _ (sym c.numbers_ok.ensures ∙ c.if-not-numbers_ok.false)).limits _ c.if-loops-gt1.false)

pub image_size-requires : goal.image_size-requires
image_size-requires c = rw c.shape_of-shape.ensures ((numbers-sound _ _ _ _ (sym c.numbers_ok.ensures ∙ c.if-not-numbers_ok.false)).limits _ c.if-loops-gt1.false)
