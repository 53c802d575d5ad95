use Rattle.std.proofs.Common.{◌∙◌}
use Rattle.image.proofs.LawsRun.{rest-whole}
use Rattle.image.proofs.opened.Opened.play_first.Goals as goal

pub entry-entry-requires : goal.entry-entry-requires
entry-entry-requires c = c.requires.0.found

pub returns : goal.returns
returns c = c.play_in_block.ensures ∙ rw (c.entry-entry.ensures, rest-whole _ _)
