use Rattle.std.proofs.Common.{List, ℕ, ap, ◌∙◌}
use Rattle.image.specs.Playing.{read_entry}
use Rattle.image.proofs.opened.Opened.entry.Goals as goal

pub read_entry-requires : goal.read_entry-requires
read_entry-requires c = rw c.self.view_is c.requires

pub returns : goal.returns
returns c = c.read_entry.ensures ∙ ap (λ (l : List ℕ). read_entry l c.args.k) c.self.view_is
