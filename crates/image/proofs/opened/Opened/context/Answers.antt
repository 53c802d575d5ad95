use Rattle.std.proofs.Common.{List, ℕ, ◌<◌, ap, ◌∙◌}
use Rattle.image.specs.Reading.{blocks_in, context_in}
use Rattle.image.proofs.LawsAll.{block-there}
use Rattle.image.proofs.LawsBody.{found-entry}
use Rattle.image.proofs.opened.Opened.context.Goals as goal

pub read_context-requires : goal.read_context-requires
read_context-requires c =
    let h : c.args.k < blocks_in c.self.inside.bytes.now = rw c.self.view_is c.requires in
    found-entry _ _ (block-there c.self.inside.bytes.now c.self.invariant.0 c.args.k h)

pub returns : goal.returns
returns c = c.read_context.ensures ∙ ap (λ (l : List ℕ). context_in l c.args.k) c.self.view_is
