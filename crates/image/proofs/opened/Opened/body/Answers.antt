use Rattle.std.proofs.Common.{◌∙◌}
use Rattle.image.specs.Bodies.{body_in}
use Rattle.image.proofs.LawsBody.{found-end}
use Rattle.image.proofs.opened.Opened.body.Goals as goal

pub read_entry-entry-requires : goal.read_entry-entry-requires
read_entry-entry-requires c = rw c.self.view_is c.requires

pub find_body-requires : goal.find_body-requires
find_body-requires c = rw (c.read_entry-entry.ensures, c.self.view_is) (found-end c.args.self.now c.args.k c.requires)

pub returns : goal.returns
unfolding body_in
returns c = c.find_body.ensures.result_value ∙ rw (c.read_entry-entry.ensures, c.self.view_is)
