-- `read_shape` meets its contract. Assumes nothing.
use borrow.Author.Rules.{rules}
use mathlib.Core.Path.{◌∙◌}
use Rattle.image.specs.Reading.{total_in, block_in, loops_in}
use Rattle.image.proofs.heading.read_shape.Statement.{statement}
use Rattle.image.proofs.heading.read_shape.Tie as tie

get32-requires : tie.Need-get32-requires
get32-requires c κs = search rules

get32-requires-2 : tie.Need-get32-requires-2
get32-requires-2 c κs = search rules

get16-requires : tie.Need-get16-requires
get16-requires c κs = search rules

shape-of-requires : tie.Need-shape_of-requires
shape-of-requires c κs = search rules

returns : tie.Need-returns
unfolding total_in block_in loops_in
returns c = c.shape_of.ensures ∙ rw (c.before.before.before.get32.ensures, c.before.before.get32-2.ensures, c.before.get16.ensures)

pub read_shape_spec : {M : Type 1} → statement M
read_shape_spec = tie.close (tie.spec get32-requires get32-requires-2 get16-requires shape-of-requires returns)
