use Rattle.std.proofs.Common.{arith}
use Rattle.image.specs.Reading.{offset_in, length_in}
use Rattle.image.proofs.LawsBody.{found_within, found-entry}
use Rattle.image.proofs.bodies.read_entry.Goals as goal

pub entry_place-at-requires : goal.entry_place-at-requires
entry_place-at-requires c = let w = found_within c.args.image.now c.args.k c.requires in omega (arith, w.all, c.requires.block)

pub get32-requires : goal.get32-requires
get32-requires c = let w = found_within c.args.image.now c.args.k c.requires in omega (arith, w.entry, c.entry_place-at.ensures)

pub get32-requires-2 : goal.get32-requires-2
get32-requires-2 c = let w = found_within c.args.image.now c.args.k c.requires in omega (arith, w.entry, c.entry_place-at.ensures)

pub read_context-requires : goal.read_context-requires
read_context-requires c = found-entry c.args.image.now c.args.k c.requires

pub returns : goal.returns
unfolding offset_in length_in
returns c = rw (c.get32.ensures, c.get32-2.ensures, c.read_context.ensures, c.entry_place-at.ensures)
