use borrow.Author.Tests.{eq-eqb, ne_eqb}
use Rattle.std.proofs.Common.{◌≡◌, sym, ◌∙◌, arith}
use Rattle.layout.specs.Sizes.{no_loop}
use Rattle.image.specs.Reading.{loops_in, blocks_in, loop_in}
use Rattle.image.proofs.LawsLoop.{blocks-small, loop-entry}
use Rattle.image.proofs.loops.read_loop.Goals as goal

pub returns-then-get16-ne1 : goal.returns-then-get16-ne1
unfolding loop_in loops_in
returns-then-get16-ne1 c =
    let d = c.default.ensures in
    let none : c.default.result ≡ no_loop = λ i. record { start = d.0 i; end = d.1.0 i; present = d.1.1 i } in
    rw (none, ← c.get16.ensures, ne_eqb _ _ c.if-get16-ne1.true)

pub entry_place-at-requires : goal.entry_place-at-requires
unfolding blocks_in
entry_place-at-requires c = let b = blocks-small _ c.requires in omega (arith, b, c.get32.ensures)

pub get32-requires-2 : goal.get32-requires-2
unfolding loops_in blocks_in
get32-requires-2 c = let e = loop-entry _ c.requires (sym c.get16.ensures ∙ c.if-get16-ne1.false) in rw (c.entry_place-at.ensures, c.get32.ensures) (omega (arith, e))

pub get32-requires-3 : goal.get32-requires-3
unfolding loops_in blocks_in
get32-requires-3 c = let e = loop-entry _ c.requires (sym c.get16.ensures ∙ c.if-get16-ne1.false) in rw (c.entry_place-at.ensures, c.get32.ensures) (omega (arith, e))

pub returns : goal.returns
unfolding loop_in loops_in blocks_in
returns c = rw (c.get32-2.ensures, c.get32-3.ensures, c.entry_place-at.ensures, c.get32.ensures, eq-eqb _ _ (sym c.get16.ensures ∙ c.if-get16-ne1.false))
