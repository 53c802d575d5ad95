use Rattle.std.proofs.Common.{arith, length, sym, ◌∙◌}
use Rattle.image.proofs.Places.{within}
use Rattle.image.proofs.EntryTests.{offset-wrong, length-wrong, zeros-wrong, header-wrong, entry-fits}
use Rattle.image.proofs.entries.entry_answer.Goals as goal

pub entry_place-at-requires : goal.entry_place-at-requires
entry_place-at-requires c = let r = c.requires in let w = within _ _ (length c.args.image.now) r.0 r.2 r.3 in omega (arith, w.small)

pub overflow_mul-offset : goal.overflow_mul-offset
overflow_mul-offset c = let r = c.requires in let w = within _ _ (length c.args.image.now) r.0 r.2 r.3 in omega (arith, w.start)

pub overflow_add-offset : goal.overflow_add-offset
overflow_add-offset c = let r = c.requires in let w = within _ _ (length c.args.image.now) r.0 r.2 r.3 in omega (arith, w.start, w.all, w.further, r.1)

pub overflow_cast-block : goal.overflow_cast-block
overflow_cast-block c = let r = c.requires in let w = within _ _ (length c.args.image.now) r.0 r.2 r.3 in omega (arith, w.small)

pub get32-requires : goal.get32-requires
get32-requires c = let r = c.requires in let w = within _ _ (length c.args.image.now) r.0 r.2 r.3 in omega (arith, w.entry, c.entry_place-at.ensures)

pub get32-requires-2 : goal.get32-requires-2
get32-requires-2 c = let r = c.requires in let w = within _ _ (length c.args.image.now) r.0 r.2 r.3 in omega (arith, w.entry, c.entry_place-at.ensures)

pub get16-requires : goal.get16-requires
get16-requires c = let r = c.requires in let w = within _ _ (length c.args.image.now) r.0 r.2 r.3 in omega (arith, w.entry, c.entry_place-at.ensures)

pub get16-told-requires : goal.get16-told-requires
get16-told-requires c = let r = c.requires in let w = within _ _ (length c.args.image.now) r.0 r.2 r.3 in omega (arith, w.entry, c.entry_place-at.ensures)

pub bounds-image-offset : goal.bounds-image-offset
bounds-image-offset c = let r = c.requires in let w = within _ _ (length c.args.image.now) r.0 r.2 r.3 in omega (arith, w.first, r.1)

pub returns-then-get32-offset : goal.returns-then-get32-offset
returns-then-get32-offset c =
    let a = c.args in
    offset-wrong a.image.now a.shape a.j _ _ c.entry_place-at.ensures c.requires.1 (λ e. c.if-get32-offset.true (c.get32.ensures ∙ e))

pub returns-then-get32-nibbles : goal.returns-then-get32-nibbles
returns-then-get32-nibbles c =
    let a = c.args in
    length-wrong a.image.now a.shape a.j _ _ c.entry_place-at.ensures c.requires.1 (sym c.get32.ensures ∙ c.if-get32-offset.false)
    c.requires.4 (λ e. c.if-get32-nibbles.true (c.get32-2.ensures ∙ e))

pub returns-then-get16-ne0 : goal.returns-then-get16-ne0
returns-then-get16-ne0 c =
    let a = c.args in
    zeros-wrong a.image.now a.shape a.j _ _ c.entry_place-at.ensures c.requires.1 (sym c.get32.ensures ∙ c.if-get32-offset.false)
    c.requires.4 (sym c.get32-2.ensures ∙ c.if-get32-nibbles.false) (λ e. c.if-get16-ne0.true (c.get16.ensures ∙ e))

pub returns-then-told-header : goal.returns-then-told-header
returns-then-told-header c =
    let a = c.args in
    header-wrong a.image.now a.shape a.j _ _ c.entry_place-at.ensures c.requires.1 (sym c.get32.ensures ∙ c.if-get32-offset.false)
    c.requires.4 (sym c.get32-2.ensures ∙ c.if-get32-nibbles.false) (sym c.get16.ensures ∙ c.if-get16-ne0.false)
    (λ e. c.if-told-header.true (c.get16-told.ensures ∙ e ∙ sym c.from-header.ensures))

pub returns : goal.returns
returns c =
    let a = c.args in
    entry-fits a.image.now a.shape a.j _ _ c.entry_place-at.ensures c.requires.1 (sym c.get32.ensures ∙ c.if-get32-offset.false)
    c.requires.4 (sym c.get32-2.ensures ∙ c.if-get32-nibbles.false) (sym c.get16.ensures ∙ c.if-get16-ne0.false)
    (sym c.get16-told.ensures ∙ c.if-told-header.false ∙ c.from-header.ensures)
