use Rattle.std.proofs.Common.{ap, arith}
use Rattle.image.specs.declared.bodies.Entry.{Entry}
use Rattle.doilycairn.proofs.Seen.{body-told}
use Rattle.doilycairn.proofs.reading.body_at.Goals as goal

pub returns : goal.returns
returns c =
    let e = c.read_entry-entry.ensures in
    body-told _ _ _ _ _ _ (ap (λ (x : Entry). x.offset) e) (ap (λ (x : Entry). x.nibbles) e) (omega (arith, c.div_ceil.ensures)) (ap (λ (x : Entry). x.context) e)
