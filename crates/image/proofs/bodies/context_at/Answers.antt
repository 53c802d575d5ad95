use mir.Facts.{to_z-of_z}
use mir.Syntax.{w16}
use mir.Val.{SFits}
use Rattle.image.proofs.bodies.context_at.Goals as goal

pub returns : goal.returns
returns c =
    let f : SFits w16 c.signed_at.result = record { sfits = c.signed_at.type_inv } in
    let g : SFits w16 c.signed_at-2.result = record { sfits = c.signed_at-2.type_inv } in
    rw (to_z-of_z f, to_z-of_z g, c.word_at.ensures, c.signed_at.ensures, c.signed_at-2.ensures)
