use Rattle.std.proofs.Common.{sym}
use Rattle.image.proofs.LawsBody.{room-accepted}
use Rattle.image.proofs.opened.Opened.play.Goals as goal

pub play_block-context-requires : goal.play_block-context-requires
play_block-context-requires c =
    let r = room-accepted _ _ _ (sym (rw (c.coefficients.ensures, c.address_to_sample-samples.ensures, c.entry-entry.ensures) at c.in_ok-room_answer.ensures)) in
    (record { found = c.requires; pairs = r.0; enough = r.1 }, c.entry-entry.ensures)
