use Rattle.std.proofs.Common.{sym, ◌∙◌}
use Rattle.std.proofs.lemmas.Result.{err_from_is_err_and}
use Rattle.image.proofs.LawsBody.{room-accepted}
use Rattle.image.proofs.LawsAll.{opened-made}
use Rattle.image.proofs.opened.Opened.play_all.Goals as goal

pub returns-in_err-room_answer : goal.returns-in_err-room_answer
returns-in_err-room_answer c =
    let p = err_from_is_err_and c.from_residual.result c.from_residual.ensures.1 in
    rw (p.1, p.2, ← c.total.ensures.read, ← c.from-samples.ensures, ← c.coefficients.ensures, ← c.in_err-room_answer.ensures)

pub play_blocks-context-requires : goal.play_blocks-context-requires
play_blocks-context-requires c =
    let r = room-accepted _ _ _ (sym (rw (c.coefficients.ensures, c.from-samples.ensures, c.total.ensures.read) at c.in_ok-room_answer.ensures)) in
    record { opens = c.total.ensures.opens; pairs = r.0; enough = r.1 }

pub returns : goal.returns
returns c =
    let r = room-accepted _ _ _ (sym (rw (c.coefficients.ensures, c.from-samples.ensures, c.total.ensures.read) at c.in_ok-room_answer.ensures)) in
    opened-made _ _ (record { opens = c.total.ensures.opens; pairs = r.0; enough = r.1 }) _ _ (c.from-samples.ensures ∙ c.total.ensures.read) c.play_blocks-context.ensures
