use Rattle.std.proofs.Common.{sym}
use Rattle.image.proofs.LawsBody.{block-accepted}
use Rattle.doilycairn.proofs.Seen.{body-found, body_refused}
use Rattle.doilycairn.proofs.Defaults.{default-context}
use Rattle.doilycairn.proofs.reading.doilycairn_block_body.Goals as goal

pub body_at-requires : goal.body_at-requires
body_at-requires c = block-accepted _ _ (sym c.in-Ok.ensures)

pub returns-in-Ok : goal.returns-in-Ok
returns-in-Ok c = body-found _ _ c.body_at.ensures (sym c.in-Ok.ensures)

pub returns-in-Err : goal.returns-in-Err
returns-in-Err c =
    let d = c.default.ensures in
    rw (d.1.1.0, d.1.1.1.0, d.1.1.1.1.0)
    (body_refused _ _ _ _ c.code.ensures c.bad_block.ensures (default-context c.default.result.context d.1.1.1.1.1) (sym c.in-Err.ensures))
