use Rattle.doilycairn.proofs.Seen.{open-seen}
use Rattle.doilycairn.proofs.reading.doilycairn_open.Goals as goal

pub returns : goal.returns
returns c =
    rw (c.code_of.ensures, c.entry_of.ensures) (open-seen c.open-opened.result c.unwrap_or_default-opening.result c.unwrap_or_default-opening.ensures c.open-opened.ensures)
