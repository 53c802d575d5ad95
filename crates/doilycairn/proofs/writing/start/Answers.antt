use Rattle.clip.proofs.Defaults.{default-none}
use Rattle.doilycairn.proofs.Seen.{clip-seen}
use Rattle.doilycairn.proofs.writing.start.Goals as goal

pub returns : goal.returns
returns c =
    rw (c.encoding_answer.ensures, default-none c.default.result c.default.ensures) (clip-seen c.start.result _ c.start.new.image c.start.ensures)
