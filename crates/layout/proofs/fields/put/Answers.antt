use Rattle.std.proofs.Common.{arith}
use Rattle.layout.proofs.Stored.{part-stored}
use Rattle.layout.proofs.fields.put.Goals as goal

pub returns : goal.returns
returns c = part-stored _ _ _ _ _ (omega arith) (omega arith) c.copy_from_slice.ensures.after
