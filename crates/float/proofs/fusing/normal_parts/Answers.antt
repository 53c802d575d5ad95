use Rattle.std.proofs.Common.{refl}
use Rattle.float.proofs.Decomposition.{normal-is, normal-decomposed}
use Rattle.float.proofs.fusing.normal_parts.Goals as goal

pub returns-clause-parts : goal.returns-clause-parts
returns-clause-parts c = rw c.is_negative.ensures (normal-decomposed c.args.n _ c.field.result (normal-is c.args.n c.requires) refl c.field.ensures)
