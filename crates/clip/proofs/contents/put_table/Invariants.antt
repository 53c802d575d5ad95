use Rattle.std.proofs.Common.{◌≡◌}
use Rattle.std.proofs.lemmas.List.Edits.{sets}
use Rattle.clip.specs.Image.{table_bytes}
use Rattle.clip.proofs.Tables.{bare}
use Rattle.clip.proofs.contents.put_table.Given as goal

abbrev pub invariant-loop-k : goal.invariant-loop-k
invariant-loop-k l = l.image ≡ sets l.fn.image 56 (table_bytes bare l.shape 0 l.k)
