use Rattle.std.proofs.Common.{◌≡◌, ◌*◌, ◌/◌, ◌<◌}
use Rattle.std.proofs.lemmas.List.Edits.{sets}
use Rattle.layout.specs.Sizes.{block_count}
use Rattle.clip.specs.Image.{table_bytes}
use Rattle.dsp.specs.Import.{history_before, context_before}
use Rattle.dsp.proofs.fields.File.put_contents.Given as goal

abbrev pub invariant-loop-k : goal.invariant-loop-k
invariant-loop-k l =
    (l.image ≡ sets l.fn.image 56 (table_bytes (context_before l.self l.shape.block) l.shape 0 l.k))
    × (l.k < block_count l.shape → l.context.last_samples ≡ history_before l.self (l.k * (l.shape.block / 8)))
