use Rattle.std.proofs.Common.{refl, ◌∙◌}
use Rattle.layout.specs.Fields.{be32}
use Rattle.image.specs.Reading.{total_in, rate_in}
use Rattle.clip.proofs.FieldRuns.{runs3}
use Rattle.dsp.specs.File.{nibble_count}
use Rattle.dsp.proofs.opened.Opened.put_counts.Goals as goal

pub returns : goal.returns
unfolding rate_in
returns c =
    let n = c.total-total.ensures.same in
    rw (← c.self.view_is)
    (runs3 c.args.header.now c.put32.new.buf c.put32-2.new.buf c.put32-3.new.buf (be32 (total_in c.self.inside.bytes.now)) (be32 (nibble_count (total_in c.self.inside.bytes.now))) (be32 (rate_in c.self.inside.bytes.now)) 0 4 8
    (c.put32.ensures ∙ rw (n, ← c.self.view_is)) (c.put32-2.ensures ∙ rw (c.nibble_count.ensures, n, ← c.self.view_is)) (c.put32-3.ensures ∙ rw c.get32.ensures) refl refl)
