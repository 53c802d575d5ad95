use Rattle.std.proofs.Common.{replicate, refl}
use Rattle.image.specs.Reading.{gain_in, loops_in}
use Rattle.image.proofs.LawsAll.{block-there, blocks-some}
use Rattle.image.proofs.LawsBody.{found-entry}
use Rattle.dsp.proofs.HeaderRuns.{header-put, looping}
use Rattle.dsp.proofs.opened.Opened.header.Goals as goal

pub put_looped-requires : goal.put_looped-requires
put_looped-requires c = rw c.read_loop-looped.ensures (looping _ c.self.invariant)

pub read_context-requires : goal.read_context-requires
read_context-requires c = found-entry _ 0 (block-there _ c.self.invariant 0 (blocks-some _ c.self.invariant))

pub returns : goal.returns
unfolding loops_in gain_in
returns c =
    rw (← c.self.view_is)
    (header-put c.self.inside.bytes.now (replicate 96 0) c.put_counts.new.header c.put_looped.new.header c.put_coefficients.new.image c.put_contexts.new.header _ _ _ _ _ _
    c.word_at.ensures c.read_loop-looped.ensures c.read_coefficients.ensures c.word_at-2.ensures c.read_context.ensures c.loop_context-context.ensures
    (rw (← c.self.view_is) at c.put_counts.ensures) c.put_looped.ensures c.put_coefficients.ensures c.put_contexts.ensures refl)
