use Rattle.std.proofs.Common.{sym, ap, ◌∙◌}
use Rattle.layout.specs.declared.Loop.{Loop}
use Rattle.image.specs.Reading.{blocks_in, loop_context_in}
use Rattle.image.proofs.LawsLoop.{loop-one, blocks-small, loop-entry}
use Rattle.image.proofs.loops.loop_context.Goals as goal

pub read_context-requires : goal.read_context-requires
unfolding blocks_in
read_context-requires c =
    let h = c.requires.0 in
    rw c.get32.ensures (blocks-small _ h, loop-entry _ h (loop-one _ (sym (ap (λ (p : Loop). p.present) c.requires.1) ∙ c.if-looped.true)))

pub returns-then-looped : goal.returns-then-looped
unfolding loop_context_in blocks_in
returns-then-looped c = c.read_context.ensures ∙ rw (c.get32.ensures, sym (ap (λ (p : Loop). p.present) c.requires.1) ∙ c.if-looped.true)

pub returns-else-looped : goal.returns-else-looped
unfolding loop_context_in
returns-else-looped c = c.new.ensures ∙ rw (sym (ap (λ (p : Loop). p.present) c.requires.1) ∙ c.if-looped.false)
