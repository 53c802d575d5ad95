use Rattle.std.proofs.Common.{sym, ap₂, ◌∙◌, refl, arith}
use Rattle.image.specs.Sameness.{same_context, same_contexts}
use Rattle.image.proofs.LawsAgree.{contexts-more, contexts-stop}
use Rattle.image.proofs.opened.Opened.tables_agree.Goals as goal

pub loop-k-init : goal.loop-k-init
unfolding same_contexts
loop-k-init c = refl

pub context-one-requires : goal.context-one-requires
context-one-requires c = omega (arith, c.loop-k-test.true, c.blocks-blocks.ensures)

pub context-two-requires : goal.context-two-requires
context-two-requires c = omega (arith, c.loop-k-test.true, c.blocks-blocks.ensures, c.requires)

pub returns-then-not-contexts_agree : goal.returns-then-not-contexts_agree
returns-then-not-contexts_agree c =
    let told = c.contexts_agree.ensures ∙ ap₂ same_context c.context-one.ensures c.context-two.ensures in
    rw (← c.blocks-blocks.ensures) (sym (contexts-stop c.args.self.now c.args.other.now c.loop-k.k c.blocks-blocks.result c.loop-k-test.true (sym told ∙ c.if-not-contexts_agree.true)))

pub loop-k-preserved : goal.loop-k-preserved
loop-k-preserved c =
    let told = c.contexts_agree.ensures ∙ ap₂ same_context c.context-one.ensures c.context-two.ensures in
    contexts-more c.args.self.now c.args.other.now c.loop-k.k c.loop-k.invariant (sym told ∙ c.if-not-contexts_agree.false)
