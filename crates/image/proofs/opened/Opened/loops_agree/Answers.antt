use Rattle.std.proofs.Common.{sym, ap₂, ◌∙◌}
use Rattle.image.specs.Sameness.{same_context}
use Rattle.image.proofs.LawsAgree.{loops-alike, loops-differ}
use Rattle.image.proofs.opened.Opened.loops_agree.Goals as goal

pub returns-then-eq : goal.returns-then-eq
returns-then-eq c =
    let first = c.looped-first.ensures in
    let second = c.looped-second.ensures in
    c.contexts_agree.ensures ∙ ap₂ same_context c.loop_context-one.ensures c.loop_context-two.ensures
    ∙ loops-alike c.args.self.now c.args.other.now first.opens.head second.opens.head _ _ first.read second.read (sym c.eq.ensures ∙ c.if-eq.true)

pub returns-else-eq : goal.returns-else-eq
returns-else-eq c =
    let first = c.looped-first.ensures in
    let second = c.looped-second.ensures in
    c.if-eq.false ∙ loops-differ c.args.self.now c.args.other.now first.opens.head second.opens.head _ _ first.read second.read (sym c.eq.ensures ∙ c.if-eq.false)
