use Rattle.std.proofs.Common.{sym, ap₂, ◌∙◌}
use Rattle.image.specs.Sameness.{same_head, agree}
use Rattle.image.proofs.LawsAgree.{one-head, one-count}
use Rattle.image.proofs.LawsSame.{same_total}
use Rattle.image.proofs.opened.Opened.agree.Goals as goal

pub returns-then-not-heads_agree : goal.returns-then-not-heads_agree
unfolding agree
returns-then-not-heads_agree c =
    let told = c.heads_agree.ensures ∙ ap₂ same_head c.head-first.ensures.read c.head-second.ensures.read in
    rw (sym told ∙ c.if-not-heads_agree.true)

pub tables_agree-requires : goal.tables_agree-requires
tables_agree-requires c =
    let told = c.heads_agree.ensures ∙ ap₂ same_head c.head-first.ensures.read c.head-second.ensures.read in
    one-count c.args.self.now c.args.other.now c.head-first.ensures.opens.head c.head-second.ensures.opens.head (one-head _ _ (sym told ∙ c.if-not-heads_agree.false))

pub returns-then-not-tables_agree : goal.returns-then-not-tables_agree
unfolding agree
returns-then-not-tables_agree c =
    let told = c.heads_agree.ensures ∙ ap₂ same_head c.head-first.ensures.read c.head-second.ensures.read in
    rw (sym told ∙ c.if-not-heads_agree.false, sym c.tables_agree.ensures ∙ c.if-not-tables_agree.true)

pub returns-then-loops_agree : goal.returns-then-loops_agree
unfolding agree
returns-then-loops_agree c =
    let told = c.heads_agree.ensures ∙ ap₂ same_head c.head-first.ensures.read c.head-second.ensures.read in
    let total = (one-head _ _ (sym told ∙ c.if-not-heads_agree.false)).total in
    rw (sym told ∙ c.if-not-heads_agree.false, sym c.tables_agree.ensures ∙ c.if-not-tables_agree.false, sym c.loops_agree.ensures ∙ c.if-loops_agree.true)
    (c.same_sound.ensures ∙ sym (same_total c.args.self.now c.args.other.now total))

pub returns-else-loops_agree : goal.returns-else-loops_agree
unfolding agree
returns-else-loops_agree c =
    let told = c.heads_agree.ensures ∙ ap₂ same_head c.head-first.ensures.read c.head-second.ensures.read in
    rw (sym told ∙ c.if-not-heads_agree.false, sym c.tables_agree.ensures ∙ c.if-not-tables_agree.false, sym c.loops_agree.ensures ∙ c.if-loops_agree.false)
    c.if-loops_agree.false
