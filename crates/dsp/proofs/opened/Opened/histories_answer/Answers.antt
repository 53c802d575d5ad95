use Rattle.std.proofs.Common.{◌≡◌, ◌-◌, sym, ◌∙◌, arith}
use borrow.Author.Tests.{not-true, not-false}
use Rattle.image.specs.Reading.{blocks_in}
use Rattle.image.proofs.LawsAll.{block-there, blocks-some}
use Rattle.image.proofs.LawsBody.{found-entry, found-end}
use Rattle.dsp.proofs.HistoriesInTurn.{history-wrong, history-right, histories-none, goes, left-is, left-long}
use Rattle.dsp.proofs.opened.Opened.histories_answer.Goals as goal

pub overflow_sub-j-end : goal.overflow_sub-j-end
unfolding blocks_in
overflow_sub-j-end c = let b = blocks-some _ c.self.invariant in omega (arith, b, c.get32.ensures)

pub read_entry-entry-requires : goal.read_entry-entry-requires
unfolding blocks_in
read_entry-entry-requires c = block-there _ c.self.invariant _ (omega (arith, c.loop-j-test.true, c.get32.ensures))

pub find_body-body-requires : goal.find_body-body-requires
unfolding blocks_in
find_body-body-requires c = rw c.read_entry-entry.ensures (found-end _ _ (block-there _ c.self.invariant _ (omega (arith, c.loop-j-test.true, c.get32.ensures))))

pub context_after-after-requires : goal.context_after-after-requires
unfolding blocks_in
context_after-after-requires c = left-long _ _ _ _ c.read_entry-entry.ensures c.find_body-body.ensures.result_value (block-there _ c.self.invariant _ (omega (arith, c.loop-j-test.true, c.get32.ensures)))

pub read_context-next-requires : goal.read_context-next-requires
unfolding blocks_in
read_context-next-requires c = found-entry _ _ (block-there _ c.self.invariant _ (omega (arith, c.loop-j-test.true, c.get32.ensures)))

pub returns-then-ne : goal.returns-then-ne
unfolding blocks_in
returns-then-ne c =
    let l = c.self.inside.bytes.now in
    let left = c.context_after-after.ensures ∙ left-is l c.loop-j.j _ _ c.read_entry-entry.ensures c.find_body-body.ensures.result_value _ c.read_coefficients-coefficients.ensures in
    let counted : c.get32.result ≡ blocks_in l = c.get32.ensures in
    let no = sym (goes l c.loop-j.j _ _ left c.read_context-next.ensures) ∙ not-true _ (sym c.ne.ensures ∙ c.if-ne.true) in
    rw (← c.self.view_is) (sym (c.loop-j.invariant ∙ history-wrong l (blocks_in l - 1) c.loop-j.j (omega (arith, c.loop-j-test.true, counted)) no))

pub loop-j-preserved : goal.loop-j-preserved
unfolding blocks_in
loop-j-preserved c =
    let l = c.self.inside.bytes.now in
    let left = c.context_after-after.ensures ∙ left-is l c.loop-j.j _ _ c.read_entry-entry.ensures c.find_body-body.ensures.result_value _ c.read_coefficients-coefficients.ensures in
    let counted : c.get32.result ≡ blocks_in l = c.get32.ensures in
    let yes = sym (goes l c.loop-j.j _ _ left c.read_context-next.ensures) ∙ not-false _ (sym c.ne.ensures ∙ c.if-ne.false) in
    c.loop-j.invariant ∙ history-right l (blocks_in l - 1) c.loop-j.j (omega (arith, c.loop-j-test.true, counted)) yes

pub returns : goal.returns
unfolding blocks_in
returns c =
    let l = c.self.inside.bytes.now in
    let counted : c.get32.result ≡ blocks_in l = c.get32.ensures in
    rw (← c.self.view_is) (sym (c.loop-j.invariant ∙ histories-none l (blocks_in l - 1) c.loop-j.j (omega (arith, c.loop-j-test.false, counted))))
