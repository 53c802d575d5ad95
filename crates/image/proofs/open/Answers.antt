use Rattle.std.proofs.Common.{sym}
use Rattle.std.proofs.lemmas.Result.{err_from_is_err_and}
use Rattle.image.specs.Opening.{open_image}
use Rattle.image.proofs.OpenImages.{opened}
use Rattle.image.proofs.open.Goals as goal

pub returns-in_err-open_answer : goal.returns-in_err-open_answer
unfolding open_image
returns-in_err-open_answer c = let p = err_from_is_err_and c.from_residual.result c.from_residual.ensures.1 in rw (p.1, p.2, ← c.in_err-open_answer.ensures)

pub read_head-head-requires : goal.read_head-head-requires
read_head-head-requires c = (opened _ (sym c.in_ok-open_answer.ensures)).head.long

pub read_loop-looped-requires : goal.read_loop-looped-requires
read_loop-looped-requires c = (opened _ (sym c.in_ok-open_answer.ensures)).head

pub loop_context-context-requires : goal.loop_context-context-requires
loop_context-context-requires c = ((opened _ (sym c.in_ok-open_answer.ensures)).head, c.read_loop-looped.ensures)

pub returns : goal.returns
unfolding open_image
returns c = rw (← c.in_ok-open_answer.ensures, c.read_head-head.ensures, c.read_loop-looped.ensures, c.loop_context-context.ensures)
