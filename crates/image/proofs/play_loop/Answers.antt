use Rattle.std.proofs.Common.{sym}
use Rattle.std.proofs.lemmas.Result.{err_from_is_err_and}
use Rattle.image.specs.Looping.{loop_answer, play_loop}
use Rattle.image.proofs.OpenImages.{opened}
use Rattle.image.proofs.play_loop.Goals as goal

pub returns-in_err-open_answer : goal.returns-in_err-open_answer
unfolding play_loop loop_answer
returns-in_err-open_answer c = let p = err_from_is_err_and c.from_residual.result c.from_residual.ensures.1 in rw (p.1, p.2, ← c.in_err-open_answer.ensures)

pub of-requires : goal.of-requires
of-requires c = opened _ (sym c.in_ok-open_answer.ensures)

pub returns : goal.returns
unfolding play_loop loop_answer
returns c = rw (← c.in_ok-open_answer.ensures) (rw c.of.ensures at c.play_loop.ensures)
