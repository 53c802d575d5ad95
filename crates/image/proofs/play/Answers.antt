use Rattle.std.proofs.Common.{sym}
use Rattle.std.proofs.lemmas.Result.{err_from_is_err_and}
use Rattle.image.specs.Playing.{play_answer, play}
use Rattle.image.proofs.LawsBody.{block-accepted}
use Rattle.image.proofs.play.Goals as goal

pub returns-in_err-block_answer : goal.returns-in_err-block_answer
unfolding play play_answer
returns-in_err-block_answer c = let p = err_from_is_err_and c.from_residual.result c.from_residual.ensures.1 in rw (p.1, p.2, ← c.in_err-block_answer.ensures)

pub of-requires : goal.of-requires
of-requires c = (block-accepted _ _ (sym c.in_ok-block_answer.ensures)).opens

pub play-requires : goal.play-requires
play-requires c = rw c.of.ensures (block-accepted _ _ (sym c.in_ok-block_answer.ensures))

pub returns : goal.returns
unfolding play play_answer
returns c = rw (← c.in_ok-block_answer.ensures) (rw c.of.ensures at c.play.ensures)
