use Rattle.std.proofs.Common.{sym}
use Rattle.std.proofs.lemmas.Result.{err_from_is_err_and}
use Rattle.image.specs.Part.{play_from}
use Rattle.image.proofs.PartOfAll.{from-accepted}
use Rattle.image.proofs.play_from.Goals as goal

pub returns-in_err-from_answer : goal.returns-in_err-from_answer
unfolding play_from
returns-in_err-from_answer c = let p = err_from_is_err_and c.from_residual.result c.from_residual.ensures.1 in rw (p.1, p.2, ← c.in_err-from_answer.ensures)

pub of-requires : goal.of-requires
of-requires c = let a = from-accepted _ _ (sym c.in_ok-from_answer.ensures) in a.0.opens

pub play_from-requires : goal.play_from-requires
play_from-requires c = let a = from-accepted _ _ (sym c.in_ok-from_answer.ensures) in rw c.of.ensures a.1

pub returns : goal.returns
unfolding play_from
returns c = rw (← c.in_ok-from_answer.ensures) (rw c.of.ensures at c.play_from.ensures)
