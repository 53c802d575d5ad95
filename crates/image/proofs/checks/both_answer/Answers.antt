use Rattle.std.proofs.lemmas.Result.{err_from_is_err_and}
use Rattle.image.specs.Sameness.{both_answer}
use Rattle.image.proofs.checks.both_answer.Goals as goal

pub returns-in_err-compare_answer : goal.returns-in_err-compare_answer
unfolding both_answer
returns-in_err-compare_answer c = let p = err_from_is_err_and c.from_residual.result c.from_residual.ensures.1 in rw (p.1, p.2, ← c.in_err-compare_answer.ensures)

pub returns : goal.returns
unfolding both_answer
returns c = simp (← c.in_ok-compare_answer.ensures, c.compare_answer-2.ensures)
