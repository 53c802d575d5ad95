use Rattle.std.proofs.Common.{sym}
use Rattle.std.proofs.lemmas.Result.{err_from_is_err_and}
use Rattle.image.specs.Sameness.{compare_answer}
use Rattle.image.proofs.OpenImages.{opened}
use Rattle.image.proofs.checks.compare_answer.Goals as goal

pub returns-in_err-open_answer : goal.returns-in_err-open_answer
unfolding compare_answer
returns-in_err-open_answer c = let p = err_from_is_err_and c.from_residual.result c.from_residual.ensures.1 in rw (p.1, p.2, ← c.in_err-open_answer.ensures)

pub read_coefficients-coefficients-requires : goal.read_coefficients-coefficients-requires
read_coefficients-coefficients-requires c = (opened _ (sym c.in_ok-open_answer.ensures)).head.long

pub returns-then-lowest_pair : goal.returns-then-lowest_pair
unfolding compare_answer
returns-then-lowest_pair c = simp (← c.in_ok-open_answer.ensures, ← c.read_coefficients-coefficients.ensures, ← c.lowest_pair.ensures, c.if-lowest_pair.true)

pub returns : goal.returns
unfolding compare_answer
returns c = simp (← c.in_ok-open_answer.ensures, ← c.read_coefficients-coefficients.ensures, ← c.lowest_pair.ensures, c.if-lowest_pair.false)
