use borrow.Author.Tests.{le-leb, lt-leb}
use Rattle.std.proofs.Common.{sym, arith}
use Rattle.std.proofs.lemmas.Result.{err_from_is_err_and}
use Rattle.image.specs.Bodies.{block_answer}
use Rattle.image.specs.Reading.{blocks_in}
use Rattle.image.proofs.OpenImages.{opened}
use Rattle.image.proofs.block_answer.Goals as goal

pub returns-in_err-open_answer : goal.returns-in_err-open_answer
unfolding block_answer
returns-in_err-open_answer c = let p = err_from_is_err_and c.from_residual.result c.from_residual.ensures.1 in rw (p.1, p.2, ← c.in_err-open_answer.ensures)

pub get32-requires : goal.get32-requires
get32-requires c = omega (arith, (opened _ (sym c.in_ok-open_answer.ensures)).head.long)

pub returns-then-k-get32 : goal.returns-then-k-get32
unfolding block_answer blocks_in
returns-then-k-get32 c = simp (← c.in_ok-open_answer.ensures, ← c.get32.ensures, le-leb _ _ c.if-k-get32.true)

pub returns : goal.returns
unfolding block_answer blocks_in
returns c = simp (← c.in_ok-open_answer.ensures, ← c.get32.ensures, lt-leb _ _ c.if-k-get32.false)
