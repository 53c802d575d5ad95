use borrow.Author.Tests.{le-leb, lt-leb}
use Rattle.std.proofs.Common.{sym, arith}
use Rattle.std.proofs.lemmas.Result.{err_from_is_err_and}
use Rattle.image.specs.Part.{from_answer}
use Rattle.image.specs.Reading.{total_in}
use Rattle.image.proofs.LawsSame.{compare-accepted}
use Rattle.image.proofs.checks.from_answer.Goals as goal

pub returns-in_err-compare_answer : goal.returns-in_err-compare_answer
unfolding from_answer
returns-in_err-compare_answer c = let p = err_from_is_err_and c.from_residual.result c.from_residual.ensures.1 in rw (p.1, p.2, ← c.in_err-compare_answer.ensures)

pub get32-requires : goal.get32-requires
get32-requires c = let o = compare-accepted _ (sym c.in_ok-compare_answer.ensures) in omega (arith, o.opens.head.long)

pub returns-then-first-get32 : goal.returns-then-first-get32
unfolding from_answer total_in
returns-then-first-get32 c = simp (← c.in_ok-compare_answer.ensures, ← c.get32.ensures, le-leb _ _ c.if-first-get32.true)

pub returns : goal.returns
unfolding from_answer total_in
returns c = simp (← c.in_ok-compare_answer.ensures, ← c.get32.ensures, lt-leb _ _ c.if-first-get32.false)
