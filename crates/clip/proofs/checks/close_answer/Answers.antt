use Rattle.std.proofs.Common.{rules, tests}
use Rattle.std.proofs.lemmas.Result.{err_from_is_err_and}
use Rattle.clip.specs.Encoding.{close_answer}
use Rattle.clip.proofs.AcceptedCalls.{going-then}
use Rattle.clip.proofs.checks.close_answer.Goals as goal

pub returns-in_err-going : goal.returns-in_err-going
unfolding close_answer
returns-in_err-going c =
    let p = err_from_is_err_and c.from_residual.result c.from_residual.ensures.1 in
    rw (going-then c.args.e c.args.room _, ← c.going.ensures, c.in_err-going.was, p.1, p.2)

pub returns-then-e : goal.returns-then-e
unfolding close_answer
returns-then-e c = rw (going-then c.args.e c.args.room _, ← c.going.ensures, c.in_ok-going.was) (search (tests, rules))

pub returns : goal.returns
unfolding close_answer
returns c = rw (going-then c.args.e c.args.room _, ← c.going.ensures, c.in_ok-going.was) (search (tests, rules))
