use Rattle.std.proofs.Common.{sym, ap, ◌∙◌, rules, tests}
use Rattle.std.proofs.lemmas.Result.{err_from_is_err_and}
use Rattle.clip.specs.Encoding.{outcome, feed_answer}
use Rattle.clip.proofs.AcceptedCalls.{going-then, going-sound}
use Rattle.clip.proofs.checks.feed_answer.Goals as goal

pub returns-in_err-going : goal.returns-in_err-going
unfolding feed_answer
returns-in_err-going c =
    let p = err_from_is_err_and c.from_residual.result c.from_residual.ensures.1 in
    rw (going-then c.args.e c.args.room _, ← c.going.ensures, c.in_err-going.was, p.1, p.2)

pub returns-then-piece-e : goal.returns-then-piece-e
unfolding feed_answer
returns-then-piece-e c = rw (going-then c.args.e c.args.room _, ← c.going.ensures, c.in_ok-going.was) (search (tests, rules))

pub returns : goal.returns
unfolding feed_answer
returns c = rw (going-then c.args.e c.args.room _, ← c.going.ensures, c.in_ok-going.was) (search (tests, rules))

pub overflow_sub-e : goal.overflow_sub-e
overflow_sub-e c = (going-sound c.args.e c.args.room (sym c.going.ensures ∙ ap outcome c.in_ok-going.was)).fed
