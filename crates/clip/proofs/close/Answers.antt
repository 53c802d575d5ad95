use Rattle.std.proofs.Common.{sym, ap, ◌∙◌}
use Rattle.std.proofs.lemmas.Result.{err_from_is_err_and}
use Rattle.whole.specs.Outcome.{accepted, effect}
use Rattle.clip.specs.Encoding.{Left, outcome, close}
use Rattle.clip.proofs.AcceptedCalls.{close-accepted}
use Rattle.clip.proofs.close.Goals as goal

pub returns-in_err-close_answer : goal.returns-in_err-close_answer
unfolding close
returns-in_err-close_answer c =
    let p = err_from_is_err_and c.from_residual.result c.from_residual.ensures.1 in
    rw (← c.close_answer.ensures, c.in_err-close_answer.was, p.1, p.2)

pub finish-requires : goal.finish-requires
finish-requires c = close-accepted _ _ (sym c.close_answer.ensures ∙ ap outcome c.in_ok-close_answer.was)

pub returns : goal.returns
unfolding close
returns c = rw (← c.close_answer.ensures, c.in_ok-close_answer.was) (ap (λ (s : Left). effect (accepted tt) s) c.finish.ensures)
