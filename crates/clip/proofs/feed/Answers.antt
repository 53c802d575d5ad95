use Rattle.std.proofs.Common.{sym, ap, ◌∙◌}
use Rattle.std.proofs.lemmas.Result.{err_from_is_err_and}
use Rattle.whole.specs.Outcome.{accepted, effect}
use Rattle.clip.specs.Encoding.{Left, outcome, feed}
use Rattle.clip.proofs.AcceptedCalls.{feed-accepted}
use Rattle.clip.proofs.feed.Goals as goal

pub returns-in_err-feed_answer : goal.returns-in_err-feed_answer
unfolding feed
returns-in_err-feed_answer c =
    let p = err_from_is_err_and c.from_residual.result c.from_residual.ensures.1 in
    rw (← c.feed_answer.ensures, c.in_err-feed_answer.was, p.1, p.2)

pub feed_all-requires : goal.feed_all-requires
feed_all-requires c = feed-accepted _ _ _ (sym c.feed_answer.ensures ∙ ap outcome c.in_ok-feed_answer.was)

pub returns : goal.returns
unfolding feed
returns c = rw (← c.feed_answer.ensures, c.in_ok-feed_answer.was) (ap (λ (s : Left). effect (accepted tt) s) c.feed_all.ensures)
