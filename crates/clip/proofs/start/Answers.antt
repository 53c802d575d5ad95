use Rattle.std.proofs.Common.{List, ℕ, sym, ap, ap₂, ◌∙◌}
use Rattle.std.proofs.lemmas.Result.{err_from_is_err_and}
use Rattle.std.proofs.lemmas.List.Edits.{sets}
use Rattle.whole.specs.Outcome.{accepted, effect}
use Rattle.clip.specs.declared.Encoder.{Encoder}
use Rattle.clip.specs.declared.starting.Start.{Start}
use Rattle.clip.specs.Image.{fresh_bytes}
use Rattle.clip.specs.Encoding.{outcome, left, begun, start}
use Rattle.clip.proofs.AcceptedCalls.{start-accepted}
use Rattle.clip.proofs.start.Goals as goal

pub returns-in_err-start_answer : goal.returns-in_err-start_answer
unfolding start
returns-in_err-start_answer c =
    let p = err_from_is_err_and c.from_residual.result c.from_residual.ensures.1 in
    rw (← c.start_answer.ensures, c.in_err-start_answer.was, p.1, p.2)

pub put_fresh-requires : goal.put_fresh-requires
put_fresh-requires c =
    let s = start-accepted _ _ (sym c.start_answer.ensures ∙ ap outcome c.in_ok-start_answer.was) in
    rw c.cut-given.ensures (s.limits, s.size)

pub returns : goal.returns
unfolding start
returns c =
    let k = c.cut-given.ensures in
    let l = c.put_fresh.ensures ∙ ap (λ (g : Start). sets c.args.image.now 0 (fresh_bytes g)) k in
    rw (← c.start_answer.ensures, c.in_ok-start_answer.was)
    (ap₂ (λ (l : List ℕ) (e : Encoder). effect (accepted tt) (left e l)) l (c.begun.ensures ∙ ap begun k))
