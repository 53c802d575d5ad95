use Rattle.std.proofs.Common.{sym}
use Rattle.std.proofs.lemmas.Result.{err_from_is_err_and}
use Rattle.image.specs.Sameness.{sounds_same}
use Rattle.image.proofs.LawsSame.{both-accepted}
use Rattle.image.proofs.sounds_same.Goals as goal

pub returns-in_err-both_answer : goal.returns-in_err-both_answer
unfolding sounds_same
returns-in_err-both_answer c = let p = err_from_is_err_and c.from_residual.result c.from_residual.ensures.1 in rw (p.1, p.2, ← c.in_err-both_answer.ensures)

pub of-requires : goal.of-requires
of-requires c = (both-accepted _ _ (sym c.in_ok-both_answer.ensures)).0.opens

pub of-requires-2 : goal.of-requires-2
of-requires-2 c = (both-accepted _ _ (sym c.in_ok-both_answer.ensures)).1.opens

pub returns : goal.returns
unfolding sounds_same
returns c = rw (← c.in_ok-both_answer.ensures, c.same_sound.ensures, c.of.ensures, c.of-2.ensures)
