-- A piece is refused by the tests alone, or measured whole.
use Rattle.std.proofs.Common.{sym, ap, ◌∙◌}
use Rattle.std.proofs.lemmas.Result.{err_from_is_err_and}
use Rattle.whole.specs.Outcome.{accepted, effect}
use Rattle.coefficients.specs.Measure.{outcome, process}
use Rattle.coefficients.proofs.AcceptedCalls.{process-measurable}
use Rattle.coefficients.proofs.CoefficientCalculator.process.Goals as goal

pub returns-in_err-tested : goal.returns-in_err-tested
unfolding process
returns-in_err-tested c =
    let p = err_from_is_err_and c.from_residual.result c.from_residual.ensures.1 in
    rw (p.1, p.2, ← c.tested.ensures, c.in_err-tested.was)

pub push_all-requires : goal.push_all-requires
push_all-requires c = process-measurable _ _ _ _ (sym c.tested.ensures ∙ ap outcome c.in_ok-tested.was)

pub returns : goal.returns
unfolding process
returns c = rw (← c.tested.ensures, c.in_ok-tested.was) (ap (effect (accepted tt)) c.push_all.ensures)
