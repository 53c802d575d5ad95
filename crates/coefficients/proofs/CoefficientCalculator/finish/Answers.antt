-- An asking is refused by the tests alone, or answers the records' coefficients.
use Rattle.std.proofs.Common.{length, sym, ap, ◌∙◌}
use Rattle.std.proofs.lemmas.Result.{err_from_is_err_and}
use Rattle.coefficients.specs.Measure.{outcome, finish}
use Rattle.coefficients.proofs.AcceptedCalls.{finish-tested, finish-measurable, padded-le}
use Rattle.coefficients.proofs.CoefficientCalculator.finish.Goals as goal

pub returns-in_err-tested : goal.returns-in_err-tested
unfolding finish
returns-in_err-tested c =
    let p = err_from_is_err_and c.from_residual.result c.from_residual.ensures.1 in
    rw (p.1, p.2, finish-tested, ← c.tested.ensures, c.in_err-tested.was)

pub padded_record-count-requires : goal.padded_record-count-requires
padded_record-count-requires c = finish-measurable _ _ _ (finish-tested _ _ _ ∙ sym c.tested.ensures ∙ ap outcome c.in_ok-tested.was)

pub new-requires : goal.new-requires
new-requires c =
    let p = c.padded_record-count in
    let m = finish-measurable _ _ _ (finish-tested _ _ _ ∙ sym c.tested.ensures ∙ ap outcome c.in_ok-tested.was) in
    rw (p.ensures.count, p.auto.s) (padded-le c.args.self (length c.args.records.now) m)

pub returns : goal.returns
unfolding finish
returns c =
    let p = c.padded_record-count.ensures in
    rw (finish-tested, ← c.tested.ensures, c.in_ok-tested.was, ← p.count, ← p.store, ← c.new.ensures, ← c.record_coefficients.ensures)
