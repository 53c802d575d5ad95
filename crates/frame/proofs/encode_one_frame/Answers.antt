-- `encode_one_frame` meets its contract: refused by code 7, or encoded.
use Rattle.std.proofs.Common.{rules, ◌≡◌, true, false}
use Rattle.frame.specs.Frame.{coefficients_ok, encode_one_frame}
use Rattle.frame.proofs.LawsFrame.{limits-bounded}
use Rattle.frame.proofs.encode_one_frame.Goals as goal

pub returns-then-not-coefficients_ok : goal.returns-then-not-coefficients_ok
unfolding encode_one_frame
returns-then-not-coefficients_ok c =
    let e : coefficients_ok c.args.coefficients ≡ false = search rules in rw e

pub encode_frame-passes-requires : goal.encode_frame-passes-requires
encode_frame-passes-requires c = limits-bounded _ (search rules)

pub returns : goal.returns
unfolding encode_one_frame
returns c =
    let e : coefficients_ok c.args.coefficients ≡ true = search rules in
    rw (e, c.history_after.ensures, c.encode_frame-passes.ensures)
