use Rattle.std.proofs.Common.{arith, tests}
use Rattle.std.proofs.lemmas.Result.{err_from_is_err_and}
use Rattle.dsp.specs.inner.Asked.{whole_answer}
use Rattle.dsp.proofs.TestLaws.{values-refused, values-accepted, not-whole, whole-next}
use Rattle.dsp.proofs.checks.accept.Goals as goal

pub returns-in_err-file : goal.returns-in_err-file
returns-in_err-file c =
    let p = err_from_is_err_and c.from_residual.result c.from_residual.ensures.1 in
    rw (p.1, p.2, not-whole c.args.bytes.now c.args.size (values-refused (whole_answer c.args.bytes.now) c.args.bytes.now c.in_err-file.ensures))

pub returns-then-rate-eq0 : goal.returns-then-rate-eq0
returns-then-rate-eq0 c =
    let t = values-accepted (whole_answer c.args.bytes.now) c.args.bytes.now c.in_ok-file.ensures in
    rw (whole-next c.args.bytes.now c.args.size t.0, ← t.1) (grind (arith, tests))

pub returns-then-not-contains : goal.returns-then-not-contains
returns-then-not-contains c =
    let t = values-accepted (whole_answer c.args.bytes.now) c.args.bytes.now c.in_ok-file.ensures in
    rw (whole-next c.args.bytes.now c.args.size t.0, ← t.1) (grind (arith, tests))

pub returns-then-not-fields_ok : goal.returns-then-not-fields_ok
returns-then-not-fields_ok c =
    let t = values-accepted (whole_answer c.args.bytes.now) c.args.bytes.now c.in_ok-file.ensures in
    rw (whole-next c.args.bytes.now c.args.size t.0, ← t.1) (grind (arith, tests))

pub returns-then-lowest_pair : goal.returns-then-lowest_pair
returns-then-lowest_pair c =
    let t = values-accepted (whole_answer c.args.bytes.now) c.args.bytes.now c.in_ok-file.ensures in
    rw (whole-next c.args.bytes.now c.args.size t.0, ← t.1) (grind (arith, tests))

pub returns : goal.returns
returns c =
    let t = values-accepted (whole_answer c.args.bytes.now) c.args.bytes.now c.in_ok-file.ensures in
    rw (whole-next c.args.bytes.now c.args.size t.0, ← t.1) (grind (arith, tests))
