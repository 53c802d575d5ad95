use Rattle.std.proofs.Common.{arith}
use Rattle.std.proofs.lemmas.Result.{err_from_is_err_and}
use borrow.Author.Tests.{lt-ltb, le-ltb}
use Rattle.image.specs.Reading.{total_in}
use Rattle.image.specs.Sameness.{compare_answer}
use Rattle.dsp.specs.File.{file_bytes}
use Rattle.dsp.specs.Export.{export_answer}
use Rattle.dsp.proofs.TestLaws.{values-refused, values-accepted}
use Rattle.dsp.proofs.checks.exportable.Goals as goal

pub returns-in_err-image : goal.returns-in_err-image
unfolding export_answer
returns-in_err-image c =
    let l = c.args.bytes.now in
    let p = err_from_is_err_and c.from_residual.result c.from_residual.ensures.1 in
    rw (p.1, p.2, values-refused (compare_answer l) l c.in_err-image.ensures)

pub returns-in_err-histories_answer : goal.returns-in_err-histories_answer
unfolding export_answer
returns-in_err-histories_answer c =
    let l = c.args.bytes.now in
    let t = values-accepted (compare_answer l) l c.in_ok-image.ensures in
    let p = err_from_is_err_and c.from_residual-in_err-histories_answer.result c.from_residual-in_err-histories_answer.ensures.1 in
    rw (p.1, p.2, t.0, ← t.1, ← c.in_err-histories_answer.ensures)

pub returns-then-room-file_bytes : goal.returns-then-room-file_bytes
unfolding export_answer
returns-then-room-file_bytes c =
    let l = c.args.bytes.now in
    let t = values-accepted (compare_answer l) l c.in_ok-image.ensures in
    let n = c.file_bytes.ensures in
    rw (t.0, ← t.1, ← c.in_ok-histories_answer.ensures, lt-ltb c.args.room (file_bytes (total_in c.in_ok-image.image)) (omega (arith, n, c.if-room-file_bytes.true)))

pub returns : goal.returns
unfolding export_answer
returns c =
    let l = c.args.bytes.now in
    let t = values-accepted (compare_answer l) l c.in_ok-image.ensures in
    let n = c.file_bytes.ensures in
    rw (t.0, ← t.1, ← c.in_ok-histories_answer.ensures, le-ltb c.args.room (file_bytes (total_in c.in_ok-image.image)) (omega (arith, n, c.if-room-file_bytes.false)))
