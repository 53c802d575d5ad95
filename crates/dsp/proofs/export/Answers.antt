use Rattle.std.proofs.Common.{List, ℕ, length, ap₂}
use Rattle.std.proofs.lemmas.Result.{err_from_is_err_and}
use Rattle.whole.specs.Outcome.{accepted, effect}
use Rattle.dsp.specs.Export.{export_answer, export_image}
use Rattle.dsp.proofs.ExportReturns.{export-accepted}
use Rattle.dsp.proofs.TestLaws.{values-refused, values-accepted}
use Rattle.dsp.proofs.export.Goals as goal

pub returns-in_err-taken : goal.returns-in_err-taken
unfolding export_image
returns-in_err-taken c =
    let l = c.args.image.now in
    let p = err_from_is_err_and c.from_residual.result c.from_residual.ensures.1 in
    rw (p.1, p.2, values-refused (export_answer l (length c.args.out.now)) l c.in_err-taken.ensures)

pub put_file-requires : goal.put_file-requires
put_file-requires c =
    let l = c.args.image.now in
    let t = values-accepted (export_answer l (length c.args.out.now)) l c.in_ok-taken.ensures in
    rw t.1 (export-accepted l (length c.args.out.now) t.0).2

pub returns : goal.returns
unfolding export_image
returns c =
    let l = c.args.image.now in
    let t = values-accepted (export_answer l (length c.args.out.now)) l c.in_ok-taken.ensures in
    rw (t.0, ← t.1) (ap₂ (λ (n : ℕ) (m : List ℕ). effect (accepted n) m) (c.file_bytes.ensures) c.put_file.ensures)
