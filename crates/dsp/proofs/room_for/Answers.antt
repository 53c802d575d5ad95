use Rattle.std.proofs.Common.{List, ℕ, ap, ◌∙◌}
use Rattle.std.proofs.lemmas.Result.{err_from_is_err_and}
use Rattle.whole.specs.Outcome.{accepted}
use Rattle.layout.specs.Sizes.{image_size}
use Rattle.clip.specs.Image.{start_shape}
use Rattle.dsp.specs.Import.{clip_of, file_answer, room_for}
use Rattle.dsp.proofs.AcceptedFile.{file-fits, clip-limits}
use Rattle.dsp.proofs.TestLaws.{values-refused, values-accepted}
use Rattle.dsp.proofs.room_for.Goals as goal

pub returns-in_err-accepted : goal.returns-in_err-accepted
unfolding room_for
returns-in_err-accepted c =
    let f = c.args.file.now in
    let p = err_from_is_err_and c.from_residual.result c.from_residual.ensures.1 in
    rw (p.1, p.2, values-refused (file_answer f c.args.size) f c.in_err-accepted.ensures)

pub image_size-requires : goal.image_size-requires
image_size-requires c =
    let f = c.args.file.now in
    let t = values-accepted (file_answer f c.args.size) f c.in_ok-accepted.ensures in
    rw (c.shape.ensures, c.clip.ensures, t.1) (clip-limits f c.args.size (file-fits f c.args.size t.0))

pub returns : goal.returns
unfolding room_for
returns c =
    let f = c.args.file.now in
    let t = values-accepted (file_answer f c.args.size) f c.in_ok-accepted.ensures in
    let g = c.clip.ensures ∙ ap (λ (l : List ℕ). clip_of l c.args.size) t.1 in
    rw t.0 (ap accepted (c.image_size.ensures ∙ ap image_size (c.shape.ensures ∙ ap start_shape g)))
