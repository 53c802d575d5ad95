use Rattle.std.proofs.Common.{List, ℕ, ◌≤◌, length, ap, ap₂, ◌∙◌, arith}
use Rattle.std.proofs.lemmas.Result.{err_from_is_err_and}
use borrow.Author.Tests.{lt-ltb, le-ltb}
use Rattle.whole.specs.Outcome.{accepted, effect}
use Rattle.layout.specs.Sizes.{image_size}
use Rattle.clip.specs.Image.{start_shape}
use Rattle.dsp.specs.Import.{clip_of, imported_bytes, file_answer, import_answer, import_file}
use Rattle.dsp.specs.inner.Asked.{Imports}
use Rattle.dsp.proofs.AcceptedFile.{FileFits, file-fits, clip-limits}
use Rattle.dsp.proofs.TestLaws.{values-refused, values-accepted}
use Rattle.dsp.proofs.import.Goals as goal

-- what writing the image asks
given : (f : List ℕ) (size room : ℕ) → FileFits f size → imported_bytes f size ≤ room → Imports f (clip_of f size) room
unfolding clip_of
given f size room F h = record { limits = clip-limits f size F; bodies = F.bodies; header = F.header; enough = h }

pub returns-in_err-accepted : goal.returns-in_err-accepted
unfolding import_file import_answer
returns-in_err-accepted c =
    let f = c.args.file.now in
    let p = err_from_is_err_and c.from_residual.result c.from_residual.ensures.1 in
    rw (p.1, p.2, values-refused (file_answer f c.args.size) f c.in_err-accepted.ensures)

pub image_size-needed-requires : goal.image_size-needed-requires
image_size-needed-requires c =
    let f = c.args.file.now in
    let t = values-accepted (file_answer f c.args.size) f c.in_ok-accepted.ensures in
    rw (c.shape.ensures, c.clip-given.ensures, t.1) (clip-limits f c.args.size (file-fits f c.args.size t.0))

pub returns-then-short : goal.returns-then-short
unfolding import_file import_answer
returns-then-short c =
    let f = c.args.file.now in
    let t = values-accepted (file_answer f c.args.size) f c.in_ok-accepted.ensures in
    let g = c.clip-given.ensures ∙ ap (λ (l : List ℕ). clip_of l c.args.size) t.1 in
    let n = c.image_size-needed.ensures ∙ ap image_size (c.shape.ensures ∙ ap start_shape g) in
    rw (t.0, lt-ltb (length c.args.image.now) (imported_bytes f c.args.size) (omega (arith, n, c.if-short.true)))

pub put_image-requires : goal.put_image-requires
put_image-requires c =
    let f = c.args.file.now in
    let t = values-accepted (file_answer f c.args.size) f c.in_ok-accepted.ensures in
    let g = c.clip-given.ensures ∙ ap (λ (l : List ℕ). clip_of l c.args.size) t.1 in
    let n = c.image_size-needed.ensures ∙ ap image_size (c.shape.ensures ∙ ap start_shape g) in
    rw (g, t.1) (given f c.args.size _ (file-fits f c.args.size t.0) (omega (arith, n, c.if-short.false)))

pub returns : goal.returns
unfolding import_file import_answer
returns c =
    let f = c.args.file.now in
    let l = c.args.image.now in
    let t = values-accepted (file_answer f c.args.size) f c.in_ok-accepted.ensures in
    let g = c.clip-given.ensures ∙ ap (λ (l : List ℕ). clip_of l c.args.size) t.1 in
    let n = c.image_size-needed.ensures ∙ ap image_size (c.shape.ensures ∙ ap start_shape g) in
    rw (t.0, le-ltb (length l) (imported_bytes f c.args.size) (omega (arith, n, c.if-short.false)))
    (ap₂ (λ (n : ℕ) (l : List ℕ). effect (accepted n) l) n (c.put_image.ensures ∙ rw (g, t.1)))
