use Rattle.std.proofs.Common.{◌≡◌, ◌≤◌, ◌+◌, length, ap, ◌∙◌, arith, rules}
use Rattle.std.proofs.lemmas.List.Edits.{sets}
use Rattle.layout.specs.declared.Shape.{Shape}
use Rattle.layout.specs.Sizes.{bodies_place, body_bytes, image_size}
use Rattle.layout.proofs.SizeLaws.{blocks-most}
use Rattle.image.specs.Reading.{total_in, shape_in}
use Rattle.dsp.specs.File.{file_bytes}
use Rattle.dsp.specs.Export.{bodies_in}
use Rattle.dsp.proofs.GoesOn.{bodies-length}
use Rattle.dsp.proofs.HeaderRuns.{bodies-part, file-put}
use Rattle.dsp.proofs.opened.Opened.put_file.Goals as goal

pub overflow_add-end : goal.overflow_add-end
overflow_add-end c =
    let m = c.self.invariant.head.limits in
    let k = blocks-most (shape_in c.self.inside.bytes.now) m in
    let begins = c.bodies_place-bodies.ensures ∙ ap bodies_place c.read_shape-shape.ensures in
    omega (arith, begins, c.body_bytes.ensures.most, k, m.further)

pub slice_bounds-copy-end-2 : goal.slice_bounds-copy-end-2
unfolding image_size
slice_bounds-copy-end-2 c =
    let begins = c.bodies_place-bodies.ensures ∙ ap bodies_place c.read_shape-shape.ensures in
    let bytes = c.body_bytes.ensures.same ∙ ap (λ (s : Shape). body_bytes s.total) c.read_shape-shape.ensures in
    omega (arith, begins, bytes, c.self.invariant.head.size)

pub copy-requires : goal.copy-requires
unfolding file_bytes
copy-requires c = let n : length c.header.result ≡ 96 = search rules in omega (arith, n, c.requires)

pub copy-requires-2 : goal.copy-requires-2
unfolding file_bytes
copy-requires-2 c =
    let l = c.self.inside.bytes.now in
    let begins = c.bodies_place-bodies.ensures ∙ ap bodies_place c.read_shape-shape.ensures in
    let bytes = c.body_bytes.ensures.same ∙ ap (λ (s : Shape). body_bytes s.total) c.read_shape-shape.ensures in
    let part = ap length (bodies-part l c.bodies_place-bodies.result c.body_bytes.result begins bytes) ∙ bodies-length l c.self.invariant.head in
    let room : 96 + body_bytes (total_in l) ≤ length c.args.out.now = rw c.self.view_is c.requires in
    omega (arith, part, room, c.copy.auto.out)

pub returns : goal.returns
returns c =
    let l = c.self.inside.bytes.now in
    let begins = c.bodies_place-bodies.ensures ∙ ap bodies_place c.read_shape-shape.ensures in
    let bytes = c.body_bytes.ensures.same ∙ ap (λ (s : Shape). body_bytes s.total) c.read_shape-shape.ensures in
    let part = bodies-part l c.bodies_place-bodies.result c.body_bytes.result begins bytes ∙ ap bodies_in c.self.view_is in
    file-put c.args.self.now c.args.out.now c.copy.new.out c.copy-2.new.out (c.copy.ensures ∙ ap (sets c.args.out.now 0) c.header.ensures) (c.copy-2.ensures ∙ ap (sets c.copy.new.out 96) part)
