use Rattle.std.proofs.Common.{◌≡◌, ◌≤◌, ◌+◌, ℕ, List, length, take, length-drop, refl, sym, ap, ◌∙◌, arith, rules}
use Rattle.std.proofs.lemmas.List.Edits.{sets}
use lib.Seq.{length-take-le}
use Rattle.block.specs.declared.FrameContext.{FrameContext}
use Rattle.layout.specs.declared.Shape.{Shape}
use Rattle.layout.specs.Fields.{mark}
use Rattle.layout.specs.Sizes.{entry_place, block_count, bodies_place, body_bytes, image_size}
use Rattle.clip.specs.declared.starting.Start.{Start}
use Rattle.clip.specs.Image.{start_shape, head_bytes, table_bytes, loop_bytes}
use Rattle.clip.proofs.FieldRuns.{runs4, head-length, loop-length}
use Rattle.clip.proofs.Tables.{table-length}
use Rattle.dsp.specs.File.{bodies_of, context_at}
use Rattle.dsp.specs.Import.{context_before, laid_out}
use Rattle.dsp.proofs.Contents.{context-six}
use Rattle.dsp.proofs.fields.File.put_image.Goals as goal

size_is : (g : Start) → image_size (start_shape g) ≡ bodies_place (start_shape g) + body_bytes g.total
unfolding image_size
size_is g = refl

head-room : (g : Start) → 56 ≤ image_size (start_shape g)
unfolding image_size
head-room g = omega arith

pub put_marked-requires : goal.put_marked-requires
put_marked-requires c =
    let made = c.shape-shape.ensures in
    (omega (arith, c.requires.enough, head-room c.args.given), c.block_count-blocks.ensures.same ∙ ap block_count made)

pub put_contents-requires : goal.put_contents-requires
put_contents-requires c =
    let made = c.shape-shape.ensures in
    rw made record {
      limits = c.requires.limits;
      bodies = c.requires.bodies;
      header = c.requires.header;
      enough = omega (arith, c.requires.enough, size_is c.args.given, c.put_marked.auto.image);
    }

pub put_loop-requires : goal.put_loop-requires
put_loop-requires c =
    let made = c.shape-shape.ensures in
    let at = c.entry_place.ensures ∙ ap entry_place (c.block_count-blocks.ensures.same ∙ ap block_count made) in
    omega (arith, at, c.requires.enough, size_is c.args.given, c.put_marked.auto.image, c.put_contents.auto.image)

-- the part of the bodies that is copied
copied : (f bs : List ℕ) (n b : ℕ) → bs ≡ bodies_of f → n ≡ b → 96 + b ≤ length f → length (take n bs) ≡ n
copied f bs n b e h k = length-take-le n bs (rw e (omega (arith, h, k, length-drop 96 f)))

pub slice_bounds-copy-end : goal.slice_bounds-copy-end
slice_bounds-copy-end c =
    let made = c.shape-shape.ensures in
    let counted = c.body_bytes.ensures.same ∙ ap (λ (z : Shape). body_bytes z.total) made in
    sym (copied c.args.self.now c.bodies.result.now c.body_bytes.result (body_bytes c.args.given.total) c.bodies.ensures counted c.requires.bodies)

pub copy-requires : goal.copy-requires
copy-requires c =
    let made = c.shape-shape.ensures in
    let counted = c.body_bytes.ensures.same ∙ ap (λ (z : Shape). body_bytes z.total) made in
    let n = copied c.args.self.now c.bodies.result.now c.body_bytes.result (body_bytes c.args.given.total) c.bodies.ensures counted c.requires.bodies in
    let to = c.bodies_place.ensures ∙ ap bodies_place made in
    omega (arith, to, n, counted, c.requires.enough, size_is c.args.given, c.put_marked.auto.image, c.put_contents.auto.image, c.put_loop.auto.image)

pub returns : goal.returns
unfolding laid_out
returns c =
    let g = c.args.given in
    let f = c.args.self.now in
    let k = block_count (start_shape g) in
    let made = c.shape-shape.ensures in
    let counted = c.body_bytes.ensures.same ∙ ap (λ (z : Shape). body_bytes z.total) made in
    let at = c.entry_place.ensures ∙ ap entry_place (c.block_count-blocks.ensures.same ∙ ap block_count made) in
    let to = c.bodies_place.ensures ∙ ap bodies_place made in
    let sixteen : length c.args.given.coefficients ≡ 16 = search rules in
    let table : Shape → List ℕ = λ z. table_bytes (context_before f z.block) z 0 (block_count z) in
    runs4 c.args.image.now c.put_marked.new.image c.put_contents.new.image c.put_loop.new.image c.copy.new.out
    (head_bytes mark g) (table (start_shape g)) (loop_bytes g.looped (context_at f 68)) (take (body_bytes g.total) (bodies_of f)) 0 56 c.entry_place.result c.bodies_place.result
    c.put_marked.ensures
    (c.put_contents.ensures ∙ ap (λ (z : Shape). sets c.put_marked.new.image 56 (table z)) made)
    (c.put_loop.ensures ∙ ap (λ (x : FrameContext). sets c.put_contents.new.image c.entry_place.result (loop_bytes g.looped x)) c.loop_context.ensures)
    (c.copy.ensures ∙ rw (counted, c.bodies.ensures))
    (omega (arith, head-length mark g refl sixteen))
    (omega (arith, at, table-length (context_before f g.block) (context-six f g.block) (start_shape g) 0 k))
    (omega (arith, at, to, loop-length g.looped (context_at f 68)))
