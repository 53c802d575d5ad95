use Rattle.std.proofs.Common.{◌≡◌, ℕ, ◌+◌, ◌*◌, List, ◌++◌, length, replicate, refl, ap, ap₂, sym, ◌∙◌, arith, rules}
use Rattle.std.proofs.lemmas.List.Edits.{sets}
use lib.ListN.{replicate-append-replicate}
use Rattle.whole.specs.Frames.{frame_count}
use Rattle.layout.specs.declared.Shape.{Shape}
use Rattle.layout.specs.Fields.{no_mark}
use Rattle.layout.specs.Sizes.{loop_count, entry_place, block_count, bodies_place, body_bytes, image_size, last_frame_samples}
use Rattle.clip.specs.Image.{start_shape, head_bytes, table_bytes, fresh_bytes, coefficient_bytes}
use Rattle.clip.proofs.FieldRuns.{runs3, head-length}
use Rattle.clip.proofs.Tables.{bare, table-length}
use Rattle.clip.proofs.contents.put_fresh.Goals as goal

pub put_head-requires : goal.put_head-requires
unfolding image_size block_count body_bytes frame_count last_frame_samples
put_head-requires c = (omega (arith, c.requires.1), c.block_count-blocks.ensures.same ∙ ap block_count c.shape-shape.ensures)

pub put_table-requires : goal.put_table-requires
unfolding image_size block_count body_bytes frame_count last_frame_samples
put_table-requires c =
    let e = c.shape-shape.ensures in
    (rw e c.requires.0, omega (arith, c.requires.1, ap bodies_place e, c.put_head.auto.image))

pub zeros-requires : goal.zeros-requires
unfolding image_size block_count body_bytes frame_count last_frame_samples
zeros-requires c =
    let e = c.shape-shape.ensures in
    let p = c.entry_place.ensures ∙ ap entry_place (c.block_count-blocks.ensures.same ∙ ap block_count e) in
    let x = ap (λ (z : Shape). z.extra) e in
    let t = c.body_bytes.ensures.same ∙ ap (λ (z : Shape). body_bytes z.total) e in
    omega (arith, c.requires.1, p, x, t, c.put_head.auto.image, c.put_table.auto.image)

pub returns : goal.returns
unfolding fresh_bytes head_bytes table_bytes coefficient_bytes block_count frame_count
returns c =
    let g = c.args.g in
    let image = c.args.image.now in
    let e = c.shape-shape.ensures in
    let n : length g.coefficients ≡ 16 = search rules in
    let k = block_count (start_shape g) in
    let bytes : Shape → List ℕ = λ z. table_bytes bare z 0 (block_count z) in
    let h : 56 ≡ 0 + length (head_bytes no_mark g) = omega (arith, head-length no_mark g refl n) in
    let at = c.entry_place.ensures ∙ ap entry_place (c.block_count-blocks.ensures.same ∙ ap block_count e) in
    let l : c.entry_place.result ≡ 56 + length (bytes (start_shape g)) = omega (arith, at, table-length bare (λ i. refl) (start_shape g) 0 k) in
    runs3 image c.put_head.new.image c.put_table.new.image c.zeros.new.buf (head_bytes no_mark g) (bytes (start_shape g))
    (replicate (16 * c.shape-shape.result.extra + c.body_bytes.result) 0) 0 56 c.entry_place.result
    c.put_head.ensures (c.put_table.ensures ∙ ap (λ (z : Shape). sets c.put_head.new.image 56 (bytes z)) e) c.zeros.ensures h l
    ∙ ap (λ (y : List ℕ). sets image 0 (head_bytes no_mark g ++ (bytes (start_shape g) ++ y)))
    (ap₂ (λ (x y : ℕ). replicate (16 * x + y) 0) (ap (λ (z : Shape). z.extra) e) (c.body_bytes.ensures.same ∙ ap (λ (z : Shape). body_bytes z.total) e)
    ∙ sym (replicate-append-replicate (16 * loop_count g.looped) (body_bytes g.total) 0))
