use Rattle.std.proofs.Common.{List, ℕ, ap, ◌∙◌, arith}
use Rattle.std.proofs.lemmas.List.Edits.{sets}
use Rattle.layout.specs.Fields.{mark}
use Rattle.layout.specs.Sizes.{block_count, body_bytes, image_size, last_frame_samples, entry_place}
use Rattle.whole.specs.Frames.{frame_count}
use Rattle.clip.specs.Image.{loop_bytes}
use Rattle.clip.specs.Encoding.{ended}
use Rattle.clip.proofs.Encoder.put_end.Goals as goal

pub put_loop-requires : goal.put_loop-requires
unfolding image_size block_count body_bytes frame_count last_frame_samples
put_loop-requires c =
    omega (arith, c.requires.1, c.entry_place.ensures, c.block_count.ensures.same, ap block_count c.shape.ensures)

pub put_mark-requires : goal.put_mark-requires
unfolding image_size block_count body_bytes frame_count last_frame_samples
put_mark-requires c = omega (arith, c.requires.1, c.put_loop.auto.image)

pub returns : goal.returns
unfolding ended
returns c =
    let e = c.args.self in
    let at = c.entry_place.ensures ∙ ap entry_place (c.block_count.ensures.same ∙ ap block_count c.shape.ensures) in
    c.put_mark.ensures
    ∙ ap (λ (l : List ℕ). sets l 0 mark)
    (c.put_loop.ensures ∙ ap (λ (i : ℕ). sets c.args.image.now i (loop_bytes e.looped e.context)) at)
