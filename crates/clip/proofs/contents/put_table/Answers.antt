use Rattle.std.proofs.Common.{◌≡◌, ◌<◌, ◌+◌, ◌*◌, refl, ◌∙◌, arith, rules}
use Rattle.layout.specs.Sizes.{block_count}
use Rattle.layout.proofs.SizeLaws.{blocks-most, start-most}
use Rattle.block.specs.Context.{new_context}
use Rattle.clip.specs.Image.{no_context}
use Rattle.clip.proofs.Tables.{bare, table_none, table-turn, offset-is}
use Rattle.clip.proofs.contents.put_table.Goals as goal

pub loop-k-init : goal.loop-k-init
loop-k-init c = table_none bare c.args.image.now c.args.shape

pub overflow_cast-offset : goal.overflow_cast-offset
overflow_cast-offset c =
    let s = c.args.shape in
    let below : c.loop-k.k < block_count s = omega (arith, c.loop-k-test.true, c.block_count-k-end.ensures.same) in
    omega (arith, start-most s c.loop-k.k c.requires.0 below, blocks-most s c.requires.0, c.bodies_place-bodies.ensures, c.requires.0.further)

pub loop-k-preserved : goal.loop-k-preserved
loop-k-preserved c =
    let s = c.args.shape in
    let e : c.default.result ≡ new_context = search rules in
    table-turn bare (λ i. refl) c.args.image.now c.loop-k.image c.put_entry.new.image s c.loop-k.k
    (c.bodies_place-bodies.result + c.loop-k.k * s.block) c.block_length-nibbles.result no_context
    (offset-is s c.loop-k.k c.bodies_place-bodies.result c.bodies_place-bodies.ensures) c.block_length-nibbles.ensures.same refl
    c.loop-k.invariant (c.put_entry.ensures ∙ rw (c.entry_place.ensures, e))
