use Rattle.std.proofs.Common.{ap, refl, arith}
use Rattle.block.specs.Address.{address_to_sample}
use Rattle.image.specs.declared.bodies.Entry.{Entry}
use Rattle.image.specs.Sameness.{samples_from}
use Rattle.image.proofs.LawsAll.{block-there, place-within, place-small, place-playable, place-counted, place-context, place-written, all-written}
use Rattle.image.proofs.opened.Opened.play_blocks.Goals as goal

pub loop-k-init : goal.loop-k-init
unfolding samples_from
loop-k-init c = record { at = refl; context = c.new-context.ensures; out = refl }

pub entry-entry-requires : goal.entry-entry-requires
entry-entry-requires c = block-there c.args.self.now c.requires.opens _ (omega (arith, c.blocks-blocks.ensures, c.loop-k-test.true))

pub offset_bounds-out-at : goal.offset_bounds-out-at
offset_bounds-out-at c =
    let i = c.loop-k.invariant in
    let s = place-small c.args.self.now c.args.out.now c.requires _ (omega (arith, c.blocks-blocks.ensures, c.loop-k-test.true)) _ _ i.at i.out in
    omega (arith, s)

pub slice_bounds-play_block-count : goal.slice_bounds-play_block-count
slice_bounds-play_block-count c =
    let i = c.loop-k.invariant in
    let b = place-within c.args.self.now c.args.out.now c.requires _ (omega (arith, c.blocks-blocks.ensures, c.loop-k-test.true)) _ _ i.at i.out in
    omega (arith, b)

pub slice_bounds-play_block-start : goal.slice_bounds-play_block-start
slice_bounds-play_block-start c =
    let i = c.loop-k.invariant in
    let b = place-within c.args.self.now c.args.out.now c.requires _ (omega (arith, c.blocks-blocks.ensures, c.loop-k-test.true)) _ _ i.at i.out in
    omega (arith, b)

pub play_block-context-requires : goal.play_block-context-requires
play_block-context-requires c =
    let i = c.loop-k.invariant in (
      place-playable c.args.self.now c.args.out.now c.requires _ (omega (arith, c.blocks-blocks.ensures, c.loop-k-test.true)) _ _ i.at i.out,
      c.entry-entry.ensures,
    )

pub overflow_add-at : goal.overflow_add-at
overflow_add-at c =
    let i = c.loop-k.invariant in
    let s = place-small c.args.self.now c.args.out.now c.requires _ (omega (arith, c.blocks-blocks.ensures, c.loop-k-test.true)) _ _ i.at i.out in
    let n = ap (λ (e : Entry). address_to_sample e.nibbles) c.entry-entry.ensures in
    omega (arith, s, c.address_to_sample.ensures, n)

pub loop-k-preserved : goal.loop-k-preserved
loop-k-preserved c =
    let l = c.args.self.now in
    let o = c.args.out.now in
    let i = c.loop-k.invariant in
    let n = ap (λ (e : Entry). e.nibbles) c.entry-entry.ensures in
    record {
      at = place-counted l o c.requires _ (omega (arith, c.blocks-blocks.ensures, c.loop-k-test.true)) _ _ i.at i.out _ _ c.address_to_sample.ensures n;
      context = place-context l o c.requires _ (omega (arith, c.blocks-blocks.ensures, c.loop-k-test.true)) _ _ i.at i.out _ _ c.play_block-context.ensures;
      out = place-written l o c.requires _ (omega (arith, c.blocks-blocks.ensures, c.loop-k-test.true)) _ _ i.at i.out _ _ c.play_block-context.ensures;
    }

pub returns : goal.returns
returns c =
    let i = c.loop-k.invariant in
    all-written c.args.self.now c.args.out.now c.requires _ _ _ (omega (arith, c.blocks-blocks.ensures, c.loop-k.auto.k-end, c.loop-k-test.false)) i.context i.out
