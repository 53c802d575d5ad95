use Rattle.std.proofs.Common.{◌≡◌, ℕ, ◌<◌, ◌+◌, ◌*◌, ◌/◌, length, get_or, sym, ap, ap₂, ◌∙◌, arith, add-one}
use Rattle.block.specs.declared.FrameContext.{FrameContext}
use Rattle.block.specs.Context.{context_with, with_header}
use Rattle.layout.specs.Sizes.{block_count}
use Rattle.layout.proofs.SizeLaws.{blocks-most, start-most}
use Rattle.clip.specs.Image.{context_bytes}
use Rattle.clip.proofs.Tables.{table_none, table-turn}
use Rattle.dsp.specs.File.{bodies_of}
use Rattle.dsp.specs.Import.{history_before, context_before}
use Rattle.dsp.proofs.Contents.{context-six, part-is, part-there, first_byte, history-start, history-turn, lent, offset-is}
use Rattle.dsp.proofs.fields.File.put_contents.Goals as goal

pub loop-k-init : goal.loop-k-init
loop-k-init c =
    let a = c.args in (
      table_none (context_before a.self.now a.shape.block) a.image.now a.shape,
      λ h. ap (λ (x : FrameContext). x.last_samples) c.first-context.ensures ∙ history-start a.self.now (a.shape.block / 8),
    )

pub slice_bounds-body-count : goal.slice_bounds-body-count
slice_bounds-body-count c =
    let below : c.loop-k.k < block_count c.args.shape = omega (arith, c.loop-k-test.true, c.block_count-k-end.ensures.same) in
    rw c.bodies.ensures (omega (arith, part-there c.args.self.now c.args.shape _ c.requires c.loop-k.k below))

pub slice_bounds-body-start : goal.slice_bounds-body-start
slice_bounds-body-start c =
    let below : c.loop-k.k < block_count c.args.shape = omega (arith, c.loop-k-test.true, c.block_count-k-end.ensures.same) in
    let there = part-there c.args.self.now c.args.shape _ c.requires c.loop-k.k below in
    let e = ap length c.bodies.ensures in
    omega (arith, there, e)

pub bounds-body-0 : goal.bounds-body-0
bounds-body-0 c =
    let below : c.loop-k.k < block_count c.args.shape = omega (arith, c.loop-k-test.true, c.block_count-k-end.ensures.same) in
    let p = lent c.args.self.now c.args.shape _ c.requires c.loop-k.k below in
    let e = rw (← c.bodies.ensures) at p.1 in
    omega (arith, p.0, e)

pub overflow_cast-bodies : goal.overflow_cast-bodies
overflow_cast-bodies c =
    let below : c.loop-k.k < block_count c.args.shape = omega (arith, c.loop-k-test.true, c.block_count-k-end.ensures.same) in
    let near = start-most c.args.shape c.loop-k.k c.requires.limits below in
    let few = blocks-most c.args.shape c.requires.limits in
    omega (arith, near, few, c.bodies_place-bodies.ensures, c.requires.limits.further)

pub context_after-context-requires : goal.context_after-context-requires
context_after-context-requires c =
    let below : c.loop-k.k < block_count c.args.shape = omega (arith, c.loop-k-test.true, c.block_count-k-end.ensures.same) in
    rw (c.block_length-nibbles.ensures.same, c.bodies.ensures) (lent c.args.self.now c.args.shape _ c.requires c.loop-k.k below)

pub loop-k-preserved : goal.loop-k-preserved
unfolding context_before with_header
loop-k-preserved c =
    let f = c.args.self.now in
    let s = c.args.shape in
    let k = c.loop-k.k in
    let per = s.block / 8 in
    let part = part-is f s _ c.requires k in
    let n = c.block_length-nibbles.ensures.same in
    let below : c.loop-k.k < block_count c.args.shape = omega (arith, c.loop-k-test.true, c.block_count-k-end.ensures.same) in
    let current : c.with_header-current.result ≡ context_with (get_or (bodies_of f) (k * s.block) 0) (history_before f (k * per)) =
    c.with_header-current.ensures
    ∙ rw c.bodies.ensures (ap₂ context_with (first_byte f s _ c.requires k) (c.loop-k.invariant.1 below)) in (
      table-turn (context_before f s.block) (context-six f s.block) c.args.image.now c.loop-k.image c.put_entry.new.image s k
          (c.bodies_place-bodies.result + k * s.block) c.block_length-nibbles.result (context_bytes c.with_header-current.result.predictor_and_scale c.with_header-current.result.last_samples)
          (offset-is s k c.bodies_place-bodies.result c.bodies_place-bodies.ensures) n
          (ap (λ (x : FrameContext). context_bytes x.predictor_and_scale x.last_samples) current) c.loop-k.invariant.0 (c.put_entry.ensures ∙ rw c.entry_place.ensures),
      λ h.
          ap (λ (x : FrameContext). x.last_samples) c.context_after-context.ensures
          ∙ rw (c.bodies.ensures, part, n, current, c.coefficients-coefficients.ensures)
          (history-turn f s _ c.requires k (omega (arith, h)) ∙ ap (λ (q : ℕ). history_before f (q * per)) (sym (add-one k))),
    )
