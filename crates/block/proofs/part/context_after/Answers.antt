use Rattle.std.proofs.Common.{◌≡◌, ◌+◌, ◌-◌, ◌*◌, [], arith, refl, sym, ◌∙◌}
use Rattle.block.specs.Frame.{playing}
use Rattle.block.specs.inner.Frames.{play_frames}
use Rattle.block.proofs.LawsOn.{context-turn, context-end}
use Rattle.block.proofs.part.context_after.Goals as goal

pub loop-k-init : goal.loop-k-init
unfolding play_frames
loop-k-init c = refl

pub loop-k-preserved : goal.loop-k-preserved
loop-k-preserved c =
    let a = c.args in
    let l = c.loop-k in
    context-turn a.bytes.now a.coefficients l.k (playing a.context []) l.current c.frame_context-after.result l.invariant c.frame_context-after.ensures
    ∙ sym c.with_header-current.ensures

pub returns : goal.returns
returns c =
    let a = c.args in
    let w = c.frames_before_last-whole in
    let n = c.saturating_sub-count in
    let k : c.loop-k.k ≡ w.result = omega arith in
    let left = a.len - 16 * w.result in
    let e : 16 * w.result + left ≡ a.len = omega (arith, w.ensures) in
    let f = rw n.ensures at c.frame_context.ensures in
    rw e at (context-end a.bytes.now a.coefficients w.result left a.context c.loop-k.current c.frame_context.result (omega (arith, w.ensures)) (omega (arith, w.ensures)) (rw k at c.loop-k.invariant) f)
