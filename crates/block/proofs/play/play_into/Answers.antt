use Rattle.std.proofs.Common.{◌≡◌, ◌+◌, ◌-◌, ◌*◌, [], arith, refl, sym, ◌∙◌}
use Rattle.block.specs.Frame.{playing}
use Rattle.block.specs.inner.Frames.{play_frames}
use Rattle.block.proofs.LawsAddress.{room_whole, room-last}
use Rattle.block.proofs.LawsPlay.{frame-turn, frame-end}
use Rattle.block.proofs.play.play_into.Goals as goal

pub play_frame-after-requires : goal.play_frame-after-requires
play_frame-after-requires c =
    let len = c.args.len in
    let k = c.loop-k.k in
    let e : 16 * k + (len - 16 * k) ≡ len = omega arith in
    let r = rw e at (room_whole k (len - 16 * k) (omega arith)) in
    (omega arith, omega (arith, r))

pub play_frame-requires : goal.play_frame-requires
play_frame-requires c =
    let len = c.args.len in
    let k = c.frames_before_last-whole.result in
    let e : 16 * k + (len - 16 * k) ≡ len = omega arith in
    let r = rw e at (room-last k (len - 16 * k) (omega arith)) in
    (omega arith, omega (arith, r))

pub loop-k-init : goal.loop-k-init
unfolding play_frames
loop-k-init c = record { now = refl; stored = refl }

pub loop-k-preserved : goal.loop-k-preserved
loop-k-preserved c =
    let a = c.args in
    let l = c.loop-k in
    let p = c.play_frame-after in
    let t = frame-turn a.bytes.now a.coefficients l.k (playing a.context []) l.current p.result a.out.now l.out p.new.out refl l.invariant.now l.invariant.stored p.ensures in
    record { now = t.0 ∙ sym c.with_header-current.ensures; stored = t.1 }

pub returns : goal.returns
returns c =
    let a = c.args in
    let w = c.frames_before_last-whole in
    let p = c.play_frame in
    let k : c.loop-k.k ≡ w.result = omega arith in
    let left = a.len - 16 * w.result in
    let e : 16 * w.result + left ≡ a.len = omega (arith, w.ensures) in
    let i = rw k at c.loop-k.invariant in
    let f = rw c.saturating_sub-count.ensures at p.ensures in
    rw e at (frame-end a.bytes.now a.coefficients w.result left a.context c.loop-k.current p.result a.out.now c.loop-k.out p.new.out (omega (arith, w.ensures)) (omega (arith, w.ensures)) i.now i.stored f)
