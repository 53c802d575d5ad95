use Rattle.std.proofs.Common.{◌≡◌, ℕ, sym, ap, ◌∙◌, refl, arith}
use Rattle.whole.specs.Frames.{frame_count}
use Rattle.image.specs.Reading.{total_in}
use Rattle.image.specs.inner.ByFrames.{frame_samples, frames_in}
use Rattle.image.proofs.LawsSame.{other-total, same_total}
use Rattle.image.proofs.LawsTurn.{next-context, next-samples, turn-equal, turn-differs, all-equal}
use Rattle.image.proofs.opened.Opened.same_sound.Goals as goal

pub returns-then-differ : goal.returns-then-differ
returns-then-differ c =
    other-total c.args.self.now c.args.other.now (λ z. c.if-differ.true (c.total-total.ensures.read ∙ z ∙ sym c.total.ensures.read))

pub frame_count-i-end-requires : goal.frame_count-i-end-requires
frame_count-i-end-requires c = omega (arith, c.total-total.ensures.opens.head.limits.few, c.total-total.ensures.read)

pub loop-i-init : goal.loop-i-init
unfolding frames_in
loop-i-init c = record { one = c.new-one.ensures; two = c.new-two.ensures; samples = refl }

pub frame_samples-count-requires : goal.frame_samples-count-requires
frame_samples-count-requires c =
    let e = c.total-total.ensures.read in
    let m = c.total-total.ensures.opens.head.limits in
    (omega (arith, m.some, e), omega (arith, m.few, e), omega (arith, c.loop-i-test.true, c.frame_count-i-end.ensures.same))

pub next_frame-x-requires : goal.next_frame-x-requires
next_frame-x-requires c =
    let e = c.total-total.ensures.read in (
      rw (← e) (omega (arith, c.loop-i-test.true, c.frame_count-i-end.ensures.same)),
      c.frame_samples-count.ensures.same ∙ ap (λ (n : ℕ). frame_samples n c.loop-i.i) e,
    )

pub next_frame-y-requires : goal.next_frame-y-requires
next_frame-y-requires c =
    let e = c.if-differ.false ∙ c.total.ensures.read in (
      rw (← e) (omega (arith, c.loop-i-test.true, c.frame_count-i-end.ensures.same)),
      c.frame_samples-count.ensures.same ∙ ap (λ (n : ℕ). frame_samples n c.loop-i.i) e,
    )

pub returns-then-not-equal_part : goal.returns-then-not-equal_part
returns-then-not-equal_part c =
    let a = c.args.self.now in
    let b = c.args.other.now in
    let e = c.total-total.ensures.read in
    let t = sym e ∙ c.if-differ.false ∙ c.total.ensures.read in
    let i = c.loop-i in
    turn-differs a b c.total-total.ensures.opens c.total.ensures.opens t i.i c.frame_samples-count.result
    (rw (← e) (omega (arith, c.loop-i-test.true, c.frame_count-i-end.ensures.same)))
    (c.frame_samples-count.ensures.same ∙ ap (λ (n : ℕ). frame_samples n i.i) e) i.invariant.samples c.next_frame-x.result.samples c.next_frame-y.result.samples
    (next-samples a i.i i.one i.invariant.one c.next_frame-x.result c.next_frame-x.ensures)
    (next-samples b i.i i.two i.invariant.two c.next_frame-y.result c.next_frame-y.ensures) (sym c.equal_part.ensures ∙ c.if-not-equal_part.true)
    ∙ same_total a b t

pub loop-i-preserved : goal.loop-i-preserved
loop-i-preserved c =
    let a = c.args.self.now in
    let b = c.args.other.now in
    let e = c.total-total.ensures.read in
    let t = sym e ∙ c.if-differ.false ∙ c.total.ensures.read in
    let i = c.loop-i in
    record {
      one = next-context a i.i i.one i.invariant.one c.next_frame-x.result c.next_frame-x.ensures;
      two = next-context b i.i i.two i.invariant.two c.next_frame-y.result c.next_frame-y.ensures;
      samples = turn-equal a b c.total-total.ensures.opens c.total.ensures.opens t i.i c.frame_samples-count.result
          (rw (← e) (omega (arith, c.loop-i-test.true, c.frame_count-i-end.ensures.same)))
          (c.frame_samples-count.ensures.same ∙ ap (λ (n : ℕ). frame_samples n i.i) e) i.invariant.samples c.next_frame-x.result.samples c.next_frame-y.result.samples
          (next-samples a i.i i.one i.invariant.one c.next_frame-x.result c.next_frame-x.ensures)
          (next-samples b i.i i.two i.invariant.two c.next_frame-y.result c.next_frame-y.ensures) (sym c.equal_part.ensures ∙ c.if-not-equal_part.false);
    }

pub returns : goal.returns
returns c =
    let a = c.args.self.now in
    let b = c.args.other.now in
    let e = c.total-total.ensures.read in
    let t = sym e ∙ c.if-differ.false ∙ c.total.ensures.read in
    let k : c.loop-i.i ≡ frame_count (total_in a) = rw (← e) (omega (arith, c.loop-i-test.false, c.loop-i.auto.i-end, c.frame_count-i-end.ensures.same)) in
    all-equal a b c.total-total.ensures.opens c.total.ensures.opens t (rw k at c.loop-i.invariant.samples) ∙ same_total a b t
