use Rattle.std.proofs.Common.{◌≡◌, ◌-◌, ◌*◌, List, ℕ, length, refl, ap, ◌∙◌, arith, length-drop}
use Rattle.std.proofs.Math.Seq.{length-sets}
use Rattle.layout.specs.declared.Loop.{Loop}
use Rattle.whole.proofs.Stores.{part-all}
use Rattle.image.specs.Reading.{loop_in}
use Rattle.image.specs.Looping.{loop_length, loop_once, repeated}
use Rattle.image.proofs.LawsLoop.{loop-order, loop-run, turn-room, turn_small, turn-again}
use Rattle.image.proofs.opened.Opened.play_turns.Goals as goal

-- the samples of the turns before, of what was read
counted : (l : List ℕ) (p : Loop) (turn : ℕ) → p ≡ loop_in l → turn * (p.end - p.start) ≡ turn * loop_length l
counted l p turn e = ap (λ (q : Loop). turn * (q.end - q.start)) e

pub overflow_sub-count : goal.overflow_sub-count
overflow_sub-count c = rw c.requires.1 (loop-order c.args.self.now c.requires.0.opens)

pub loop-turn-init : goal.loop-turn-init
unfolding repeated
loop-turn-init c = refl

pub overflow_mul-done : goal.overflow_mul-done
overflow_mul-done c =
    let a = c.args in
    let s = turn_small a.self.now a.times (length a.out.now) c.requires.0 c.loop-turn.turn _ (counted a.self.now a.looped c.loop-turn.turn c.requires.1) c.loop-turn-test.true (omega (arith, c.ranges.times)) in
    omega (arith, s)

pub offset_bounds-out-done : goal.offset_bounds-out-done
offset_bounds-out-done c =
    let a = c.args in
    let s = turn_small a.self.now a.times (length a.out.now) c.requires.0 c.loop-turn.turn _ (counted a.self.now a.looped c.loop-turn.turn c.requires.1) c.loop-turn-test.true (omega (arith, c.ranges.times)) in
    omega (arith, s)

pub slice_bounds-play_run-start : goal.slice_bounds-play_run-start
slice_bounds-play_run-start c =
    let a = c.args in
    let r = turn-room a.self.now a.times (length a.out.now) c.requires.0 c.loop-turn.turn _ (counted a.self.now a.looped c.loop-turn.turn c.requires.1) c.loop-turn-test.true in
    let e = ap length c.loop-turn.invariant ∙ length-sets a.out.now 0 (repeated c.loop-turn.turn (loop_once a.self.now)) in
    omega (arith, r, e)

pub play_run-requires : goal.play_run-requires
play_run-requires c =
    let a = c.args in
    let l = a.self.now in
    let done = c.loop-turn.turn * (a.looped.end - a.looped.start) in
    let r = turn-room l a.times (length a.out.now) c.requires.0 c.loop-turn.turn _ (counted l a.looped c.loop-turn.turn c.requires.1) c.loop-turn-test.true in
    let e = ap length c.loop-turn.invariant ∙ length-sets a.out.now 0 (repeated c.loop-turn.turn (loop_once l)) in
    let n = ap (λ (p : Loop). p.end - p.start) c.requires.1 in
    let k = ap length (part-all c.loop-turn.out done) ∙ length-drop done c.loop-turn.out in
    (rw c.requires.1 (loop-run l c.requires.0.opens c.requires.0.present), omega (arith, e, r, n, k))

pub loop-turn-preserved : goal.loop-turn-preserved
unfolding loop_once
loop-turn-preserved c =
    let a = c.args in
    let l = a.self.now in
    turn-again l a.times (length a.out.now) c.requires.0 c.loop-turn.turn _ (counted l a.looped c.loop-turn.turn c.requires.1) c.loop-turn-test.true a.out.now c.loop-turn.out _ refl c.loop-turn.invariant
    (c.play_run.ensures.stored ∙ rw (c.requires.1, c.requires.2))

pub returns : goal.returns
returns c =
    let e : c.loop-turn.turn ≡ c.args.times = omega (arith, c.loop-turn.auto.turn-end, c.loop-turn-test.false) in
    c.loop-turn.invariant ∙ rw e
