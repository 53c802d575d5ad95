use Rattle.std.proofs.Common.{sym, ap, ◌∙◌, arith}
use Rattle.layout.specs.declared.Loop.{Loop}
use Rattle.image.proofs.LawsBody.{room-accepted}
use Rattle.image.proofs.LawsLoop.{loop-order, turns-small, none-played, loop-made}
use Rattle.image.proofs.opened.Opened.play_loop.Goals as goal

pub overflow_sub-once : goal.overflow_sub-once
overflow_sub-once c = rw c.looped-looped.ensures.read (loop-order c.args.self.now c.looped-looped.ensures.opens)

pub play_turns-requires : goal.play_turns-requires
play_turns-requires c =
    let r = room-accepted _ _ _ (sym (rw (c.coefficients.ensures, c.from.ensures, c.from-2.ensures, c.looped-looped.ensures.read) at c.in_ok-room_answer.ensures)) in (
      record { opens = c.looped-looped.ensures.opens; present = sym (ap (λ (p : Loop). p.present) c.looped-looped.ensures.read) ∙ c.if-looped.true; enough = r.1 },
      c.looped-looped.ensures.read,
      c.loop_context-context.ensures,
    )

pub returns-else-looped : goal.returns-else-looped
returns-else-looped c =
    let r = room-accepted _ _ _ (sym (rw (c.coefficients.ensures, c.from.ensures, c.from-2.ensures, c.looped-looped.ensures.read) at c.in_ok-room_answer.ensures)) in
    loop-made c.args.self.now c.args.times _ r.0 r.1 _ _ (rw (c.from.ensures, c.from-2.ensures, c.looped-looped.ensures.read))
    (none-played _ _ _ (sym (ap (λ (p : Loop). p.present) c.looped-looped.ensures.read) ∙ c.if-looped.false))

pub overflow_mul-samples : goal.overflow_mul-samples
overflow_mul-samples c =
    let m = turns-small c.args.self.now c.looped-looped.ensures.opens c.args.times (omega (arith, c.ranges.times)) in
    rw (c.from.ensures, c.from-2.ensures, c.looped-looped.ensures.read) (omega (arith, m))

pub returns-then-looped : goal.returns-then-looped
returns-then-looped c =
    let r = room-accepted _ _ _ (sym (rw (c.coefficients.ensures, c.from.ensures, c.from-2.ensures, c.looped-looped.ensures.read) at c.in_ok-room_answer.ensures)) in
    loop-made c.args.self.now c.args.times _ r.0 r.1 _ _ (rw (c.from.ensures, c.from-2.ensures, c.looped-looped.ensures.read)) c.play_turns.ensures
