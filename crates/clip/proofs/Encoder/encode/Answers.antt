use Rattle.std.proofs.Common.{arith}
use Rattle.frame.proofs.LawsFrame.{limits-bounded}
use Rattle.clip.proofs.Storing.{room-few, passes-few, framed-encoded}
use Rattle.clip.proofs.Encoder.encode.Goals as goal

pub encode_frame-done-requires : goal.encode_frame-done-requires
encode_frame-done-requires c = limits-bounded c.args.self.now.coefficients c.requires.within

pub overflow_add-self : goal.overflow_add-self
overflow_add-self c =
    let e = c.args.self.now in
    let few = passes-few e.history e.frame e.coefficients c.encode_frame-done.result c.encode_frame-done.ensures in
    omega (arith, few, c.requires.count, room-few _ c.args.q _ _ c.requires.room)

pub returns : goal.returns
returns c =
    framed-encoded c.args.self.now c.args.q c.args.m _ c.args.image.now c.store.new.image c.encode_frame-done.result c.shape.result
    c.history_after-after.result c.loop_context-self.result c.encode_frame-done.ensures c.shape.ensures (omega (arith, c.div_ceil.ensures))
    c.store.ensures c.history_after-after.ensures c.loop_context-self.ensures
