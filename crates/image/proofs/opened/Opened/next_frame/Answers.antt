use Rattle.std.proofs.Common.{refl, arith}
use Rattle.image.specs.inner.ByFrames.{frame_place_in, next_frame}
use Rattle.image.proofs.FramePlaces.{source, placed, place-made}
use Rattle.image.proofs.opened.Opened.next_frame.Goals as goal

pub context_before-context-requires : goal.context_before-context-requires
context_before-context-requires c = c.requires.0

pub overflow_mul-i : goal.overflow_mul-i
overflow_mul-i c = let p = placed c.args.self.now _ _ _ (source c.args.self.now _ c.args.i c.bodies-bodies.ensures.opens refl c.requires.0) in omega (arith, p)

pub overflow_add-bodies : goal.overflow_add-bodies
overflow_add-bodies c =
    let p = placed c.args.self.now _ _ _ (source c.args.self.now _ c.args.i c.bodies-bodies.ensures.opens refl c.requires.0) in
    omega (arith, p, c.bodies-bodies.ensures.read)

pub played_frame-requires : goal.played_frame-requires
unfolding frame_place_in
played_frame-requires c =
    let p = placed c.args.self.now _ _ _ (source c.args.self.now _ c.args.i c.bodies-bodies.ensures.opens refl c.requires.0) in
    let n = c.requires.1 in
    rw (c.bytes.ensures, c.bodies-bodies.ensures.read) (omega (arith, p.bytes, n), omega (arith, p.few, n))

pub returns : goal.returns
unfolding next_frame
returns c =
    let s = source c.args.self.now _ c.args.i c.bodies-bodies.ensures.opens refl c.requires.0 in
    rw (c.played_frame.ensures, c.bytes.ensures, c.bodies-bodies.ensures.read, c.context_before-context.ensures, c.coefficients.ensures, c.requires.1, place-made c.args.self.now _ _ _ s)
