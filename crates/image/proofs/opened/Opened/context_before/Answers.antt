use borrow.Author.Tests.{eq-eqb, ne_eqb}
use Rattle.std.proofs.Common.{ℕ, ◌<◌, ◌/◌, sym, subst, arith}
use Rattle.image.specs.inner.ByFrames.{frame_place_in, context_before}
use Rattle.image.proofs.FramePlaces.{source, placed, place-made, first_found}
use Rattle.image.proofs.opened.Opened.context_before.Goals as goal

pub context-requires : goal.context-requires
context-requires c =
    let o = c.block-per.ensures.opens in
    let f = first_found c.args.self.now _ _ _ (source c.args.self.now _ c.args.i o c.block-per.ensures.read c.requires) c.if-begins.true in
    subst (λ (n : ℕ). c.args.i / (c.block-per.result / 8) < n) (sym o.head.blocks) f.block

pub returns-then-begins : goal.returns-then-begins
unfolding context_before
returns-then-begins c = rw (c.context.ensures, ← c.block-per.ensures.read, eq-eqb _ _ c.if-begins.true)

pub overflow_mul-i : goal.overflow_mul-i
overflow_mul-i c = let p = placed c.args.self.now _ _ _ (source c.args.self.now _ c.args.i c.block-per.ensures.opens c.block-per.ensures.read c.requires) in omega (arith, p)

pub overflow_add-bodies : goal.overflow_add-bodies
overflow_add-bodies c =
    let p = placed c.args.self.now _ _ _ (source c.args.self.now _ c.args.i c.block-per.ensures.opens c.block-per.ensures.read c.requires) in
    omega (arith, p, c.bodies-bodies.ensures.read)

pub bounds-bytes-bodies : goal.bounds-bytes-bodies
unfolding frame_place_in
bounds-bytes-bodies c =
    let p = placed c.args.self.now _ _ _ (source c.args.self.now _ c.args.i c.block-per.ensures.opens c.block-per.ensures.read c.requires) in
    rw (c.bytes.ensures, c.bodies-bodies.ensures.read) (omega (arith, p.bytes))

pub returns : goal.returns
unfolding context_before
returns c =
    let s = source c.args.self.now _ c.args.i c.block-per.ensures.opens c.block-per.ensures.read c.requires in
    rw (c.with_header.ensures, ← c.block-per.ensures.read, ne_eqb _ _ c.if-begins.false, c.bytes.ensures, c.bodies-bodies.ensures.read, place-made c.args.self.now _ _ _ s)
