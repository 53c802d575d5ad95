use Rattle.std.proofs.Common.{ℕ, ◌^◌, Bool, sym, ap, ◌∙◌, subst, arith, pow_pos}
use lib.Ieee.{binary64, to_bits, unlike}
use Rattle.float.specs.inner.Sticky.{ExactOrSticky}
use Rattle.float.specs.inner.Rounded.{rounded}
use Rattle.float.proofs.AlignedSums.{merged-bits, merged-none, same-aligned, signed-sum-none, none-bits, unlike-twice}
use Rattle.float.proofs.fusing.signed_sum.Goals as goal

pub returns-then-sum-eq0 : goal.returns-then-sum-eq0
returns-then-sum-eq0 c x y f =
    let p = c.args.p in
    let a = c.args.c in
    let r = c.plus-sum.result in
    let n = merged-none p.size a.size c.requires.2 p.negative a.negative (unlike p.negative r.negative) r.size c.plus-sum.ensures.size c.if-sum-eq0.true in
    sym (ap (to_bits binary64) (signed-sum-none 1198 p.negative a.negative x y n.0 (same-aligned x p.size y a.size (2 ^ p.exponent) (pow_pos p.exponent) f n.1)) ∙ none-bits 1197)

pub returns-else-sum-eq0 : goal.returns-else-sum-eq0
returns-else-sum-eq0 c x y f =
    let p = c.args.p in
    let a = c.args.c in
    let r = c.plus-sum.result in
    merged-bits x p.size y a.size (2 ^ p.exponent) (pow_pos p.exponent) f p.negative a.negative (unlike p.negative r.negative) r.size c.normalised.result c.plus-sum.ensures.size
    (omega (arith, c.if-sum-eq0.false))
    (λ m h. c.normalised.ensures m (subst (λ (z : ℕ). ExactOrSticky m r.size (2 ^ z)) (sym c.plus-sum.ensures.exponent) h)
    ∙ ap (λ (z : Bool). to_bits binary64 (rounded 1198 z m)) (sym (unlike-twice p.negative r.negative)))
