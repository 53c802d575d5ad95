use Rattle.std.proofs.Common.{◌≡◌, ℕ, ◌+◌, ◌-◌, ◌*◌, ◌^◌, ◌<◌, ◌≤◌, Bool, sym, ap, ◌∙◌, subst, le_of_lt, arith}
use lib.Ieee.{binary64, to_bits}
use Rattle.float.specs.inner.Rounded.{signed_sum}
use Rattle.float.specs.inner.Sticky.{Aligned}
use Rattle.float.proofs.AlignedSums.{aligned-swap}
use Rattle.float.proofs.Alignment.{aligned, justified-pos, w-most, w-pos}
use Rattle.float.proofs.fusing.aligned_sum.Goals as goal

back : (a b : ℕ) → b ≤ a → a - b + b ≡ a
back a b h = omega arith

pub signed_sum-requires : goal.signed_sum-requires
signed_sum-requires c =
    let p = c.args.p in
    let a = c.args.c in (
      c.requires.0.most,
      w-most p.size a.size c.raised.result.size (p.exponent - a.exponent) a.exponent c.requires.0 c.requires.1 c.raised.ensures.size,
      justified-pos p.size c.requires.0,
      sym c.raised.ensures.rest.1,
      c.requires.2,
    )

pub signed_sum-requires-else-c-p : goal.signed_sum-requires-else-c-p
signed_sum-requires-else-c-p c =
    let p = c.args.p in
    let a = c.args.c in
    let r = c.raised-else-c-p in (
      w-most a.size p.size r.result.size (a.exponent - p.exponent) p.exponent c.requires.1 c.requires.0 r.ensures.size,
      c.requires.1.most,
      w-pos a.size p.size r.result.size (a.exponent - p.exponent) p.exponent c.requires.1 c.requires.0 r.ensures.size,
      r.ensures.rest.1,
      subst (λ (z : ℕ). z < 8000) (sym r.ensures.rest.1) c.requires.3,
    )

pub returns-then-c-p : goal.returns-then-c-p
returns-then-c-p c =
    let p = c.args.p in
    let a = c.args.c in
    let r = c.raised in
    c.signed_sum.ensures (p.size * 2 ^ p.exponent) (a.size * 2 ^ a.exponent)
    (subst (λ (z : ℕ). Aligned (p.size * 2 ^ z) p.size (a.size * 2 ^ a.exponent) r.result.size (2 ^ z)) (back p.exponent a.exponent c.if-c-p.true)
    (aligned p.size a.size r.result.size (p.exponent - a.exponent) a.exponent c.requires.0 c.requires.1 r.ensures.size))
    ∙ ap (λ (z : Bool). to_bits binary64 (signed_sum 1198 p.negative (p.size * 2 ^ p.exponent) z (a.size * 2 ^ a.exponent))) r.ensures.rest.0

pub returns-else-c-p : goal.returns-else-c-p
returns-else-c-p c =
    let p = c.args.p in
    let a = c.args.c in
    let r = c.raised-else-c-p in
    c.signed_sum-else-c-p.ensures (p.size * 2 ^ p.exponent) (a.size * 2 ^ a.exponent)
    (subst (λ (z : ℕ). Aligned (p.size * 2 ^ p.exponent) r.result.size (a.size * 2 ^ a.exponent) a.size (2 ^ z)) (sym r.ensures.rest.1)
    (aligned-swap (a.size * 2 ^ a.exponent) a.size (p.size * 2 ^ p.exponent) r.result.size (2 ^ a.exponent)
    (subst (λ (z : ℕ). Aligned (a.size * 2 ^ z) a.size (p.size * 2 ^ p.exponent) r.result.size (2 ^ z)) (back a.exponent p.exponent (le_of_lt c.if-c-p.false))
    (aligned a.size p.size r.result.size (a.exponent - p.exponent) p.exponent c.requires.1 c.requires.0 r.ensures.size))))
    ∙ ap (λ (z : Bool). to_bits binary64 (signed_sum 1198 z (p.size * 2 ^ p.exponent) a.negative (a.size * 2 ^ a.exponent))) r.ensures.rest.0
