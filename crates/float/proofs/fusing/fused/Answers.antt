use Rattle.std.proofs.Common.{◌≡◌, ℕ, ◌*◌, ◌%◌, ◌^◌, ◌<◌, ◌≤◌, ap, lt_of_lt_of_le, mod-eq_of_lt, arith, lit≤}
use lib.Ieee.{binary64, to_bits, of_bits}
use Rattle.float.proofs.Decomposition.{product-justified, addend-justified, fused-law}
use Rattle.float.proofs.fusing.fused.Goals as goal

-- the third number's digits stay within 128
kept : (m : ℕ) → 2 ^ 52 ≤ m → m < 2 ^ 53 → (m * 512 * 2 ^ 64) % 2 ^ 128 ≡ m * 512 * 2 ^ 64
kept m h k = let most = (addend-justified m h k).most in mod-eq_of_lt (lt_of_lt_of_le most (lit≤ tt))

pub aligned_sum-requires : goal.aligned_sum-requires
aligned_sum-requires c =
    let x = c.decomposed-x in
    let y = c.decomposed-y in
    let z = c.decomposed-z in
    let a = x.ensures.low in
    let b = y.ensures.low in
    let d = z.ensures.low in
    rw (c.from.ensures, c.from-2.ensures, c.from-3.ensures, kept z.result.digits z.ensures.least z.ensures.most) (
      product-justified x.result.digits y.result.digits x.ensures.least x.ensures.most y.ensures.least y.ensures.most,
      addend-justified z.result.digits z.ensures.least z.ensures.most,
      omega arith,
      omega arith,
    )

pub returns : goal.returns
returns c =
    let x = c.decomposed-x in
    let y = c.decomposed-y in
    let z = c.decomposed-z in
    rw (c.aligned_sum.ensures, c.from.ensures, c.from-2.ensures, c.from-3.ensures, kept z.result.digits z.ensures.least z.ensures.most)
    (ap (to_bits binary64)
    (fused-law (of_bits binary64 c.args.a) (of_bits binary64 c.args.b) (of_bits binary64 c.args.c) x.result.negative y.result.negative z.result.negative
    x.result.digits x.result.exponent y.result.digits y.result.exponent z.result.digits z.result.exponent x.ensures y.ensures z.ensures))
