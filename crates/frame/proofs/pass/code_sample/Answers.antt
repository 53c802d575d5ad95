-- `code_sample` meets its contract: each value of the code with its number and its size.
use Rattle.std.proofs.Common.{◌≡◌, ℕ, ◌*◌, ◌^◌, ◌%◌, ◌≤◌, sym, ap, ◌∙◌, ap₂, arith, w8, w16, w32, w64}
use Rattle.std.proofs.Math.Facts.{to_z-of_z}
use lib.IntN.{ℤ, pos, nat_abs, ◌+ℤ◌, ◌-ℤ◌, ◌*ℤ◌}
use lib.Signed.{shr_z}
use mir.Val.{SFits, to_z, of_z}
use Rattle.whole.specs.Whole.{clamp16, floored}
use Rattle.whole.proofs.Clamping.{clamp-library}
use Rattle.whole.proofs.SignedLocals.{Is, is-lit, is_call, is_mul, chk-mul, is-add, chk-add, is-sub, is-shr, is-cast, is-size, is-one-shl, abs-sfits}
use Rattle.frame.specs.Estimate.{weigh}
use Rattle.frame.specs.Quantise.{quantise, clamp4}
use Rattle.frame.specs.Pass.{residual, code_sample, Bounded}
use Rattle.frame.proofs.LawsQuantise.{quantise-size, clamp4-size}
use Rattle.frame.proofs.LawsEstimate.{weigh-size}
use Rattle.frame.proofs.LawsPass.{reconstruct-played}
use Rattle.frame.proofs.pass.code_sample.Goals as goal

module _ (c0 c1 s0 s1 x : ℤ) (p : ℕ) (b : Bounded c0 c1) (f0 : SFits w16 s0) (f1 : SFits w16 s1) (fx : SFits w16 x) (h : p ≤ 12) where
  abbrev sum : ℤ
  sum = weigh c0 c1 s0 s1

  abbrev whole : ℤ
  whole = residual c0 c1 s0 s1 x

  q-is : (q : ℤ) → q ≡ sum → Is w64 (of_z w64 q) sum 2013265920
  q-is q e = is_call e (weigh-size c0 c1 s0 s1 b f0 f1) tt

  d-is : (q r : ℤ) → q ≡ sum → r ≡ x → Is w64 (of_z w64 (to_z w64 (of_z w64 (pos 2048 *ℤ to_z w64 (of_z w64 r))) -ℤ to_z w64 (of_z w64 q))) whole 2080374784
  unfolding residual
  d-is q r e k = is-sub (is_mul (is-lit w64 2048 tt) (is_call k (abs-sfits fx) tt) tt) (q-is q e) tt

  u-is : (q r u : ℤ) → q ≡ sum → r ≡ x → u ≡ quantise (to_z w64 (of_z w64 (to_z w64 (of_z w64 (pos 2048 *ℤ to_z w64 (of_z w64 r))) -ℤ to_z w64 (of_z w64 q)))) p → Is w64 (of_z w64 u) (quantise whole p) 2080375041
  u-is q r u e k m =
      let d = d-is q r e k in
      is_call (m ∙ ap (λ (z : ℤ). quantise z p) d.is) (omega (arith, quantise-size whole p (omega (arith, d.size)), d.size)) tt

  n-is : (n : ℤ) → n ≡ clamp4 (quantise whole p) → Is w64 (of_z w64 n) (clamp4 (quantise whole p)) 8
  n-is n e = is_call e (clamp4-size _) tt

  w-is : Is w64 ((1 * 2 ^ p) % 18446744073709551616) (pos (2 ^ p)) 4096
  w-is = is-one-shl w64 p 12 h tt

  -- the prediction, rounded down
  p-is : (q : ℤ) → q ≡ sum → Is w64 (of_z w64 (shr_z (to_z w64 (of_z w64 (to_z w64 (of_z w64 q) +ℤ pos 1024))) 2048)) (floored (sum +ℤ pos 1024) 2048) 2013266944
  p-is q e = is-shr (is-add (q-is q e) (is-lit w64 1024 tt) tt) 2048 tt

-- the weighted sum of two samples, in 64 bits
summed : (c0 c1 s0 s1 w q : ℤ) → Bounded c0 c1 → SFits w16 s0 → SFits w16 s1 → w ≡ weigh c0 c1 (to_z w16 (of_z w16 s0)) (to_z w16 (of_z w16 s1)) → q ≡ to_z w32 (of_z w32 w)
    → q ≡ weigh c0 c1 s0 s1
summed c0 c1 s0 s1 w q b f0 f1 e k = let v = rw (to_z-of_z f0, to_z-of_z f1) at e in k ∙ (is_call {w = w32} v (weigh-size c0 c1 s0 s1 b f0 f1) tt).is

pub quantise-u-requires : goal.quantise-u-requires
quantise-u-requires c =
    let a = c.args in
    let f = c.ranges in
    let q = summed a.pair.c0 a.pair.c1 a.s0 a.s1 _ _ a.pair.bounded f.s0 f.s1 c.weigh.ensures c.from-q.ensures in
    omega (arith, is-size (d-is a.pair.c0 a.pair.c1 a.s0 a.s1 a.x a.p.value a.pair.bounded f.s0 f.s1 f.x a.p.most _ _ q (c.from.ensures ∙ to_z-of_z f.x)))

pub overflow_mul-n : goal.overflow_mul-n
overflow_mul-n c =
    let a = c.args in
    let f = c.ranges in
    let q = summed a.pair.c0 a.pair.c1 a.s0 a.s1 _ _ a.pair.bounded f.s0 f.s1 c.weigh.ensures c.from-q.ensures in
    let u = u-is a.pair.c0 a.pair.c1 a.s0 a.s1 a.x a.p.value a.pair.bounded f.s0 f.s1 f.x a.p.most _ _ _ q (c.from.ensures ∙ to_z-of_z f.x) c.quantise-u.ensures in
    let n = n-is a.pair.c0 a.pair.c1 a.s0 a.s1 a.x a.p.value a.pair.bounded f.s0 f.s1 f.x a.p.most _ ((rw u.is at c.clamp-n.ensures.value) ∙ clamp-library 7 _) in
    chk-mul n (w-is a.pair.c0 a.pair.c1 a.s0 a.s1 a.x a.p.value a.pair.bounded f.s0 f.s1 f.x a.p.most) tt

pub overflow_add-q-2 : goal.overflow_add-q-2
overflow_add-q-2 c =
    let a = c.args in
    let f = c.ranges in
    let q = summed a.pair.c0 a.pair.c1 a.s0 a.s1 _ _ a.pair.bounded f.s0 f.s1 c.weigh.ensures c.from-q.ensures in
    let u = u-is a.pair.c0 a.pair.c1 a.s0 a.s1 a.x a.p.value a.pair.bounded f.s0 f.s1 f.x a.p.most _ _ _ q (c.from.ensures ∙ to_z-of_z f.x) c.quantise-u.ensures in
    let n = n-is a.pair.c0 a.pair.c1 a.s0 a.s1 a.x a.p.value a.pair.bounded f.s0 f.s1 f.x a.p.most _ ((rw u.is at c.clamp-n.ensures.value) ∙ clamp-library 7 _) in
    let w = w-is a.pair.c0 a.pair.c1 a.s0 a.s1 a.x a.p.value a.pair.bounded f.s0 f.s1 f.x a.p.most in
    chk-add (p-is a.pair.c0 a.pair.c1 a.s0 a.s1 a.x a.p.value a.pair.bounded f.s0 f.s1 f.x a.p.most _ q) (is_mul n w tt) tt

pub returns : goal.returns
unfolding code_sample
returns c =
    let a = c.args in
    let f = c.ranges in
    let q = summed a.pair.c0 a.pair.c1 a.s0 a.s1 _ _ a.pair.bounded f.s0 f.s1 c.weigh.ensures c.from-q.ensures in
    let u = u-is a.pair.c0 a.pair.c1 a.s0 a.s1 a.x a.p.value a.pair.bounded f.s0 f.s1 f.x a.p.most _ _ _ q (c.from.ensures ∙ to_z-of_z f.x) c.quantise-u.ensures in
    let n = n-is a.pair.c0 a.pair.c1 a.s0 a.s1 a.x a.p.value a.pair.bounded f.s0 f.s1 f.x a.p.most _ ((rw u.is at c.clamp-n.ensures.value) ∙ clamp-library 7 _) in
    let w = w-is a.pair.c0 a.pair.c1 a.s0 a.s1 a.x a.p.value a.pair.bounded f.s0 f.s1 f.x a.p.most in
    let t = is-add (p-is a.pair.c0 a.pair.c1 a.s0 a.s1 a.x a.p.value a.pair.bounded f.s0 f.s1 f.x a.p.most _ q) (is_mul n w tt) tt in
    let r = c.clamp_i16.ensures ∙ ap clamp16 t.is ∙ sym (reconstruct-played a.pair.c0 a.pair.c1 a.s0 a.s1 _ a.p.value) in
    rw (
      (is-cast {w' = w8} n tt).is,
      to_z-of_z {w = w16} {z = c.clamp_i16.result} (record { sfits = c.clamp_i16.type_inv }),
      r,
      c.abs_diff.ensures ∙ ap₂ (λ (y z : ℤ). nat_abs (y -ℤ z)) u.is n.is,
    )
