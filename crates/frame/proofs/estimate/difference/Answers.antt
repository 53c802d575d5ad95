-- `difference` meets its contract: the quotient of the weighted sum fits in 32 bits.
use Rattle.std.proofs.Common.{◌≡◌, rules, ap, ◌∙◌, w16, w32, w64}
use Rattle.std.proofs.Math.Facts.{to_z-of_z}
use lib.IntN.{ℤ, pos}
use native.Mathlib.Nat.{le_trans}
use Rattle.whole.specs.Whole.{clamp16, towards_zero}
use Rattle.whole.proofs.SignedLocals.{is_call, is-sub, abs-quot, abs-sfits}
use Rattle.frame.specs.Estimate.{weigh, difference}
use Rattle.frame.proofs.LawsEstimate.{weigh-size}
use Rattle.frame.proofs.estimate.difference.Goals as goal

pub returns : goal.returns
unfolding difference
returns c =
    let a = c.args in
    let s = weigh a.pair.c0 a.pair.c1 a.previous a.before in
    let w = rw (to_z-of_z c.ranges.previous, to_z-of_z c.ranges.before) at c.weigh.ensures in
    let size = weigh-size a.pair.c0 a.pair.c1 a.previous a.before a.pair.bounded c.ranges.previous c.ranges.before in
    let part = is_call {w = w32} (c.quotient_2048-predicted.ensures ∙ ap (λ (z : ℤ). towards_zero z 2048) (is_call {w = w32} w size tt).is) (le_trans (abs-quot s (pos 2048)) size) tt in
    let r : c.from.result ≡ a.sample = search rules in
    let v = (is-sub (is_call {w = w32} r (abs-sfits c.ranges.sample) tt) part tt).is in
    rw (to_z-of_z {w = w16} {z = c.clamp_i16.result} (record { sfits = c.clamp_i16.type_inv }))
    (c.clamp_i16.ensures ∙ ap clamp16 (to_z-of_z {w = w64} {z = c.from-2.result} (record { sfits = c.from-2.type_inv }) ∙ c.from-2.ensures ∙ v))
