-- `rest` meets its contract: below 0 nothing is taken, below sixteen steps whole steps, else fifteen.
use Rattle.std.proofs.Common.{◌≡◌, ℕ, ◌+◌, ◌-◌, ◌%◌, ◌≤◌, ◌<◌, false, rules, sym, ap, ap₂, ◌∙◌, arith, w64}
use Rattle.std.proofs.Math.Facts.{to_z-of_z}
use native.Mathlib.Nat.{mod-lt}
use lib.Bits.{bit_and, and_mask}
use lib.IntN.{ℤ, pos, nat_abs}
use lib.Signed.{lt_z}
use mir.Val.{SFits, of_z}
use Rattle.whole.proofs.SignedLocals.{is-nat, not-below-zero}
use Rattle.frame.specs.inner.Quick.{rest_of, fine_scale}
use Rattle.frame.proofs.LawsQuick.{rest-low, rest-mid, rest-high, sub-fits, fine-scale-is, fine-scale-le, fine-scale-pos}
use Rattle.frame.proofs.quick.Scales.rest.Goals as goal

-- one step, by the mask's name
step_is : (mask : ℤ) (p : ℕ) → mask ≡ pos (fine_scale p - 1) → nat_abs mask + 1 ≡ fine_scale p
step_is mask p e = ap (λ (z : ℤ). nat_abs z + 1) e ∙ omega (arith, fine-scale-pos p)

-- what the mask leaves of a w that is not negative
low-is : (w mask : ℤ) (p : ℕ) → p ≤ 12 → mask ≡ pos (fine_scale p - 1) → lt_z w (pos 0) ≡ false → bit_and (of_z w64 w) (of_z w64 mask) ≡ nat_abs w % fine_scale p
low-is w mask p h e q =
    ap₂ bit_and (ap (of_z w64) (not-below-zero w q)) (ap (of_z w64) e ∙ ap (λ (n : ℕ). n - 1) (sym (fine-scale-is p)))
    ∙ and_mask (nat_abs w) (p + 43) ∙ ap (λ (n : ℕ). nat_abs w % n) (fine-scale-is p)

pub returns-then-w-lt0 : goal.returns-then-w-lt0
returns-then-w-lt0 c =
    let r = c.requires in
    let w = c.args.w in
    to_z-of_z c.ranges.w ∙ sym (rest-low w (fine_scale r.p) (fine-scale-pos r.p) (rw (to_z-of_z c.ranges.w) at c.if-w-lt0.true)) ∙ ap (rest_of w) (sym (step_is _ r.p r.mask_is))

pub returns-then-w-self : goal.returns-then-w-self
returns-then-w-self c =
    let r = c.requires in
    let w = c.args.w in
    let s = fine_scale r.p in
    let fa : SFits w64 c.args.self.all = search rules in
    let f = rw (to_z-of_z c.ranges.w, to_z-of_z fa, r.all-is) at c.if-w-self.true in
    let e = rw (to_z-of_z c.ranges.w) at c.if-w-lt0.false in
    let l = low-is w c.args.self.mask r.p r.most r.mask_is e in
    let b : nat_abs w % s < s = mod-lt (nat_abs w) (fine-scale-pos r.p) in
    (is-nat w64 _ 36028797018963968 (omega (arith, l, b, fine-scale-le r.p r.most)) tt).is ∙ ap pos l ∙ sym (rest-mid w s (fine-scale-pos r.p) e f) ∙ ap (rest_of w) (sym (step_is _ r.p r.mask_is))

pub returns-else-w-self : goal.returns-else-w-self
returns-else-w-self c =
    let r = c.requires in
    let w = c.args.w in
    let s = fine_scale r.p in
    let fa : SFits w64 c.args.self.all = search rules in
    let ft : SFits w64 c.args.self.top = search rules in
    let b = rw (to_z-of_z c.ranges.w, to_z-of_z fa, r.all-is) at c.if-w-self.false in
    rw (to_z-of_z c.ranges.w, to_z-of_z ft, r.top-is, to_z-of_z (sub-fits w s c.ranges.w b))
    (sym (rest-high w s (fine-scale-pos r.p) b) ∙ ap (rest_of w) (sym (step_is _ r.p r.mask_is)))
