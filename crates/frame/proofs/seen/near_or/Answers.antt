-- `near_or` meets its contract: the mask leaves what is left over a multiple of a step.
use mathlib.Core.Path.{◌≡◌, sym, ap, ap₂, ◌∙◌}
use Prim.Native.Nat.{ℕ, ◌*◌, ◌%◌, ◌^◌, ◌≤◌}
use lib.Bits.{bit_and}
use lib.IntN.{ℤ, pos, nat_abs, ◌+ℤ◌, ◌-ℤ◌, ◌*ℤ◌}
use lib.Signed.{lt_z, shr_z}
use mir.Syntax.{w32}
use mir.Val.{to_z, of_z}
use Rattle.whole.proofs.SignedLocals.{Is, is-sized, is-lit, is-one-shl, is-shr, is-add, chk-add, chk-sub, is_mul, chk-mul, sfits-abs}
use Rattle.frame.specs.Quantise.{scale}
use Rattle.frame.specs.inner.Seen.{margin, is_near}
use Rattle.frame.proofs.LawsQuick.{is-shl, one_less}
use Rattle.frame.proofs.LawsShow.{masked}
use Rattle.frame.proofs.seen.near_or.Goals as goal

abbrev m : ℕ → ℕ
m p = of_z w32 (shr_z (to_z w32 ((1 * 2 ^ p) % 4294967296)) 32)

module _ (w : ℤ) (p : ℕ) (l : nat_abs w ≤ 2017460224) (h : p ≤ 12) where
  w-is : Is w32 (of_z w32 w) w 2017460224
  w-is = is-sized w l tt

  m-is : Is w32 (m p) (pos (margin p)) 4096
  unfolding margin
  m-is = is-shr (is-one-shl w32 p 12 h tt) 32 tt

  step_is : Is w32 ((2048 * 2 ^ p) % 4294967296) (pos (scale p)) 8388608
  step_is = is-shl 2048 p h tt

  -- the test is the definition's
  test : lt_z (to_z w32 (bit_and (of_z w32 (to_z w32 (of_z w32 w) +ℤ to_z w32 (m p))) (of_z w32 (to_z w32 ((2048 * 2 ^ p) % 4294967296) -ℤ pos 1)))) (to_z w32 (of_z w32 (pos 2 *ℤ to_z w32 (m p)))) ≡ is_near w p
  unfolding is_near
  test =
      let z = w +ℤ pos (margin p) in
      let a = ap (of_z w32) (ap₂ ◌+ℤ◌ w-is.is m-is.is) in
      let b = ap (of_z w32) (ap (λ (v : ℤ). v -ℤ pos 1) step_is.is ∙ one_less p) in
      ap₂ lt_z (ap (to_z w32) (ap₂ bit_and a b) ∙ (masked z p h (sfits-abs (is-add w-is m-is tt).size tt)).is) (is_mul (is-lit w32 2 tt) m-is tt).is

pub overflow_add-w : goal.overflow_add-w
overflow_add-w c = let a = c.args in chk-add (w-is a.w a.p.value c.requires a.p.most) (m-is a.w a.p.value c.requires a.p.most) tt

pub overflow_sub-p : goal.overflow_sub-p
overflow_sub-p c = let a = c.args in chk-sub (step_is a.w a.p.value c.requires a.p.most) (is-lit w32 1 tt) tt

pub overflow_mul-m : goal.overflow_mul-m
overflow_mul-m c = let a = c.args in chk-mul (is-lit w32 2 tt) (m-is a.w a.p.value c.requires a.p.most) tt

pub returns-then-w-m : goal.returns-then-w-m
returns-then-w-m c = let a = c.args in rw (sym (test a.w a.p.value c.requires a.p.most) ∙ c.if-w-m.true)

pub returns : goal.returns
returns c = let a = c.args in rw (sym (test a.w a.p.value c.requires a.p.most) ∙ c.if-w-m.false)
