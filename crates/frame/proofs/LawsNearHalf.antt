-- r / s with nearly a half added, in whole numbers: how far the sum stays off the whole numbers.
use mathlib.Core.Path.{◌≡◌, refl, subst}
use mathlib.Core.Bool.{Bool, true, false, cond}
use Prim.Native.Nat.{ℕ, ◌+◌, ◌*◌, ◌/◌, ◌%◌, ◌≤◌, ◌<◌}
use native.Mathlib.Nat.{le_trans, le_of_eq, le_of_lt, mul_comm, mul-le-mul_right, div-add-mod', mod-lt}
use native.Mathlib.Omega.{arith}
use lib.Dec.{ltb, lit<}
use lib.Ieee.Nearest.{div_mono}
use borrow.Author.Tests.{ltb-true, ltb-false}
use Rattle.frame.specs.Quantise.{nearest_down}

-- a / c is nearly a half: in units of 2 ^ -26 (67108864 make 1) it lacks between 1 and 7
pub record NearlyHalf (a c : ℕ) : Type 0 where
  pub some : 0 < a
  pub over : 0 < c
  pub least : 33554425 * c ≤ a * 67108864
  pub most : a * 67108864 ≤ 33554431 * c

-- r / s is q and w / s
module _ (q w s a c : ℕ) (near : NearlyHalf a c) where
  -- where w / s is above a half, it is by 2 ^ -23 at least: that is 8 units, so one is left above q + 1
  more-above : s + 2 ≤ w * 2 → s ≤ 8388608 → ((q + 1) * 67108864 + 1) * (s * c) ≤ ((q * s + w) * c + a * s) * 67108864
  more-above h l =
      let x : (s + 2) * c ≤ w * 2 * c = mul-le-mul_right c h in
      let y : s * c ≤ 8388608 * c = mul-le-mul_right c l in
      let z : 33554425 * c * s ≤ a * 67108864 * s = mul-le-mul_right s near.least in
      omega arith

  less-above : (q * 67108864 + 1) * (s * c) ≤ ((q * s + w) * c + a * s) * 67108864
  less-above =
      let z : 33554425 * c * s ≤ a * 67108864 * s = mul-le-mul_right s near.least in
      omega arith

  more-below : w < s → ((q * s + w) * c + a * s) * 67108864 ≤ ((q + 1) * 67108864 + 67108863) * (s * c)
  more-below h =
      let x : w * c ≤ s * c = mul-le-mul_right c (le_of_lt h) in
      let z : a * 67108864 * s ≤ 33554431 * c * s = mul-le-mul_right s near.most in
      omega arith

  less-below : w * 2 ≤ s → ((q * s + w) * c + a * s) * 67108864 ≤ (q * 67108864 + 67108863) * (s * c)
  less-below h =
      let x : w * 2 * c ≤ s * c = mul-le-mul_right c h in
      let z : a * 67108864 * s ≤ 33554431 * c * s = mul-le-mul_right s near.most in
      omega arith

-- so r / s + a / c is a unit or more above the nearest whole number to r / s, halves downwards, and a unit or more below the next
module _ (r s h a c : ℕ) (near : NearlyHalf a c) where
  parts : r / s * s + r % s ≡ r
  parts = div-add-mod' r s

  pub sum-above : s ≡ h + h → s ≤ 8388608 → (nearest_down r s * 67108864 + 1) * (s * c) ≤ (r * c + a * s) * 67108864
  unfolding nearest_down
  sum-above even l = go (ltb s (r % s * 2)) refl
    where
      go : (t : Bool) → ltb s (r % s * 2) ≡ t → (cond t (r / s + 1) (r / s) * 67108864 + 1) * (s * c) ≤ (r * c + a * s) * 67108864
      go true f =
          let above = ltb-true s (r % s * 2) f in
          subst (λ (n : ℕ). ((r / s + 1) * 67108864 + 1) * (s * c) ≤ (n * c + a * s) * 67108864) parts (more-above (r / s) (r % s) s a c near (omega arith) l)
      go false f = subst (λ (n : ℕ). (r / s * 67108864 + 1) * (s * c) ≤ (n * c + a * s) * 67108864) parts (less-above (r / s) (r % s) s a c near)

  pub sum_below : 0 < s → (r * c + a * s) * 67108864 ≤ (nearest_down r s * 67108864 + 67108863) * (s * c)
  unfolding nearest_down
  sum_below S = go (ltb s (r % s * 2)) refl
    where
      go : (t : Bool) → ltb s (r % s * 2) ≡ t → (r * c + a * s) * 67108864 ≤ (cond t (r / s + 1) (r / s) * 67108864 + 67108863) * (s * c)
      go true f =
          subst (λ (n : ℕ). (n * c + a * s) * 67108864 ≤ ((r / s + 1) * 67108864 + 67108863) * (s * c)) parts (more-below (r / s) (r % s) s a c near (mod-lt r S))
      go false f =
          subst (λ (n : ℕ). (n * c + a * s) * 67108864 ≤ (r / s * 67108864 + 67108863) * (s * c)) parts
          (less-below (r / s) (r % s) s a c near (ltb-false s (r % s * 2) f))

-- the nearest whole number is small beside 2 ^ 53
pub down-most : (r s : ℕ) → 2048 ≤ s → r ≤ 2147483904 → nearest_down r s ≤ 1048577
unfolding nearest_down
down-most r s h l = go (ltb s (r % s * 2))
  where
    part : r / s ≤ 1048576
    part =
        let e : r / s ≤ r / 2048 = div_mono r s r 2048 (omega arith) (lit< tt) (le_trans (le_of_eq (mul_comm r 2048)) (le_trans (mul-le-mul_right r h) (le_of_eq (mul_comm s r)))) in
        omega arith

    go : (t : Bool) → cond t (r / s + 1) (r / s) ≤ 1048577
    go true = omega (arith, part)
    go false = omega (arith, part)
