-- What `rounded` computes. Assumes nothing.
use Rattle.std.proofs.Common.{◌≡◌, ℕ, suc, ◌+◌, ◌-◌, ◌*◌, ◌/◌, ◌%◌, ◌^◌, ◌<◌, ◌≤◌, Bool, sym, refl, ap, ◌∙◌, le_trans, lt_of_lt_of_le, pow-suc, arith, pow_pos, pow_mono, shr_lt}
use native.Mathlib.Nat.{div-eq_of_lt}
use lib.Ieee.{binary64, units, round, low}
use lib.Ieee.Fits.{nearest-le}
use lib.Ieee.Nearest.{closest}
use Prim.Native.Nat.{compare}
use Rattle.float.specs.inner.Sticky.{Sticky}
use Rattle.float.specs.inner.Rounded.{rounded}
use Rattle.float.proofs.RoundingByDigits.{round-normal, round-low}
use Rattle.float.proofs.NearestEven.{near-lt}

pub closest-le : (w d : ℕ) → w < 2 ^ 64 → 11 ≤ d → closest w (2 ^ d) ≤ 2 ^ 53
closest-le w d h l = le_trans (nearest-le (w / 2 ^ d) (compare (w % 2 ^ d * 2) (2 ^ d))) (shr_lt 53 d (lt_of_lt_of_le h (pow_mono (go d l))))
  where
    go : (d : ℕ) → 11 ≤ d → 64 ≤ 53 + d
    go d h = omega arith

closest-none : (w i : ℕ) → w < 2 ^ suc i → closest w (2 ^ suc (suc i)) ≡ 0
closest-none w i h =
    ap (closest w) (pow-suc 2 (suc i))
    ∙ sym (near-lt w (2 ^ suc i) (pow_pos (suc i)) (ap (λ (z : ℕ). z % 2) (div-eq_of_lt h)))
    ∙ ap (λ (z : ℕ). z / 2) (div-eq_of_lt h)

rounded-is : (g : ℕ) (s : Bool) (m : ℕ) → rounded g s m ≡ round binary64 s m (2 ^ (low binary64 + g))
unfolding rounded
rounded-is g s m = refl

module _ (s : Bool) (m w x : ℕ) (j : Sticky m w (2 ^ x)) (lo : 2 ^ 63 ≤ w) (hi : w < 2 ^ 64) where
  low-at : (g i : ℕ) → suc (suc i) + x ≡ g → 9 ≤ i → rounded g s m ≡ units binary64 s (closest w (2 ^ suc (suc i))) 0
  low-at g i e h = rounded-is g s m ∙ round-low binary64 s m w x g 9 j lo hi i e h

  normal-at : (g : ℕ) → g ≤ 11 + x → rounded g s m ≡ units binary64 s (closest w (2 ^ 11)) (11 + x - g)
  normal-at g h = rounded-is g s m ∙ round-normal binary64 s m w x g 9 j lo hi h

  pub at-normal : 1251 ≤ x → rounded 1262 s m ≡ units binary64 s (closest w (2 ^ 11)) (x - 1251)
  at-normal h = normal-at 1262 (go x h) ∙ ap (units binary64 s (closest w (2 ^ 11))) (same x)
    where
      go : (x : ℕ) → 1251 ≤ x → 1262 ≤ 11 + x
      go x h = omega arith

      same : (x : ℕ) → 11 + x - 1262 ≡ x - 1251
      same x = omega arith

  pub at_low : x < 1251 → rounded 1262 s m ≡ units binary64 s (closest w (2 ^ (1262 - x))) 0
  at_low h = low-at 1262 (1260 - x) (go x h) (more x h) ∙ ap (λ (z : ℕ). units binary64 s (closest w (2 ^ z)) 0) (same x h)
    where
      go : (x : ℕ) → x < 1251 → suc (suc (1260 - x)) + x ≡ 1262
      go x h = omega arith

      more : (x : ℕ) → x < 1251 → 9 ≤ 1260 - x
      more x h = omega arith

      same : (x : ℕ) → x < 1251 → suc (suc (1260 - x)) ≡ 1262 - x
      same x h = omega arith

  pub at_none : x < 1198 → rounded 1262 s m ≡ units binary64 s 0 0
  at_none h = low-at 1262 (1260 - x) (go x h) (more x h) ∙ ap (λ (z : ℕ). units binary64 s z 0) (closest-none w (1260 - x) (lt_of_lt_of_le hi (pow_mono (far x h))))
    where
      go : (x : ℕ) → x < 1198 → suc (suc (1260 - x)) + x ≡ 1262
      go x h = omega arith

      more : (x : ℕ) → x < 1198 → 9 ≤ 1260 - x
      more x h = omega arith

      far : (x : ℕ) → x < 1198 → 64 ≤ suc (1260 - x)
      far x h = omega arith
