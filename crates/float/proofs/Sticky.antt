-- How `Sticky` is made and kept: exactly, by cutting digits off, in two steps, at another scale, and under sums and differences with an even number. Assumes nothing.
use Rattle.std.proofs.Common.{◌≡◌, ℕ, zero, suc, ◌+◌, ◌-◌, ◌*◌, ◌/◌, ◌%◌, ◌<◌, ◌≤◌, Bool, true, false, not, T, leb, ◌⊎◌, sym, refl, ap, ◌∙◌, subst, inl, inr, le_trans, le_of_eq, lt_of_lt_of_le, le_of_suc-le-suc, lt_of_le_of_lt, mul-le-mul_right, mod-lt, mul_assoc, suc-mul, add-mul, mul-lt-mul_of_pos_right, lt_of_not-le, div-add-mod', not-le_of_lt, arith, leb→le}
use lib.Dec.{nleb→lt}
use Rattle.float.specs.inner.Sticky.{Sticky, sticky}

pub sticky-exact : (w t : ℕ) → 0 < t → Sticky (w * t) w t
sticky-exact w t h = record {
  under = λ v l. mul-lt-mul_of_pos_right l h;
  at = λ v e. ap (λ (z : ℕ). z * t) e;
  over = λ v l. mul-lt-mul_of_pos_right l h;
}

pub sticky-is : (m w t : ℕ) → 0 < t → m ≡ w * t → Sticky m w t
sticky-is m w t h e = subst (λ (z : ℕ). Sticky z w t) (sym e) (sticky-exact w t h)

-- what is at least an even number stays so
pub sticky-least : (m w t v : ℕ) → Sticky m w t → 2 * v * t ≤ m → 2 * v ≤ w
sticky-least m w t v j h = le_of_suc-le-suc (lt_of_not-le (λ (g : suc w ≤ 2 * v). not-le_of_lt (j.under v g) h))

-- ---- in two steps
pub sticky-trans : (m w v t s : ℕ) → Sticky m w t → Sticky w v s → Sticky m v (s * t)
sticky-trans m w v t s a b = record {
  under = λ c l. subst (λ (z : ℕ). m < z) (two c) (a.under (c * s) (subst (λ (z : ℕ). w < z) (mul_assoc 2 c s) (b.under c l)));
  at = λ c e. a.at (c * s) (b.at c e ∙ mul_assoc 2 c s) ∙ two c;
  over = λ c l. subst (λ (z : ℕ). z < m) (two c) (a.over (c * s) (subst (λ (z : ℕ). z < w) (mul_assoc 2 c s) (b.over c l)));
}
  where
    two : (c : ℕ) → 2 * (c * s) * t ≡ 2 * c * (s * t)
    two c = ap (λ (z : ℕ). z * t) (sym (mul_assoc 2 c s)) ∙ mul_assoc (2 * c) s t

-- ---- at another scale
pub sticky-scale : (m w t s : ℕ) → 0 < s → Sticky m w t → Sticky (m * s) w (t * s)
sticky-scale m w t s S a = record {
  under = λ c l. subst (λ (z : ℕ). m * s < z) (mul_assoc (2 * c) t s) (mul-lt-mul_of_pos_right (a.under c l) S);
  at = λ c e. ap (λ (z : ℕ). z * s) (a.at c e) ∙ mul_assoc (2 * c) t s;
  over = λ c l. subst (λ (z : ℕ). z < m * s) (mul_assoc (2 * c) t s) (mul-lt-mul_of_pos_right (a.over c l) S);
}

-- ---- digits cut off
module _ (m t : ℕ) (T₀ : 0 < t) where
  cut-is : (r : ℕ) → m % t ≡ r → Sticky m (sticky (m / t) r) t
  cut-is zero e = sticky-is m (m / t) t T₀ (go (m / t * t) (m % t) m (div-add-mod' m t) e)
    where
      go : (a r m : ℕ) → a + r ≡ m → r ≡ 0 → m ≡ a
      go a r m p q = omega arith
  cut-is (suc r) e = record {
    under = λ v l. lt_of_lt_of_le (top (m / t * t) (m % t) m t (div-add-mod' m t) (mod-lt m T₀)) (le_trans (le_of_eq (sym (suc-mul (m / t) t))) (mul-le-mul_right t (up (m / t) v l)));
    at = λ v e. absurd (odd (m / t) v e);
    over = λ v l. lt_of_le_of_lt (mul-le-mul_right t (down (m / t) v l)) (bottom (m / t * t) (m % t) m r (div-add-mod' m t) e);
  }
    where
      top : (a r m t : ℕ) → a + r ≡ m → r < t → m < a + t
      top a r m t p q = omega arith

      up : (q v : ℕ) → q + 1 - q % 2 < 2 * v → suc q ≤ 2 * v
      up q v h = omega arith

      odd : (q v : ℕ) → q + 1 - q % 2 ≡ 2 * v → ⊥
      odd q v e = omega arith

      down : (q v : ℕ) → 2 * v < q + 1 - q % 2 → 2 * v ≤ q
      down q v h = omega arith

      bottom : (a r m s : ℕ) → a + r ≡ m → r ≡ suc s → a < m
      bottom a r m s p q = omega arith

  pub sticky-cut : Sticky m (sticky (m / t) (m % t)) t
  sticky-cut = cut-is (m % t) refl

-- ---- with an even number beside it
pub le-or-lt : (a b : ℕ) → (a ≤ b) ⊎ (b < a)
le-or-lt a b = go (leb a b) (leb→le a b) (nleb→lt a b)
  where
    go : (x : Bool) → (T x → a ≤ b) → (T (not x) → b < a) → (a ≤ b) ⊎ (b < a)
    go true p q = inl (p tt)
    go false p q = inr (q tt)

-- a multiple in two parts
parts : (b v t : ℕ) → b ≤ v → 2 * b * t + 2 * (v - b) * t ≡ 2 * v * t
parts b v t h = sym (add-mul (2 * b) (2 * (v - b)) t) ∙ ap (λ (z : ℕ). z * t) (go b v h)
  where
    go : (b v : ℕ) → b ≤ v → 2 * b + 2 * (v - b) ≡ 2 * v
    go b v h = omega arith

less : (v b t : ℕ) → 0 < t → v < b → 2 * v * t < 2 * b * t
less v b t T₀ h = mul-lt-mul_of_pos_right (go v b h) T₀
  where
    go : (v b : ℕ) → v < b → 2 * v < 2 * b
    go v b h = omega arith

module _ (m w t b : ℕ) (T₀ : 0 < t) (j : Sticky m w t) where
  pub sticky-add : Sticky (2 * b * t + m) (2 * b + w) t
  sticky-add = record {
    under = λ v l. u-go v (2 * b * t) (2 * (v - b) * t) (2 * v * t) (parts b v t (u-le v l)) (j.under (v - b) (u-lt v l));
    at = λ v e. a-go (2 * b * t) (2 * (v - b) * t) (2 * v * t) (parts b v t (a-le v e)) (j.at (v - b) (a-eq v e));
    over = λ v l. o-go v l (le-or-lt b v);
  }
    where
      u-le : (v : ℕ) → 2 * b + w < 2 * v → b ≤ v
      u-le v l = omega arith

      u-lt : (v : ℕ) → 2 * b + w < 2 * v → w < 2 * (v - b)
      u-lt v l = omega arith

      u-go : (v x y z : ℕ) → x + y ≡ z → m < y → x + m < z
      u-go v x y z e l = omega arith

      a-le : (v : ℕ) → 2 * b + w ≡ 2 * v → b ≤ v
      a-le v l = omega arith

      a-eq : (v : ℕ) → 2 * b + w ≡ 2 * v → w ≡ 2 * (v - b)
      a-eq v l = omega arith

      a-go : (x y z : ℕ) → x + y ≡ z → m ≡ y → x + m ≡ z
      a-go x y z e l = omega arith

      o_lt : (v : ℕ) → 2 * v < 2 * b + w → b ≤ v → 2 * (v - b) < w
      o_lt v l h = omega arith

      o-sum : (x y z : ℕ) → x + y ≡ z → y < m → z < x + m
      o-sum x y z e l = omega arith

      o-far : (x z : ℕ) → z < x → z < x + m
      o-far x z l = omega arith

      o-go : (v : ℕ) → 2 * v < 2 * b + w → (b ≤ v) ⊎ (v < b) → 2 * v * t < 2 * b * t + m
      o-go v l (inl h) = o-sum (2 * b * t) (2 * (v - b) * t) (2 * v * t) (parts b v t h) (j.over (v - b) (o_lt v l h))
      o-go v l (inr h) = o-far (2 * b * t) (2 * v * t) (less v b t T₀ h)

  pub sticky-sub : m ≤ 2 * b * t → w ≤ 2 * b → Sticky (2 * b * t - m) (2 * b - w) t
  sticky-sub M W = record {
    under = λ v l. u-go v l (le-or-lt v b);
    at = λ v e. a-go (2 * v * t) (2 * (b - v) * t) (2 * b * t) (parts v b t (a-le v e)) (j.at (b - v) (a-eq v e));
    over = λ v l. o-sum (2 * v * t) (2 * (b - v) * t) (2 * b * t) (parts v b t (o-le v l)) (j.under (b - v) (o_lt v l));
  }
    where
      u-lt : (v : ℕ) → 2 * b - w < 2 * v → v ≤ b → 2 * (b - v) < w
      u-lt v l h = omega arith

      u-sum : (x y z : ℕ) → x + y ≡ z → m ≤ z → y < m → z - m < x
      u-sum x y z e l k = omega arith

      u-far : (x z : ℕ) → z < x → z - m < x
      u-far x z l = omega arith

      u-go : (v : ℕ) → 2 * b - w < 2 * v → (v ≤ b) ⊎ (b < v) → 2 * b * t - m < 2 * v * t
      u-go v l (inl h) = u-sum (2 * v * t) (2 * (b - v) * t) (2 * b * t) (parts v b t h) M (j.over (b - v) (u-lt v l h))
      u-go v l (inr h) = u-far (2 * v * t) (2 * b * t) (less b v t T₀ h)

      a-le : (v : ℕ) → 2 * b - w ≡ 2 * v → v ≤ b
      a-le v e = omega arith

      a-eq : (v : ℕ) → 2 * b - w ≡ 2 * v → w ≡ 2 * (b - v)
      a-eq v e = omega arith

      a-go : (x y z : ℕ) → x + y ≡ z → m ≡ y → z - m ≡ x
      a-go x y z e l = omega arith

      o-le : (v : ℕ) → 2 * v < 2 * b - w → v ≤ b
      o-le v l = omega arith

      o_lt : (v : ℕ) → 2 * v < 2 * b - w → w < 2 * (b - v)
      o_lt v l = omega arith

      o-sum : (x y z : ℕ) → x + y ≡ z → m < y → x < z - m
      o-sum x y z e l = omega arith
