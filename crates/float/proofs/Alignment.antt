-- One of two numbers is shifted down to the other's exponent: the two frame the exact numbers. Assumes nothing.
use Rattle.std.proofs.Common.{◌≡◌, ℕ, zero, suc, ◌+◌, ◌-◌, ◌*◌, ◌/◌, ◌%◌, ◌^◌, ◌<◌, ◌≤◌, sym, refl, ap, ◌∙◌, subst, inl, inr, le_trans, le_of_eq, lt_of_lt_of_le, le_of_suc-le-suc, le_of_lt, lt_irrefl, mul-le-mul_right, mul_assoc, eq-or-lt_of_le, mul-le-mul_left, lt_of_not-le, div-add-mod', not-le_of_lt, arith, pow_pos, pow_mono, pow-add}
use native.Mathlib.Nat.{eq_of_mul-eq-mul_right}
use Rattle.float.specs.inner.Sticky.{Sticky, Aligned}
use Rattle.float.specs.inner.Terms.{LeftJustified}
use Rattle.float.proofs.Sticky.{sticky-least, sticky-scale, le-or-lt}

-- ---- what stands for a whole number is that number
module _ (k r t : ℕ) (T₀ : 0 < t) (j : Sticky (k * t) r t) where
  low : (v : ℕ) → 2 * v ≤ k → 2 * v ≤ r
  low v h = sticky-least (k * t) r t v j (mul-le-mul_right t h)

  high : (v : ℕ) → k ≤ 2 * v → r ≤ 2 * v
  high v h = le_of_suc-le-suc (lt_of_not-le (λ (g : suc (2 * v) ≤ r). lt_irrefl (2 * v * t) (lt_of_lt_of_le (j.over v g) (mul-le-mul_right t h))))

  even_is : (v : ℕ) → r ≡ 2 * v → k ≡ 2 * v
  even_is v e = eq_of_mul-eq-mul_right t T₀ k (2 * v) (j.at v e)

  pub sticky-unique : r ≡ k
  sticky-unique = go (k / 2) (k % 2) (r / 2) (r % 2) (low (k / 2)) (high (k / 2)) (high (suc (k / 2))) (even_is (r / 2)) refl refl
    where
      go : (q e s f : ℕ) → (2 * q ≤ k → 2 * q ≤ r) → (k ≤ 2 * q → r ≤ 2 * q) → (k ≤ 2 * suc q → r ≤ 2 * suc q) → (r ≡ 2 * s → k ≡ 2 * s) → k / 2 ≡ q → r / 2 ≡ s → r ≡ k
      go q e s f a b c d p o =
          let x : 2 * q ≤ r = a (x1 k q p) in
          let y : r ≤ 2 * suc q = c (y1 k q p) in
          elim (le-or-lt k (2 * q)) [
            | inl h ↦ end1 k r q p x (b h) h
            | inr h ↦ elim (le-or-lt 1 (r % 2)) [ inl g ↦ end2 k r q p x y h g | inr g ↦ end3 k r s o g (d (half r s o g)) ]
          ]
        where
          x1 : (k q : ℕ) → k / 2 ≡ q → 2 * q ≤ k
          x1 k q p = omega arith

          y1 : (k q : ℕ) → k / 2 ≡ q → k ≤ 2 * suc q
          y1 k q p = omega arith

          end1 : (k r q : ℕ) → k / 2 ≡ q → 2 * q ≤ r → r ≤ 2 * q → k ≤ 2 * q → r ≡ k
          end1 k r q p a b c = omega arith

          end2 : (k r q : ℕ) → k / 2 ≡ q → 2 * q ≤ r → r ≤ 2 * suc q → 2 * q < k → 1 ≤ r % 2 → r ≡ k
          end2 k r q p a b c g = omega arith

          half : (r s : ℕ) → r / 2 ≡ s → r % 2 < 1 → r ≡ 2 * s
          half r s o g = omega arith

          end3 : (k r s : ℕ) → r / 2 ≡ s → r % 2 < 1 → k ≡ 2 * s → r ≡ k
          end3 k r s o g h = omega arith

-- a number that is left-justified is above 0
pub justified-pos : (n : ℕ) → LeftJustified n → 0 < n
justified-pos n r = lt_of_lt_of_le (pow_pos 124) r.least

-- ---- how large it can be
pub sticky-under : (m w t v : ℕ) → Sticky m w t → m < 2 * v * t → w < 2 * v
sticky-under m w t v j h =
    lt_of_not-le (λ (g : 2 * v ≤ w). elim (eq-or-lt_of_le g) [ inl e ↦ lt_irrefl m (subst (λ (z : ℕ). m < z) (sym (j.at v (sym e))) h) | inr l ↦ not-le_of_lt h (le_of_lt (j.over v l)) ])

-- ---- x, and y shifted down by d. y's exponent is e, and x's is d + e
module _ (x y w d e : ℕ) (X : LeftJustified x) (Y : LeftJustified y) (j : Sticky y w (2 ^ d)) where
  moved : Sticky (y * 2 ^ e) w (2 ^ (d + e))
  moved = subst (λ (z : ℕ). Sticky (y * 2 ^ e) w z) (sym (pow-add 2 d e)) (sticky-scale y w (2 ^ d) (2 ^ e) (pow_pos e) j)

  pub w-most : w < 2 ^ 126
  w-most = sticky-under y w (2 ^ d) (2 ^ 125) j (lt_of_lt_of_le Y.most (le_trans (le_of_eq (sym (mul-one' (2 ^ 126)))) (mul-le-mul_left (2 ^ 126) (pow_pos d))))
    where
      mul-one' : (z : ℕ) → z * 1 ≡ z
      mul-one' z = native-mul-one z
        where
          native-mul-one : (z : ℕ) → z * 1 ≡ z
          native-mul-one z = omega arith

  pub w-pos : 0 < w
  w-pos = go w refl
    where
      go : (z : ℕ) → w ≡ z → 0 < z
      go zero e = absurd (never y (j.at 0 e) Y.least)
        where
          never : (y : ℕ) → y ≡ 2 * 0 * 2 ^ d → 2 ^ 124 ≤ y → ⊥
          never y e h = lt_irrefl 0 (lt_of_lt_of_le (pow_pos 124) (le_trans h (le_of_eq (e ∙ zero-times (2 ^ d)))))
            where
              zero-times : (z : ℕ) → 2 * 0 * z ≡ 0
              zero-times z = omega arith
      go (suc z) e = pos z
        where
          pos : (z : ℕ) → 0 < suc z
          pos z = omega arith

  x-even : x ≡ 2 * (x / 2 ^ 20 * 2 ^ 19)
  x-even = sym (div-add-mod' x (2 ^ 20)) ∙ go (x / 2 ^ 20) (x % 2 ^ 20) X.zeros
    where
      go : (q r : ℕ) → r ≡ 0 → q * 2 ^ 20 + r ≡ 2 * (q * 2 ^ 19)
      go q r e = omega arith

  -- no digit is cut off
  exact : d ≤ 20 → y * 2 ^ e ≡ w * 2 ^ (d + e)
  exact h =
      let k = y / 2 ^ 20 * 2 ^ (20 - d) in
      let is : y ≡ k * 2 ^ d =
      sym (div-add-mod' y (2 ^ 20)) ∙ drop (y / 2 ^ 20 * 2 ^ 20) (y % 2 ^ 20) Y.zeros
      ∙ ap (λ (z : ℕ). y / 2 ^ 20 * z) (sym (sym (pow-add 2 (20 - d) d) ∙ ap (λ (z : ℕ). 2 ^ z) (fill d h)))
      ∙ sym (mul_assoc (y / 2 ^ 20) (2 ^ (20 - d)) (2 ^ d)) in
      let u : w ≡ k = sticky-unique k w (2 ^ d) (pow_pos d) (subst (λ (z : ℕ). Sticky z w (2 ^ d)) is j) in
      ap (λ (z : ℕ). z * 2 ^ e) (is ∙ ap (λ (z : ℕ). z * 2 ^ d) (sym u)) ∙ mul_assoc w (2 ^ d) (2 ^ e) ∙ ap (λ (z : ℕ). w * z) (sym (pow-add 2 d e))
    where
      drop : (a r : ℕ) → r ≡ 0 → a + r ≡ a
      drop a r e = omega arith

      fill : (d : ℕ) → d ≤ 20 → 20 - d + d ≡ 20
      fill d h = omega arith

  -- many are
  far : 20 < d → w + 2 ^ 64 ≤ x
  far h = le_trans (sum w (sticky-under y w (2 ^ d) (2 ^ 104) j (lt_of_lt_of_le Y.most (mul-le-mul_left (2 ^ 105) (pow_mono h))))) X.least
    where
      sum : (w : ℕ) → w < 2 ^ 105 → w + 2 ^ 64 ≤ 2 ^ 124
      sum w h = omega arith

  pub aligned : Aligned (x * 2 ^ (d + e)) x (y * 2 ^ e) w (2 ^ (d + e))
  aligned = elim (le-or-lt d 20) [
    | inl h ↦ inl (refl, exact h)
    | inr h ↦ inr (inl (record { half = x / 2 ^ 20 * 2 ^ 19; even = x-even; exact = refl; below = moved; far = far h }))
  ]
