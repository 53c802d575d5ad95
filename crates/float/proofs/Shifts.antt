-- A number of 128 digits shifted down, or up to its highest place, with a mark of what is cut off. Assumes nothing.
use Rattle.std.proofs.Common.{◌≡◌, ℕ, suc, ◌+◌, ◌-◌, ◌*◌, ◌/◌, ◌%◌, ◌^◌, ◌<◌, ◌≤◌, Bool, sym, ap, ◌∙◌, subst, inl, inr, le_trans, le_of_eq, lt_of_lt_of_le, lt_of_le_of_lt, lt_irrefl, add_assoc, le_of_lt, mul-le-mul_right, mul-le-mul_left, mul_assoc, mul_comm, lt_of_mul-lt-mul_right, mul-lt-mul_of_pos_right, one-mul, zero-mul, mod-eq_of_lt, div-add-mod', div-mul-le_self, arith, pow_pos, pow_mono, pow-add}
use native.Mathlib.Nat.{eq_of_mul-eq-mul_right}
use lib.Count.{count_leading_zeros, leading_top}
use lib.Ieee.{binary64, low}
use lib.Ieee.Scale.{round_same}
use lib.Bits.{bit_or}
use Rattle.float.specs.inner.Sticky.{Sticky, ExactOrSticky}
use Rattle.float.specs.inner.Rounded.{rounded}
use Rattle.float.proofs.Sticky.{sticky-is, sticky-least, sticky-cut, sticky-trans, sticky-scale}
use Rattle.float.proofs.NearestEven.{sticky-law}
use Rattle.float.proofs.Alignment.{sticky-under}

-- ---- `shift_right_sticky`
-- nothing is cut off
module _ (w t : ℕ) (T₀ : 0 < t) (W : w < 2 ^ 128) where
  back : (w / t * t) % 2 ^ 128 ≡ w / t * t
  back = mod-eq_of_lt (lt_of_le_of_lt (div-mul-le_self w t) W)

  pub cut-none : (w / t * t) % 2 ^ 128 ≡ w → Sticky w (w / t) t
  cut-none e = sticky-is w (w / t) t T₀ (sym (sym back ∙ e))

  -- something is
  rest : ((w / t * t) % 2 ^ 128 ≡ w → ⊥) → w % t ≡ 0 → ⊥
  rest n z = n (back ∙ go (w / t * t) (w % t) w (div-add-mod' w t) z)
    where
      go : (a r w : ℕ) → a + r ≡ w → r ≡ 0 → a ≡ w
      go a r w p q = omega arith

  pub cut-some : ((w / t * t) % 2 ^ 128 ≡ w → ⊥) → Sticky w (bit_or (w / t) 1) t
  cut-some n = subst (λ (z : ℕ). Sticky w z t) (sym (sticky-law (w / t) (w % t) (rest n))) (sticky-cut w t T₀)

-- nothing but the mark is left
pub shift-all : (m d : ℕ) → 0 < m → m < 2 ^ 128 → 128 ≤ d → Sticky m 1 (2 ^ d)
shift-all m d p h D = record {
  under = λ v l. lt_of_lt_of_le h (le_trans (pow_mono D) (le_trans (le_of_eq (sym (one-mul (2 ^ d)))) (mul-le-mul_right (2 ^ d) (le_of_lt l))));
  at = λ v e. absurd (no v e);
  over = λ v l. lt_of_le_of_lt (le_of_eq (ap (λ (z : ℕ). z * 2 ^ d) (none v l) ∙ zero-mul (2 ^ d))) p;
}
  where
    no : (v : ℕ) → 1 ≡ 2 * v → ⊥
    no v e = omega arith

    none : (v : ℕ) → 2 * v < 1 → 2 * v ≡ 0
    none v l = omega arith

-- ---- a number of k digits shifted by its leading zeros
pub zeros-lt : (k n : ℕ) → 0 < n → n < 2 ^ k → count_leading_zeros k n < k
zeros-lt k n p h = let t = leading_top k n p h in go (count_leading_zeros k n) k t.0 t.1
  where
    go : (l k j : ℕ) → l + suc j ≡ k → l < k
    go l k j e = omega arith

pub zeros-top : (k n : ℕ) → 0 < n → n < 2 ^ k → (2 ^ (k - 1) ≤ n * 2 ^ count_leading_zeros k n) × (n * 2 ^ count_leading_zeros k n < 2 ^ k)
zeros-top k n p h =
    let l = count_leading_zeros k n in
    let t = leading_top k n p h in
    let j = t.0 in (
      le_trans (le_of_eq (sym (sym (pow-add 2 j l) ∙ ap (λ (z : ℕ). 2 ^ z) (go l k j t.1)))) (mul-le-mul_right (2 ^ l) t.2),
      lt_of_lt_of_le (mul-lt-mul_of_pos_right t.3 (pow_pos l)) (le_of_eq (sym (pow-add 2 (suc j) l) ∙ ap (λ (z : ℕ). 2 ^ z) (up l k j t.1))),
    )
  where
    go : (l k j : ℕ) → l + suc j ≡ k → j + l ≡ k - 1
    go l k j e = omega arith

    up : (l k j : ℕ) → l + suc j ≡ k → suc j + l ≡ k
    up l k j e = omega arith

-- more than 64 digits leave fewer than 64 zeros above them
zeros-few : (n : ℕ) → 2 ^ 64 ≤ n → n < 2 ^ 128 → count_leading_zeros 128 n ≤ 64
zeros-few n p h = go (count_leading_zeros 128 n)
    (λ g. lt_irrefl (n * 2 ^ count_leading_zeros 128 n) (lt_of_lt_of_le (zeros-top 128 n (lt_of_lt_of_le (pow_pos 64) p) h).1
    (le_trans (le_of_eq (pow-add 2 64 64)) (le_trans (mul-le-mul_right (2 ^ 64) p) (mul-le-mul_left n (pow_mono g))))))
  where
    go : (l : ℕ) → (64 ≤ l → ⊥) → l ≤ 64
    go l n = omega arith

-- ---- the same number, at 64 more digits
pub rounded-up : (g : ℕ) (s : Bool) (m : ℕ) → rounded (g + 64) s (m * 2 ^ 64) ≡ rounded g s m
unfolding rounded
rounded-up g s m =
    round_same binary64 s (m * 2 ^ 64) (2 ^ (low binary64 + (g + 64))) m (2 ^ (low binary64 + g)) (pow_pos (low binary64 + (g + 64))) (pow_pos (low binary64 + g))
    (mul_assoc m (2 ^ 64) (2 ^ (low binary64 + g)) ∙ ap (λ (z : ℕ). m * z)
    (mul_comm (2 ^ 64) (2 ^ (low binary64 + g)) ∙ sym (pow-add 2 (low binary64 + g) 64) ∙ ap (λ (z : ℕ). 2 ^ z) (add_assoc (low binary64) g 64)))

-- ---- `Sticky` at a smaller scale
sticky-unscale : (m w t s : ℕ) → Sticky (m * s) w (t * s) → 0 < s → Sticky m w t
sticky-unscale m w t s j S = record {
  under = λ v l. lt_of_mul-lt-mul_right s (subst (λ (z : ℕ). m * s < z) (sym (mul_assoc (2 * v) t s)) (j.under v l));
  at = λ v e. eq_of_mul-eq-mul_right s S m (2 * v * t) (j.at v e ∙ sym (mul_assoc (2 * v) t s));
  over = λ v l. lt_of_mul-lt-mul_right s (subst (λ (z : ℕ). z < m * s) (sym (mul_assoc (2 * v) t s)) (j.over v l));
}

-- ---- from the upper 64 digits of a number that is shifted up by l, with 64 more digits
module _ (m w r e l : ℕ) (L : l < 128) (j : Sticky (w * 2 ^ l) r (2 ^ 64)) where
  -- the number is exact
  finish-exact : m ≡ w * 2 ^ e → Sticky (m * 2 ^ 64) r (2 ^ (e + 128 - l))
  finish-exact x =
      sticky-unscale (m * 2 ^ 64) r (2 ^ (e + 128 - l)) (2 ^ l)
      (subst (λ (z : ℕ). Sticky z r (2 ^ (e + 128 - l) * 2 ^ l)) number
      (subst (λ (z : ℕ). Sticky (w * 2 ^ l * 2 ^ (e + 64)) r z) scale
      (sticky-scale (w * 2 ^ l) r (2 ^ 64) (2 ^ (e + 64)) (pow_pos (e + 64)) j)))
      (pow_pos l)
    where
      exponents : (e l : ℕ) → l < 128 → 64 + (e + 64) ≡ e + 128 - l + l
      exponents e l h = omega arith

      scale : 2 ^ 64 * 2 ^ (e + 64) ≡ 2 ^ (e + 128 - l) * 2 ^ l
      scale = sym (pow-add 2 64 (e + 64)) ∙ ap (λ (z : ℕ). 2 ^ z) (exponents e l L) ∙ pow-add 2 (e + 128 - l) l

      turn : (w a b c : ℕ) → w * a * (b * c) ≡ w * b * c * a
      turn w a b c = mul_assoc w a (b * c) ∙ ap (λ (z : ℕ). w * z) (mul_comm a (b * c)) ∙ sym (mul_assoc w (b * c) a) ∙ ap (λ (z : ℕ). z * a) (sym (mul_assoc w b c))

      number : w * 2 ^ l * 2 ^ (e + 64) ≡ m * 2 ^ 64 * 2 ^ l
      number = ap (λ (z : ℕ). w * 2 ^ l * z) (pow-add 2 e 64) ∙ turn w (2 ^ l) (2 ^ e) (2 ^ 64) ∙ ap (λ (z : ℕ). z * 2 ^ 64 * 2 ^ l) (sym x)

  -- it has a sticky bit
  finish-sticky : l ≤ 64 → Sticky m w (2 ^ e) → Sticky (m * 2 ^ 64) r (2 ^ (e + 128 - l))
  finish-sticky h s =
      subst (λ (z : ℕ). Sticky (m * 2 ^ 64) r z)
      (ap (λ (z : ℕ). z * 2 ^ 64) (sym (pow-add 2 (64 - l) e)) ∙ sym (pow-add 2 (64 - l + e) 64) ∙ ap (λ (z : ℕ). 2 ^ z) (go e l h))
      (sticky-scale m r (2 ^ (64 - l) * 2 ^ e) (2 ^ 64) (pow_pos 64)
      (sticky-trans m w r (2 ^ e) (2 ^ (64 - l)) s
      (sticky-unscale w r (2 ^ (64 - l)) (2 ^ l) (subst (λ (z : ℕ). Sticky (w * 2 ^ l) r z) (sym (sym (pow-add 2 (64 - l) l) ∙ ap (λ (z : ℕ). 2 ^ z) (fill l h))) j) (pow_pos l))))
    where
      go : (e l : ℕ) → l ≤ 64 → 64 - l + e + 64 ≡ e + 128 - l
      go e l h = omega arith

      fill : (l : ℕ) → l ≤ 64 → 64 - l + l ≡ 64
      fill l h = omega arith

-- ---- `normalised`
module _ (w r : ℕ) (P : 0 < w) (W : w < 2 ^ 128) (j : Sticky ((w * 2 ^ count_leading_zeros 128 w) % 2 ^ 128) r (2 ^ 64)) where
  shifted : Sticky (w * 2 ^ count_leading_zeros 128 w) r (2 ^ 64)
  shifted = subst (λ (z : ℕ). Sticky z r (2 ^ 64)) (mod-eq_of_lt (zeros-top 128 w P W).1) j

  pub top-least : 2 ^ 63 ≤ r
  top-least = sticky-least (w * 2 ^ count_leading_zeros 128 w) r (2 ^ 64) (2 ^ 62) shifted (zeros-top 128 w P W).0

  pub top-most : r < 2 ^ 64
  top-most = sticky-under (w * 2 ^ count_leading_zeros 128 w) r (2 ^ 64) (2 ^ 63) shifted (zeros-top 128 w P W).1

  pub finish : (m e : ℕ) → ExactOrSticky m w (2 ^ e) → Sticky (m * 2 ^ 64) r (2 ^ (e + 128 - count_leading_zeros 128 w))
  finish m e (inl x) = finish-exact m w r e (count_leading_zeros 128 w) (zeros-lt 128 w P W) shifted x
  finish m e (inr x) = finish-sticky m w r e (count_leading_zeros 128 w) (zeros-lt 128 w P W) shifted (zeros-few w x.0 W) x.1

-- above 0 also where a shift is known only as what it leaves
pub shifted-pos : (w : ℕ) → 0 < w → w < 2 ^ 128 → 0 < (w * 2 ^ count_leading_zeros 128 w) % 2 ^ 128
shifted-pos w P W = lt_of_lt_of_le (pow_pos 127) (le_trans (zeros-top 128 w P W).0 (le_of_eq (sym (mod-eq_of_lt (zeros-top 128 w P W).1))))
