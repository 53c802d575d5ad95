-- What `shift_right_sticky` and `nearest_even` compute, on plain numbers. Assumes nothing.
use Rattle.std.proofs.Common.{◌≡◌, ℕ, zero, suc, ◌+◌, ◌-◌, ◌*◌, ◌/◌, ◌%◌, ◌^◌, ◌<◌, ◌≤◌, sym, refl, ap, ◌∙◌, lt_of_le_of_lt, mod-lt, mod-eq_of_lt, mul_assoc, suc-mul, pow-suc, div-add-mod', mul_right_comm, div-mul-le_self, arith}
use Prim.Native.Nat.{compare, Ordering}
use native.Mathlib.Nat.{div-div-eq-div-mul}
use lib.Bits.{bit_or, bit_and, or_add_and, and_mask}
use lib.Ieee.{nearest}
use lib.Ieee.Nearest.{closest}
use Rattle.float.specs.inner.Sticky.{sticky}
use Rattle.float.proofs.StickyRounding.{Cmp, cmp}

pub sticky-law : (v rest : ℕ) → (rest ≡ 0 → ⊥) → bit_or v 1 ≡ sticky v rest
sticky-law v zero n = absurd (n refl)
sticky-law v (suc r) n = go (bit_or v 1) (bit_and v 1) (or_add_and v 1) (and_mask v 1)
  where
    go : (o a : ℕ) → o + a ≡ v + 1 → a ≡ v % 2 → o ≡ v + 1 - v % 2
    go o a e f = omega arith

cmp-lt : (a b : ℕ) → a < b → compare a b ≡ Ordering.lt
cmp-lt a b h = go (compare a b) (cmp a b)
  where
    go : (o : Ordering) → Cmp o a b → o ≡ Ordering.lt
    go Ordering.lt x = refl
    go Ordering.eq x = absurd (no a b h x)
      where
        no : (a b : ℕ) → a < b → a ≡ b → ⊥
        no a b h k = omega arith
    go Ordering.gt x = absurd (no a b h x)
      where
        no : (a b : ℕ) → a < b → b < a → ⊥
        no a b h k = omega arith

cmp-eq : (a b : ℕ) → a ≡ b → compare a b ≡ Ordering.eq
cmp-eq a b h = go (compare a b) (cmp a b)
  where
    go : (o : Ordering) → Cmp o a b → o ≡ Ordering.eq
    go Ordering.lt x = absurd (no a b h x)
      where
        no : (a b : ℕ) → a ≡ b → a < b → ⊥
        no a b h k = omega arith
    go Ordering.eq x = refl
    go Ordering.gt x = absurd (no a b h x)
      where
        no : (a b : ℕ) → a ≡ b → b < a → ⊥
        no a b h k = omega arith

cmp-gt : (a b : ℕ) → b < a → compare a b ≡ Ordering.gt
cmp-gt a b h = go (compare a b) (cmp a b)
  where
    go : (o : Ordering) → Cmp o a b → o ≡ Ordering.gt
    go Ordering.lt x = absurd (no a b h x)
      where
        no : (a b : ℕ) → b < a → a < b → ⊥
        no a b h k = omega arith
    go Ordering.eq x = absurd (no a b h x)
      where
        no : (a b : ℕ) → b < a → a ≡ b → ⊥
        no a b h k = omega arith
    go Ordering.gt x = refl

-- ---- w to the nearest multiple of 2 * h, from its quotient by h
module _ (w h : ℕ) (H : 0 < h) where
  whole : w / (h * 2) ≡ w / h / 2
  whole = sym (div-div-eq-div-mul w h 2)

  -- the multiples of h in w, and in twice its half
  twice : w / h / 2 * (h * 2) ≡ w / h / 2 * 2 * h
  twice = sym (mul_assoc (w / h / 2) h 2) ∙ mul_right_comm (w / h / 2) h 2

  rest : w / h / 2 * 2 * h + w % (h * 2) ≡ w
  rest = ap (λ (z : ℕ). z + w % (h * 2)) (sym twice ∙ ap (λ (z : ℕ). z * (h * 2)) (sym whole)) ∙ div-add-mod' w (h * 2)

  even : w / h % 2 ≡ 0 → w / h * h ≡ w / h / 2 * 2 * h
  even e = ap (λ (z : ℕ). z * h) (go (w / h) e)
    where
      go : (q : ℕ) → q % 2 ≡ 0 → q ≡ q / 2 * 2
      go q e = omega arith

  odd : (w / h % 2 ≡ 0 → ⊥) → w / h * h ≡ w / h / 2 * 2 * h + h
  odd e = ap (λ (z : ℕ). z * h) (go (w / h) e) ∙ suc-mul (w / h / 2 * 2) h
    where
      go : (q : ℕ) → (q % 2 ≡ 0 → ⊥) → q ≡ suc (q / 2 * 2)
      go q e = omega arith

  result : (o : Ordering) → compare (w % (h * 2) * 2) (h * 2) ≡ o → nearest (w / h / 2) o ≡ closest w (h * 2)
  result o e = sym (ap (λ (z : ℕ). nearest z (compare (w % (h * 2) * 2) (h * 2))) whole ∙ ap (nearest (w / h / 2)) e)

  pub near-lt : w / h % 2 ≡ 0 → w / h / 2 ≡ closest w (h * 2)
  near-lt e = result Ordering.lt (cmp-lt (w % (h * 2) * 2) (h * 2) (go (w / h * h) (w / h / 2 * 2 * h) (w % h) (w % (h * 2)) h w (even e) (div-add-mod' w h) rest (mod-lt w H)))
    where
      go : (a b r s h w : ℕ) → a ≡ b → a + r ≡ w → b + s ≡ w → r < h → s * 2 < h * 2
      go a b r s h w p q t l = omega arith

  pub near-eq : (w / h % 2 ≡ 0 → ⊥) → w / h * h ≡ w → w / h / 2 + w / h / 2 % 2 ≡ closest w (h * 2)
  near-eq e z = result Ordering.eq (cmp-eq (w % (h * 2) * 2) (h * 2) (go (w / h * h) (w / h / 2 * 2 * h) (w % (h * 2)) h w (odd e) z rest))
    where
      go : (a b s h w : ℕ) → a ≡ b + h → a ≡ w → b + s ≡ w → s * 2 ≡ h * 2
      go a b s h w p q t = omega arith

  pub near-gt : (w / h % 2 ≡ 0 → ⊥) → (w / h * h ≡ w → ⊥) → w / h / 2 + 1 ≡ closest w (h * 2)
  near-gt e z = one (w / h / 2) ∙ result Ordering.gt (cmp-gt (w % (h * 2) * 2) (h * 2) (go (w / h * h) (w / h / 2 * 2 * h) (w % h) (w % (h * 2)) h w (odd e) (div-add-mod' w h) rest z))
    where
      one : (q : ℕ) → q + 1 ≡ suc q
      one q = omega arith

      go : (a b r s h w : ℕ) → a ≡ b + h → a + r ≡ w → b + s ≡ w → (a ≡ w → ⊥) → h * 2 < s * 2
      go a b r s h w p q t n = omega arith

-- ---- the same, with h a power of two
pub half : (d : ℕ) → 2 ≤ d → 2 ^ (d - 1) * 2 ≡ 2 ^ d
half d h = sym (ap (λ (z : ℕ). 2 ^ z) (go d h) ∙ pow-suc 2 (d - 1))
  where
    go : (d : ℕ) → 2 ≤ d → d ≡ suc (d - 1)
    go d h = omega arith

-- the multiple of h in w does not wrap
pub unshifted : (w h : ℕ) → w < 2 ^ 64 → (w / h * h) % 2 ^ 64 ≡ w / h * h
unshifted w h l = mod-eq_of_lt (lt_of_le_of_lt (div-mul-le_self w h) l)
