-- The bit pattern of q * 2 ^ k units, where q is a rounded number: k * 2 ^ (prec - 1) + q, whether or not the result is normal and whether or not rounding carried. Assumes nothing.
use Rattle.std.proofs.Common.{◌≡◌, ℕ, suc, ◌+◌, ◌-◌, ◌*◌, ◌/◌, ◌^◌, ◌<◌, ◌≤◌, Bool, true, false, cond, not, T, ltb, ◌⊎◌, ℤ, sym, refl, ap, ◌∙◌, subst, inl, inr, le_trans, le_of_eq, le_refl, lt_of_lt_of_le, lt_of_le_of_lt, add_assoc, mul-le-mul_right, suc-mul, add-mul, eq-or-lt_of_le, mul-one, mul-div_cancel, arith, ltb→lt, nltb→le, pow_pos, pow_mono, pow-add, shl_lt}
use native.Mathlib.Nat.{pow-succ'}
use lib.Arith.{le→nltb}
use lib.Pow.{pow-lt}
use lib.Ieee.{Float, nan, inf, fin, Format, binary64, prec, emax, low, up, down, hid, ones, top, size, odd, units, to_bits}
use lib.Ieee.Digits.{size-le}
use lib.Ieee.Fits.{two, down_pos}
use lib.Ieee.Bits.{cond_no}
use lib.Ieee.Exact.{HasValue, units_val}
use Rattle.float.proofs.RoundingByDigits.{size_exact}

-- ---- the bits of a finite value, by its size in units
to_bits-fin : (f : Format) (s : Bool) (m : ℕ) (e : ℤ) (n : ℕ) → m * up e * 2 ^ low f / down e ≡ n → to_bits f (fin s m e) ≡ cond s (top f) 0 + (size n - prec f) * hid f + n / 2 ^ (size n - prec f)
unfolding to_bits
to_bits-fin f s m e n p = ap (λ (x : ℕ). cond s (top f) 0 + (size x - prec f) * hid f + x / 2 ^ (size x - prec f)) p

to_bits-value : (f : Format) (s : Bool) (v : Float) (n : ℕ) → HasValue v s n (2 ^ low f) → to_bits f v ≡ cond s (top f) 0 + (size n - prec f) * hid f + n / 2 ^ (size n - prec f)
to_bits-value f s nan n h = absurd h
to_bits-value f s (inf t) n h = absurd h
to_bits-value f s (fin t m e) n h =
    to_bits-fin f t m e n (ap (λ (z : ℕ). z / down e) h.1 ∙ mul-div_cancel n (down_pos e))
    ∙ ap (λ (z : Bool). cond z (top f) 0 + (size n - prec f) * hid f + n / 2 ^ (size n - prec f)) h.0

to_bits_inf : (f : Format) (s : Bool) → to_bits f (inf s) ≡ cond s (top f) 0 + ones f * hid f
unfolding to_bits
to_bits_inf f s = refl

units-inf : (f : Format) (s : Bool) (q k : ℕ) → 2 ^ (low f + suc (emax f)) ≤ q * 2 ^ k → units f s q k ≡ inf s
unfolding units
units-inf f s q k h = cond_no (ltb (q * 2 ^ k) (2 ^ (low f + suc (emax f)))) (odd (suc (prec f)) s q k (low f)) (inf s) (le→nltb (q * 2 ^ k) (2 ^ (low f + suc (emax f))) h)

-- 2 ^ prec is twice the weight of the leading digit
pw' : (f : Format) → 2 ^ prec f ≡ 2 * hid f
pw' f = ap (λ (z : ℕ). 2 ^ z) (up1 (prec f) (two f)) ∙ pow-succ' 2 (prec f - 1)
  where
    up1 : (p : ℕ) → 2 ≤ p → p ≡ suc (p - 1)
    up1 p h = omega arith

-- ---- a number of units that fits, with j digits dropped
module _ (f : Format) (s : Bool) (q k : ℕ) where
  fine : (j r : ℕ) → q * 2 ^ k < 2 ^ (low f + suc (emax f)) → size (q * 2 ^ k) - prec f ≡ j → r * 2 ^ j ≡ q * 2 ^ k → to_bits f (units f s q k) ≡ cond s (top f) 0 + (j * hid f + r)
  fine j r h e c =
      to_bits-value f s (units f s q k) (q * 2 ^ k) (units_val f s q k h)
      ∙ ap (λ (z : ℕ). cond s (top f) 0 + z * hid f + q * 2 ^ k / 2 ^ z) e
      ∙ ap (λ (z : ℕ). cond s (top f) 0 + j * hid f + z / 2 ^ j) (sym c)
      ∙ ap (λ (z : ℕ). cond s (top f) 0 + j * hid f + z) (mul-div_cancel r (pow_pos j))
      ∙ add_assoc (cond s (top f) 0) (j * hid f) r

  digits : (k ≡ 0) ⊎ (hid f ≤ q) → q < 2 ^ prec f → size (q * 2 ^ k) - prec f ≡ k
  digits (inl z) h = none (size (q * 2 ^ k)) (prec f) k z (size-le (q * 2 ^ k) (prec f) (subst (λ (y : ℕ). q * 2 ^ y < 2 ^ prec f) (sym z) (subst (λ (y : ℕ). y < 2 ^ prec f) (sym (mul-one q)) h)))
    where
      none : (z p k : ℕ) → k ≡ 0 → z ≤ p → z - p ≡ k
      none z p k e h = omega arith
  digits (inr g) h =
      ap (λ (z : ℕ). z - prec f)
      (size_exact (q * 2 ^ k) (prec f - 1 + k) (le_trans (le_of_eq (pow-add 2 (prec f - 1) k)) (mul-le-mul_right (2 ^ k) g))
      (subst (λ (z : ℕ). q * 2 ^ k < 2 ^ z) (more (prec f) k (two f)) (shl_lt (prec f) k h)))
      ∙ drop (prec f) k (two f)
    where
      more : (p k : ℕ) → 2 ≤ p → p + k ≡ suc (p - 1 + k)
      more p k h = omega arith

      drop : (p k : ℕ) → 2 ≤ p → suc (p - 1 + k) - p ≡ k
      drop p k h = omega arith

  -- q below 2 ^ prec
  below : (k ≡ 0) ⊎ (hid f ≤ q) → k < 2 * emax f → q < 2 ^ prec f → to_bits f (units f s q k) ≡ cond s (top f) 0 + (k * hid f + q)
  below d l h = fine k q (lt_of_lt_of_le (shl_lt (prec f) k h) (pow_mono (bound (prec f) (emax f) k (two f) l))) (digits d h) refl
    where
      bound : (p e k : ℕ) → 2 ≤ p → k < 2 * e → p + k ≤ e + p - 2 + suc e
      bound p e k a b = omega arith

  -- rounding carried: q is 2 ^ prec
  carried : k < 2 * emax f → q ≡ 2 ^ prec f → to_bits f (units f s q k) ≡ cond s (top f) 0 + (k * hid f + q)
  carried l e = go (eq-or-lt_of_le l)
    where
      last : (p e k : ℕ) → 2 ≤ p → suc k ≡ 2 * e → e + p - 2 + suc e ≡ p + k
      last p e k a b = omega arith

      tops : (k e h q w : ℕ) → suc k ≡ 2 * e → w ≡ 2 * h → q ≡ w → (2 * e + 1) * h ≡ (k + 2) * h
      tops k e h q w a b c = ap (λ (z : ℕ). z * h) (n k e a)
        where
          n : (k e : ℕ) → suc k ≡ 2 * e → 2 * e + 1 ≡ k + 2
          n k e a = omega arith

      spread : (k h : ℕ) → (k + 2) * h ≡ k * h + 2 * h
      spread k h = simp add-mul

      bound : (p e k : ℕ) → 2 ≤ p → suc k < 2 * e → suc (p + k) ≤ e + p - 2 + suc e
      bound p e k a b = omega arith

      is : q * 2 ^ k ≡ 2 ^ (prec f + k)
      is = ap (λ (z : ℕ). z * 2 ^ k) e ∙ sym (pow-add 2 (prec f) k)

      cut : (p k : ℕ) → suc (p + k) - p ≡ suc k
      cut p k = omega arith

      one_up : (k h q : ℕ) → q ≡ 2 * h → suc k * h + h ≡ k * h + q
      one_up k h q a = ap (λ (z : ℕ). z + h) (suc-mul k h) ∙ fold (k * h) h q a
        where
          fold : (a h q : ℕ) → q ≡ 2 * h → a + h + h ≡ a + q
          fold a h q e = omega arith

      go : (suc k ≡ 2 * emax f) ⊎ (suc k < 2 * emax f) → to_bits f (units f s q k) ≡ cond s (top f) 0 + (k * hid f + q)
      go (inl t) =
          ap (to_bits f) (units-inf f s q k (le_of_eq (ap (λ (z : ℕ). 2 ^ z) (last (prec f) (emax f) k (two f) t) ∙ sym is)))
          ∙ to_bits_inf f s
          ∙ ap (λ (z : ℕ). cond s (top f) 0 + z) (tops k (emax f) (hid f) q (2 ^ prec f) t (pw' f) e ∙ spread k (hid f) ∙ ap (λ (z : ℕ). k * hid f + z) (sym (pw' f) ∙ sym e))
      go (inr t) =
          fine (suc k) (hid f) (lt_of_le_of_lt (le_of_eq is) (pow-lt (bound (prec f) (emax f) k (two f) t)))
          (ap (λ (z : ℕ). z - prec f) (ap size is ∙ size_exact (2 ^ (prec f + k)) (prec f + k) (le_refl (2 ^ (prec f + k))) (pow-lt (le_refl (suc (prec f + k))))) ∙ cut (prec f) k)
          (sym (pow-add 2 (prec f - 1) (suc k)) ∙ ap (λ (z : ℕ). 2 ^ z) (meet (prec f) k (two f)) ∙ sym is)
          ∙ ap (λ (z : ℕ). cond s (top f) 0 + z) (one_up k (hid f) q (e ∙ pw' f))
        where
          meet : (p k : ℕ) → 2 ≤ p → p - 1 + suc k ≡ p + k
          meet p k h = omega arith

  -- the pattern, for a k below the largest
  pub pack-bits : (k ≡ 0) ⊎ (hid f ≤ q) → k < 2 * emax f → q ≤ 2 ^ prec f → to_bits f (units f s q k) ≡ cond s (top f) 0 + (k * hid f + q)
  pack-bits d l h = elim (eq-or-lt_of_le h) [ inl e ↦ carried l e | inr b ↦ below d l b ]

  -- and an infinity's from there on
  pub pack-inf : hid f ≤ q → 2 * emax f ≤ k → to_bits f (units f s q k) ≡ cond s (top f) 0 + ones f * hid f
  pack-inf g l =
      ap (to_bits f) (units-inf f s q k (le_trans (pow_mono (bound (prec f) (emax f) k (two f) l)) (le_trans (le_of_eq (pow-add 2 (prec f - 1) k)) (mul-le-mul_right (2 ^ k) g)))) ∙ to_bits_inf f s
    where
      bound : (p e k : ℕ) → 2 ≤ p → 2 * e ≤ k → e + p - 2 + suc e ≤ p - 1 + k
      bound p e k a b = omega arith

-- ---- at an f64, as `pattern` writes it
pub pattern-law : (s : Bool) (q k n : ℕ) → q ≤ 2 ^ 53 → (k ≡ 0) ⊎ (2 ^ 52 ≤ q) → n ≡ cond (ltb k 2046) (k * 2 ^ 52 + q) (2047 * 2 ^ 52) → cond s (2 ^ 63) 0 + n ≡ to_bits binary64 (units binary64 s q k)
pattern-law s q k n l d e = go (ltb k 2046) (ltb→lt k 2046) (nltb→le k 2046) e
  where
    go : (b : Bool) → (T b → k < 2046) → (T (not b) → 2046 ≤ k) → n ≡ cond b (k * 2 ^ 52 + q) (2047 * 2 ^ 52) → cond s (2 ^ 63) 0 + n ≡ to_bits binary64 (units binary64 s q k)
    go true a b r = ap (λ (z : ℕ). cond s (2 ^ 63) 0 + z) r ∙ sym (pack-bits binary64 s q k d (a tt) l)
    go false a b r = ap (λ (z : ℕ). cond s (2 ^ 63) 0 + z) r ∙ sym (pack-inf binary64 s q k (large d) (b tt))
      where
        no : (k : ℕ) → k ≡ 0 → 2046 ≤ k → ⊥
        no k a b = omega arith

        large : (k ≡ 0) ⊎ (2 ^ 52 ≤ q) → 2 ^ 52 ≤ q
        large (inl z) = absurd (no k z (b tt))
        large (inr g) = g
