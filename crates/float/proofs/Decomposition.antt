-- A pattern taken apart, and the fused multiply-add of three of them. Assumes nothing.
use Rattle.std.proofs.Common.{◌≡◌, ℕ, zero, suc, ◌+◌, ◌-◌, ◌*◌, ◌/◌, ◌%◌, ◌^◌, ◌<◌, ◌≤◌, Bool, true, cond, not, eqb, ltb, leb, sym, refl, ap, ◌∙◌, subst, inl, le_trans, le_of_eq, lt_of_lt_of_le, le-add_right, lt_of_le_of_lt, le_of_lt, mul-le-mul_right, mod-lt, mod-eq_of_lt, mul_assoc, mul_comm, div-lt_iff_lt-mul, lt_of_mul-lt-mul_right, mul-le-mul_left, mul-lt-mul_of_pos_right, lt_of_not-le, div-add-mod', mul-one, not-le_of_lt, le_of_mul-le-mul_right, mul_left_comm, arith, lit≤, eqb→eq, pow_pos, pow_mono, pow-add, shl_lt, ltb-false, ltb-true, lt-ltb}
use native.Mathlib.Nat.{mul-mod_left}
use lib.Dec.{not_T}
use borrow.Author.Tests.{not-true}
use lib.Pow.{mod-mod-pow}
use lib.Count.{count_leading_zeros, leading_top}
use lib.Ieee.{Float, nan, inf, binary64, low, unlike, odd, of_fields, of_bits, to_bits, sum}
use lib.Ieee.Bits.{cond_no}
use lib.Ieee.Exact.{HasValue, odd_sign}
use Rattle.float.specs.FusedMultiplyAdd.{times, fused_multiply_add}
use Rattle.float.specs.inner.Operands.{is_normal, are_near, Plain, Decomposed}
use Rattle.float.proofs.Flags.{and_left, and_right}
use Rattle.float.specs.inner.Sticky.{Aligned}
use Rattle.float.specs.inner.Terms.{LeftJustified}
use Rattle.float.specs.inner.Rounded.{signed_sum}
use Rattle.float.proofs.Shifts.{zeros-lt, zeros-top}
use Rattle.float.proofs.Value.{value-scale, value-is, times-value, fma-value}

pub of_bits_is : (b : ℕ) → of_bits binary64 b ≡ of_fields binary64 (leb (2 ^ 63) b) (b % 2 ^ 63 / 2 ^ 52) (b % 2 ^ 52)
unfolding of_bits
of_bits_is b = refl

-- ---- a subnormal's digits are shifted up
module _ (t : ℕ) (some : 0 < t) (small : t < 2 ^ 52) where
  word : t < 2 ^ 64
  word = lt_of_lt_of_le small (lit≤ tt)

  pub zeros-ge : 11 ≤ count_leading_zeros 64 t
  zeros-ge = let p = leading_top 64 t some word in go (count_leading_zeros 64 t) p.0 p.1 (lt_of_not-le (λ (g : 52 ≤ p.0). not-le_of_lt small (le_trans (pow_mono g) p.2)))
    where
      go : (l j : ℕ) → l + suc j ≡ 64 → j < 52 → 11 ≤ l
      go l j e h = omega arith

  pub zeros-le : count_leading_zeros 64 t - 11 ≤ 52
  zeros-le = go (count_leading_zeros 64 t) (zeros-lt 64 t some word)
    where
      go : (l : ℕ) → l < 64 → l - 11 ≤ 52
      go l h = omega arith

  -- shifted by 11 less than its leading zeros it has 53 digits
  eleven : t * 2 ^ (count_leading_zeros 64 t - 11) * 2 ^ 11 ≡ t * 2 ^ count_leading_zeros 64 t
  eleven = mul_assoc t (2 ^ (count_leading_zeros 64 t - 11)) (2 ^ 11) ∙ ap (λ (z : ℕ). t * z) (sym (pow-add 2 (count_leading_zeros 64 t - 11) 11) ∙ ap (λ (z : ℕ). 2 ^ z) (go (count_leading_zeros 64 t) zeros-ge))
    where
      go : (l : ℕ) → 11 ≤ l → l - 11 + 11 ≡ l
      go l h = omega arith

  pub up_least : 2 ^ 52 ≤ t * 2 ^ (count_leading_zeros 64 t - 11)
  up_least = le_of_mul-le-mul_right (le_trans (zeros-top 64 t some word).0 (le_of_eq (sym eleven))) (pow_pos 11)

  pub up-most : t * 2 ^ (count_leading_zeros 64 t - 11) < 2 ^ 53
  up-most = lt_of_mul-lt-mul_right (2 ^ 11) (lt_of_le_of_lt (le_of_eq eleven) (zeros-top 64 t some word).1)

  pub up_word : (t * 2 ^ (count_leading_zeros 64 t - 11)) % 2 ^ 64 ≡ t * 2 ^ (count_leading_zeros 64 t - 11)
  up_word = mod-eq_of_lt (lt_of_lt_of_le up-most (lit≤ tt))

-- ---- the value, in units of 2 ^ -1126
up-52 : (x : Float) (s : Bool) (a b : ℕ) → a * 2 ^ 52 ≡ b → HasValue x s a (2 ^ 1074) → HasValue x s b (2 ^ 1126)
up-52 x s a b e h = value-is x s (a * 2 ^ 52) b (2 ^ 1074 * 2 ^ 52) (2 ^ 1126) e (sym (pow-add 2 1074 52)) (value-scale x s a (2 ^ 1074) (2 ^ 52) h)

low_value : (s : Bool) (t l : ℕ) → l ≤ 52 → HasValue (of_fields binary64 s 0 t) s (t * 2 ^ l * 2 ^ (52 - l)) (2 ^ 1126)
unfolding of_fields
low_value s t l h =
    up-52 (odd 53 s t 0 1074) s (t * 2 ^ 0) (t * 2 ^ l * 2 ^ (52 - l))
    (ap (λ (z : ℕ). z * 2 ^ 52) (mul-one t) ∙ ap (λ (z : ℕ). t * z) (sym (sym (pow-add 2 l (52 - l)) ∙ ap (λ (z : ℕ). 2 ^ z) (fill l h))) ∙ sym (mul_assoc t (2 ^ l) (2 ^ (52 - l))))
    (odd_sign 53 s t 0 1074)
  where
    fill : (l : ℕ) → l ≤ 52 → l + (52 - l) ≡ 52
    fill l h = omega arith

high_value : (s : Bool) (x t : ℕ) → suc x < 2047 → HasValue (of_fields binary64 s (suc x) t) s ((2 ^ 52 + t) * 2 ^ (suc x + 51)) (2 ^ 1126)
unfolding of_fields
high_value s x t h =
    subst (λ (v : Float). HasValue v s ((2 ^ 52 + t) * 2 ^ (suc x + 51)) (2 ^ 1126))
    (sym (cond_no (eqb (suc x) 2047) (cond (eqb t 0) (inf s) nan) (odd 53 s (2 ^ 52 + t) x 1074) (not_T (eqb (suc x) 2047) (λ u. no x h (eqb→eq (suc x) 2047 u)))))
    (up-52 (odd 53 s (2 ^ 52 + t) x 1074) s ((2 ^ 52 + t) * 2 ^ x) ((2 ^ 52 + t) * 2 ^ (suc x + 51))
    (mul_assoc (2 ^ 52 + t) (2 ^ x) (2 ^ 52) ∙ ap (λ (z : ℕ). (2 ^ 52 + t) * z) (sym (pow-add 2 x 52) ∙ ap (λ (z : ℕ). 2 ^ z) (same x)))
    (odd_sign 53 s (2 ^ 52 + t) x 1074))
  where
    no : (x : ℕ) → suc x < 2047 → suc x ≡ 2047 → ⊥
    no x h e = omega arith

    same : (x : ℕ) → x + 52 ≡ suc x + 51
    same x = omega arith

-- ---- `decomposed`
module _ (b : ℕ) (P : Plain b) where
  field_lt : b % 2 ^ 63 / 2 ^ 52 < 2047
  field_lt = (div-lt_iff_lt-mul (pow_pos 52)).1 P.finite

  pub t-pos : b % 2 ^ 63 / 2 ^ 52 ≡ 0 → 0 < b % 2 ^ 52
  t-pos e = go (b % 2 ^ 63) (b % 2 ^ 63 / 2 ^ 52) (b % 2 ^ 63 % 2 ^ 52) (b % 2 ^ 52) (div-add-mod' (b % 2 ^ 63) (2 ^ 52)) e (mod-mod-pow b 11 52) P.some
    where
      go : (n q r t : ℕ) → q * 2 ^ 52 + r ≡ n → q ≡ 0 → r ≡ t → 0 < n → 0 < t
      go n q r t a e c d = omega arith

  pub parts_low : b % 2 ^ 63 / 2 ^ 52 ≡ 0 → Decomposed (of_bits binary64 b) (leb (2 ^ 63) b) ((b % 2 ^ 52 * 2 ^ (count_leading_zeros 64 (b % 2 ^ 52) - 11)) % 2 ^ 64) (52 - (count_leading_zeros 64 (b % 2 ^ 52) - 11))
  parts_low e =
      let t = b % 2 ^ 52 in
      let l = count_leading_zeros 64 t - 11 in
      let T = mod-lt b (pow_pos 52) in
      let p = t-pos e in
      subst (λ (m : ℕ). Decomposed (of_bits binary64 b) (leb (2 ^ 63) b) m (52 - l)) (sym (up_word t p T))
      (record {
        value =
            subst (λ (v : Float). HasValue v (leb (2 ^ 63) b) (t * 2 ^ l * 2 ^ (52 - l)) (2 ^ 1126)) (sym (of_bits_is b ∙ ap (λ (x : ℕ). of_fields binary64 (leb (2 ^ 63) b) x t) e))
            (low_value (leb (2 ^ 63) b) t l (zeros-le t p T));
        least = up_least t p T;
        most = up-most t p T;
        low = go l;
      })
    where
      go : (l : ℕ) → 52 - l < 2098
      go l = omega arith

  pub parts-high : (b % 2 ^ 63 / 2 ^ 52 ≡ 0 → ⊥) → Decomposed (of_bits binary64 b) (leb (2 ^ 63) b) (2 ^ 52 + b % 2 ^ 52) (b % 2 ^ 63 / 2 ^ 52 + 51)
  parts-high n = record {
    value = subst (λ (v : Float). HasValue v (leb (2 ^ 63) b) ((2 ^ 52 + b % 2 ^ 52) * 2 ^ (b % 2 ^ 63 / 2 ^ 52 + 51)) (2 ^ 1126)) (sym (of_bits_is b)) (at (b % 2 ^ 63 / 2 ^ 52) n field_lt);
    least = le-add_right (2 ^ 52) (b % 2 ^ 52);
    most = two (b % 2 ^ 52) (mod-lt b (pow_pos 52));
    low = go (b % 2 ^ 63 / 2 ^ 52) field_lt;
  }
    where
      two : (t : ℕ) → t < 2 ^ 52 → 2 ^ 52 + t < 2 ^ 53
      two t h = omega arith

      go : (x : ℕ) → x < 2047 → x + 51 < 2098
      go x h = omega arith

      at : (x : ℕ) → (x ≡ 0 → ⊥) → x < 2047 → HasValue (of_fields binary64 (leb (2 ^ 63) b) x (b % 2 ^ 52)) (leb (2 ^ 63) b) ((2 ^ 52 + b % 2 ^ 52) * 2 ^ (x + 51)) (2 ^ 1126)
      at zero n h = absurd (n refl)
      at (suc x) n h = high_value (leb (2 ^ 63) b) x (b % 2 ^ 52) h

-- ---- the two terms
pub product-justified : (m n : ℕ) → 2 ^ 52 ≤ m → m < 2 ^ 53 → 2 ^ 52 ≤ n → n < 2 ^ 53 → LeftJustified (m * 1024 * (n * 1024))
product-justified m n a b c d = record {
  least = le_trans (lit≤ tt) (le_trans (mul-le-mul_left (2 ^ 62) (up n c)) (mul-le-mul_right (n * 1024) (up m a)));
  most = lt_of_le_of_lt (mul-le-mul_left (m * 1024) (le_of_lt (over n d))) (mul-lt-mul_of_pos_right (over m b) (pow_pos 63));
  zeros = ap (λ (z : ℕ). z % 2 ^ 20) (twenty m n) ∙ mul-mod_left (m * n) (2 ^ 20);
}
  where
    up : (m : ℕ) → 2 ^ 52 ≤ m → 2 ^ 62 ≤ m * 1024
    up m h = omega arith

    over : (m : ℕ) → m < 2 ^ 53 → m * 1024 < 2 ^ 63
    over m h = omega arith

    twenty : (m n : ℕ) → m * 1024 * (n * 1024) ≡ m * n * 2 ^ 20
    twenty m n = mul_assoc m 1024 (n * 1024) ∙ ap (λ (z : ℕ). m * z) (mul_left_comm 1024 n 1024) ∙ sym (mul_assoc m n (2 ^ 20))

pub addend-justified : (m : ℕ) → 2 ^ 52 ≤ m → m < 2 ^ 53 → LeftJustified (m * 512 * 2 ^ 64)
addend-justified m a b = record {
  least = le_trans (lit≤ tt) (mul-le-mul_right (2 ^ 64) (up m a));
  most = mul-lt-mul_of_pos_right (over m b) (pow_pos 64);
  zeros = ap (λ (z : ℕ). z % 2 ^ 20) (mul_assoc m 512 (2 ^ 64) ∙ sym (mul_assoc m (2 ^ 53) (2 ^ 20))) ∙ mul-mod_left (m * 2 ^ 53) (2 ^ 20);
}
  where
    up : (m : ℕ) → 2 ^ 52 ≤ m → 2 ^ 61 ≤ m * 512
    up m h = omega arith

    over : (m : ℕ) → m < 2 ^ 53 → m * 512 < 2 ^ 62
    over m h = omega arith

-- ---- the whole: over 2 ^ 2272 the exact product and the third number are what `aligned_sum` adds
product_value : (x y : Float) (s t : Bool) (m e n d : ℕ) → Decomposed x s m e → Decomposed y t n d → HasValue (times x y) (unlike s t) (m * 1024 * (n * 1024) * 2 ^ (e + d)) (2 ^ 2272)
product_value x y s t m e n d X Y =
    value-is (times x y) (unlike s t) (m * 2 ^ e * (n * 2 ^ d) * 2 ^ 20) (m * 1024 * (n * 1024) * 2 ^ (e + d)) (2 ^ 1126 * 2 ^ 1126 * 2 ^ 20) (2 ^ 2272)
    (group m (2 ^ e) n (2 ^ d) ∙ ap (λ (z : ℕ). m * 1024 * (n * 1024) * z) (sym (pow-add 2 e d)))
    (ap (λ (z : ℕ). z * 2 ^ 20) (sym (pow-add 2 1126 1126)) ∙ sym (pow-add 2 2252 20))
    (value-scale (times x y) (unlike s t) (m * 2 ^ e * (n * 2 ^ d)) (2 ^ 1126 * 2 ^ 1126) (2 ^ 20) (times-value x y s t (m * 2 ^ e) (n * 2 ^ d) (2 ^ 1126) (2 ^ 1126) X.value Y.value))
  where
    sort : (m a n b k : ℕ) → m * a * (n * b) * (k * k) ≡ m * k * (n * k) * (a * b)
    sort m a n b k = simp (mul_assoc, mul_comm, mul_left_comm)

    group : (m a n b : ℕ) → m * a * (n * b) * 2 ^ 20 ≡ m * 1024 * (n * 1024) * (a * b)
    group m a n b = sort m a n b 1024

third-value : (z : Float) (s : Bool) (m e : ℕ) → Decomposed z s m e → HasValue z s (m * 512 * 2 ^ 64 * 2 ^ (e + 1073)) (2 ^ 2272)
third-value z s m e Z =
    value-is z s (m * 2 ^ e * 2 ^ 1146) (m * 512 * 2 ^ 64 * 2 ^ (e + 1073)) (2 ^ 1126 * 2 ^ 1146) (2 ^ 2272)
    (mul_assoc m (2 ^ e) (2 ^ 1146)
    ∙ ap (λ (x : ℕ). m * x) (sym (pow-add 2 e 1146) ∙ ap (λ (x : ℕ). 2 ^ x) (same e) ∙ pow-add 2 73 (e + 1073))
    ∙ sym (mul_assoc m (2 ^ 73) (2 ^ (e + 1073)))
    ∙ ap (λ (x : ℕ). x * 2 ^ (e + 1073)) (sym (mul_assoc m 512 (2 ^ 64))))
    (sym (pow-add 2 1126 1146))
    (value-scale z s (m * 2 ^ e) (2 ^ 1126) (2 ^ 1146) Z.value)
  where
    same : (e : ℕ) → e + 1146 ≡ 73 + (e + 1073)
    same e = omega arith

signed-sum-is : (g : ℕ) (s : Bool) (a : ℕ) (t : Bool) (b : ℕ) → signed_sum g s a t b ≡ sum binary64 s a t b (2 ^ (low binary64 + g))
unfolding signed_sum
signed-sum-is g s a t b = refl

pub fused-law : (x y z : Float) (s t r : Bool) (m e n d o k : ℕ) → Decomposed x s m e → Decomposed y t n d → Decomposed z r o k
    → signed_sum 1198 (unlike s t) (m * 1024 * (n * 1024) * 2 ^ (e + d)) r (o * 512 * 2 ^ 64 * 2 ^ (k + 1073)) ≡ fused_multiply_add binary64 x y z
fused-law x y z s t r m e n d o k X Y Z =
    signed-sum-is 1198 (unlike s t) (m * 1024 * (n * 1024) * 2 ^ (e + d)) r (o * 512 * 2 ^ 64 * 2 ^ (k + 1073))
    ∙ sym (fma-value binary64 x y z (unlike s t) r (m * 1024 * (n * 1024) * 2 ^ (e + d)) (o * 512 * 2 ^ 64 * 2 ^ (k + 1073)) (2 ^ 2272) (pow_pos 2272) (product_value x y s t m e n d X Y)
    (third-value z r o k Z))

-- ---- `fused_near`

-- what `is_normal` says of the exponent's field
abbrev pub Normal : ℕ → Type 0
Normal n = (1 ≤ n % 2 ^ 63 / 2 ^ 52) × (n % 2 ^ 63 / 2 ^ 52 < 2047)

-- what `are_near` says of the exponents' fields
pub record Near (x y z : ℕ) : Type 0 where
  pub first : Normal x
  pub second : Normal y
  pub third : Normal z
  pub least : z % 2 ^ 63 / 2 ^ 52 + 1002 ≤ x % 2 ^ 63 / 2 ^ 52 + y % 2 ^ 63 / 2 ^ 52
  pub most : x % 2 ^ 63 / 2 ^ 52 + y % 2 ^ 63 / 2 ^ 52 < z % 2 ^ 63 / 2 ^ 52 + 1066

pub normal-is : (n : ℕ) → is_normal n ≡ true → Normal n
unfolding is_normal
normal-is n e = let f = n % 2 ^ 63 / 2 ^ 52 in (ltb-true 0 f (and_left (ltb 0 f) (ltb f 2047) e), ltb-true f 2047 (and_right (ltb 0 f) (ltb f 2047) e))

-- the tests of `are_near`, one by one
pub near-normals : (x y z : ℕ) → are_near x y z ≡ true → (is_normal x ≡ true) × (is_normal y ≡ true) × (is_normal z ≡ true)
unfolding are_near
near-normals x y z e =
    let b = and_right (is_normal x) _ e in
    (and_left (is_normal x) _ e, and_left (is_normal y) _ b, and_left (is_normal z) _ (and_right (is_normal y) _ b))

pub plain-normal : (n : ℕ) → Plain n → (n % 2 ^ 63 / 2 ^ 52 ≡ 0 → ⊥) → is_normal n ≡ true
unfolding is_normal
plain-normal n p z =
    let f = n % 2 ^ 63 / 2 ^ 52 in
    rw (lt-ltb 0 f (some f z), lt-ltb f 2047 (field_lt n p)) refl
  where
    some : (f : ℕ) → (f ≡ 0 → ⊥) → 0 < f
    some f z = omega arith

pub near-is : (x y z : ℕ) → are_near x y z ≡ true → Near x y z
unfolding are_near
near-is x y z e =
    let p = x % 2 ^ 63 / 2 ^ 52 + y % 2 ^ 63 / 2 ^ 52 in
    let q = z % 2 ^ 63 / 2 ^ 52 + 1002 in
    let n = near-normals x y z e in
    let b = and_right (is_normal z) _ (and_right (is_normal y) _ (and_right (is_normal x) _ e)) in
    let l = ltb-false p q (not-true (ltb p q) (and_left (not (ltb p q)) (ltb (p - q) 64) b)) in
    record {
      first = normal-is x n.0;
      second = normal-is y n.1;
      third = normal-is z n.2;
      least = l;
      most = within p (z % 2 ^ 63 / 2 ^ 52) l (ltb-true (p - q) 64 (and_right (not (ltb p q)) (ltb (p - q) 64) b));
    }
  where
    within : (p f : ℕ) → f + 1002 ≤ p → p - (f + 1002) < 64 → p < f + 1066
    within p f h k = omega arith

pub normal-decomposed : (b m x : ℕ) → Normal b → m ≡ 2 ^ 52 + b % 2 ^ 52 → x ≡ b % 2 ^ 63 / 2 ^ 52 → Decomposed (of_bits binary64 b) (leb (2 ^ 63) b) m (x + 51)
normal-decomposed b m x N p q =
    subst (λ (z : ℕ). Decomposed (of_bits binary64 b) (leb (2 ^ 63) b) z (x + 51)) (sym p)
    (subst (λ (z : ℕ). Decomposed (of_bits binary64 b) (leb (2 ^ 63) b) (2 ^ 52 + b % 2 ^ 52) (z + 51)) (sym q)
    (parts-high b (record { some = some (b % 2 ^ 63) N.0; finite = finite (b % 2 ^ 63) N.1 }) (λ e. none (b % 2 ^ 63 / 2 ^ 52) N.0 e)))
  where
    some : (n : ℕ) → 1 ≤ n / 2 ^ 52 → 0 < n
    some n h = omega arith

    finite : (n : ℕ) → n / 2 ^ 52 < 2047 → n < 2047 * 2 ^ 52
    finite n h = omega arith

    none : (x : ℕ) → 1 ≤ x → x ≡ 0 → ⊥
    none x h e = omega arith

-- the same of the parts' exponents
near-between : (x y z e d k : ℕ) → e ≡ x + 51 → d ≡ y + 51 → k ≡ z + 51 → z + 1002 ≤ x + y → x + y < z + 1066 → (e + d + 20 ≤ k + 1146) × (k + 1146 ≤ e + d + 93)
near-between x y z e d k p q r l m = (omega arith, omega arith)

pub near-under : (x y z : ℕ) {e d k : ℕ} → Near x y z → e ≡ x % 2 ^ 63 / 2 ^ 52 + 51 → d ≡ y % 2 ^ 63 / 2 ^ 52 + 51 → k ≡ z % 2 ^ 63 / 2 ^ 52 + 51 → e + d + 20 ≤ k + 1146
near-under x y z n p q r = (near-between _ _ _ _ _ _ p q r n.least n.most).0

pub near-above : (x y z : ℕ) {e d k : ℕ} → Near x y z → e ≡ x % 2 ^ 63 / 2 ^ 52 + 51 → d ≡ y % 2 ^ 63 / 2 ^ 52 + 51 → k ≡ z % 2 ^ 63 / 2 ^ 52 + 51 → k + 1146 ≤ e + d + 93
near-above x y z n p q r = (near-between _ _ _ _ _ _ p q r n.least n.most).1

module _ (f g h : Float) (s t u : Bool) (m e n d o k : ℕ) (X : Decomposed f s m e) (Y : Decomposed g t n d) (Z : Decomposed h u o k)
    (A : e + d + 20 ≤ k + 1146) (B : k + 1146 ≤ e + d + 93) where
  pub near-product : (0 < m * n) × (m * n < 2 ^ 126)
  near-product = (
    lt_of_lt_of_le (pow_pos 104) (le_trans (mul-le-mul_left (2 ^ 52) Y.least) (mul-le-mul_right n X.least)),
    lt_of_le_of_lt (mul-le-mul_left m (le_of_lt Y.most)) (lt_of_lt_of_le (mul-lt-mul_of_pos_right X.most (pow_pos 53)) (lit≤ tt)),
  )

  -- the third number's digits are moved up to the product's exponent
  pub near-addend : o * 2 ^ (k + 1146 - (e + d + 20)) < 2 ^ 126
  near-addend = lt_of_lt_of_le (shl_lt 53 (k + 1146 - (e + d + 20)) Z.most) (pow_mono (most k (e + d) B))
    where
      most : (k p : ℕ) → k + 1146 ≤ p + 93 → 53 + (k + 1146 - (p + 20)) ≤ 126
      most k p h = omega arith

  pub near-kept : (o * 2 ^ (k + 1146 - (e + d + 20))) % 2 ^ 128 ≡ o * 2 ^ (k + 1146 - (e + d + 20))
  near-kept = mod-eq_of_lt (lt_of_lt_of_le near-addend (lit≤ tt))

  -- both are exact over 2 ^ 2272
  p-is : m * 1024 * (n * 1024) * 2 ^ (e + d) ≡ m * n * 2 ^ (e + d + 20)
  p-is = sort m n 1024 (2 ^ (e + d)) ∙ ap (λ (v : ℕ). m * n * v) (mul_comm (2 ^ 20) (2 ^ (e + d)) ∙ sym (pow-add 2 (e + d) 20))
    where
      sort : (m n k b : ℕ) → m * k * (n * k) * b ≡ m * n * (k * k * b)
      sort m n k b = simp (mul_assoc, mul_comm, mul_left_comm)

  w-is : o * 512 * 2 ^ 64 * 2 ^ (k + 1073) ≡ o * 2 ^ (k + 1146 - (e + d + 20)) * 2 ^ (e + d + 20)
  w-is =
      ap (λ (v : ℕ). v * 2 ^ (k + 1073)) (mul_assoc o 512 (2 ^ 64))
      ∙ mul_assoc o (2 ^ 73) (2 ^ (k + 1073))
      ∙ ap (λ (v : ℕ). o * v) (sym (pow-add 2 73 (k + 1073)) ∙ ap (λ (v : ℕ). 2 ^ v) (same k (e + d) A) ∙ pow-add 2 (k + 1146 - (e + d + 20)) (e + d + 20))
      ∙ sym (mul_assoc o (2 ^ (k + 1146 - (e + d + 20))) (2 ^ (e + d + 20)))
    where
      same : (k p : ℕ) → p + 20 ≤ k + 1146 → 73 + (k + 1073) ≡ k + 1146 - (p + 20) + (p + 20)
      same k p h = omega arith

  -- what the rounded sum of both is
  pub near-law : (r : ℕ) → ((a b : ℕ) → Aligned a (m * n) b (o * 2 ^ (k + 1146 - (e + d + 20))) (2 ^ (e + d + 20)) → r ≡ to_bits binary64 (signed_sum 1198 (unlike s t) a u b))
      → r ≡ to_bits binary64 (fused_multiply_add binary64 f g h)
  near-law r l =
      l (m * 1024 * (n * 1024) * 2 ^ (e + d)) (o * 512 * 2 ^ 64 * 2 ^ (k + 1073)) (inl (p-is, w-is))
      ∙ ap (to_bits binary64) (fused-law f g h s t u m e n d o k X Y Z)
