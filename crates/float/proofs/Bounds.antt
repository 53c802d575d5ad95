-- Exported for bounds of the coefficients. Bounds by powers of two, for binary64. The exponents are numerals, so a law's side conditions are answered by `tt`.
use Rattle.std.proofs.Common.{◌≡◌, ℕ, zero, suc, ◌+◌, ◌*◌, ◌^◌, ◌<◌, ◌≤◌, true, false, T, ltb, leb, ℤ, pos, negsuc, nat_abs, sym, ap, ◌∙◌, subst, zero-le, le_trans, le_of_eq, add-le-add, mul-le-mul_right, add-mul, one-mul, arith, lit<, ltb→lt, leb→le, pow_pos, pow_mono, pow-add}
use native.Mathlib.Nat.{two-pow-succ}
use lib.Ieee.{Float, nan, inf, fin, binary64, down, neg, add, mul, div, of_int}
use Rattle.float.specs.FusedMultiplyAdd.{times, fused_multiply_add}
use Rattle.float.specs.Operations.{abs}
use Rattle.float.proofs.Sizes.{Size, Reach, Number, size-neg, size-round, reach-round, holds-up, holds-down, holds-many, times-size, add-size, mul-size, mul-reach, div-size, div-reach}

-- |x| ≤ 2 ^ k: so x is finite
pub record Upto (x : Float) (k : ℕ) : Type 0 where
  pub size : Size x (2 ^ k) 1

-- |x| ≥ 1 / 2 ^ j: not a NaN, not a zero; perhaps an infinity
pub record Least (x : Float) (j : ℕ) : Type 0 where
  pub reach : Reach x 1 (2 ^ j)

-- |x| ≤ n * 2 ^ k: for a sum of n terms
pub record Many (x : Float) (n k : ℕ) : Type 0 where
  pub size : Size x (n * 2 ^ k) 1

-- ---- larger bounds

size-more : (x : Float) (n p d : ℕ) → n ≤ p → Size x n d → Size x p d
size-more nan n p d l h = h
size-more (inf s) n p d l h = h
size-more (fin s m e) n p d l h = le_trans h (mul-le-mul_right (down e) l)

pub upto-more : {x : Float} {a : ℕ} (b : ℕ) → Upto x a → T (leb a b) → Upto x b
upto-more {x} {a} b h t = record { size = size-more x (2 ^ a) (2 ^ b) 1 (pow_mono (leb→le a b t)) h.size }

pub many-upto : {x : Float} {n k : ℕ} (j : ℕ) → Many x n k → n ≤ 2 ^ j → Upto x (j + k)
many-upto {x} {n} {k} j h l = record { size = size-more x (n * 2 ^ k) (2 ^ (j + k)) 1 (le_trans (mul-le-mul_right (2 ^ k) l) (le_of_eq (sym (pow-add 2 j k)))) h.size }

-- ---- signs

pub upto-neg : {x : Float} {k : ℕ} → Upto x k → Upto (neg x) k
upto-neg {x} {k} h = record { size = size-neg x (2 ^ k) 1 h.size }

size-abs : (x : Float) (n d : ℕ) → Size x n d → Size (abs x) n d
unfolding abs
size-abs nan n d h = h
size-abs (inf s) n d h = h
size-abs (fin s m e) n d h = h

pub upto-abs : {x : Float} {k : ℕ} → Upto x k → Upto (abs x) k
upto-abs {x} {k} h = record { size = size-abs x (2 ^ k) 1 h.size }

reach-abs : (x : Float) (n d : ℕ) → Reach x n d → Reach (abs x) n d
unfolding abs
reach-abs nan n d h = h
reach-abs (inf s) n d h = h
reach-abs (fin s m e) n d h = h

pub least-abs : {x : Float} {k : ℕ} → Least x k → Least (abs x) k
least-abs {x} {k} h = record { reach = reach-abs x 1 (2 ^ k) h.reach }

-- ---- the operations

two-of : (a b k : ℕ) → a < k → b < k → 2 ^ a + 2 ^ b ≤ 2 ^ k
two-of a b zero h l = absurd (omega-no h)
  where
    omega-no : a < 0 → ⊥
    omega-no h = omega arith
two-of a b (suc k) h l = le_trans (add-le-add (pow_mono (less a k h)) (pow_mono (less b k l))) (le_of_eq (sym (two-pow-succ k)))
  where
    less : (a k : ℕ) → a < suc k → a ≤ k
    less a k h = omega arith

ones : (x y : ℕ) → x ≤ y → x * 1 ≤ y * 1
ones x y h = omega arith

pub upto_add : {x y : Float} {a b : ℕ} (k : ℕ) → Upto x a → Upto y b → T (ltb a k) → T (ltb b k) → T (leb k 1023) → Upto (add binary64 x y) k
upto_add {x} {y} {a} {b} k h l s t u =
    record {
      size = add-size binary64 x y (2 ^ a) (2 ^ b) 1 (2 ^ k) 1 (lit< tt) (lit< tt) (holds-up k (leb→le k 1023 u)) h.size l.size
          (ones (2 ^ a + 2 ^ b) (2 ^ k) (two-of a b k (ltb→lt a k s) (ltb→lt b k t)));
    }

-- the exact product
times-upto : (x y : Float) (a b : ℕ) → Upto x a → Upto y b → Size (times x y) (2 ^ (a + b)) 1
times-upto x y a b h l = subst (λ (n : ℕ). Size (times x y) n 1) (sym (pow-add 2 a b)) (times-size x y (2 ^ a) 1 (2 ^ b) 1 h.size l.size)

pub upto-fma : {x y z : Float} {a b c : ℕ} (k : ℕ) → Upto x a → Upto y b → Upto z c → T (ltb (a + b) k) → T (ltb c k) → T (leb k 1023) → Upto (fused_multiply_add binary64 x y z) k
unfolding fused_multiply_add
upto-fma {x} {y} {z} {a} {b} {c} k h l m s t u =
    record {
      size = add-size binary64 (times x y) z (2 ^ (a + b)) (2 ^ c) 1 (2 ^ k) 1 (lit< tt) (lit< tt) (holds-up k (leb→le k 1023 u)) (times-upto x y a b h l) m.size
          (ones (2 ^ (a + b) + 2 ^ c) (2 ^ k) (two-of (a + b) c k (ltb→lt (a + b) k s) (ltb→lt c k t)));
    }

pub upto-mul : {x y : Float} {a b : ℕ} → Upto x a → Upto y b → T (leb (a + b) 1023) → Upto (mul binary64 x y) (a + b)
upto-mul {x} {y} {a} {b} h l t =
    record {
      size = mul-size binary64 x y (2 ^ a) 1 (2 ^ b) 1 (2 ^ (a + b)) 1 (lit< tt) (lit< tt) (lit< tt) (holds-up (a + b) (leb→le (a + b) 1023 t)) h.size l.size
          (ones (2 ^ a * 2 ^ b) (2 ^ (a + b)) (le_of_eq (sym (pow-add 2 a b))));
    }

pub least-mul : {x y : Float} {i j : ℕ} → Least x i → Least y j → T (leb (i + j) 1074) → Least (mul binary64 x y) (i + j)
least-mul {x} {y} {i} {j} h l t =
    record {
      reach = mul-reach binary64 x y 1 (2 ^ i) 1 (2 ^ j) 1 (2 ^ (i + j)) (pow_pos i) (pow_pos j) (pow_pos (i + j)) (lit< tt) (lit< tt) (holds-down (i + j) (leb→le (i + j) 1074 t)) h.reach
          l.reach (le_of_eq (ap (λ (z : ℕ). 1 * z) (sym (pow-add 2 i j))));
    }

pub upto-div : {x y : Float} {a j : ℕ} → Upto x a → Least y j → T (leb (a + j) 1023) → Upto (div binary64 x y) (a + j)
upto-div {x} {y} {a} {j} h l t =
    record {
      size = div-size binary64 x y (2 ^ a) 1 1 (2 ^ j) (2 ^ (a + j)) 1 (lit< tt) (lit< tt) (lit< tt) (holds-up (a + j) (leb→le (a + j) 1023 t)) h.size l.reach
          (ones (2 ^ a * 2 ^ j) (2 ^ (a + j)) (le_of_eq (sym (pow-add 2 a j))));
    }

pub least-div : {x y : Float} {i b : ℕ} → Least x i → Upto y b → T (leb (i + b) 1074) → Least (div binary64 x y) (i + b)
least-div {x} {y} {i} {b} h l t =
    record {
      reach = div-reach binary64 x y 1 (2 ^ i) (2 ^ b) 1 1 (2 ^ (i + b)) (lit< tt) (pow_pos i) (pow_pos b) (lit< tt) (pow_pos (i + b)) (holds-down (i + b) (leb→le (i + b) 1074 t)) h.reach
          l.size (le_of_eq (ap (λ (z : ℕ). 1 * z) (sym (pow-add 2 i b))));
    }

-- ---- a whole number, rounded

pub upto-int : (k : ℕ) (z : ℤ) → nat_abs z ≤ 2 ^ k → T (leb k 1023) → Upto (of_int binary64 z) k
unfolding of_int
upto-int k (pos n) h t = record { size = size-round binary64 false n 1 (2 ^ k) 1 (lit< tt) (lit< tt) (holds-up k (leb→le k 1023 t)) (ones n (2 ^ k) h) }
upto-int k (negsuc n) h t = record { size = size-round binary64 true (suc n) 1 (2 ^ k) 1 (lit< tt) (lit< tt) (holds-up k (leb→le k 1023 t)) (ones (suc n) (2 ^ k) h) }

pub least-int : (z : ℤ) → 0 < nat_abs z → Least (of_int binary64 z) 0
unfolding of_int
least-int (pos n) h = record { reach = reach-round binary64 false n 1 1 1 (lit< tt) (lit< tt) (holds-down 0 zero-le) (ones 1 n h) }
least-int (negsuc n) h = record { reach = reach-round binary64 true (suc n) 1 1 1 (lit< tt) (lit< tt) (holds-down 0 zero-le) (ones 1 (suc n) h) }

-- ---- a sum of many terms

one_more : (n p : ℕ) → n * p + p ≡ suc n * p
one_more n p = sym (add-mul n 1 p ∙ ap (λ (z : ℕ). n * p + z) (one-mul p)) ∙ ap (λ (z : ℕ). z * p) (next n)
  where
    next : (n : ℕ) → n + 1 ≡ suc n
    next n = omega arith

pub many-add : {x y : Float} {n k : ℕ} → Many x n k → Upto y k → suc n < 2 ^ 53 → T (leb k 971) → Many (add binary64 x y) (suc n) k
many-add {x} {y} {n} {k} h l s t =
    record {
      size = add-size binary64 x y (n * 2 ^ k) (2 ^ k) 1 (suc n * 2 ^ k) 1 (lit< tt) (lit< tt) (holds-many (suc n) k s (leb→le k 971 t)) h.size l.size
          (ones (n * 2 ^ k + 2 ^ k) (suc n * 2 ^ k) (le_of_eq (one_more n (2 ^ k))));
    }

-- ---- numbers, an infinity among them
size_number : (x : Float) (n d : ℕ) → Size x n d → Number x
size_number nan n d h = h
size_number (inf s) n d h = tt
size_number (fin s m e) n d h = tt

pub upto-number : {x : Float} {k : ℕ} → Upto x k → Number x
upto-number {x} {k} h = size_number x (2 ^ k) 1 h.size

pub many_more : {x : Float} {n k : ℕ} (p : ℕ) → Many x n k → n ≤ p → Many x p k
many_more {x} {n} {k} p h l = record { size = size-more x (n * 2 ^ k) (p * 2 ^ k) 1 (mul-le-mul_right (2 ^ k) l) h.size }
