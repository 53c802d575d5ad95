-- The library's `abs` and `round` are IEEE 754-2019's: from 2 ^ 52 on every value is whole.
use Rattle.std.proofs.Common.{◌≡◌, ℕ, zero, suc, ◌+◌, ◌*◌, ◌/◌, ◌%◌, ◌^◌, ◌<◌, ◌≤◌, Bool, true, false, cond, ◌&&◌, T, eqb, ltb, leb, ℤ, pos, negsuc, sym, refl, ap, ◌∙◌, subst, add_comm, zero-lt-suc, mul_assoc, mul-one, zero-mul, arith, ltb→lt, ltb-false, pow_pos, pow-add, shl_lt}
use native.Mathlib.Nat.{pow-succ'}
use lib.Ieee.{Float, nan, inf, fin, Format, binary64, prec, emax, low, up, down, round, fits}
use lib.Ieee.Fits.{round-fits}
use lib.Ieee.Back.{whole_unique}
use lib.Ieee.Exact.{HasValue, round_exact}
use Rattle.std.specs.Float.{float_with_sign, float_round, round_with}
use Rattle.float.specs.Operations.{abs, round_to_integral_ties_to_away}

pub abs-is : (x : Float) → float_with_sign false x ≡ abs x
unfolding float_with_sign abs
abs-is nan = refl
abs-is (inf s) = refl
abs-is (fin s m e) = refl

-- ---- what `fits` says of a number that is not 0
parts : (a b c d : Bool) → T (a && b && c && d) → T b × T d
parts true true true true t = (tt, tt)
parts true true true false t = absurd t
parts true true false d t = absurd t
parts true false c d t = absurd t
parts false b c d t = absurd t

module _ (f : Format) (s : Bool) (m : ℕ) (e : ℤ) (t : T (fits f (fin s (suc m) e))) where
  both : T (ltb (suc m) (2 ^ prec f)) × T (ltb (suc m * up e) (2 ^ suc (emax f) * down e))
  unfolding fits
  both = parts (eqb (suc m % 2) 1) (ltb (suc m) (2 ^ prec f)) (leb (down e) (2 ^ low f)) (ltb (suc m * up e) (2 ^ suc (emax f) * down e)) t

  few-digits : suc m < 2 ^ prec f
  few-digits = ltb→lt (suc m) (2 ^ prec f) both.0

  not-large : suc m * up e < 2 ^ suc (emax f) * down e
  not-large = ltb→lt (suc m * up e) (2 ^ suc (emax f) * down e) both.1

-- ---- a whole number is itself, rounded
scaled : (m k l : ℕ) → m * 2 ^ (k + l) ≡ m * 2 ^ k * 2 ^ l
scaled m k l = ap (λ (x : ℕ). m * x) (pow-add 2 k l) ∙ sym (mul_assoc m (2 ^ k) (2 ^ l))

whole-value : (s : Bool) (m k : ℕ) → T (fits binary64 (fin s m (pos k))) → HasValue (round binary64 s (m * 2 ^ k) 1) s (m * 2 ^ k) 1
whole-value s zero k t =
    round_exact binary64 s (zero * 2 ^ k) 1 0 0 (zero-lt-suc 0) (pow_pos (prec binary64)) (pow_pos (low binary64 + suc (emax binary64)))
    (ap (λ (x : ℕ). x * 2 ^ low binary64) (zero-mul (2 ^ k)) ∙ zero-mul (2 ^ low binary64))
whole-value s (suc m) k t =
    round_exact binary64 s (suc m * 2 ^ k) 1 (suc m) (k + low binary64) (zero-lt-suc 0) (few-digits binary64 s m (pos k) t)
    (subst (λ (x : ℕ). x < 2 ^ (low binary64 + suc (emax binary64))) (sym (scaled (suc m) k (low binary64)))
    (subst (λ (x : ℕ). suc m * 2 ^ k * 2 ^ low binary64 < 2 ^ x) (add_comm (suc (emax binary64)) (low binary64))
    (shl_lt (suc (emax binary64)) (low binary64) (subst (λ (x : ℕ). suc m * 2 ^ k < x) (mul-one (2 ^ suc (emax binary64))) (not-large binary64 s m (pos k) t)))))
    (sym (scaled (suc m) k (low binary64)) ∙ sym (mul-one (suc m * 2 ^ (k + low binary64))))

itself : (s : Bool) (m k : ℕ) → T (fits binary64 (fin s m (pos k))) → round binary64 s (m * 2 ^ k) 1 ≡ fin s m (pos k)
itself s m k t =
    whole_unique binary64 (round binary64 s (m * 2 ^ k) 1) (fin s m (pos k)) s (m * 2 ^ k) (round-fits binary64 s (m * 2 ^ k) 1) t (whole-value s m k t) (refl, refl)

-- ---- a number with a fraction is below 2 ^ 52
fraction-small : (s : Bool) (m k : ℕ) → T (fits binary64 (fin s m (negsuc k))) → ltb (m * 1) (2 ^ 52 * 2 ^ suc k) ≡ false → ⊥
fraction-small s zero k t h =
    let l = ltb-false (zero * 1) (2 ^ 52 * 2 ^ suc k) h in
    let p = pow_pos (suc k) in
    none (2 ^ suc k) p l
  where
    none : (p : ℕ) → 0 < p → 2 ^ 52 * p ≤ zero * 1 → ⊥
    none p h l = omega arith
fraction-small s (suc m) k t h = none (suc m) (2 ^ k) (pow_pos k) (few-digits binary64 s m (negsuc k) t) (subst (λ (x : ℕ). 2 ^ 52 * x ≤ suc m * 1) (pow-succ' 2 k) (ltb-false (suc m * 1) (2 ^ 52 * 2 ^ suc k) h))
  where
    none : (m p : ℕ) → 0 < p → m < 2 ^ 53 → 2 ^ 52 * (2 * p) ≤ m * 1 → ⊥
    none m p h k l = omega arith

-- ---- `round`
round-size : (s : Bool) (m : ℕ) (e : ℤ) → float_round binary64 (fin s m e) ≡ round binary64 s ((2 * (m * up e) + down e) / (2 * down e)) 1
unfolding round_with
round-size false m e = refl
round-size true m e = refl

large : (s : Bool) (m : ℕ) (e : ℤ) → T (fits binary64 (fin s m e)) → ltb (m * up e) (2 ^ 52 * down e) ≡ false
    → round binary64 s ((2 * (m * up e) + down e) / (2 * down e)) 1 ≡ fin s m e
large s m (pos k) t h = ap (λ (n : ℕ). round binary64 s n 1) (whole (m * 2 ^ k)) ∙ itself s m k t
  where
    whole : (a : ℕ) → (2 * a + 1) / (2 * 1) ≡ a
    whole a = omega arith
large s m (negsuc k) t h = absurd (fraction-small s m k t h)

by-size : (s : Bool) (m : ℕ) (e : ℤ) (b : Bool) → T (fits binary64 (fin s m e)) → ltb (m * up e) (2 ^ 52 * down e) ≡ b
    → round binary64 s ((2 * (m * up e) + down e) / (2 * down e)) 1 ≡ cond b (round binary64 s ((2 * (m * up e) + down e) / (2 * down e)) 1) (fin s m e)
by-size s m e true t h = refl
by-size s m e false t h = large s m e t h

pub round-is : (x : Float) → T (fits binary64 x) → float_round binary64 x ≡ round_to_integral_ties_to_away x
unfolding round_with round_to_integral_ties_to_away
round-is nan t = refl
round-is (inf s) t = refl
round-is (fin s m e) t = round-size s m e ∙ by-size s m e (ltb (m * up e) (2 ^ 52 * down e)) t refl
