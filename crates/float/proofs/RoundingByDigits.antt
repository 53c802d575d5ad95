-- `round` of a fraction whose divisor is a power of two, from the leading digits of its numerator: the core of the fused multiply-add's proof. Assumes nothing.
use Rattle.std.proofs.Common.{◌≡◌, ℕ, suc, ◌+◌, ◌-◌, ◌*◌, ◌/◌, ◌^◌, ◌<◌, ◌≤◌, Bool, ◌⊎◌, sym, ap, ◌∙◌, inl, inr, le_trans, le_of_eq, lt_of_lt_of_le, mul_assoc, div-lt_iff_lt-mul, eq-zero-or-pos, le_antisymm, mul-pos, lt_of_not-le, le-div_iff_mul-le, not-le_of_lt, arith, pow_pos, pow_mono, pow-add}
use native.Mathlib.Nat.{pow-succ'}
use lib.Ieee.{Format, prec, low, size, units, round}
use lib.Ieee.Digits.{size-lt, size-le}
use lib.Ieee.Fits.{round_is}
use lib.Ieee.Nearest.{closest, closest_same, div_same}
use Rattle.float.specs.inner.Sticky.{Sticky}
use Rattle.float.proofs.StickyRounding.{closest-sticky, at_least}

-- ---- a number's digits
size-gt : (n j : ℕ) → 2 ^ j ≤ n → j < size n
size-gt n j h = lt_of_not-le (λ (g : size n ≤ j). not-le_of_lt (lt_of_lt_of_le (size-lt n) (pow_mono g)) h)

pub size_exact : (n j : ℕ) → 2 ^ j ≤ n → n < 2 ^ suc j → size n ≡ suc j
size_exact n j lo hi = le_antisymm (size-le n (suc j) hi) (size-gt n j lo)

-- g digits are cut off
size-cut : (n j g : ℕ) → 2 ^ j ≤ n → n < 2 ^ suc j → size (n / 2 ^ g) ≡ suc j - g
size-cut n j g lo hi = go (split j g)
  where
    split : (j g : ℕ) → (g ≤ j) ⊎ (suc j ≤ g)
    split j g = elim (eq-zero-or-pos (suc j - g)) [ inl e ↦ inr (a j g e) | inr p ↦ inl (b j g p) ]
      where
        a : (j g : ℕ) → suc j - g ≡ 0 → suc j ≤ g
        a j g e = omega arith

        b : (j g : ℕ) → 0 < suc j - g → g ≤ j
        b j g e = omega arith

    back : (j g : ℕ) → g ≤ j → j - g + g ≡ j
    back j g h = omega arith

    front : (j g : ℕ) → g ≤ j → suc (j - g) ≡ suc j - g
    front j g h = omega arith

    back' : (j g : ℕ) → g ≤ j → suc (j - g) + g ≡ suc j
    back' j g h = omega arith

    none : (z j g : ℕ) → z ≤ 0 → suc j ≤ g → z ≡ suc j - g
    none z j g h k = omega arith

    go : (g ≤ j) ⊎ (suc j ≤ g) → size (n / 2 ^ g) ≡ suc j - g
    go (inl h) =
        size_exact (n / 2 ^ g) (j - g)
        ((le-div_iff_mul-le (pow_pos g)).1 (le_trans (le_of_eq (sym (pow-add 2 (j - g) g) ∙ ap (λ (z : ℕ). 2 ^ z) (back j g h))) lo))
        ((div-lt_iff_lt-mul (pow_pos g)).1 (lt_of_lt_of_le hi (le_of_eq (sym (sym (pow-add 2 (suc (j - g)) g) ∙ ap (λ (z : ℕ). 2 ^ z) (back' j g h))))))
        ∙ front j g h
    go (inr h) = none (size (n / 2 ^ g)) j g (size-le (n / 2 ^ g) 0 ((div-lt_iff_lt-mul (pow_pos g)).1 (lt_of_lt_of_le hi (le_trans (pow_mono h) (le_of_eq (sym (one (2 ^ g)))))))) h
      where
        one : (z : ℕ) → 1 * z ≡ z
        one z = omega arith

-- ---- `round`, where the divisor is 2 ^ (low + g): in units of the format's smallest value the fraction is m / 2 ^ g
pub round-cut : (f : Format) (s : Bool) (m g k : ℕ) → size (m / 2 ^ g) - prec f ≡ k → round f s m (2 ^ (low f + g)) ≡ units f s (closest m (2 ^ g * 2 ^ k)) k
round-cut f s m g k e =
    let l = 2 ^ low f in
    let d : 2 ^ (low f + g) ≡ l * 2 ^ g = pow-add 2 (low f) g in
    let q : m * l / (l * 2 ^ g) ≡ m / 2 ^ g = div_same (m * l) (l * 2 ^ g) m (2 ^ g) (mul-pos (pow_pos (low f)) (pow_pos g)) (pow_pos g) (mul_assoc m l (2 ^ g)) in
    let c : closest (m * l) (l * 2 ^ g * 2 ^ k) ≡ closest m (2 ^ g * 2 ^ k) =
    closest_same (m * l) (l * 2 ^ g * 2 ^ k) m (2 ^ g * 2 ^ k) (mul-pos (mul-pos (pow_pos (low f)) (pow_pos g)) (pow_pos k)) (mul-pos (pow_pos g) (pow_pos k))
    (mul_assoc m l (2 ^ g * 2 ^ k) ∙ ap (λ (z : ℕ). m * z) (sym (mul_assoc l (2 ^ g) (2 ^ k)))) in
    ap (λ (z : ℕ). round f s m z) d
    ∙ round_is f s m (l * 2 ^ g)
    ∙ ap (λ (z : ℕ). units f s (closest (m * l) (l * 2 ^ g * 2 ^ z)) z) (ap (λ (z : ℕ). size z - prec f) q ∙ e)
    ∙ ap (λ (z : ℕ). units f s z k) c

-- ---- `round` from a number w of prec + c digits, c at least 2, that stands for the numerator m over 2 ^ x
module _ (f : Format) (s : Bool) (m w x g b : ℕ) (j : Sticky m w (2 ^ x)) (lo : 2 ^ suc (prec f + b) ≤ w) (hi : w < 2 ^ suc (suc (prec f + b))) where
  -- c is 2 + b
  twice : (z : ℕ) → 2 ^ suc z ≡ 2 * 2 ^ z
  twice z = pow-succ' 2 z

  m-lo : 2 ^ (suc (prec f + b) + x) ≤ m
  m-lo =
      let p = 2 ^ (prec f + b) in
      le_trans (le_of_eq (pow-add 2 (suc (prec f + b)) x ∙ ap (λ (z : ℕ). z * 2 ^ x) (twice (prec f + b))))
      (at_least m w (2 ^ x) 1 (pow_pos x) (pow_pos 0) j p (le_trans (le_of_eq (sym (twice (prec f + b)))) lo))

  m-hi : m < 2 ^ suc (suc (prec f + b) + x)
  m-hi =
      lt_of_lt_of_le (j.under (2 ^ suc (prec f + b)) (lt_of_lt_of_le hi (le_of_eq (twice (suc (prec f + b))))))
      (le_of_eq (ap (λ (z : ℕ). z * 2 ^ x) (sym (twice (suc (prec f + b)))) ∙ sym (pow-add 2 (suc (suc (prec f + b))) x) ∙ ap (λ (z : ℕ). 2 ^ z) (tidy (prec f + b) x)))
    where
      tidy : (a x : ℕ) → suc (suc a) + x ≡ suc (suc a + x)
      tidy a x = omega arith

  m-size : (k : ℕ) → suc (suc (prec f + b) + x) - g - prec f ≡ k → size (m / 2 ^ g) - prec f ≡ k
  m-size k e = ap (λ (z : ℕ). z - prec f) (size-cut m (suc (prec f + b) + x) g m-lo m-hi) ∙ e

  four : (i : ℕ) → 2 ^ suc (suc i) ≡ 2 * (2 * 2 ^ i)
  four i = twice (suc i) ∙ ap (λ (z : ℕ). 2 * z) (twice i)

  -- m is rounded to a multiple of 2 ^ (g + k), which is 2 ^ (2 + i) times 2 ^ x
  at : (k i : ℕ) → g + k ≡ suc (suc i) + x → closest m (2 ^ g * 2 ^ k) ≡ closest w (2 ^ suc (suc i))
  at k i e =
      ap (closest m) (sym (pow-add 2 g k) ∙ ap (λ (z : ℕ). 2 ^ z) e ∙ pow-add 2 (suc (suc i)) x ∙ ap (λ (z : ℕ). z * 2 ^ x) (four i))
      ∙ closest-sticky m w (2 ^ x) (2 ^ i) (pow_pos x) (pow_pos i) j
      ∙ ap (closest w) (sym (four i))

  -- a normal result: c digits of w are dropped
  pub round-normal : g ≤ suc (suc b) + x → round f s m (2 ^ (low f + g)) ≡ units f s (closest w (2 ^ suc (suc b))) (suc (suc b) + x - g)
  round-normal h =
      let k = suc (suc b) + x - g in
      round-cut f s m g k (m-size k (count (prec f) b x g h)) ∙ ap (λ (z : ℕ). units f s z k) (at k b (fill g (suc (suc b) + x) h))
    where
      count : (p b x g : ℕ) → g ≤ suc (suc b) + x → suc (suc (p + b) + x) - g - p ≡ suc (suc b) + x - g
      count p b x g h = omega arith

      fill : (g y : ℕ) → g ≤ y → g + (y - g) ≡ y
      fill g y h = omega arith

  -- a subnormal one: as many as reach up to the format's smallest value
  pub round-low : (i : ℕ) → suc (suc i) + x ≡ g → b ≤ i → round f s m (2 ^ (low f + g)) ≡ units f s (closest w (2 ^ suc (suc i))) 0
  round-low i e h =
      round-cut f s m g 0 (m-size 0 (count (prec f) b x g i e h)) ∙ ap (λ (z : ℕ). units f s z 0) (at 0 i (fill g (suc (suc i) + x) e))
    where
      count : (p b x g i : ℕ) → suc (suc i) + x ≡ g → b ≤ i → suc (suc (p + b) + x) - g - p ≡ 0
      count p b x g i e h = omega arith

      fill : (g y : ℕ) → y ≡ g → g + 0 ≡ y
      fill g y e = omega arith
