-- Exported for bounds of the coefficients. Values with no minus sign: the tests on them, and the larger and the smaller of two.
use Rattle.std.proofs.Common.{◌≡◌, ℕ, zero, suc, ◌*◌, ◌<◌, ◌≤◌, Bool, true, false, cond, ◌&&◌, ◌||◌, T, eqb, ltb, ℤ, pos, negsuc, nat_abs, sym, refl, ap, ◌∙◌, subst, inl, inr, true≢false, zero-le, le_trans, le_of_eq, lt_of_lt_of_le, lt_of_le_of_lt, le_of_lt, mul-le-mul_right, zero-lt-suc, mul_comm, eq-or-lt_of_le, mul-lt-mul_of_pos_right, mul-pos, zero-mul, arith, lit<, eqb→eq, ltb-true, le-ltb, lt-ltb}
use lib.Dec.{eqb_refl, eqb-suc-zero}
use lib.Ieee.{Float, nan, inf, fin, Format, binary64, up, down, mul, div, lt, eq, le, ne, round, of_int}
use lib.Ieee.Fits.{up_pos, down_pos}
use lib.Ieee.Compare.{differs_from_itself}
use lib.Ieee.Positive.{through}
use Rattle.float.specs.Operations.{abs, negative, is_less, maximum_number, minimum_number}
use Rattle.float.proofs.Sizes.{Size, Reach, Plus, Number, nought, holds-zero, size-round, round-plus, plus-number, some-digit}

pub plus-abs : (x : Float) → Number x → Plus (abs x)
unfolding abs
plus-abs nan h = h
plus-abs (inf s) h = refl
plus-abs (fin s m e) h = refl

pub plus-mul : (f : Format) (x y : Float) (n d n' d' : ℕ) → Size x n d → Size y n' d' → Plus x → Plus y → Plus (mul f x y)
unfolding mul
plus-mul f nan y n d n' d' h k p q = absurd h
plus-mul f (inf s) y n d n' d' h k p q = absurd h
plus-mul f (fin s m e) nan n d n' d' h k p q = absurd k
plus-mul f (fin s m e) (inf t) n d n' d' h k p q = absurd k
plus-mul f (fin true m e) (fin t m' e') n d n' d' h k p q = absurd (true≢false p)
plus-mul f (fin false m e) (fin true m' e') n d n' d' h k p q = absurd (true≢false q)
plus-mul f (fin false m e) (fin false m' e') n d n' d' h k p q = round-plus f (m * up e * (m' * up e')) (down e * down e')

pub plus-div : (f : Format) (x y : Float) (n d b g : ℕ) → 0 < b → Size x n d → Reach y b g → Plus x → Plus y → Plus (div f x y)
unfolding div
plus-div f nan y n d b g B h k p q = absurd h
plus-div f (inf s) y n d b g B h k p q = absurd h
plus-div f (fin s m e) nan n d b g B h k p q = absurd k
plus-div f (fin true m e) (inf t) n d b g B h k p q = absurd (true≢false p)
plus-div f (fin false m e) (inf true) n d b g B h k p q = absurd (true≢false q)
plus-div f (fin false m e) (inf false) n d b g B h k p q = refl
plus-div f (fin true m e) (fin t m' e') n d b g B h k p q = absurd (true≢false p)
plus-div f (fin false m e) (fin true m' e') n d b g B h k p q = absurd (true≢false q)
plus-div f (fin false m e) (fin false m' e') n d b g B h k p q =
    subst (λ (w : Bool). Plus (cond w (cond (eqb m 0) nan (inf false)) (round f false (m * up e * down e') (m' * up e' * down e))))
    (sym (some-digit m' (up e') g (b * down e') (mul-pos B (down_pos e')) k))
    (round-plus f (m * up e * down e') (m' * up e' * down e))

pub plus-pick : (b : Bool) (x y : Float) → Plus x → Plus y → Plus (cond b x y)
plus-pick true x y p q = p
plus-pick false x y p q = q

-- ---- the tests

or-true : (a b : Bool) → b ≡ true → (a || b) ≡ true
or-true true b e = refl
or-true false b e = e

yes_le : (a b : ℕ) → a ≤ b → (ltb a b || (eqb a b && true)) ≡ true
yes_le a b h = elim (eq-or-lt_of_le h) [
  | inl p ↦ or-true (ltb a b) (eqb a b && true) (both (eqb a b) (subst (λ (x : ℕ). T (eqb a x)) p (eqb_refl a)))
  | inr q ↦ ap (λ (z : Bool). z || (eqb a b && true)) (lt-ltb a b q)
]
  where
    both : (x : Bool) → T x → (x && true) ≡ true
    both true t = refl
    both false t = absurd t

not-le : (a b : ℕ) → b < a → (ltb a b || (eqb a b && true)) ≡ false
not-le a b h = ap (λ (z : Bool). z || (eqb a b && true)) (le-ltb a b (le_of_lt h)) ∙ ap (λ (z : Bool). z && true) (apart (eqb a b) refl)
  where
    clash : (a b : ℕ) → b < a → a ≡ b → ⊥
    clash a b h e = omega arith

    apart : (x : Bool) → eqb a b ≡ x → eqb a b ≡ false
    apart true e = absurd (clash a b h (eqb→eq a b (subst T (sym e) tt)))
    apart false e = e

-- what has the size 0 is at most anything with no minus sign
pub zero-first : (x y : Float) → Size x 0 1 → Plus x → Plus y → le x y ≡ true
unfolding le lt eq
zero-first nan y h p q = absurd h
zero-first (inf s) y h p q = absurd h
zero-first (fin true m e) y h p q = absurd (true≢false p)
zero-first (fin false m e) nan h p q = absurd q
zero-first (fin false m e) (inf true) h p q = absurd (true≢false q)
zero-first (fin false m e) (inf false) h p q = refl
zero-first (fin false m e) (fin true n d) h p q = absurd (true≢false q)
zero-first (fin false m e) (fin false n d) h p q =
    yes_le (m * up e * down d) (n * up d * down e) (le_trans (le_of_eq (ap (λ (z : ℕ). z * down d) (none (m * up e) (down e) h) ∙ zero-mul (down d))) zero-le)
  where
    none : (a b : ℕ) → a * 1 ≤ 0 * b → a ≡ 0
    none a b h = omega arith

-- what is above 0 is not at most what has the size 0
pub above_zero : (x y : Float) (g : ℕ) → Reach x 1 g → Plus x → Size y 0 1 → le x y ≡ false
unfolding le lt eq
above_zero nan y g h p k = absurd h
above_zero (inf true) y g h p k = absurd (true≢false p)
above_zero (inf false) nan g h p k = refl
above_zero (inf false) (inf t) g h p k = absurd k
above_zero (inf false) (fin t n d) g h p k = refl
above_zero (fin true m e) y g h p k = absurd (true≢false p)
above_zero (fin false m e) nan g h p k = refl
above_zero (fin false m e) (inf t) g h p k = absurd k
above_zero (fin false zero e) (fin t n d) g h p k = absurd (true≢false (some-digit 0 (up e) g (1 * down e) (mul-pos (lit< tt) (down_pos e)) h))
above_zero (fin false (suc m) e) (fin true n d) g h p k =
    ap (λ (z : Bool). z && (false || eqb (suc m * up e * down d) 0))
    (other (suc m * up e * down d) (mul-pos (mul-pos (zero-lt-suc m) (up_pos e)) (down_pos d)) (n * up d * down e) (none (n * up d) (down d) (down e) k))
  where
    none : (a b c : ℕ) → a * 1 ≤ 0 * b → a * c ≡ 0
    none a b c h = ap (λ (z : ℕ). z * c) (nil a b h) ∙ zero-mul c
      where
        nil : (a b : ℕ) → a * 1 ≤ 0 * b → a ≡ 0
        nil a b h = omega arith

    other : (a : ℕ) → 0 < a → (b : ℕ) → b ≡ 0 → eqb a b ≡ false
    other zero A b e = absurd (lt_no A)
      where
        lt_no : 0 < 0 → ⊥
        lt_no h = omega arith
    other (suc a) A b e = ap (λ (z : ℕ). eqb (suc a) z) e ∙ eqb-suc-zero a
above_zero (fin false (suc m) e) (fin false n d) g h p k =
    not-le (suc m * up e * down d) (n * up d * down e)
    (lt_of_le_of_lt (le_of_eq (none (n * up d) (down d) (down e) k)) (mul-pos (mul-pos (zero-lt-suc m) (up_pos e)) (down_pos d)))
  where
    none : (a b c : ℕ) → a * 1 ≤ 0 * b → a * c ≡ 0
    none a b c h = ap (λ (z : ℕ). z * c) (nil a b h) ∙ zero-mul c
      where
        nil : (a b : ℕ) → a * 1 ≤ 0 * b → a ≡ 0
        nil a b h = omega arith

-- a size below 1 / 2 ^ 34, or at it, is below 1
pub small-first : (x y : Float) → Size x 1 17179869184 → Plus x → Reach y 1 1 → Plus y → lt x y ≡ true
unfolding lt
small-first nan y h p k q = absurd h
small-first (inf s) y h p k q = absurd h
small-first (fin true m e) y h p k q = absurd (true≢false p)
small-first (fin false m e) nan h p k q = absurd k
small-first (fin false m e) (inf true) h p k q = absurd (true≢false q)
small-first (fin false m e) (inf false) h p k q = refl
small-first (fin false m e) (fin true n d) h p k q = absurd (true≢false q)
small-first (fin false m e) (fin false n d) h p k q =
    lt-ltb (m * up e * down d) (n * up d * down e)
    (lt_of_lt_of_le (mul-lt-mul_of_pos_right (under_one (m * up e) (down e) (down_pos e) h) (down_pos d))
    (le_trans (le_of_eq (mul_comm (down e) (down d))) (mul-le-mul_right (down e) (at (n * up d) (down d) k))))
  where
    under_one : (a b : ℕ) → 0 < b → a * 17179869184 ≤ 1 * b → a < b
    under_one a b B h = omega arith

    at : (a b : ℕ) → 1 * b ≤ a * 1 → b ≤ a
    at a b h = omega arith

-- the larger of two reaches as far
pub lt-reach : (x y : Float) (n g : ℕ) → lt x y ≡ true → Plus x → Plus y → Reach x n g → Reach y n g
unfolding lt
lt-reach nan y n g e p q h = absurd h
lt-reach (inf true) y n g e p q h = absurd (true≢false p)
lt-reach (inf false) nan n g e p q h = absurd q
lt-reach (inf false) (inf t) n g e p q h = tt
lt-reach (inf false) (fin t n' d) n g e p q h = absurd (true≢false (sym e))
lt-reach (fin true m e') y n g e p q h = absurd (true≢false p)
lt-reach (fin false m e') nan n g e p q h = absurd q
lt-reach (fin false m e') (inf t) n g e p q h = tt
lt-reach (fin false m e') (fin true m' d) n g e p q h = absurd (true≢false q)
lt-reach (fin false m e') (fin false m' d) n g e p q h =
    through n (m * up e') (m' * up d) g (down e') (down d) (down_pos e') h (le_of_lt (ltb-true (m * up e' * down d) (m' * up d * down e') e))

is_number : (x : Float) → Number x → ne x x ≡ false
is_number x h = go (ne x x) refl
  where
    go : (b : Bool) → ne x x ≡ b → ne x x ≡ false
    go true e = absurd (subst Number (differs_from_itself x (subst T (sym e) tt)) h)
    go false e = e

plain : (a b : Bool) → (a || (b && false)) ≡ a
plain true b = refl
plain false true = refl
plain false false = refl

-- where x has no minus sign, `less` is `lt`
pub less-plus : (x y : Float) → Plus x → is_less x y ≡ lt x y
unfolding is_less negative
less-plus nan y p = absurd p
less-plus (inf s) y p = rw p (plain (lt (inf false) y) (eq (inf false) y))
less-plus (fin s m e) y p = rw p (plain (lt (fin false m e) y) (eq (fin false m e) y))

-- where y has a minus sign too
pub less-minus : (x y : Float) → negative y ≡ true → is_less x y ≡ lt x y
unfolding is_less
less-minus x y e = rw e (none (lt x y) (eq x y) (negative x))
  where
    none : (a b c : Bool) → (a || (b && (c && false))) ≡ a
    none true b c = refl
    none false true true = refl
    none false true false = refl
    none false false c = refl

pub larger-reach : (x y : Float) (n g : ℕ) → Plus x → Plus y → Reach x n g → Reach (maximum_number x y) n g
unfolding maximum_number
larger-reach x y n g p q h =
    subst (λ (b : Bool). Reach (cond b y (cond (is_less x y) y x)) n g) (sym (is_number x (plus-number x p))) (go (is_less x y) refl)
  where
    go : (b : Bool) → is_less x y ≡ b → Reach (cond b y x) n g
    go true e = lt-reach x y n g (sym (less-plus x y p) ∙ e) p q h
    go false e = h

pub larger-size : (x y : Float) (n g : ℕ) → Size x n g → Size y n g → Size (maximum_number x y) n g
unfolding maximum_number
larger-size x y n g h k = go (ne x x) (is_less x y)
  where
    go : (a b : Bool) → Size (cond a y (cond b y x)) n g
    go true b = k
    go false true = k
    go false false = h

pub larger-plus : (x y : Float) → Plus x → Plus y → Plus (maximum_number x y)
unfolding maximum_number
larger-plus x y h k = plus-pick (ne x x) y (cond (is_less x y) y x) k (plus-pick (is_less x y) y x k h)

pub smaller-plus : (x y : Float) → Plus x → Plus y → Plus (minimum_number x y)
unfolding minimum_number
smaller-plus x y h k = plus-pick (ne x x) y (cond (is_less y x) y x) k (plus-pick (is_less y x) y x k h)

pub smaller-reach : (x y : Float) (n g : ℕ) → Reach x n g → Reach y n g → Reach (minimum_number x y) n g
unfolding minimum_number
smaller-reach x y n g h k = go (ne x x) (is_less y x)
  where
    go : (a b : Bool) → Reach (cond a y (cond b y x)) n g
    go true b = k
    go false true = k
    go false false = h

-- of a number from 1 on and one up to 1 / 2 ^ 34, the smaller is the latter
pub smaller-small : (x y : Float) → Reach x 1 1 → Plus x → Size y 1 17179869184 → Plus y → Size (minimum_number x y) 1 17179869184
unfolding minimum_number
smaller-small x y h p k q = go (ne x x) (is_less y x) refl
  where
    go : (a b : Bool) → is_less y x ≡ b → Size (cond a y (cond b y x)) 1 17179869184
    go true b e = k
    go false true e = k
    go false false e = absurd (true≢false (sym (less-plus y x q ∙ small-first y x k q h p) ∙ e))

-- of 0 and a number from 1 on, the larger is the latter
pub larger-zero : (x : Float) → Reach x 1 1 → Plus x → Reach (maximum_number nought x) 1 1
unfolding maximum_number
larger-zero x h p = go (ne nought nought) (is_less nought x) refl
  where
    go : (a b : Bool) → is_less nought x ≡ b → Reach (cond a x (cond b x nought)) 1 1
    go true b e = h
    go false true e = h
    go false false e = absurd (true≢false (sym (less-plus nought x refl ∙ small-first nought x zero-le refl h p) ∙ e))

-- ---- the whole number 0
pub int-zero : (z : ℤ) → nat_abs z ≡ 0 → Size (of_int binary64 z) 0 1
unfolding of_int
int-zero (pos n) e = subst (λ (k : ℕ). Size (round binary64 false k 1) 0 1) (sym e) (size-round binary64 false 0 1 0 1 (lit< tt) (lit< tt) (holds-zero binary64) zero-le)
int-zero (negsuc n) e = absurd (no-suc n e)
  where
    no-suc : (n : ℕ) → suc n ≡ 0 → ⊥
    no-suc n e = omega arith

pub size-clash : (x : Float) (g : ℕ) → Size x 0 1 → Reach x 1 g → ⊥
size-clash nan g h k = h
size-clash (inf s) g h k = h
size-clash (fin s zero e) g h k = true≢false (some-digit 0 (up e) g (1 * down e) (mul-pos (lit< tt) (down_pos e)) k)
size-clash (fin s (suc m) e) g h k = no (suc m * up e) (down e) (mul-pos (zero-lt-suc m) (up_pos e)) h
  where
    no : (a b : ℕ) → 0 < a → a * 1 ≤ 0 * b → ⊥
    no a b p q = omega arith
