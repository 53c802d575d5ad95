-- Exported for bounds of the coefficients: how large a float is, and how small, by fractions; and that rounding respects both where the
-- fraction is a value of the format. Assumes nothing.
use Rattle.std.proofs.Common.{◌≡◌, ℕ, zero, suc, ◌+◌, ◌-◌, ◌*◌, ◌^◌, ◌<◌, ◌≤◌, Bool, true, false, cond, not, ◌&&◌, ◌||◌, T, eqb, ltb, ◌⊎◌, ℤ, pos, negsuc, ◌+ℤ◌, sym, refl, ap, ◌∙◌, subst, ap₂, inl, inr, true≢false, zero-le, le_trans, le_of_eq, le_refl, lt_of_lt_of_le, lt_of_le_of_lt, le_of_lt, add-le-add, lt_irrefl, mul-le-mul_right, zero-lt-suc, mul_assoc, mul_comm, add-mul, mul-le-mul, mul-pos, one-mul, lt_of_not-le, mul-zero, zero-mul, mul-one, mul_right_comm, not-le_of_lt, le_of_mul-le-mul_right, mul_left_comm, arith, lit<, eqb→eq, ltb→lt, lt→ltb, nltb→le, pow_pos, pow_mono, pow-add, shl_lt}
use native.Mathlib.Decide.{dec_le}
use native.Mathlib.Nat.{mul-mul-mul_comm, mul-sub}
use mathlib.Core.Bool.{beq}
use lib.IntN.{sub_ℕ}
use lib.Dec.{eqb-suc-zero}
use lib.Pow.{pow-lt}
use lib.Ieee.{Float, nan, inf, fin, Format, binary64, prec, emax, low, up, down, unlike, odd, units, round, neg, sum, add, mul, div, lt, le}
use lib.Ieee.Fits.{up_pos, down_pos, and_l, round_is}
use lib.Ieee.Exact.{HasValue, round_exact}
use lib.Ieee.Order.{round_mono, drop, kept}
use lib.Ieee.Positive.{through}
use Rattle.float.specs.FusedMultiplyAdd.{times, fused_multiply_add}

-- |x| is at most n / d; so x is finite
abbrev pub Size : Float → ℕ → ℕ → Type 0
Size nan n d = ⊥
Size (inf s) n d = ⊥
Size (fin s m e) n d = m * up e * d ≤ n * down e

-- |x| is at least n / d, an infinity's too
abbrev pub Reach : Float → ℕ → ℕ → Type 0
Reach nan n d = ⊥
Reach (inf s) n d = Unit {0}
Reach (fin s m e) n d = n * down e ≤ m * up e * d

-- no NaN, and no minus sign
abbrev pub Plus : Float → Type 0
Plus nan = ⊥
Plus (inf s) = s ≡ false
Plus (fin s m e) = s ≡ false

-- ---- signs

pub size-neg : (x : Float) (n d : ℕ) → Size x n d → Size (neg x) n d
unfolding neg
size-neg nan n d h = h
size-neg (inf s) n d h = h
size-neg (fin s m e) n d h = h

pub reach-neg : (x : Float) (n d : ℕ) → Reach x n d → Reach (neg x) n d
unfolding neg
reach-neg nan n d h = h
reach-neg (inf s) n d h = h
reach-neg (fin s m e) n d h = h

odd-neg : (d q k l : ℕ) → odd d true q k l ≡ neg (odd d false q k l)
unfolding odd neg
odd-neg d zero k l = refl
odd-neg d (suc q) k l = refl

odd-plus : (d q k l : ℕ) → Plus (odd d false q k l)
unfolding odd
odd-plus d zero k l = refl
odd-plus d (suc q) k l = refl

units-neg : (f : Format) (q k : ℕ) → units f true q k ≡ neg (units f false q k)
unfolding units neg
units-neg f q k = go (ltb (q * 2 ^ k) (2 ^ (low f + suc (emax f))))
  where
    go : (b : Bool) → cond b (odd (suc (prec f)) true q k (low f)) (inf true) ≡ neg (cond b (odd (suc (prec f)) false q k (low f)) (inf false))
    go true = odd-neg (suc (prec f)) q k (low f)
    go false = unfold neg in refl

units-plus : (f : Format) (q k : ℕ) → Plus (units f false q k)
unfolding units
units-plus f q k = go (ltb (q * 2 ^ k) (2 ^ (low f + suc (emax f))))
  where
    go : (b : Bool) → Plus (cond b (odd (suc (prec f)) false q k (low f)) (inf false))
    go true = odd-plus (suc (prec f)) q k (low f)
    go false = refl

pub round-neg : (f : Format) (a c : ℕ) → round f true a c ≡ neg (round f false a c)
round-neg f a c =
    let q = kept (prec f) (a * 2 ^ low f) c in
    let k = drop (prec f) (a * 2 ^ low f) c in
    round_is f true a c ∙ units-neg f q k ∙ ap neg (sym (round_is f false a c))

pub round-plus : (f : Format) (a c : ℕ) → Plus (round f false a c)
round-plus f a c = subst Plus (sym (round_is f false a c)) (units-plus f (kept (prec f) (a * 2 ^ low f) c) (drop (prec f) (a * 2 ^ low f) c))

-- ---- rounding against a value of the format

or_split : (a b : Bool) → T (a || b) → T a ⊎ T b
or_split true b t = inl tt
or_split false b t = inr t

lt-or-eq : (a b : ℕ) → T (ltb a b || (eqb a b && true)) → a ≤ b
lt-or-eq a b t = elim (or_split (ltb a b) (eqb a b && true) t) [ inl u ↦ le_of_lt (ltb→lt a b u) | inr u ↦ le_of_eq (eqb→eq a b (and_l (eqb a b) true u)) ]

le-size : (x y : Float) (n d : ℕ) → Plus x → T (le x y) → HasValue y false n d → Size x n d
unfolding le
le-size nan y n d p h v = p
le-size (inf true) y n d p h v = absurd (true≢false p)
le-size (inf false) nan n d p h v = absurd h
le-size (inf false) (inf t) n d p h v = v
le-size (inf false) (fin t m' e') n d p h v = absurd h
le-size (fin true m e) y n d p h v = absurd (true≢false p)
le-size (fin false m e) nan n d p h v = absurd v
le-size (fin false m e) (inf t) n d p h v = absurd v
le-size (fin false m e) (fin true m' e') n d p h v = absurd (true≢false v.0)
le-size (fin false m e) (fin false m' e') n d p h v =
    through (m * up e) (m' * up e') n (down e) (down e') d (down_pos e') (lt-or-eq (m * up e * down e') (m' * up e' * down e) h) (le_of_eq v.1)

le-reach : (y x : Float) (n d : ℕ) → Plus x → T (le y x) → HasValue y false n d → Reach x n d
unfolding le
le-reach y nan n d p h v = p
le-reach y (inf s) n d p h v = tt
le-reach y (fin true m e) n d p h v = absurd (true≢false p)
le-reach nan (fin false m e) n d p h v = absurd v
le-reach (inf t) (fin false m e) n d p h v = absurd v
le-reach (fin true m' e') (fin false m e) n d p h v = absurd (true≢false v.0)
le-reach (fin false m' e') (fin false m e) n d p h v =
    through n (m' * up e') (m * up e) d (down e') (down e) (down_pos e') (le_of_eq (sym v.1)) (lt-or-eq (m' * up e' * down e) (m * up e * down e') h)

-- n / d is a value of the format
abbrev pub Holds : Format → ℕ → ℕ → Type 0
Holds f n d = HasValue (round f false n d) false n d

size-round⁺ : (f : Format) (a c n d : ℕ) → 0 < c → 0 < d → Holds f n d → a * d ≤ n * c → Size (round f false a c) n d
size-round⁺ f a c n d C D v h = le-size (round f false a c) (round f false n d) n d (round-plus f a c) (round_mono f a c n d C D h) v

pub size-round : (f : Format) (s : Bool) (a c n d : ℕ) → 0 < c → 0 < d → Holds f n d → a * d ≤ n * c → Size (round f s a c) n d
size-round f false a c n d C D v h = size-round⁺ f a c n d C D v h
size-round f true a c n d C D v h =
    subst (λ (x : Float). Size x n d) (sym (round-neg f a c)) (size-neg (round f false a c) n d (size-round⁺ f a c n d C D v h))

reach-round⁺ : (f : Format) (a c n d : ℕ) → 0 < c → 0 < d → Holds f n d → n * c ≤ a * d → Reach (round f false a c) n d
reach-round⁺ f a c n d C D v h = le-reach (round f false n d) (round f false a c) n d (round-plus f a c) (round_mono f n d a c D C h) v

pub reach-round : (f : Format) (s : Bool) (a c n d : ℕ) → 0 < c → 0 < d → Holds f n d → n * c ≤ a * d → Reach (round f s a c) n d
reach-round f false a c n d C D v h = reach-round⁺ f a c n d C D v h
reach-round f true a c n d C D v h =
    subst (λ (x : Float). Reach x n d) (sym (round-neg f a c)) (reach-neg (round f false a c) n d (reach-round⁺ f a c n d C D v h))

-- what reaches a number above 0 is not 0
pub some-digit : (m u c k : ℕ) → 0 < k → k ≤ m * u * c → eqb m 0 ≡ false
some-digit zero u c k K h = absurd (none (le_trans h (le_of_eq (ap (λ (z : ℕ). z * c) (zero-mul u) ∙ zero-mul c))))
  where
    none : k ≤ 0 → ⊥
    none q = omega arith
some-digit (suc m) u c k K h = eqb-suc-zero m

-- ---- values of binary64

pub holds-up : (k : ℕ) → k ≤ 1023 → Holds binary64 (2 ^ k) 1
holds-up k h =
    round_exact binary64 false (2 ^ k) 1 1 (k + 1074) (lit< tt) (lit< tt)
    (lt_of_le_of_lt (le_of_eq (one-mul (2 ^ (k + 1074)))) (pow-lt (inside k h)))
    (sym (pow-add 2 k 1074) ∙ sym (mul-one (1 * 2 ^ (k + 1074)) ∙ one-mul (2 ^ (k + 1074))))
  where
    inside : (k : ℕ) → k ≤ 1023 → k + 1074 < 1074 + 1024
    inside k h = omega arith

pub holds-down : (j : ℕ) → j ≤ 1074 → Holds binary64 1 (2 ^ j)
holds-down j h =
    round_exact binary64 false 1 (2 ^ j) 1 (1074 - j) (pow_pos j) (lit< tt)
    (lt_of_le_of_lt (le_of_eq (one-mul (2 ^ (1074 - j)))) (pow-lt (inside j)))
    (one-mul (2 ^ 1074) ∙ ap (λ (x : ℕ). 2 ^ x) (fill j h) ∙ pow-add 2 (1074 - j) j ∙ ap (λ (x : ℕ). x * 2 ^ j) (sym (one-mul (2 ^ (1074 - j)))))
  where
    inside : (j : ℕ) → 1074 - j < 1074 + 1024
    inside j = omega arith

    fill : (j : ℕ) → j ≤ 1074 → 1074 ≡ 1074 - j + j
    fill j h = omega arith

-- q * 2 ^ k, of 53 digits and k zeros
pub holds-many : (q k : ℕ) → q < 2 ^ 53 → k ≤ 971 → Holds binary64 (q * 2 ^ k) 1
holds-many q k s h =
    round_exact binary64 false (q * 2 ^ k) 1 q (k + 1074) (lit< tt) s
    (lt_of_lt_of_le (shl_lt 53 (k + 1074) s) (pow_mono (inside k h)))
    (mul_assoc q (2 ^ k) (2 ^ 1074) ∙ ap (λ (x : ℕ). q * x) (sym (pow-add 2 k 1074)) ∙ sym (mul-one (q * 2 ^ (k + 1074))))
  where
    inside : (k : ℕ) → k ≤ 971 → 53 + (k + 1074) ≤ 1074 + 1024
    inside k h = omega arith

-- ---- the exact product
up-sub : (a b : ℕ) → up (sub_ℕ a b) * 2 ^ b ≡ 2 ^ a * down (sub_ℕ a b)
up-sub a b = go (ltb a b) (ltb→lt a b) (nltb→le a b)
  where
    go : (x : Bool) → (T x → a < b) → (T (not x) → b ≤ a) → up (cond x (negsuc (b - suc a)) (pos (a - b))) * 2 ^ b ≡ 2 ^ a * down (cond x (negsuc (b - suc a)) (pos (a - b)))
    go true h k = one-mul (2 ^ b) ∙ ap (λ (z : ℕ). 2 ^ z) (fill a b (h tt)) ∙ pow-add 2 a (suc (b - suc a))
      where
        fill : (a b : ℕ) → a < b → b ≡ a + suc (b - suc a)
        fill a b h = omega arith
    go false h k = sym (pow-add 2 (a - b) b) ∙ ap (λ (z : ℕ). 2 ^ z) (fill a b (k tt)) ∙ sym (mul-one (2 ^ a))
      where
        fill : (a b : ℕ) → b ≤ a → a - b + b ≡ a
        fill a b h = omega arith

pub up-add : (e d : ℤ) → up (e +ℤ d) * (down e * down d) ≡ up e * up d * down (e +ℤ d)
up-add (pos a) (pos b) = ap (λ (z : ℕ). z * 1) (pow-add 2 a b)
up-add (pos a) (negsuc b) = ap (λ (z : ℕ). up (sub_ℕ a (suc b)) * z) (one-mul (2 ^ suc b)) ∙ up-sub a (suc b) ∙ ap (λ (z : ℕ). z * down (sub_ℕ a (suc b))) (sym (mul-one (2 ^ a)))
up-add (negsuc a) (pos b) = ap (λ (z : ℕ). up (sub_ℕ b (suc a)) * z) (mul-one (2 ^ suc a)) ∙ up-sub b (suc a) ∙ ap (λ (z : ℕ). z * down (sub_ℕ b (suc a))) (sym (one-mul (2 ^ b)))
up-add (negsuc a) (negsuc b) =
    one-mul (2 ^ suc a * 2 ^ suc b) ∙ sym (pow-add 2 (suc a) (suc b)) ∙ ap (λ (z : ℕ). 2 ^ z) (two a b) ∙ sym (one-mul (2 ^ suc (suc (a + b)))) ∙ ap (λ (z : ℕ). z * 2 ^ suc (suc (a + b)))
    (sym (one-mul 1))
  where
    two : (a b : ℕ) → suc a + suc b ≡ suc (suc (a + b))
    two a b = omega arith

-- regroupings of the products of both
pub cross-left : (m n u k l : ℕ) → m * n * u * k * l ≡ m * n * k * (u * l)
cross-left m n u k l = simp (mul_assoc, mul_comm, mul_left_comm)

pub cross-mid : (m n c g ue ud ds : ℕ) → m * n * (c * g) * (ue * ud * ds) ≡ m * ue * c * (n * ud * g) * ds
cross-mid m n c g ue ud ds = simp (mul_assoc, mul_comm, mul_left_comm)

pub cross-right : (a de b dd ds : ℕ) → a * de * (b * dd) * ds ≡ a * b * ds * (de * dd)
cross-right a de b dd ds = simp (mul_assoc, mul_comm, mul_left_comm)

-- m * ue / de ≤ a / c and n * ud / dd ≤ b / g, so for the product too
cross : (m ue de a c n ud dd b g us ds : ℕ) → 0 < de → 0 < dd → m * ue * c ≤ a * de → n * ud * g ≤ b * dd → us * (de * dd) ≡ ue * ud * ds → m * n * us * (c * g) ≤ a * b * ds
cross m ue de a c n ud dd b g us ds D E p q r =
    le_of_mul-le-mul_right
    (le_trans (le_of_eq (cross-left m n us (c * g) (de * dd) ∙ ap (λ (z : ℕ). m * n * (c * g) * z) r ∙ cross-mid m n c g ue ud ds))
    (le_trans (mul-le-mul_right ds (mul-le-mul p q)) (le_of_eq (cross-right a de b dd ds))))
    (mul-pos D E)

pub times-size : (x y : Float) (a c b g : ℕ) → Size x a c → Size y b g → Size (times x y) (a * b) (c * g)
unfolding times
times-size nan y a c b g h k = absurd h
times-size (inf u) y a c b g h k = absurd h
times-size (fin u m e) nan a c b g h k = absurd k
times-size (fin u m e) (inf v) a c b g h k = absurd k
times-size (fin u m e) (fin v n d) a c b g h k =
    cross m (up e) (down e) a c n (up d) (down d) b g (up (e +ℤ d)) (down (e +ℤ d)) (down_pos e) (down_pos d) h k (up-add e d)

-- ---- the rounded sum, product and quotient, against n / d

sum-size : (f : Format) (s : Bool) (a : ℕ) (t : Bool) (b c n d : ℕ) → 0 < c → 0 < d → Holds f n d → (a + b) * d ≤ n * c → Size (sum f s a t b c) n d
unfolding sum
sum-size f s a t b c n d C D v h = go (beq s t) (ltb a b)
  where
    part : (x : ℕ) → x ≤ a + b → x * d ≤ n * c
    part x l = le_trans (mul-le-mul_right d l) h

    go : (y z : Bool) → Size (cond y (round f s (a + b) c) (cond z (round f t (b - a) c) (round f (s && ltb b a) (a - b) c))) n d
    go true z = size-round f s (a + b) c n d C D v h
    go false true = size-round f t (b - a) c n d C D v (part (b - a) (omega arith))
    go false false = size-round f (s && ltb b a) (a - b) c n d C D v (part (a - b) (omega arith))

-- a / c and b / g at the scale of both
common : (x ue de y ud dd a b c n d : ℕ) → x * c ≤ a * de → y * c ≤ b * dd → (a + b) * d ≤ n * c → 0 < c → (x * dd + y * de) * d ≤ n * (de * dd)
common x ue de y ud dd a b c n d p q r C =
    le_of_mul-le-mul_right
    (le_trans (le_of_eq (left x y de dd c d))
    (le_trans (mul-le-mul_right d (add-le-add (mul-le-mul_right dd p) (mul-le-mul_right de q)))
    (le_trans (le_of_eq (mid a b de dd d))
    (le_trans (mul-le-mul_right (de * dd) r) (le_of_eq (mul_right_comm n c (de * dd)))))))
    C
  where
    left : (x y de dd c d : ℕ) → (x * dd + y * de) * d * c ≡ (x * c * dd + y * c * de) * d
    left x y de dd c d = simp (add-mul, mul_assoc, mul_comm, mul_left_comm)

    mid : (a b de dd d : ℕ) → (a * de * dd + b * dd * de) * d ≡ (a + b) * d * (de * dd)
    mid a b de dd d = simp (add-mul, mul_assoc, mul_comm, mul_left_comm)

-- |x| ≤ a / c, |y| ≤ b / c, and (a + b) / c ≤ n / d
pub add-size : (f : Format) (x y : Float) (a b c n d : ℕ) → 0 < c → 0 < d → Holds f n d → Size x a c → Size y b c → (a + b) * d ≤ n * c → Size (add f x y) n d
unfolding add
add-size f nan y a b c n d C D v h k l = absurd h
add-size f (inf u) y a b c n d C D v h k l = absurd h
add-size f (fin u m e) nan a b c n d C D v h k l = absurd k
add-size f (fin u m e) (inf t) a b c n d C D v h k l = absurd k
add-size f (fin u m e) (fin t m' e') a b c n d C D v h k l =
    sum-size f u (m * up e * down e') t (m' * up e' * down e) (down e * down e') n d (mul-pos (down_pos e) (down_pos e')) D v
    (common (m * up e) 0 (down e) (m' * up e') 0 (down e') a b c n d h k l C)

pub mul-size : (f : Format) (x y : Float) (a c b g n d : ℕ) → 0 < c → 0 < g → 0 < d → Holds f n d → Size x a c → Size y b g → a * b * d ≤ n * (c * g) → Size (mul f x y) n d
unfolding mul
mul-size f nan y a c b g n d C G D v h k l = absurd h
mul-size f (inf u) y a c b g n d C G D v h k l = absurd h
mul-size f (fin u m e) nan a c b g n d C G D v h k l = absurd k
mul-size f (fin u m e) (inf t) a c b g n d C G D v h k l = absurd k
mul-size f (fin u m e) (fin t m' e') a c b g n d C G D v h k l =
    size-round f (unlike u t) (m * up e * (m' * up e')) (down e * down e') n d (mul-pos (down_pos e) (down_pos e')) D v
    (through (m * up e * (m' * up e')) (a * b) n (down e * down e') (c * g) d (mul-pos C G)
    (le_trans (le_of_eq (mul-mul-mul_comm (m * up e) (m' * up e') c g)) (le_trans (mul-le-mul h k) (le_of_eq (mul-mul-mul_comm a (down e) b (down e'))))) l)

pub mul-reach : (f : Format) (x y : Float) (a c b g n d : ℕ) → 0 < c → 0 < g → 0 < d → 0 < a → 0 < b → Holds f n d → Reach x a c → Reach y b g → n * (c * g) ≤ a * b * d → Reach (mul f x y) n d
unfolding mul
mul-reach f nan y a c b g n d C G D A B v h k l = absurd h
mul-reach f (inf u) nan a c b g n d C G D A B v h k l = absurd k
mul-reach f (inf u) (inf t) a c b g n d C G D A B v h k l = tt
mul-reach f (inf u) (fin t m' e') a c b g n d C G D A B v h k l =
    subst (λ (z : Bool). Reach (cond z nan (inf (unlike u t))) n d) (sym (some-digit m' (up e') g (b * down e') (mul-pos B (down_pos e')) k)) tt
mul-reach f (fin u m e) nan a c b g n d C G D A B v h k l = absurd k
mul-reach f (fin u m e) (inf t) a c b g n d C G D A B v h k l =
    subst (λ (z : Bool). Reach (cond z nan (inf (unlike u t))) n d) (sym (some-digit m (up e) c (a * down e) (mul-pos A (down_pos e)) h)) tt
mul-reach f (fin u m e) (fin t m' e') a c b g n d C G D A B v h k l =
    reach-round f (unlike u t) (m * up e * (m' * up e')) (down e * down e') n d (mul-pos (down_pos e) (down_pos e')) D v
    (through n (a * b) (m * up e * (m' * up e')) d (c * g) (down e * down e') (mul-pos C G) l
    (le_trans (le_of_eq (mul-mul-mul_comm a b (down e) (down e'))) (le_trans (mul-le-mul h k) (le_of_eq (mul-mul-mul_comm (m * up e) c (m' * up e') g)))))

-- regroupings of the products of a quotient
quot-left : (x q d c b : ℕ) → x * q * d * (c * b) ≡ x * c * (b * q) * d
quot-left x q d c b = simp (mul_assoc, mul_comm, mul_left_comm)

quot-right : (a p y g d : ℕ) → a * p * (y * g) * d ≡ a * g * d * (y * p)
quot-right a p y g d = simp (mul_assoc, mul_comm, mul_left_comm)

-- |x| ≤ a / c, |y| ≥ b / g, and (a / c) / (b / g) ≤ n / d
pub div-size : (f : Format) (x y : Float) (a c b g n d : ℕ) → 0 < c → 0 < b → 0 < d → Holds f n d → Size x a c → Reach y b g → a * g * d ≤ n * (c * b) → Size (div f x y) n d
unfolding div
div-size f nan y a c b g n d C B D v h k l = absurd h
div-size f (inf u) y a c b g n d C B D v h k l = absurd h
div-size f (fin u m e) nan a c b g n d C B D v h k l = absurd k
div-size f (fin u m e) (inf t) a c b g n d C B D v h k l = le_trans (le_of_eq (zero-mul d)) zero-le
div-size f (fin u m e) (fin t m' e') a c b g n d C B D v h k l =
    let z = some-digit m' (up e') g (b * down e') (mul-pos B (down_pos e')) k in
    let q = cond (eqb m 0) nan (inf (unlike u t)) in
    subst (λ (w : Bool). Size (cond w q (round f (unlike u t) (m * up e * down e') (m' * up e' * down e))) n d) (sym z)
    (size-round f (unlike u t) (m * up e * down e') (m' * up e' * down e) n d (mul-pos (digits m' (up e') (up_pos e') z) (down_pos e)) D v
    (quot (m * up e) (down e) (m' * up e') (down e') a c b g n d C B h k l))
  where
    digits : (m u : ℕ) → 0 < u → eqb m 0 ≡ false → 0 < m * u
    digits zero u U z = absurd (true≢false z)
    digits (suc m) u U z = mul-pos (zero-lt-suc m) U

    quot : (x p y q a c b g n d : ℕ) → 0 < c → 0 < b → x * c ≤ a * p → b * q ≤ y * g → a * g * d ≤ n * (c * b) → x * q * d ≤ n * (y * p)
    quot x p y q a c b g n d C B h k l =
        le_of_mul-le-mul_right
        (le_trans (le_of_eq (quot-left x q d c b))
        (le_trans (mul-le-mul_right d (mul-le-mul h k))
        (le_trans (le_of_eq (quot-right a p y g d))
        (le_trans (mul-le-mul_right (y * p) l) (le_of_eq (mul_right_comm n (c * b) (y * p)))))))
        (mul-pos C B)

-- |x| ≥ a / c, |y| ≤ b / g, and n / d ≤ (a / c) / (b / g)
pub div-reach : (f : Format) (x y : Float) (a c b g n d : ℕ) → 0 < a → 0 < c → 0 < b → 0 < g → 0 < d → Holds f n d → Reach x a c → Size y b g → n * (c * b) ≤ a * g * d → Reach (div f x y) n d
unfolding div
div-reach f nan y a c b g n d A C B G D v h k l = absurd h
div-reach f (inf u) nan a c b g n d A C B G D v h k l = absurd k
div-reach f (inf u) (inf t) a c b g n d A C B G D v h k l = absurd k
div-reach f (inf u) (fin t m' e') a c b g n d A C B G D v h k l = tt
div-reach f (fin u m e) nan a c b g n d A C B G D v h k l = absurd k
div-reach f (fin u m e) (inf t) a c b g n d A C B G D v h k l = absurd k
div-reach f (fin u m e) (fin t zero e') a c b g n d A C B G D v h k l =
    subst (λ (w : Bool). Reach (cond w nan (inf (unlike u t))) n d) (sym (some-digit m (up e) c (a * down e) (mul-pos A (down_pos e)) h)) tt
div-reach f (fin u m e) (fin t (suc m') e') a c b g n d A C B G D v h k l =
    let q = cond (eqb m 0) nan (inf (unlike u t)) in
    subst (λ (w : Bool). Reach (cond w q (round f (unlike u t) (m * up e * down e') (suc m' * up e' * down e))) n d) (sym (eqb-suc-zero m'))
    (reach-round f (unlike u t) (m * up e * down e') (suc m' * up e' * down e) n d (mul-pos (mul-pos (zero-lt-suc m') (up_pos e')) (down_pos e)) D v
    (quot (m * up e) (down e) (suc m' * up e') (down e') a c b g n d C B G h k l))
  where
    quot : (x p y q a c b g n d : ℕ) → 0 < c → 0 < b → 0 < g → a * p ≤ x * c → y * g ≤ b * q → n * (c * b) ≤ a * g * d → n * (y * p) ≤ x * q * d
    quot x p y q a c b g n d C B G h k l =
        le_of_mul-le-mul_right
        (le_trans (le_of_eq (mul_right_comm n (y * p) (c * b)))
        (le_trans (mul-le-mul_right (y * p) l)
        (le_trans (le_of_eq (sym (quot-right a p y g d)))
        (le_trans (mul-le-mul_right d (mul-le-mul h k)) (le_of_eq (sym (quot-left x q d c b)))))))
        (mul-pos C B)

-- ---- a sum that keeps away from 0: |x| ≤ a / c, |y| ≥ b / c, and n / d ≤ (b - a) / c

sum-reach : (f : Format) (s : Bool) (a : ℕ) (t : Bool) (b c n d : ℕ) → 0 < c → 0 < d → 0 < n → Holds f n d → n * c + a * d ≤ b * d → Reach (sum f s a t b c) n d
unfolding sum
sum-reach f s a t b c n d C D N v h = go (beq s t) (ltb a b) (nltb→le a b)
  where
    both : n * c ≤ (a + b) * d
    both = le_trans (omega-le (n * c) (a * d) (b * d) h) (le_of_eq (sym (add-mul a b d)))
      where
        omega-le : (x y z : ℕ) → x + y ≤ z → x ≤ y + z
        omega-le x y z h = omega arith

    less : n * c ≤ (b - a) * d
    less = le_trans (omega-le (n * c) (a * d) (b * d) h) (le_of_eq (sym (mul_comm (b - a) d ∙ mul-sub d b a ∙ ap₂ (λ (x y : ℕ). x - y) (mul_comm d b) (mul_comm d a))))
      where
        omega-le : (x y z : ℕ) → x + y ≤ z → x ≤ z - y
        omega-le x y z h = omega arith

    never : b ≤ a → ⊥
    never l = omega-no (n * c) (a * d) (b * d) (mul-pos N C) h (mul-le-mul_right d l)
      where
        omega-no : (x y z : ℕ) → 0 < x → x + y ≤ z → z ≤ y → ⊥
        omega-no x y z p q r = omega arith

    go : (y z : Bool) → (T (not z) → b ≤ a) → Reach (cond y (round f s (a + b) c) (cond z (round f t (b - a) c) (round f (s && ltb b a) (a - b) c))) n d
    go true z k = reach-round f s (a + b) c n d C D v both
    go false true k = reach-round f t (b - a) c n d C D v less
    go false false k = absurd (never (k tt))

pub add-reach : (f : Format) (x y : Float) (a b c n d : ℕ) → 0 < c → 0 < d → 0 < n → Holds f n d → Size x a c → Reach y b c → n * c + a * d ≤ b * d → Reach (add f x y) n d
unfolding add
add-reach f nan y a b c n d C D N v h k l = absurd h
add-reach f (inf u) y a b c n d C D N v h k l = absurd h
add-reach f (fin u m e) nan a b c n d C D N v h k l = absurd k
add-reach f (fin u m e) (inf t) a b c n d C D N v h k l = tt
add-reach f (fin u m e) (fin t m' e') a b c n d C D N v h k l =
    sum-reach f u (m * up e * down e') t (m' * up e' * down e) (down e * down e') n d (mul-pos (down_pos e) (down_pos e')) D N v
    (apart (m * up e) (down e) (m' * up e') (down e') a b c n d C h k l)
  where
    apart : (x de y dd a b c n d : ℕ) → 0 < c → x * c ≤ a * de → b * dd ≤ y * c → n * c + a * d ≤ b * d → n * (de * dd) + x * dd * d ≤ y * de * d
    apart x de y dd a b c n d C h k l =
        le_of_mul-le-mul_right
        (le_trans (le_of_eq (one n de dd x d c))
        (le_trans (add-le-add (le_refl (n * c * (de * dd))) (mul-le-mul_right (dd * d) h))
        (le_trans (le_of_eq (two n c de dd a d))
        (le_trans (mul-le-mul_right (de * dd) l)
        (le_trans (le_of_eq (three b d de dd))
        (le_trans (mul-le-mul_right (de * d) k) (le_of_eq (four y c de d))))))))
        C
      where
        one : (n de dd x d c : ℕ) → (n * (de * dd) + x * dd * d) * c ≡ n * c * (de * dd) + x * c * (dd * d)
        one n de dd x d c = simp (add-mul, mul_assoc, mul_comm, mul_left_comm)

        two : (n c de dd a d : ℕ) → n * c * (de * dd) + a * de * (dd * d) ≡ (n * c + a * d) * (de * dd)
        two n c de dd a d = simp (add-mul, mul_assoc, mul_comm, mul_left_comm)

        three : (b d de dd : ℕ) → b * d * (de * dd) ≡ b * dd * (de * d)
        three b d de dd = simp (mul_assoc, mul_comm, mul_left_comm)

        four : (y c de d : ℕ) → y * c * (de * d) ≡ y * de * d * c
        four y c de d = simp (mul_assoc, mul_comm, mul_left_comm)

-- ---- a rounded value above 0

-- a number, or an infinity
abbrev pub Number : Float → Type 0
Number nan = ⊥
Number (inf s) = Unit {0}
Number (fin s m e) = Unit {0}

pub plus-number : (x : Float) → Plus x → Number x
plus-number nan h = h
plus-number (inf s) h = tt
plus-number (fin s m e) h = tt

pub neg-number : (x : Float) → Number x → Number (neg x)
unfolding neg
neg-number nan h = h
neg-number (inf s) h = tt
neg-number (fin s m e) h = tt

pub round_number : (f : Format) (s : Bool) (a c : ℕ) → Number (round f s a c)
round_number f false a c = plus-number (round f false a c) (round-plus f a c)
round_number f true a c = subst Number (sym (round-neg f a c)) (neg-number (round f false a c) (plus-number (round f false a c) (round-plus f a c)))

-- above 0
abbrev pub nought : Float
nought = fin false 0 (pos 0)

neg-below : (x : Float) → Plus x → T (lt nought (neg x)) → ⊥
unfolding neg lt
neg-below nan h t = t
neg-below (inf true) h t = true≢false h
neg-below (inf false) h t = t
neg-below (fin true m e) h t = true≢false h
neg-below (fin false m e) h t = t

zero-below : (x : Float) → Size x 0 1 → T (lt nought x) → ⊥
unfolding lt
zero-below nan h t = h
zero-below (inf s) h t = h
zero-below (fin true m e) h t = t
zero-below (fin false m e) h t = clash (m * up e * 1) (0 * down e) h (ltb→lt (0 * down e) (m * up e * 1) t)
  where
    clash : (a b : ℕ) → a ≤ b → b < a → ⊥
    clash a b p q = omega arith

pub holds-zero : (f : Format) → Holds f 0 1
holds-zero f = round_exact f false 0 1 0 0 (lit< tt) (pow_pos (prec f)) (pow_pos (low f + suc (emax f))) (zero-mul (2 ^ low f))

-- a rounded value above 0 is that of a fraction above 0
pub round-above : (f : Format) (s : Bool) (a c : ℕ) → 0 < c → T (lt nought (round f s a c)) → (s ≡ false) × (0 < a)
round-above f true a c C t = absurd (neg-below (round f false a c) (round-plus f a c) (subst (λ (x : Float). T (lt nought x)) (round-neg f a c) t))
round-above f false zero c C t = absurd (zero-below (round f false 0 c) (size-round f false 0 c 0 1 C (lit< tt) (holds-zero f) (le_of_eq (zero-mul 1 ∙ sym (zero-mul c)))) t)
round-above f false (suc a) c C t = (refl, zero-lt-suc a)

-- a finite number over one above 0 is a number
pub div-number : (f : Format) (x y : Float) (n d : ℕ) → Size x n d → T (lt nought y) → Number (div f x y)
unfolding div lt
div-number f nan y n d h t = absurd h
div-number f (inf u) y n d h t = absurd h
div-number f (fin u m e) nan n d h t = absurd t
div-number f (fin u m e) (inf v) n d h t = tt
div-number f (fin u m e) (fin true m' e') n d h t = absurd t
div-number f (fin u m e) (fin false zero e') n d h t = absurd (clash (up e') (down e') (ltb→lt (0 * down e') (0 * up e' * 1) t))
  where
    clash : (a b : ℕ) → 0 * b < 0 * a * 1 → ⊥
    clash a b p = omega arith
div-number f (fin u m e) (fin false (suc m') e') n d h t =
    subst (λ (w : Bool). Number (cond w (cond (eqb m 0) nan (inf (unlike u false))) (round f (unlike u false) (m * up e * down e') (suc m' * up e' * down e)))) (sym (eqb-suc-zero m'))
    (round_number f (unlike u false) (m * up e * down e') (suc m' * up e' * down e))

-- of a product above 0, with one factor above 0, the other is
pub factor-above : (f : Format) (x y : Float) → T (lt nought x) → T (lt nought (mul f x y)) → T (lt nought y)
unfolding mul lt
factor-above f nan y s t = absurd s
factor-above f (inf true) y s t = absurd s
factor-above f (inf false) nan s t = absurd t
factor-above f (inf false) (inf true) s t = absurd t
factor-above f (inf false) (inf false) s t = tt
factor-above f (inf false) (fin true zero d) s t = absurd t
factor-above f (inf false) (fin true (suc n) d) s t = absurd (subst (λ (w : Bool). T (lt nought (cond w nan (inf true)))) (eqb-suc-zero n) t)
factor-above f (inf false) (fin false zero d) s t = absurd t
factor-above f (inf false) (fin false (suc n) d) s t = lt→ltb (0 * down d) (suc n * up d * 1) (lt_of_le_of_lt (le_of_eq (zero-mul (down d))) (mul-pos (mul-pos (zero-lt-suc n) (up_pos d)) (lit< tt)))
factor-above f (fin true m e) y s t = absurd s
factor-above f (fin false m e) nan s t = absurd t
factor-above f (fin false m e) (inf true) s t = absurd (no-inf (eqb m 0) t)
  where
    no-inf : (b : Bool) → T (lt nought (cond b nan (inf true))) → ⊥
    no-inf true t = t
    no-inf false t = t
factor-above f (fin false m e) (inf false) s t = tt
factor-above f (fin false m e) (fin true n d) s t = absurd (true≢false (round-above f true (m * up e * (n * up d)) (down e * down d) (mul-pos (down_pos e) (down_pos d)) t).0)
factor-above f (fin false m e) (fin false n d) s t =
    lt→ltb (0 * down d) (n * up d * 1) (lt_of_le_of_lt (le_of_eq (zero-mul (down d)))
    (lt_of_lt_of_le (second (m * up e) (n * up d) (round-above f false (m * up e * (n * up d)) (down e * down d) (mul-pos (down_pos e) (down_pos d)) t).1) (le_of_eq (sym (mul-one (n * up d))))))
  where
    second : (a b : ℕ) → 0 < a * b → 0 < b
    second a zero h = absurd (lt_irrefl 0 (lt_of_lt_of_le h (le_of_eq (mul-zero a))))
    second a (suc b) h = zero-lt-suc b

-- 1 - d * d is above 0 only where |d| ≤ 1
abbrev pub unit : Float
unit = fin false 1 (pos 0)

square-under : (m : ℕ) (e : ℤ) → m * m * up (e +ℤ e) < down (e +ℤ e) → m * up e ≤ down e
square-under m e h = le-of-not (λ (g : down e < m * up e).
    not-le_of_lt h
    (le_of_mul-le-mul_right
    (le_trans (le_of_eq (mul_comm (down (e +ℤ e)) (down e * down e)))
    (le_trans (mul-le-mul_right (down (e +ℤ e)) (mul-le-mul (le_of_lt g) (le_of_lt g)))
    (le_of_eq (one m (up e) (down (e +ℤ e)) ∙ ap (λ (z : ℕ). m * m * z) (sym (up-add e e)) ∙ sym (mul_assoc (m * m) (up (e +ℤ e)) (down e * down e))))))
    (mul-pos (down_pos e) (down_pos e))))
  where
    one : (m u d : ℕ) → m * u * (m * u) * d ≡ m * m * (u * u * d)
    one m u d = simp (mul_assoc, mul_comm, mul_left_comm)

    le-of-not : {a b : ℕ} → (b < a → ⊥) → a ≤ b
    le-of-not {a} {b} k = elim (dec_le a b) [ yes p ↦ p | no n ↦ absurd (k (lt_of_not-le n)) ]

under_one : (f : Format) (m : ℕ) (e : ℤ) → T (lt nought (add f (fin true m e) unit)) → m * up e < down e
unfolding add sum
under_one f m e t = go (ltb (m * up e * 1) (1 * down e)) (ltb→lt (m * up e * 1) (1 * down e)) (nltb→le (m * up e * 1) (1 * down e)) t
  where
    a : ℕ
    a = m * up e * 1

    b : ℕ
    b = 1 * down e

    two : (x y : ℕ) → x * 1 < 1 * y → x < y
    two x y h = omega arith

    last : (w : Bool) → (T w → 1 * down e < m * up e * 1) → (T (not w) → m * up e * 1 ≤ 1 * down e) → (1 * down e ≤ m * up e * 1)
        → T (lt nought (round f w (m * up e * 1 - 1 * down e) (down e * 1))) → m * up e < down e
    last true k l g t = absurd (true≢false (round-above f true (m * up e * 1 - 1 * down e) (down e * 1) (mul-pos (down_pos e) (lit< tt)) t).0)
    last false k l g t = absurd (clash (m * up e * 1) (1 * down e) (l tt) (round-above f false (m * up e * 1 - 1 * down e) (down e * 1) (mul-pos (down_pos e) (lit< tt)) t).1)
      where
        clash : (a b : ℕ) → a ≤ b → 0 < a - b → ⊥
        clash a b p q = omega arith

    go : (z : Bool) → (T z → m * up e * 1 < 1 * down e) → (T (not z) → 1 * down e ≤ m * up e * 1)
        → T (lt nought (cond z (round f false (1 * down e - m * up e * 1) (down e * 1)) (round f (true && ltb (1 * down e) (m * up e * 1)) (m * up e * 1 - 1 * down e) (down e * 1))))
        → m * up e < down e
    go true k g t = two (m * up e) (down e) (k tt)
    go false k g t = last (ltb (1 * down e) (m * up e * 1)) (ltb→lt (1 * down e) (m * up e * 1)) (nltb→le (1 * down e) (m * up e * 1)) (g tt) t

pub square-size : (d : Float) → Number d → T (lt nought (fused_multiply_add binary64 d (neg d) unit)) → Size d 1 1
unfolding fused_multiply_add times neg
square-size nan h t = h
square-size (inf true) h t = absurd (minus t)
  where
    minus : T (lt nought (add binary64 (inf true) unit)) → ⊥
    minus t = unfold add lt in t
square-size (inf false) h t = absurd (minus t)
  where
    minus : T (lt nought (add binary64 (inf true) unit)) → ⊥
    minus t = unfold add lt in t
square-size (fin true m e) h t = le_trans (le_of_eq (mul-one (m * up e))) (le_trans (square-under m e (under_one binary64 (m * m) (e +ℤ e) t)) (le_of_eq (sym (one-mul (down e)))))
square-size (fin false m e) h t = le_trans (le_of_eq (mul-one (m * up e))) (le_trans (square-under m e (under_one binary64 (m * m) (e +ℤ e) t)) (le_of_eq (sym (one-mul (down e)))))
