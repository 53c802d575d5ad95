-- Zeros, infinities and NaNs, and the patterns of the other numbers. Assumes nothing.
use Rattle.std.proofs.Common.{◌≡◌, ℕ, zero, suc, ◌+◌, ◌-◌, ◌*◌, ◌/◌, ◌%◌, ◌^◌, ◌<◌, ◌≤◌, Bool, true, false, cond, not, ◌&&◌, ◌||◌, T, eqb, ltb, leb, ℤ, pos, ◌+ℤ◌, sym, refl, ap, ◌∙◌, subst, ap₂, inl, inr, true≢false, zero-le, le_of_eq, lt_of_lt_of_le, le_of_suc-le-suc, add-zero, lt_irrefl, mod-lt, zero-lt-suc, mul_assoc, mul_comm, div-lt_iff_lt-mul, eq-zero-or-pos, le_antisymm, mul-pos, lt_of_not-le, mul-zero, le-div_iff_mul-le, zero-mul, mul-one, arith, pow_pos, ltb-false, ltb-true, le-ltb, lt-ltb, ne_eqb}
use mathlib.Core.Bool.{beq}
use lib.Pow.{mod-mod-pow}
use lib.Ieee.{Float, nan, inf, fin, Format, binary64, prec, emax, low, unlike, up, down, odd, units, round, sum, add, mul, eq, ne, is_nan, of_fields, of_bits, nan_bits, to_bits, fits}
use lib.Ieee.Fits.{up_pos, down_pos, round_is, add-fits}
use lib.Ieee.Bits.{of_bits-to_bits, nan_bits_is}
use lib.Ieee.Exact.{HasValue, round_exact}
use Rattle.std.specs.Float.{float_is_finite}
use Rattle.float.specs.FusedMultiplyAdd.{times, fused_multiply_add}
use Rattle.float.specs.inner.Operands.{is_plain, Plain}
use Rattle.float.proofs.Value.{value-scale, value-is, times-value, add-value, fma-value, sum_is}
use Rattle.float.proofs.Flags.{never}
use Rattle.float.proofs.Decomposition.{Normal, of_bits_is, normal-decomposed}

-- ---- `is_plain`
pub zero_is : of_bits binary64 0 ≡ fin false 0 (pos 0)
unfolding of_bits
zero_is = refl

or-true : (b : Bool) → b || true ≡ true
or-true true = refl
or-true false = refl

eq-zero : (s : Bool) (m : ℕ) (e : ℤ) → eq (fin s m e) (fin false 0 (pos 0)) ≡ not (ltb 0 m)
unfolding eq
eq-zero s zero e =
    ap₂ (λ (x y : ℕ). eqb x y && (beq s false || eqb x 0)) (mul-one (0 * up e) ∙ zero-mul (up e)) (zero-mul (down e))
    ∙ or-true (beq s false)
eq-zero s (suc m) e =
    ap (λ (b : Bool). b && (beq s false || eqb (suc m * up e * 1) 0))
    (ap (λ (y : ℕ). eqb (suc m * up e * 1) y) (zero-mul (down e)) ∙ ne_eqb (suc m * up e * 1) 0
    (λ z. lt_irrefl 0 (lt_of_lt_of_le (mul-pos (mul-pos (zero-lt-suc m) (up_pos e)) (zero-lt-suc 0)) (le_of_eq z))))
    ∙ sym (ap not (lt-ltb 0 (suc m) (zero-lt-suc m)))

not-not : (b : Bool) → not (not b) ≡ b
not-not true = refl
not-not false = refl

pub plain-finite-some : (x : Float) → float_is_finite x ≡ true → ne x (fin false 0 (pos 0)) ≡ is_plain x
unfolding float_is_finite ne
plain-finite-some nan a = absurd (never a)
plain-finite-some (inf s) a = absurd (never a)
plain-finite-some (fin s m e) a = ap not (eq-zero s m e) ∙ not-not (ltb 0 m)

pub plain-endless : (x : Float) → float_is_finite x ≡ false → false ≡ is_plain x
unfolding float_is_finite
plain-endless nan a = refl
plain-endless (inf s) a = refl
plain-endless (fin s m e) a = absurd (true≢false a)

-- ---- a product with a NaN, an infinity or a zero is exact
add_cong : (f : Format) (x y z : Float) (s : Bool) (a c : ℕ) → 0 < c → HasValue x s a c → HasValue y s a c → add f x z ≡ add f y z
unfolding add
add_cong f nan y z s a c C h k = absurd h
add_cong f (inf u) y z s a c C h k = absurd h
add_cong f (fin u m e) nan z s a c C h k = absurd k
add_cong f (fin u m e) (inf v) z s a c C h k = absurd k
add_cong f (fin u m e) (fin v n d) nan s a c C h k = refl
add_cong f (fin u m e) (fin v n d) (inf t) s a c C h k = refl
add_cong f (fin u m e) (fin v n d) (fin t o g) s a c C h k =
    let third : HasValue (fin t o g) t (o * up g * c) (c * down g) =
    value-is (fin t o g) t (o * up g * c) (o * up g * c) (down g * c) (c * down g) refl (mul_comm (down g) c) (value-scale (fin t o g) t (o * up g) (down g) c (refl, refl)) in
    add-value f (fin u m e) (fin t o g) s t (a * down g) (o * up g * c) (c * down g) (mul-pos C (down_pos g)) (value-scale (fin u m e) s a c (down g) h) third
    ∙ sym (add-value f (fin v n d) (fin t o g) s t (a * down g) (o * up g * c) (c * down g) (mul-pos C (down_pos g)) (value-scale (fin v n d) s a c (down g) k) third)

zero-product : (f : Format) (s t : Bool) (m n : ℕ) (e d : ℤ) (z : Float) → m * n ≡ 0 → add f (mul f (fin s m e) (fin t n d)) z ≡ add f (times (fin s m e) (fin t n d)) z
unfolding mul times
zero-product f s t m n e d z h =
    let den = down e * down d in
    let D : 0 < den = mul-pos (down_pos e) (down_pos d) in
    let num0 : m * up e * (n * up d) ≡ 0 = sort m (up e) n (up d) ∙ ap (λ (x : ℕ). x * (up e * up d)) h ∙ zero-mul (up e * up d) in
    let mv : HasValue (round f (unlike s t) 0 den) (unlike s t) 0 den =
    round_exact f (unlike s t) 0 den 0 0 D (pow_pos (prec f)) (pow_pos (low f + suc (emax f))) (zero-mul (2 ^ low f) ∙ sym (zero-mul den)) in
    add_cong f (round f (unlike s t) (m * up e * (n * up d)) den) (times (fin s m e) (fin t n d)) z (unlike s t) 0 den D
    (subst (λ (x : ℕ). HasValue (round f (unlike s t) x den) (unlike s t) 0 den) (sym num0) mv)
    (value-is (times (fin s m e) (fin t n d)) (unlike s t) (m * up e * (n * up d)) 0 den den num0 refl
    (times-value (fin s m e) (fin t n d) s t (m * up e) (n * up d) (down e) (down d) (refl, refl) (refl, refl)))
  where
    sort : (m a n b : ℕ) → m * a * (n * b) ≡ m * n * (a * b)
    sort m a n b = simp (mul_assoc, mul_comm, native-left)
      where
        native-left : (a b c : ℕ) → a * (b * c) ≡ b * (a * c)
        native-left a b c = sym (mul_assoc a b c) ∙ ap (λ (x : ℕ). x * c) (mul_comm a b) ∙ mul_assoc b a c

none : (m : ℕ) → ltb 0 m ≡ false → m ≡ 0
none m e = le_antisymm (ltb-false 0 m e) zero-le

pub special-left : (x y z : Float) → is_plain x ≡ false → add binary64 (mul binary64 x y) z ≡ fused_multiply_add binary64 x y z
unfolding fused_multiply_add mul times
special-left nan y z h = refl
special-left (inf s) nan z h = refl
special-left (inf s) (inf t) z h = refl
special-left (inf s) (fin t n d) z h = refl
special-left (fin s m e) nan z h = refl
special-left (fin s m e) (inf t) z h = refl
special-left (fin s m e) (fin t n d) z h = zero-product binary64 s t m n e d z (ap (λ (x : ℕ). x * n) (none m h) ∙ zero-mul n)

pub special-right : (x y z : Float) → is_plain y ≡ false → add binary64 (mul binary64 x y) z ≡ fused_multiply_add binary64 x y z
unfolding fused_multiply_add mul times
special-right nan y z h = refl
special-right (inf s) nan z h = refl
special-right (inf s) (inf t) z h = refl
special-right (inf s) (fin t n d) z h = refl
special-right (fin s m e) nan z h = refl
special-right (fin s m e) (inf t) z h = refl
special-right (fin s m e) (fin t n d) z h = zero-product binary64 s t m n e d z (ap (λ (x : ℕ). m * x) (none n h) ∙ mul-zero m)

-- ---- a third number that is a zero, an infinity or a NaN
sum-zero : (f : Format) (s r : Bool) (a c : ℕ) → 0 < a → sum f s a r 0 c ≡ round f s a c
sum-zero f s r a c h =
    sum_is f s a r 0 c
    ∙ ap₂ (λ (x y : Bool). cond (beq s r) (round f s (a + 0) c) (cond x (round f r (0 - a) c) (round f (s && y) (a - 0) c))) (le-ltb a 0 zero-le) (lt-ltb 0 a h)
    ∙ ap₂ (λ (x y : ℕ). cond (beq s r) (round f s x c) (round f (s && true) y c)) (add-zero a) (minus a)
    ∙ either (beq s r) s
  where
    minus : (a : ℕ) → a - 0 ≡ a
    minus a = omega arith

    either : (b u : Bool) → cond b (round f s a c) (round f (s && true) a c) ≡ round f s a c
    either true u = refl
    either false u = at s
      where
        at : (s : Bool) → round f (s && true) a c ≡ round f s a c
        at true = refl
        at false = refl

pub zero-third : (x y z : Float) → is_plain x ≡ true → is_plain y ≡ true → is_plain z ≡ false → eq z (fin false 0 (pos 0)) ≡ true → mul binary64 x y ≡ fused_multiply_add binary64 x y z
unfolding mul eq
zero-third nan y z a b c d = absurd (never a)
zero-third (inf s) y z a b c d = absurd (never a)
zero-third (fin s m e) nan z a b c d = absurd (never b)
zero-third (fin s m e) (inf t) z a b c d = absurd (never b)
zero-third (fin s m e) (fin t n g) nan a b c d = absurd (never d)
zero-third (fin s m e) (fin t n g) (inf r) a b c d = absurd (never d)
zero-third (fin s m e) (fin t n g) (fin r o k) a b c d =
    let A = m * up e * (n * up g) in
    let D = down e * down g in
    let P : 0 < D = mul-pos (down_pos e) (down_pos g) in
    sym (fma-value binary64 (fin s m e) (fin t n g) (fin r o k) (unlike s t) r A 0 D P
    (times-value (fin s m e) (fin t n g) s t (m * up e) (n * up g) (down e) (down g) (refl, refl) (refl, refl))
    (refl, ap (λ (x : ℕ). x * up k * D) (none o c) ∙ ap (λ (x : ℕ). x * D) (zero-mul (up k)) ∙ zero-mul D ∙ sym (zero-mul (down k)))
    ∙ sum-zero binary64 (unlike s t) r A D (mul-pos (mul-pos (ltb-true 0 m a) (up_pos e)) (mul-pos (ltb-true 0 n b) (up_pos g))))

pub other-third : (x y z : Float) → is_plain x ≡ true → is_plain y ≡ true → is_plain z ≡ false → eq z (fin false 0 (pos 0)) ≡ false → z ≡ fused_multiply_add binary64 x y z
unfolding fused_multiply_add times add
other-third nan y z a b c d = absurd (never a)
other-third (inf s) y z a b c d = absurd (never a)
other-third (fin s m e) nan z a b c d = absurd (never b)
other-third (fin s m e) (inf t) z a b c d = absurd (never b)
other-third (fin s m e) (fin t n g) nan a b c d = refl
other-third (fin s m e) (fin t n g) (inf r) a b c d = refl
other-third (fin s m e) (fin t n g) (fin r o k) a b c d = absurd (true≢false (sym (eq-zero r o k ∙ ap not c) ∙ d))

-- ---- the pattern of a number that is finite and not a zero
pub plain-no-nan : (x : Float) → is_plain x ≡ true → T (not (is_nan x))
unfolding is_nan
plain-no-nan nan h = absurd (never h)
plain-no-nan (inf s) h = absurd (never h)
plain-no-nan (fin s m e) h = tt

fields-zero : (s : Bool) (x t : ℕ) → x ≡ 0 → t ≡ 0 → is_plain (of_fields binary64 s x t) ≡ false
unfolding of_fields odd
fields-zero s x t e h = ap₂ (λ (y z : ℕ). is_plain (of_fields binary64 s y z)) e h

not_plain : (b : Bool) (s : Bool) → is_plain (cond b (inf s) nan) ≡ false
not_plain true s = refl
not_plain false s = refl

fields-top : (s : Bool) (x t : ℕ) → x ≡ 2047 → is_plain (of_fields binary64 s x t) ≡ false
unfolding of_fields
fields-top s x t e = ap (λ (y : ℕ). is_plain (of_fields binary64 s y t)) e ∙ not_plain (eqb t 0) s

plain_at : (b : ℕ) → is_plain (of_bits binary64 b) ≡ true → Plain b
plain_at b h = record {
  some = elim (eq-zero-or-pos (b % 2 ^ 63)) [
    | inl z ↦ absurd (never (sym (ap is_plain (of_bits_is b) ∙ fields-zero (leb (2 ^ 63) b) (b % 2 ^ 63 / 2 ^ 52) (b % 2 ^ 52) (ap (λ (y : ℕ). y / 2 ^ 52) z)
        (sym (mod-mod-pow b 11 52) ∙ ap (λ (y : ℕ). y % 2 ^ 52) z)) ∙ h))
    | inr p ↦ p
  ];
  finite = lt_of_not-le (λ (g : 2047 * 2 ^ 52 ≤ b % 2 ^ 63).
      never (sym (ap is_plain (of_bits_is b) ∙ fields-top (leb (2 ^ 63) b) (b % 2 ^ 63 / 2 ^ 52) (b % 2 ^ 52)
      (le_antisymm (le_of_suc-le-suc ((div-lt_iff_lt-mul {k = 2 ^ 52} (pow_pos 52)).1 (mod-lt b (pow_pos 63)))) ((le-div_iff_mul-le (pow_pos 52)).1 g))) ∙ h));
}

pub plain-bits : (x : Float) → T (fits binary64 x) → is_plain x ≡ true → Plain (to_bits binary64 x)
plain-bits x f h = plain_at (to_bits binary64 x) (ap is_plain (of_bits-to_bits binary64 x f) ∙ h)

-- ---- numbers that are finite
-- what owning an `f64` tells: the format holds it
pub held : {b : Bool} → b ≡ true → T b
held h = subst T (sym h) tt

abbrev pub Finite : Float → Type 0
Finite nan = ⊥
Finite (inf s) = ⊥
Finite (fin s m e) = T true

pub plain-finite : (x : Float) → is_plain x ≡ true → Finite x
plain-finite nan h = never h
plain-finite (inf s) h = never h
plain-finite (fin s m e) h = tt

value-finite : (x : Float) (s : Bool) (a c : ℕ) → HasValue x s a c → Finite x
value-finite nan s a c h = h
value-finite (inf t) s a c h = h
value-finite (fin t m e) s a c h = tt

pub normal-finite : (x : Float) → T (fits binary64 x) → Normal (to_bits binary64 x) → Finite x
normal-finite x f N =
    let b = to_bits binary64 x in
    subst Finite (of_bits-to_bits binary64 x f)
    (value-finite (of_bits binary64 b) (leb (2 ^ 63) b) ((2 ^ 52 + b % 2 ^ 52) * 2 ^ (b % 2 ^ 63 / 2 ^ 52 + 51)) (2 ^ 1126)
    (normal-decomposed b (2 ^ 52 + b % 2 ^ 52) (b % 2 ^ 63 / 2 ^ 52) N refl refl).value)

-- ---- the result is no NaN, and its pattern is read back as it
odd_no_nan : (d : ℕ) (s : Bool) (q k l : ℕ) → is_nan (odd d s q k l) ≡ false
unfolding odd is_nan
odd_no_nan d s zero k l = refl
odd_no_nan d s (suc q) k l = refl

cond-no-nan : (b : Bool) (x y : Float) → is_nan x ≡ false → is_nan y ≡ false → is_nan (cond b x y) ≡ false
cond-no-nan true x y h k = h
cond-no-nan false x y h k = k

inf-no : (s : Bool) → is_nan (inf s) ≡ false
unfolding is_nan
inf-no s = refl

units-no-nan : (f : Format) (s : Bool) (q k : ℕ) → is_nan (units f s q k) ≡ false
unfolding units
units-no-nan f s q k = cond-no-nan (ltb (q * 2 ^ k) (2 ^ (low f + suc (emax f)))) (odd (suc (prec f)) s q k (low f)) (inf s) (odd_no_nan (suc (prec f)) s q k (low f)) (inf-no s)

round-no-nan : (f : Format) (s : Bool) (a c : ℕ) → is_nan (round f s a c) ≡ false
round-no-nan f s a c = ap is_nan (round_is f s a c) ∙ units-no-nan f s _ _

sum-no-nan : (f : Format) (s : Bool) (a : ℕ) (t : Bool) (b c : ℕ) → is_nan (sum f s a t b c) ≡ false
sum-no-nan f s a t b c =
    ap is_nan (sum_is f s a t b c)
    ∙ cond-no-nan (beq s t) (round f s (a + b) c) (cond (ltb a b) (round f t (b - a) c) (round f (s && ltb b a) (a - b) c)) (round-no-nan f s (a + b) c)
    (cond-no-nan (ltb a b) (round f t (b - a) c) (round f (s && ltb b a) (a - b) c) (round-no-nan f t (b - a) c) (round-no-nan f (s && ltb b a) (a - b) c))

fma-no-nan : (x y z : Float) → Finite x → Finite y → Finite z → is_nan (fused_multiply_add binary64 x y z) ≡ false
unfolding fused_multiply_add times add
fma-no-nan nan y z a b c = absurd a
fma-no-nan (inf s) y z a b c = absurd a
fma-no-nan (fin s m e) nan z a b c = absurd b
fma-no-nan (fin s m e) (inf t) z a b c = absurd b
fma-no-nan (fin s m e) (fin t n g) nan a b c = absurd c
fma-no-nan (fin s m e) (fin t n g) (inf r) a b c = absurd c
fma-no-nan (fin s m e) (fin t n g) (fin r o k) a b c = sum-no-nan binary64 (unlike s t) (m * n * up (e +ℤ g) * down k) r (o * up k * down (e +ℤ g)) (down (e +ℤ g) * down k)

fma-fits : (x y z : Float) → T (fits binary64 (fused_multiply_add binary64 x y z))
unfolding fused_multiply_add
fma-fits x y z = add-fits binary64 (times x y) z

pub fma-read : (x y z : Float) (b : ℕ) → b ≡ to_bits binary64 (fused_multiply_add binary64 x y z) → of_bits binary64 b ≡ fused_multiply_add binary64 x y z
fma-read x y z b e = ap (of_bits binary64) e ∙ of_bits-to_bits binary64 (fused_multiply_add binary64 x y z) (fma-fits x y z)

pub fma-bits : (x y z : Float) (b : ℕ) → Finite x → Finite y → Finite z → b ≡ to_bits binary64 (fused_multiply_add binary64 x y z) → T (not (nan_bits binary64 b))
fma-bits x y z b p q r e = subst (λ (v : Bool). T (not v)) (sym (nan_bits_is binary64 b ∙ ap is_nan (fma-read x y z b e) ∙ fma-no-nan x y z p q r)) tt

-- a number is read back from its own pattern
pub read_back : (x y z : Float) → T (fits binary64 x) → T (fits binary64 y) → T (fits binary64 z)
    → to_bits binary64 (fused_multiply_add binary64 (of_bits binary64 (to_bits binary64 x)) (of_bits binary64 (to_bits binary64 y)) (of_bits binary64 (to_bits binary64 z))) ≡ to_bits binary64
    (fused_multiply_add binary64 x y z)
read_back x y z f g h =
    ap (λ (v : Float). to_bits binary64 (fused_multiply_add binary64 v (of_bits binary64 (to_bits binary64 y)) (of_bits binary64 (to_bits binary64 z)))) (of_bits-to_bits binary64 x f)
    ∙ ap (λ (v : Float). to_bits binary64 (fused_multiply_add binary64 x v (of_bits binary64 (to_bits binary64 z)))) (of_bits-to_bits binary64 y g)
    ∙ ap (λ (v : Float). to_bits binary64 (fused_multiply_add binary64 x y v)) (of_bits-to_bits binary64 z h)
