-- What the tests of `is_less` say of its definition, and what a test of two flags chooses.
use Rattle.std.proofs.Common.{◌≡◌, ℕ, ◌+◌, ◌*◌, Bool, true, false, cond, not, ◌&&◌, ◌||◌, eqb, T, sym, refl, ◌∙◌, subst, arith, le-ltb, eq-eqb, eqb-true}
use mathlib.Core.Bool.{beq}
use lib.Ieee.{Float, nan, inf, fin, up, down, below, level, lt, eq, ne, is_nan}
use Rattle.std.specs.Float.{is_sign_negative}
use Rattle.float.specs.Operations.{negative, is_less}
use Rattle.float.proofs.Flags.{never, never', and_left, and_right}

or_no : (b : Bool) → b ≡ b || false
or_no true = refl
or_no false = refl

-- ---- equal

-- of two equal numbers none is below the other
level-not-below : (s t : Bool) (a b : ℕ) → level s a t b ≡ true → below s a t b ≡ false
level-not-below false false a b h = let p = eqb-true a b (and_left _ _ h) in le-ltb a b (omega arith)
level-not-below false true a b h = refl
level-not-below true false a b h = let p = eqb-true a b (and_left _ _ h) in let q = eqb-true a 0 (and_right (eqb a b) (eqb a 0) h) in le-ltb 0 (a + b) (omega arith)
level-not-below true true a b h = let p = eqb-true a b (and_left _ _ h) in le-ltb b a (omega arith)

inf-case : (s t : Bool) → beq s t ≡ true → s && not t ≡ (s && not t) || (beq s t && (s && not t))
inf-case true true h = refl
inf-case true false h = never h
inf-case false t h = sym (no-and (beq false t))
  where
    no-and : (b : Bool) → b && false ≡ false
    no-and true = refl
    no-and false = refl

-- so their signs decide
less-level : (x y : Float) → eq x y ≡ true → is_sign_negative x && not (is_sign_negative y) ≡ is_less x y
unfolding is_less eq lt negative is_sign_negative
less-level nan y h = never h
less-level (inf s) nan h = never h
less-level (inf s) (inf t) h = inf-case s t h
less-level (inf s) (fin t n d) h = never h
less-level (fin s m e) nan h = never h
less-level (fin s m e) (inf t) h = never h
less-level (fin s m e) (fin t n d) h = rw (level-not-below s t _ _ h, h) refl

pub less-minus : (x y : Float) → eq x y ≡ true → is_sign_negative x ≡ true → not (is_sign_negative y) ≡ is_less x y
less-minus x y h s = subst (λ (b : Bool). b && not (is_sign_negative y) ≡ is_less x y) s (less-level x y h)

pub less-plus : (x y : Float) → eq x y ≡ true → is_sign_negative x ≡ false → false ≡ is_less x y
less-plus x y h s = subst (λ (b : Bool). b && not (is_sign_negative y) ≡ is_less x y) s (less-level x y h)

pub equal_number : (x y : Float) → eq x y ≡ true → T (not (is_nan y))
unfolding eq is_nan
equal_number nan y h = never h
equal_number (inf s) nan h = never h
equal_number (inf s) (inf t) h = tt
equal_number (inf s) (fin t n d) h = tt
equal_number (fin s m e) nan h = never h
equal_number (fin s m e) (inf t) h = tt
equal_number (fin s m e) (fin t n d) h = tt

-- ---- not equal

pub less-apart : (x y : Float) → eq x y ≡ false → lt x y ≡ is_less x y
unfolding is_less
less-apart x y h = rw h (or_no (lt x y))

-- ---- a test `n || l` that chooses y

pub chosen : {A : Type 0} (n l : Bool) (x y : A) → n || l ≡ true → y ≡ cond n y (cond l y x)
chosen true l x y e = refl
chosen false true x y e = refl
chosen false false x y e = never e

pub kept : {A : Type 0} (n l : Bool) (x y : A) → n || l ≡ false → x ≡ cond n y (cond l y x)
kept true l x y e = never' e
kept false true x y e = never' e
kept false false x y e = refl

-- how the flag t of such a test came about
pub flag-yes : (n l t : Bool) → n ≡ true → t ≡ n → n || l ≡ t
flag-yes true l t e p = sym p
flag-yes false l t e p = never e

pub flag-no : (n l r t : Bool) → n ≡ false → r ≡ l → t ≡ r → n || l ≡ t
flag-no true l r t e p q = never' e
flag-no false l r t e p q = sym (q ∙ p)

-- ---- a NaN is what differs from itself
self-level : (s : Bool) (a : ℕ) → level s a s a ≡ true
self-level true a = rw (eq-eqb a a refl) refl
self-level false a = rw (eq-eqb a a refl) refl

pub nan-differs : (x : Float) → ne x x ≡ is_nan x
unfolding ne eq is_nan
nan-differs nan = refl
nan-differs (inf true) = refl
nan-differs (inf false) = refl
nan-differs (fin s m e) = rw (self-level s (m * up e * down e)) refl
