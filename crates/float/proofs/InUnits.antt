-- Finite values counted in the format's smallest one: what a float is as a whole number, its order by these, and values within bounds.
use Rattle.std.proofs.Common.{◌≡◌, ℕ, zero, suc, ◌+◌, ◌-◌, ◌*◌, ◌/◌, ◌%◌, ◌^◌, ◌<◌, ◌≤◌, Bool, true, false, cond, ◌&&◌, T, eqb, ltb, leb, ℤ, pos, negsuc, sym, refl, ap, ◌∙◌, le_trans, le_of_eq, mul-le-mul_right, mul_assoc, mul_comm, mul-pos, lt_of_not-le, zero-mul, mul-one, mul_right_comm, not-le_of_lt, le_of_mul-le-mul_right, mul-div_cancel, arith, leb→le, pow_pos, pow-add, ltb-false, ltb-true, le-ltb, lt-ltb}
use native.Mathlib.Decide.{dec_le}
use lib.Pow.{pow-lt}
use lib.Ieee.{Float, nan, inf, fin, Format, prec, emax, low, up, down, neg, below, lt, fits}
use lib.Ieee.Fits.{down_pos, and_l, and_r}
use lib.Ieee.Exact.{HasValue}
use Rattle.float.specs.Operations.{negative}
use Rattle.float.proofs.Flags.{never}
use Rattle.float.proofs.Value.{less-same}

-- the size of x in such counts
unfoldable pub mag : Format → Float → ℕ
mag f nan = 0
mag f (inf s) = 0
mag f (fin s m e) = m * up e * 2 ^ low f / down e

-- a where the sign is not negative, and where it is
abbrev pub plus : Bool → ℕ → ℕ
plus s a = cond s 0 a

abbrev pub minus : Bool → ℕ → ℕ
minus s a = cond s a 0

-- x is `over` of them less `under`
unfoldable pub over : Format → Float → ℕ
over f x = plus (negative x) (mag f x)

unfoldable pub under : Format → Float → ℕ
under f x = minus (negative x) (mag f x)

-- x is finite, and such a count
abbrev pub InUnits : Format → Float → Type 0
InUnits f x = HasValue x (negative x) (mag f x) (2 ^ low f)

pub record SignAndSize (f : Format) (x : Float) (s : Bool) (n : ℕ) : Type 0 where
  pub sign : negative x ≡ s
  pub mag_is : mag f x ≡ n

pub sign-and-size : (f : Format) (x : Float) (s : Bool) (n : ℕ) → HasValue x s n (2 ^ low f) → SignAndSize f x s n
unfolding mag negative
sign-and-size f nan s n v = absurd v
sign-and-size f (inf t) s n v = absurd v
sign-and-size f (fin t m e) s n v = record { sign = v.0; mag_is = ap (λ (z : ℕ). z / down e) v.1 ∙ mul-div_cancel n (down_pos e) }

pub in-units : (f : Format) (x : Float) (s : Bool) (n : ℕ) → HasValue x s n (2 ^ low f) → InUnits f x
in-units f x s n v = let k = sign-and-size f x s n v in rw (k.sign, k.mag_is) v

-- x is finite, a value of the format, and at most n in size
pub record AtMost (f : Format) (x : Float) (n : ℕ) : Type 0 where
  pub is : InUnits f x
  pub size : mag f x ≤ n * 2 ^ low f

pub at-most-sides : {f : Format} {x : Float} {n : ℕ} → AtMost f x n → over f x + under f x ≤ n * 2 ^ low f
unfolding over under
at-most-sides {f} {x} {n} h = go (negative x) h.size
  where
    go : (s : Bool) → mag f x ≤ n * 2 ^ low f → plus s (mag f x) + minus s (mag f x) ≤ n * 2 ^ low f
    go true l = omega arith
    go false l = omega arith

-- ---- the negative
neg-in-units : (f : Format) (x : Float) → InUnits f x → (InUnits f (neg x)) × (mag f (neg x) ≡ mag f x)
unfolding neg mag negative
neg-in-units f nan v = absurd v
neg-in-units f (inf s) v = absurd v
neg-in-units f (fin s m e) v = ((refl, v.1), refl)

pub neg-at-most : {f : Format} {x : Float} {n : ℕ} → AtMost f x n → AtMost f (neg x) n
neg-at-most {f} {x} {n} h = let k = neg-in-units f x h.is in record { is = k.0; size = rw k.1 h.size }

pub neg-sides : (f : Format) (x : Float) → InUnits f x → (over f (neg x) ≡ under f x) × (under f (neg x) ≡ over f x)
unfolding neg mag negative over under
neg-sides f nan v = absurd v
neg-sides f (inf s) v = absurd v
neg-sides f (fin true m e) v = (refl, refl)
neg-sides f (fin false m e) v = (refl, refl)

-- ---- order
-- A / u and a / w are equal, and B / u and b / w
below-in-units : (s t : Bool) (A B a b u w : ℕ) → 0 < u → 0 < w → A * u ≡ a * w → B * u ≡ b * w → below s A t B ≡ ltb (plus s a + minus t b) (plus t b + minus s a)
below-in-units false false A B a b u w U W p q = less-same A B w (a + 0) (b + 0) u W U (omega arith) (omega arith)
below-in-units false true A B a b u w U W p q = sym (le-ltb (a + b) (0 + 0) (omega arith))
below-in-units true false A B a b u w U W p q = less-same 0 (A + B) w (0 + 0) (b + a) u W U (omega arith) (omega arith)
below-in-units true true A B a b u w U W p q = less-same B A w (0 + b) (0 + a) u W U (omega arith) (omega arith)

pub lt-in-units : (f : Format) (x y : Float) → InUnits f x → InUnits f y → lt x y ≡ ltb (over f x + under f y) (over f y + under f x)
unfolding lt over under negative
lt-in-units f nan y h k = absurd h
lt-in-units f (inf s) y h k = absurd h
lt-in-units f (fin s m e) nan h k = absurd k
lt-in-units f (fin s m e) (inf t) h k = absurd k
lt-in-units f (fin s m e) (fin t n d) h k =
    let u = 2 ^ low f in
    below-in-units s t (m * up e * down d) (n * up d * down e) (mag f (fin s m e)) (mag f (fin t n d)) u (down e * down d) (pow_pos (low f)) (mul-pos (down_pos e) (down_pos d))
    (mul_right_comm (m * up e) (down d) u ∙ ap (λ (z : ℕ). z * down d) h.1 ∙ mul_assoc (mag f (fin s m e)) (down e) (down d))
    (mul_right_comm (n * up d) (down e) u ∙ ap (λ (z : ℕ). z * down e) k.1 ∙ mul_assoc (mag f (fin t n d)) (down d) (down e) ∙ ap (λ (z : ℕ). mag f (fin t n d) * z) (mul_comm (down d) (down e)))

pub lt-true : (f : Format) (x y : Float) → InUnits f x → InUnits f y → lt x y ≡ true → over f x + under f y < over f y + under f x
lt-true f x y h k e = ltb-true (over f x + under f y) (over f y + under f x) (sym (lt-in-units f x y h k) ∙ e)

pub lt-false : (f : Format) (x y : Float) → InUnits f x → InUnits f y → lt x y ≡ false → over f y + under f x ≤ over f x + under f y
lt-false f x y h k e = ltb-false (over f x + under f y) (over f y + under f x) (sym (lt-in-units f x y h k) ∙ e)

pub true-lt : (f : Format) (x y : Float) → InUnits f x → InUnits f y → over f x + under f y < over f y + under f x → lt x y ≡ true
true-lt f x y h k l = lt-in-units f x y h k ∙ lt-ltb (over f x + under f y) (over f y + under f x) l

-- ---- which values are such counts

-- every finite one that the format holds
digits-in-units : (f : Format) (s : Bool) (m : ℕ) (e : ℤ) → down e ≤ 2 ^ low f → InUnits f (fin s m e)
digits-in-units f s m (pos k) h = in-units f (fin s m (pos k)) s (m * 2 ^ k * 2 ^ low f) (refl, sym (mul-one (m * 2 ^ k * 2 ^ low f)))
digits-in-units f s m (negsuc k) h =
    let l = low f in
    let K : suc k ≤ l = elim (dec_le (suc k) l) [ yes p ↦ p | no p ↦ absurd (not-le_of_lt (pow-lt (lt_of_not-le p)) h) ] in
    in-units f (fin s m (negsuc k)) s (m * 2 ^ (l - suc k))
    (refl, ap (λ (z : ℕ). z * 2 ^ l) (mul-one m) ∙ ap (λ (z : ℕ). m * z) (ap (λ (z : ℕ). 2 ^ z) (back l (suc k) K) ∙ pow-add 2 (l - suc k) (suc k)) ∙ sym (mul_assoc m (2 ^ (l - suc k)) (2 ^ suc k)))
  where
    back : (l k : ℕ) → k ≤ l → l ≡ l - k + k
    back l k h = omega arith

fits-in-units : (f : Format) (s : Bool) (m : ℕ) (e : ℤ) → T (fits f (fin s m e)) → InUnits f (fin s m e)
unfolding fits
fits-in-units f s zero e t = in-units f (fin s zero e) s 0 (refl, ap (λ (z : ℕ). z * 2 ^ low f) (zero-mul (up e)) ∙ zero-mul (2 ^ low f) ∙ sym (zero-mul (down e)))
fits-in-units f s (suc m) e t =
    let a = eqb (suc m % 2) 1 && ltb (suc m) (2 ^ prec f) in
    digits-in-units f s (suc m) e (leb→le (down e) (2 ^ low f) (and_r a (leb (down e) (2 ^ low f)) (and_l (a && leb (down e) (2 ^ low f)) (ltb (suc m * up e) (2 ^ suc (emax f) * down e)) t)))

pub at-most-literal : {f : Format} {s : Bool} {m : ℕ} {e : ℤ} (n : ℕ) → T (fits f (fin s m e)) → m * up e ≤ n * down e → AtMost f (fin s m e) n
at-most-literal {f} {s} {m} {e} n t h =
    let v = fits-in-units f s m e t in
    record {
      is = v;
      size = le_of_mul-le-mul_right (le_trans (le_of_eq (sym v.1)) (le_trans (mul-le-mul_right (2 ^ low f) h) (le_of_eq (mul_right_comm n (down e) (2 ^ low f))))) (down_pos e);
    }

-- finite by two tests
tested-in-units : (f : Format) (x y : Float) → T (fits f x) → InUnits f y → lt (neg y) x ≡ true → lt x y ≡ true → InUnits f x
unfolding lt neg
tested-in-units f nan y t h p q = never q
tested-in-units f (inf s) nan t h p q = absurd h
tested-in-units f (inf s) (inf v) t h p q = absurd h
tested-in-units f (inf true) (fin v n d) t h p q = never p
tested-in-units f (inf false) (fin v n d) t h p q = never q
tested-in-units f (fin s m e) y t h p q = fits-in-units f s m e t

inside : (f : Format) (x : Float) (c d : ℕ) → d + under f x < over f x + c → over f x + d < c + under f x → mag f x ≤ c + d
unfolding over under
inside f x c d a b = go (negative x) a b
  where
    go : (s : Bool) → d + minus s (mag f x) < plus s (mag f x) + c → plus s (mag f x) + d < c + minus s (mag f x) → mag f x ≤ c + d
    go true a b = omega arith
    go false a b = omega arith

-- a value of the format between -y and y
pub at-most-between : {f : Format} {x y : Float} {n : ℕ} → T (fits f x) → AtMost f y n → lt (neg y) x ≡ true → lt x y ≡ true → AtMost f x n
at-most-between {f} {x} {y} {n} t h p q =
    let v = tested-in-units f x y t h.is p q in
    let k = neg-sides f y h.is in
    let a = lt-true f (neg y) x (neg-in-units f y h.is).0 v p in
    let b = lt-true f x y v h.is q in
    record { is = v; size = le_trans (inside f x (over f y) (under f y) (rw (k.0, k.1) at a) b) (at-most-sides h) }
