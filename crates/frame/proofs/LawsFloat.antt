-- Float operations by the fractions that their operands equal: where a rounding changes nothing, between which values it stays, quotients, sums, and an integer cut towards zero.
use mathlib.Core.Path.{◌≡◌, refl, sym, ap, ap₂, ◌∙◌, subst}
use mathlib.Core.Logic.{◌⊎◌, inl, inr}
use mathlib.Core.Bool.{Bool, true, false, not, ◌&&◌, beq, cond, true≢false, false≢true}
use Prim.Native.Nat.{ℕ, zero, suc, ◌+◌, ◌-◌, ◌*◌, ◌/◌, ◌^◌, ◌≤◌, ◌<◌, min}
use native.Mathlib.Nat.{lt_irrefl, le_trans, le_of_lt, le_of_eq, lt_of_not-le, add_comm, div-one, mod-one, mul_right_comm, mul-le-mul_right}
use native.Mathlib.Nat.{lt_of_le_of_lt, lt_of_lt_of_le, eq-or-lt_of_le, mul_assoc, mul_comm, mul_left_comm, mul-pos, mul-one, one-mul, zero-mul, eq_of_mul-eq-mul_right}
use native.Mathlib.Decide.{dec_le}
use native.Mathlib.Omega.{arith}
use lib.Dec.{T, lit<, eqb, eqb-suc-zero, ltb, lt→ltb}
use lib.Pow.{pow-add, pow_pos, pow_mono, pow-lt, shl_lt}
use lib.IntN.{pos, neg_ℤ}
use lib.Ieee.{Float, nan, inf, fin, Format, prec, emax, low, up, down, unlike, size, units, round, neg, sum, add, div, le, to_signed}
use lib.Ieee.Fits.{two, two-le_pos, down_pos, round_is}
use lib.Ieee.Exact.{HasValue, round_exact, units_val}
use lib.Ieee.Back.{round_whole}
use lib.Ieee.Digits.{size-lt, size-le, size_reaches}
use lib.Ieee.Nearest.{closest, closest_same, div_same}
use lib.Ieee.Order.{drop, kept, round_mono}
use lib.Ieee.Scale.{round_same, grid, round_val, round_under}
use lib.Ieee.Positive.{first_pos, positive-finite, positive_of_value, between, values_of_le}
use Rattle.frame.proofs.LawsQuantise.{size_above}

-- ---- a fraction q * 2 ^ k / 2 ^ j of few digits is a value of the format
shifted : (q k j l : ℕ) → j ≤ l → q * 2 ^ k * 2 ^ l ≡ q * 2 ^ (k + (l - j)) * 2 ^ j
shifted q k j l h =
    let e : 2 ^ k * 2 ^ l ≡ 2 ^ (k + (l - j)) * 2 ^ j = sym (pow-add 2 k l) ∙ ap (λ (n : ℕ). 2 ^ n) (omega arith) ∙ pow-add 2 (k + (l - j)) j in
    mul_assoc q (2 ^ k) (2 ^ l) ∙ ap (λ (n : ℕ). q * n) e ∙ sym (mul_assoc q (2 ^ (k + (l - j))) (2 ^ j))

digits-exact : (f : Format) (s : Bool) (q k j : ℕ) → q < 2 ^ prec f → q * 2 ^ (k + (low f - j)) < 2 ^ (low f + suc (emax f)) → j ≤ low f
    → HasValue (round f s (q * 2 ^ k) (2 ^ j)) s (q * 2 ^ k) (2 ^ j)
digits-exact f s q k j small fine J = round_exact f s (q * 2 ^ k) (2 ^ j) q (k + (low f - j)) (pow_pos j) small fine (shifted q k j (low f) J)

one-lt : (p : ℕ) → 2 ≤ p → 1 < 2 ^ p
one-lt p h = pow-lt {i = 0} (omega arith)

pub few-digits : (f : Format) (s : Bool) (q k j : ℕ) → q ≤ 2 ^ prec f → prec f + k ≤ emax f → j ≤ low f → HasValue (round f s (q * 2 ^ k) (2 ^ j)) s (q * 2 ^ k) (2 ^ j)
few-digits f s q k j small K J = go (eq-or-lt_of_le small)
  where
    room : (p m l : ℕ) → p + k ≤ m → p + (k + (l - j)) < l + suc m
    room p m l h = omega arith

    -- 2 ^ prec has one digit, and more zeros after it
    top : 1 * 2 ^ (prec f + k) ≡ 2 ^ prec f * 2 ^ k
    top = one-mul (2 ^ (prec f + k)) ∙ pow-add 2 (prec f) k

    top_fine : (p m l : ℕ) → p + k ≤ m → 1 * 2 ^ (p + k + (l - j)) < 2 ^ (l + suc m)
    top_fine p m l h = lt_of_le_of_lt (le_of_eq (one-mul (2 ^ (p + k + (l - j))))) (pow-lt (omega arith))

    go : (q ≡ 2 ^ prec f) ⊎ (q < 2 ^ prec f) → HasValue (round f s (q * 2 ^ k) (2 ^ j)) s (q * 2 ^ k) (2 ^ j)
    go (inl e) =
        subst (λ (n : ℕ). HasValue (round f s n (2 ^ j)) s n (2 ^ j)) (top ∙ ap (λ (n : ℕ). n * 2 ^ k) (sym e))
        (digits-exact f s 1 (prec f + k) j (one-lt (prec f) (two f)) (top_fine (prec f) (emax f) (low f) K) J)
    go (inr l) =
        digits-exact f s q k j l (lt_of_lt_of_le (shl_lt (prec f) (k + (low f - j)) l) (pow_mono (le_of_lt (room (prec f) (emax f) (low f) K)))) J

-- ---- a whole number rounded: to its prec leading digits, a tie to the even one
size-shift : (a l : ℕ) → 0 < size a → size (a * 2 ^ l) ≡ size a + l
size-shift a l h =
    let hi : size (a * 2 ^ l) ≤ size a + l = size-le (a * 2 ^ l) (size a + l) (shl_lt (size a) l (size-lt a)) in
    let r : 2 ^ (size a - 1) ≤ a = size_reaches a (size a - 1) (omega arith) in
    let lo : size a - 1 + l < size (a * 2 ^ l) = size_above (a * 2 ^ l) (size a - 1 + l) (le_trans (le_of_eq (pow-add 2 (size a - 1) l)) (mul-le-mul_right (2 ^ l) r)) in
    omega arith

value-cancel : (x : Float) (s : Bool) (a c l : ℕ) → 0 < l → HasValue x s (a * l) (c * l) → HasValue x s a c
value-cancel nan s a c l L v = v
value-cancel (inf t) s a c l L v = v
value-cancel (fin t m e) s a c l L v =
    (v.0, eq_of_mul-eq-mul_right l L (m * up e * c) (a * down e) (mul_assoc (m * up e) c l ∙ v.1 ∙ mul_right_comm a l (down e)))

long-at : (f : Format) (s : Bool) (a : ℕ) → prec f ≤ size a → closest a (2 ^ (size a - prec f)) * 2 ^ (size a - prec f) < 2 ^ suc (emax f)
    → HasValue (round f s a 1) s (closest a (2 ^ (size a - prec f)) * 2 ^ (size a - prec f)) 1
long-at f s a h fine =
    let l = low f in
    let k = size a - prec f in
    let q = closest a (2 ^ k) in
    let digits : size (a * 2 ^ l / 1) - prec f ≡ k + l = ap (λ (n : ℕ). size n - prec f) (div-one (a * 2 ^ l))
    ∙ ap (λ (n : ℕ). n - prec f) (size-shift a l (lt_of_lt_of_le (two-le_pos (prec f) (two f)) h)) ∙ carry (size a) (prec f) l h in
    let same : closest (a * 2 ^ l) (1 * 2 ^ (k + l)) ≡ q =
    closest_same (a * 2 ^ l) (1 * 2 ^ (k + l)) a (2 ^ k) (mul-pos (lit< tt) (pow_pos (k + l))) (pow_pos k) (simp (mul_assoc, mul_comm, one-mul, pow-add)) in
    let big : q * 2 ^ (k + l) ≡ q * 2 ^ k * 2 ^ l = ap (λ (n : ℕ). q * n) (pow-add 2 k l) ∙ sym (mul_assoc q (2 ^ k) (2 ^ l)) in
    let is : round f s a 1 ≡ units f s q (k + l) = round_is f s a 1 ∙ ap (λ (n : ℕ). units f s (closest (a * 2 ^ l) (1 * 2 ^ n)) n) digits ∙ ap (λ (n : ℕ). units f s n (k + l)) same in
    let under : q * 2 ^ (k + l) < 2 ^ (l + suc (emax f)) =
    lt_of_le_of_lt (le_of_eq big) (lt_of_lt_of_le (shl_lt (suc (emax f)) l fine) (le_of_eq (ap (λ (n : ℕ). 2 ^ n) (add_comm (suc (emax f)) l)))) in
    let v : HasValue (units f s q (k + l)) s (q * 2 ^ k * 2 ^ l) (2 ^ l) = subst (λ (n : ℕ). HasValue (units f s q (k + l)) s n (2 ^ l)) big (units_val f s q (k + l) under) in
    value-cancel (round f s a 1) s (q * 2 ^ k) 1 (2 ^ l) (pow_pos l)
    (subst (λ (x : Float). HasValue x s (q * 2 ^ k * 2 ^ l) (1 * 2 ^ l)) (sym is) (subst (λ (n : ℕ). HasValue (units f s q (k + l)) s (q * 2 ^ k * 2 ^ l) n) (sym (one-mul (2 ^ l))) v))
  where
    carry : (z p l : ℕ) → p ≤ z → z + l - p ≡ z - p + l
    carry z p l h = omega arith

pub whole-at : (f : Format) (s : Bool) (a : ℕ) → closest a (2 ^ (size a - prec f)) * 2 ^ (size a - prec f) < 2 ^ suc (emax f)
    → HasValue (round f s a 1) s (closest a (2 ^ (size a - prec f)) * 2 ^ (size a - prec f)) 1
whole-at f s a fine = go (dec_le (prec f) (size a))
  where
    short : size a < prec f → closest a (2 ^ (size a - prec f)) * 2 ^ (size a - prec f) ≡ a
    short l = let e : size a - prec f ≡ 0 = none (size a) (prec f) l in rw (e, div-one, mod-one) (mul-one a)
      where
        none : (z p : ℕ) → z < p → z - p ≡ 0
        none z p l = omega arith

    go : Dec (prec f ≤ size a) → HasValue (round f s a 1) s (closest a (2 ^ (size a - prec f)) * 2 ^ (size a - prec f)) 1
    go (yes h) = long-at f s a h fine
    go (no h) =
        let l = lt_of_not-le h in
        subst (λ (n : ℕ). HasValue (round f s a 1) s n 1) (sym (short l)) (round_whole f s a (le_of_lt (lt_of_lt_of_le (size-lt a) (pow_mono (le_of_lt l)))))

-- ---- a rounded fraction stays between two values of the format: n / d ≤ a / c ≤ m / b
pub round-between : (f : Format) (s : Bool) (a c n d m b : ℕ) → 0 < c → 0 < d → 0 < b → 0 < n → 0 < m
    → HasValue (round f false n d) false n d → HasValue (round f false m b) false m b → n * c ≤ a * d → a * b ≤ m * c
    → HasValue (round f s a c) s (grid f a c) (2 ^ low f) × (n * 2 ^ low f ≤ grid f a c * d) × (grid f a c * b ≤ m * 2 ^ low f)
round-between f s a c n d m b C D B N M lo hi h k =
    let x = round f false a c in
    let x-ge : T (le (round f false n d) x) = round_mono f n d a c D C h in
    let x-le : T (le x (round f false m b)) = round_mono f a c m b C B k in
    let lo-pos = positive_of_value (round f false n d) n d lo N in
    let hi-pos = positive_of_value (round f false m b) m b hi M in
    let x_pos = between (round f false n d) x (round f false m b) lo-pos hi-pos x-ge x-le in
    let fine = round_under f a c (positive-finite x x_pos) in
    let v = round_val f a c fine in (
      subst (λ (z : Float). HasValue z s (grid f a c) (2 ^ low f)) (sym (round_is f s a c)) (units_val f s (kept (prec f) (a * 2 ^ low f) c) (drop (prec f) (a * 2 ^ low f) c) fine),
      values_of_le (round f false n d) x n d (grid f a c) (2 ^ low f) lo-pos x_pos lo v x-ge,
      values_of_le x (round f false m b) (grid f a c) (2 ^ low f) m b x_pos hi-pos v hi x-le,
    )

-- ---- the negative
pub neg-at : (x : Float) (s : Bool) (a c : ℕ) → HasValue x s a c → HasValue (neg x) (not s) a c
unfolding neg
neg-at nan s a c v = v
neg-at (inf t) s a c v = v
neg-at (fin t m e) s a c v = (ap not v.0, v.1)

-- ---- a / c over b / d
not-zero : (n : ℕ) → 0 < n → eqb n 0 ≡ false
not-zero zero h = absurd (lt_irrefl 0 h)
not-zero (suc n) h = eqb-suc-zero n

across : (x y u v a c b d : ℕ) → x * c ≡ a * u → y * d ≡ b * v → x * v * (b * c) ≡ a * d * (y * u)
across x y u v a c b d p q =
    let l : x * v * (b * c) ≡ x * c * (b * v) = simp (mul_assoc, mul_comm, mul_left_comm) in
    let r : a * u * (y * d) ≡ a * d * (y * u) = simp (mul_assoc, mul_comm, mul_left_comm) in
    l ∙ ap₂ ◌*◌ p (sym q) ∙ r

pub div-at : (f : Format) (x y : Float) (s t : Bool) (a c b d : ℕ) → 0 < c → 0 < b → HasValue x s a c → HasValue y t b d → div f x y ≡ round f (unlike s t) (a * d) (b * c)
unfolding div
div-at f nan y s t a c b d C B h k = absurd h
div-at f (inf u) y s t a c b d C B h k = absurd h
div-at f (fin u m e) nan s t a c b d C B h k = absurd k
div-at f (fin u m e) (inf v) s t a c b d C B h k = absurd k
div-at f (fin u m e) (fin v n g) s t a c b d C B h k =
    let N : 0 < n * up g = first_pos (n * up g) d (subst (λ (z : ℕ). 0 < z) (sym k.1) (mul-pos B (down_pos g))) in
    rw (not-zero n (first_pos n (up g) N), h.0, k.0)
    (round_same f (unlike s t) (m * up e * down g) (n * up g * down e) (a * d) (b * c) (mul-pos N (down_pos e)) (mul-pos B C)
    (across (m * up e) (n * up g) (down e) (down g) a c b d h.1 k.1))

-- ---- a / c and b / d added, of one sign, or where the first is 0
cond_yes : (b : Bool) (x y : Float) → T b → cond b x y ≡ x
cond_yes true x y t = refl
cond_yes false x y t = absurd t

sum_is : (f : Format) (s t : Bool) (a b c : ℕ) → 0 < b → (s ≡ t) ⊎ (a ≡ 0) → sum f s a t b c ≡ round f t (a + b) c
unfolding sum
sum_is f s t a b c B h = go s t h
  where
    larger : a ≡ 0 → (t u : Bool) → cond (ltb a b) (round f t (b - a) c) (round f u (a - b) c) ≡ round f t (a + b) c
    larger e t u = cond_yes (ltb a b) (round f t (b - a) c) (round f u (a - b) c) (lt→ltb a b (omega arith)) ∙ ap (λ (n : ℕ). round f t n c) (omega arith)

    go : (s t : Bool) → (s ≡ t) ⊎ (a ≡ 0) → cond (beq s t) (round f s (a + b) c) (cond (ltb a b) (round f t (b - a) c) (round f (s && ltb b a) (a - b) c)) ≡ round f t (a + b) c
    go false false h = refl
    go true true h = refl
    go false true (inl e) = absurd (false≢true e)
    go true false (inl e) = absurd (true≢false e)
    go false true (inr e) = larger e true (false && ltb b a)
    go true false (inr e) = larger e false (true && ltb b a)

together : (x y u v a c b d : ℕ) → x * c ≡ a * u → y * d ≡ b * v → (x * v + y * u) * (c * d) ≡ (a * d + b * c) * (u * v)
together x y u v a c b d p q =
    let l : (x * v + y * u) * (c * d) ≡ x * c * (v * d) + y * d * (u * c) = omega arith in
    let r : a * u * (v * d) + b * v * (u * c) ≡ (a * d + b * c) * (u * v) = omega arith in
    l ∙ ap₂ (λ (m n : ℕ). m * (v * d) + n * (u * c)) p q ∙ r

pub add_at : (f : Format) (x y : Float) (s t : Bool) (a c b d : ℕ) → 0 < c → 0 < d → 0 < b → (s ≡ t) ⊎ (a ≡ 0) → HasValue x s a c → HasValue y t b d → add f x y ≡ round f t (a * d + b * c) (c * d)
unfolding add
add_at f nan y s t a c b d C D B o h k = absurd h
add_at f (inf u) y s t a c b d C D B o h k = absurd h
add_at f (fin u m e) nan s t a c b d C D B o h k = absurd k
add_at f (fin u m e) (inf v) s t a c b d C D B o h k = absurd k
add_at f (fin u m e) (fin v n g) s t a c b d C D B o h k =
    let N : 0 < n * up g = first_pos (n * up g) d (subst (λ (z : ℕ). 0 < z) (sym k.1) (mul-pos B (down_pos g))) in
    rw (h.0, k.0)
    (sum_is f s t (m * up e * down g) (n * up g * down e) (down e * down g) (mul-pos N (down_pos e)) (either o)
    ∙ round_same f t (m * up e * down g + n * up g * down e) (down e * down g) (a * d + b * c) (c * d) (mul-pos (down_pos e) (down_pos g)) (mul-pos C D)
    (together (m * up e) (n * up g) (down e) (down g) a c b d h.1 k.1))
  where
    none : a ≡ 0 → m * up e * down g ≡ 0
    none z = ap (λ (w : ℕ). w * down g) (eq_of_mul-eq-mul_right c C (m * up e) 0 (h.1 ∙ ap (λ (w : ℕ). w * down e) z ∙ zero-mul (down e) ∙ sym (zero-mul c))) ∙ zero-mul (down g)

    either : (s ≡ t) ⊎ (a ≡ 0) → (s ≡ t) ⊎ (m * up e * down g ≡ 0)
    either (inl e) = inl e
    either (inr z) = inr (none z)

-- ---- a / c cut towards zero, where that is in the range
uncapped : (a c : ℕ) → a < c → (min a c ≡ a) × (min a (c - 1) ≡ a)
uncapped a c h = (omega arith, omega arith)

pub to_signed-at : (h : ℕ) (x : Float) (s : Bool) (a c : ℕ) → 0 < c → HasValue x s a c → a / c < 2 ^ h → to_signed h x ≡ cond s (neg_ℤ (pos (a / c))) (pos (a / c))
unfolding to_signed
to_signed-at h nan s a c C v l = absurd v
to_signed-at h (inf u) s a c C v l = absurd v
to_signed-at h (fin u m e) s a c C v l =
    let q : m * up e / down e ≡ a / c = div_same (m * up e) (down e) a c (down_pos e) C v.1 in
    let k = uncapped (a / c) (2 ^ h) l in
    rw (v.0, q, k.0, k.1)
