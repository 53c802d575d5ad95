-- Sums and exact products of floats, by any fractions that they equal. Assumes nothing.
use Rattle.std.proofs.Common.{◌≡◌, ℕ, ◌+◌, ◌-◌, ◌*◌, ◌<◌, Bool, true, false, cond, ◌&&◌, T, ltb, ◌+ℤ◌, sym, refl, ap, ◌∙◌, subst, ap₂, le_of_eq, lt_of_lt_of_le, lt_of_le_of_lt, mul_assoc, mul_comm, add-mul, lt_of_mul-lt-mul_right, mul-lt-mul_of_pos_right, mul-pos, mul_right_comm, ltb→lt, lt→ltb}
use mathlib.Core.Bool.{beq}
use native.Mathlib.Nat.{mul-sub, eq_of_mul-eq-mul_right}
use lib.Ieee.{Float, nan, inf, fin, Format, unlike, up, down, round, sum, add}
use lib.Ieee.Fits.{down_pos}
use lib.Ieee.Exact.{HasValue}
use lib.Ieee.Scale.{round_same}
use Rattle.float.specs.FusedMultiplyAdd.{times, fused_multiply_add}
use Rattle.float.proofs.Sizes.{cross-left, cross-mid, cross-right, up-add}

-- ---- a fraction at another scale
pub value-scale : (x : Float) (s : Bool) (a c k : ℕ) → HasValue x s a c → HasValue x s (a * k) (c * k)
value-scale nan s a c k h = h
value-scale (inf t) s a c k h = h
value-scale (fin t m e) s a c k h = (h.0, sym (mul_assoc (m * up e) c k) ∙ ap (λ (z : ℕ). z * k) h.1 ∙ mul_right_comm a (down e) k)

pub value-is : (x : Float) (s : Bool) (a b c d : ℕ) → a ≡ b → c ≡ d → HasValue x s a c → HasValue x s b d
value-is x s a b c d p q h = subst (λ (z : ℕ). HasValue x s b z) q (subst (λ (z : ℕ). HasValue x s z c) p h)

-- ---- the exact product

-- m * ue is a * de / c, and n * ud is b * dd / g
cross : (m ue de a c n ud dd b g us ds : ℕ) → 0 < de → 0 < dd → m * ue * c ≡ a * de → n * ud * g ≡ b * dd → us * (de * dd) ≡ ue * ud * ds → m * n * us * (c * g) ≡ a * b * ds
cross m ue de a c n ud dd b g us ds D E p q r =
    eq_of_mul-eq-mul_right (de * dd) (mul-pos D E) (m * n * us * (c * g)) (a * b * ds)
    (cross-left m n us (c * g) (de * dd)
    ∙ ap (λ (z : ℕ). m * n * (c * g) * z) r
    ∙ cross-mid m n c g ue ud ds
    ∙ ap₂ (λ (y z : ℕ). y * z * ds) p q
    ∙ cross-right a de b dd ds)

pub times-value : (x y : Float) (s t : Bool) (a b c g : ℕ) → HasValue x s a c → HasValue y t b g → HasValue (times x y) (unlike s t) (a * b) (c * g)
unfolding times
times-value nan y s t a b c g h k = absurd h
times-value (inf u) y s t a b c g h k = absurd h
times-value (fin u m e) nan s t a b c g h k = absurd k
times-value (fin u m e) (inf v) s t a b c g h k = absurd k
times-value (fin u m e) (fin v n d) s t a b c g h k = (
  ap₂ unlike h.0 k.0,
  cross m (up e) (down e) a c n (up d) (down d) b g (up (e +ℤ d)) (down (e +ℤ d)) (down_pos e) (down_pos d) h.1 k.1 (up-add e d),
)

-- ---- the sum of equal fractions
same_test : (a b : Bool) → (T a → T b) → (T b → T a) → a ≡ b
same_test true true p q = refl
same_test true false p q = absurd (p tt)
same_test false true p q = absurd (q tt)
same_test false false p q = refl

pub less-same : (a b c x y z : ℕ) → 0 < c → 0 < z → a * z ≡ x * c → b * z ≡ y * c → ltb a b ≡ ltb x y
less-same a b c x y z C Z p q =
    same_test (ltb a b) (ltb x y)
    (λ t. lt→ltb x y (lt_of_mul-lt-mul_right c (lt_of_le_of_lt (le_of_eq (sym p)) (lt_of_lt_of_le (mul-lt-mul_of_pos_right (ltb→lt a b t) Z) (le_of_eq q)))))
    (λ t. lt→ltb a b (lt_of_mul-lt-mul_right z (lt_of_le_of_lt (le_of_eq p) (lt_of_lt_of_le (mul-lt-mul_of_pos_right (ltb→lt x y t) C) (le_of_eq (sym q))))))

diff-same : (a b c x y z : ℕ) → a * z ≡ x * c → b * z ≡ y * c → (a - b) * z ≡ (x - y) * c
diff-same a b c x y z p q = spread a b z ∙ ap₂ (λ (m n : ℕ). m - n) p q ∙ sym (spread x y c)
  where
    spread : (a b z : ℕ) → (a - b) * z ≡ a * z - b * z
    spread a b z = mul_comm (a - b) z ∙ mul-sub z a b ∙ ap₂ (λ (m n : ℕ). m - n) (mul_comm z a) (mul_comm z b)

pub sum_is : (f : Format) (s : Bool) (a : ℕ) (t : Bool) (b c : ℕ)
    → sum f s a t b c ≡ cond (beq s t) (round f s (a + b) c) (cond (ltb a b) (round f t (b - a) c) (round f (s && ltb b a) (a - b) c))
unfolding sum
sum_is f s a t b c = refl

pub sum_same : (f : Format) (s t : Bool) (a b c x y z : ℕ) → 0 < c → 0 < z → a * z ≡ x * c → b * z ≡ y * c → sum f s a t b c ≡ sum f s x t y z
sum_same f s t a b c x y z C Z p q =
    sum_is f s a t b c
    ∙ ap₂ (λ (i j : Bool). cond (beq s t) (round f s (a + b) c) (cond i (round f t (b - a) c) (round f (s && j) (a - b) c))) (less-same a b c x y z C Z p q) (less-same b a c y x z C Z q p)
    ∙ ap (λ (v : Float). cond (beq s t) v (cond (ltb x y) (round f t (b - a) c) (round f (s && ltb y x) (a - b) c)))
    (round_same f s (a + b) c (x + y) z C Z (add-mul a b z ∙ ap₂ (λ (m n : ℕ). m + n) p q ∙ sym (add-mul x y c)))
    ∙ ap (λ (v : Float). cond (beq s t) (round f s (x + y) z) (cond (ltb x y) v (round f (s && ltb y x) (a - b) c))) (round_same f t (b - a) c (y - x) z C Z (diff-same b a c y x z q p))
    ∙ ap (λ (v : Float). cond (beq s t) (round f s (x + y) z) (cond (ltb x y) (round f t (y - x) z) v)) (round_same f (s && ltb y x) (a - b) c (x - y) z C Z (diff-same a b c x y z p q))
    ∙ sym (sum_is f s x t y z)

-- `add`, by any fractions with one divisor
pub add-value : (f : Format) (x y : Float) (s t : Bool) (a b c : ℕ) → 0 < c → HasValue x s a c → HasValue y t b c → add f x y ≡ sum f s a t b c
unfolding add
add-value f nan y s t a b c C h k = absurd h
add-value f (inf u) y s t a b c C h k = absurd h
add-value f (fin u m e) nan s t a b c C h k = absurd k
add-value f (fin u m e) (inf v) s t a b c C h k = absurd k
add-value f (fin u m e) (fin v n d) s t a b c C h k =
    ap₂ (λ (i j : Bool). sum f i (m * up e * down d) j (n * up d * down e) (down e * down d)) h.0 k.0
    ∙ sum_same f s t (m * up e * down d) (n * up d * down e) (down e * down d) a b c (mul-pos (down_pos e) (down_pos d)) C
    (mul_right_comm (m * up e) (down d) c ∙ ap (λ (z : ℕ). z * down d) h.1 ∙ mul_assoc a (down e) (down d))
    (mul_right_comm (n * up d) (down e) c ∙ ap (λ (z : ℕ). z * down e) k.1 ∙ mul_assoc b (down d) (down e) ∙ ap (λ (z : ℕ). b * z) (mul_comm (down d) (down e)))

pub fma-value : (f : Format) (x y z : Float) (s r : Bool) (a o c : ℕ) → 0 < c → HasValue (times x y) s a c → HasValue z r o c → fused_multiply_add f x y z ≡ sum f s a r o c
unfolding fused_multiply_add
fma-value f x y z s r a o c C h k = add-value f (times x y) z s r a o c C h k
