-- Numbers with a sticky bit. Assumes nothing.
use Rattle.std.proofs.Common.{◌≡◌, ℕ, suc, ◌+◌, ◌*◌, ◌/◌, ◌%◌, ◌<◌, ◌≤◌, not, T, eqb, sym, refl, ap, ◌∙◌, subst, le_of_eq, le_of_suc-le-suc, le_of_lt, mod-lt, mul_assoc, suc-mul, mul_comm, div-lt_iff_lt-mul, add-mul, le_antisymm, mul-pos, div-add-mod', le-div_iff_mul-le, arith, eqb→eq, leb→le}
use Prim.Native.Nat.{compare, Ordering}
use lib.Dec.{is_le, compare_is_eq, nleb→lt, eqb_refl}
use lib.Arith.{lt_of_le-ne}
use lib.Ieee.{nearest}
use lib.Ieee.Nearest.{closest}
use Rattle.float.specs.inner.Sticky.{Sticky}

-- ---- what `compare` says
abbrev pub Cmp : Ordering → ℕ → ℕ → Type 0
Cmp Ordering.lt a b = a < b
Cmp Ordering.eq a b = a ≡ b
Cmp Ordering.gt a b = b < a

pub cmp : (a b : ℕ) → Cmp (compare a b) a b
cmp a b = go (compare a b) (leb→le a b) (nleb→lt a b) (eqb→eq a b) (λ (e : a ≡ b). subst (λ (x : ℕ). T (eqb a x)) e (eqb_refl a))
  where
    go : (o : Ordering) → (T (is_le o) → a ≤ b) → (T (not (is_le o)) → b < a) → (T (compare_is_eq o) → a ≡ b) → (a ≡ b → T (compare_is_eq o)) → Cmp o a b
    go Ordering.lt h k e n = lt_of_le-ne (h tt) n
    go Ordering.eq h k e n = e tt
    go Ordering.gt h k e n = k tt

no_le : (a b : ℕ) → a < b → b < a → ⊥
no_le a b h k = omega arith

no_eq : (a b : ℕ) → a < b → a ≡ b → ⊥
no_eq a b h k = omega arith

no-eq' : (a b : ℕ) → b < a → a ≡ b → ⊥
no-eq' a b h k = omega arith

-- the answers are the same where each fact of one pair gives that of the other
cmp-same : (a b c d : ℕ) → (c < d → a < b) → (c ≡ d → a ≡ b) → (d < c → b < a) → compare a b ≡ compare c d
cmp-same a b c d l e g = go (compare a b) (compare c d) (cmp a b) (cmp c d)
  where
    go : (o p : Ordering) → Cmp o a b → Cmp p c d → o ≡ p
    go Ordering.lt Ordering.lt x y = refl
    go Ordering.lt Ordering.eq x y = absurd (no_eq a b x (e y))
    go Ordering.lt Ordering.gt x y = absurd (no_le a b x (g y))
    go Ordering.eq Ordering.lt x y = absurd (no_eq a b (l y) x)
    go Ordering.eq Ordering.eq x y = refl
    go Ordering.eq Ordering.gt x y = absurd (no-eq' a b (g y) x)
    go Ordering.gt Ordering.lt x y = absurd (no_le a b (l y) x)
    go Ordering.gt Ordering.eq x y = absurd (no-eq' a b x (e y))
    go Ordering.gt Ordering.gt x y = refl

div_is : (n u q : ℕ) → 0 < u → q * u ≤ n → n < suc q * u → n / u ≡ q
div_is n u q U a b = le_antisymm (le_of_suc-le-suc ((div-lt_iff_lt-mul U).1 b)) ((le-div_iff_mul-le U).1 a)

-- ---- rounding a number is rounding what stands for it, if at least two bits are dropped
module _ (m w t k : ℕ) (T₀ : 0 < t) (K : 0 < k) (j : Sticky m w t) where
  -- the even number 2 * v against w and m: at most
  pub at_least : (v : ℕ) → 2 * v ≤ w → 2 * v * t ≤ m
  at_least v h = go (compare (2 * v) w) (cmp (2 * v) w)
    where
      go : (o : Ordering) → Cmp o (2 * v) w → 2 * v * t ≤ m
      go Ordering.lt x = le_of_lt (j.over v x)
      go Ordering.eq x = le_of_eq (sym (j.at v (sym x)))
      go Ordering.gt x = absurd (no-gt (2 * v) w h x)
        where
          no-gt : (a b : ℕ) → a ≤ b → b < a → ⊥
          no-gt a b p q = omega arith

  pub closest-sticky : closest m (2 * (2 * k) * t) ≡ closest w (2 * (2 * k))
  closest-sticky =
      let u = 2 * (2 * k) in
      let q = w / u in
      let r = w % u in
      let U : 0 < u = mul-pos (lit 1) (mul-pos (lit 1) K) in
      let W : q * u + r ≡ w = div-add-mod' w u in
      let R : r < u = mod-lt w U in
      let low : 2 * (q * (2 * k)) ≡ q * u = swap q (2 * k) in
      let high : 2 * (suc q * (2 * k)) ≡ q * u + u = swap (suc q) (2 * k) ∙ suc-mul q u in
      let mid : 2 * (q * (2 * k) + k) ≡ q * u + 2 * k = middle (q * (2 * k)) k (q * u) low in
      let a : q * u * t ≤ m = subst (λ (z : ℕ). z * t ≤ m) low (at_least (q * (2 * k)) (le1 (2 * (q * (2 * k))) (q * u) r w low W)) in
      let b : m < (q * u + u) * t = subst (λ (z : ℕ). m < z * t) high (j.under (suc q * (2 * k)) (lt1 (2 * (suc q * (2 * k))) (q * u) u r w high W R)) in
      let Q : m / (u * t) ≡ q = div_is m (u * t) q (mul-pos U T₀) (le-eq (sym (mul_assoc q u t)) a) (lt-eq (ap (λ (z : ℕ). z * t) (sym (suc-mul q u)) ∙ mul_assoc (suc q) u t) b) in
      let s = m % (u * t) in
      let M : q * u * t + s ≡ m = ap (λ (z : ℕ). z + s) (mul_assoc q u t ∙ ap (λ (z : ℕ). z * (u * t)) (sym Q)) ∙ div-add-mod' m (u * t) in
      let mid-t : 2 * (q * (2 * k) + k) * t ≡ q * u * t + 2 * k * t = ap (λ (z : ℕ). z * t) mid ∙ add-mul (q * u) (2 * k) t in
      let ut : u * t ≡ 2 * (2 * k * t) = mul_assoc 2 (2 * k) t in
      let C : compare (s * 2) (u * t) ≡ compare (r * 2) u =
      cmp-same (s * 2) (u * t) (r * 2) u
      (λ h. c_lt (q * u) r w (2 * k) (q * u * t) s m (2 * k * t) (u * t) (2 * (q * (2 * k) + k)) (2 * (q * (2 * k) + k) * t) W mid M mid-t ut h (j.under (q * (2 * k) + k)))
      (λ h. c-eq (q * u) r w (2 * k) (q * u * t) s m (2 * k * t) (u * t) (2 * (q * (2 * k) + k)) (2 * (q * (2 * k) + k) * t) W mid M mid-t ut h (j.at (q * (2 * k) + k)))
      (λ h. c-gt (q * u) r w (2 * k) (q * u * t) s m (2 * k * t) (u * t) (2 * (q * (2 * k) + k)) (2 * (q * (2 * k) + k) * t) W mid M mid-t ut h (j.over (q * (2 * k) + k))) in
      ap (λ (z : ℕ). nearest z (compare (s * 2) (u * t))) Q ∙ ap (nearest q) C
    where
      lit : (n : ℕ) → 0 < suc n
      lit n = omega arith

      swap : (q h : ℕ) → 2 * (q * h) ≡ q * (2 * h)
      swap q h = sym (mul_assoc 2 q h) ∙ ap (λ (z : ℕ). z * h) (mul_comm 2 q) ∙ mul_assoc q 2 h

      middle : (x k y : ℕ) → 2 * x ≡ y → 2 * (x + k) ≡ y + 2 * k
      middle x k y e = omega arith

      le1 : (v a r w : ℕ) → v ≡ a → a + r ≡ w → v ≤ w
      le1 v a r w e f = omega arith

      lt1 : (v a u r w : ℕ) → v ≡ a + u → a + r ≡ w → r < u → w < v
      lt1 v a u r w e f g = omega arith

      le-eq : {a b c : ℕ} → b ≡ a → a ≤ c → b ≤ c
      le-eq e h = omega arith

      lt-eq : {a b c : ℕ} → b ≡ c → a < b → a < c
      lt-eq e h = omega arith

      c_lt : (a r w h A s m H U v z : ℕ) → a + r ≡ w → v ≡ a + h → A + s ≡ m → z ≡ A + H → U ≡ 2 * H → r * 2 < 2 * h → (w < v → m < z) → s * 2 < U
      c_lt a r w h A s m H U v z p1 p2 p3 p4 p5 p6 f = let y : m < z = f (omega arith) in omega arith

      c-eq : (a r w h A s m H U v z : ℕ) → a + r ≡ w → v ≡ a + h → A + s ≡ m → z ≡ A + H → U ≡ 2 * H → r * 2 ≡ 2 * h → (w ≡ v → m ≡ z) → s * 2 ≡ U
      c-eq a r w h A s m H U v z p1 p2 p3 p4 p5 p6 f = let y : m ≡ z = f (omega arith) in omega arith

      c-gt : (a r w h A s m H U v z : ℕ) → a + r ≡ w → v ≡ a + h → A + s ≡ m → z ≡ A + H → U ≡ 2 * H → 2 * h < r * 2 → (v < w → z < m) → U < s * 2
      c-gt a r w h A s m H U v z p1 p2 p3 p4 p5 p6 f = let y : z < m = f (omega arith) in omega arith
