-- Laws of quantising: leading zeros as a number's size, the 24-bit rounding, division to the nearest, the nibble's clamp.
use mathlib.Core.Path.{◌≡◌, refl, sym, ap, ◌∙◌, subst}
use mathlib.Core.Bool.{Bool, true, false, not, cond}
use Prim.Native.Nat.{ℕ, zero, suc, ◌+◌, ◌-◌, ◌*◌, ◌/◌, ◌%◌, ◌^◌, ◌≤◌, ◌<◌, compare, Ordering}
use native.Mathlib.Nat.{le_trans, lt_of_le_of_lt, suc-mul, mul-le-mul_right, div-mul-le_self, div-le_self, pow-suc, mul_comm, one-mul, mod-eq_of_lt}
use native.Mathlib.Nat.{mod-lt, mod-one, div-one, mul-one, div-add-mod', div-eq_of_lt-le, div-eq_of_lt, add-div_right, zero-mod, zero-div, lt_of_not-le, le_of_eq}
use native.Mathlib.Decide.{dec_le}
use native.Mathlib.Omega.{arith}
use lib.Dec.{T, is_le, compare_is_eq, eqb, leb→le, nleb→lt, eqb→eq, eqb_refl, ltb, lit<}
use lib.Pow.{pow_mono, pow_pos, pow-add}
use lib.Count.{count_leading_zeros, leading_unique}
use lib.IntN.{ℤ, pos, negsuc, neg_ℤ, nat_abs, ◌+ℤ◌, ◌-ℤ◌, +ℤ_idl}
use lib.Signed.{lt_z, shr_z}
use borrow.Author.Tests.{ltb-true, ltb-false}
use lib.Ieee.{size}
use lib.Ieee.Fits.{nearest-le}
use lib.Ieee.Digits.{size-lt, size_reaches, size-le}
use lib.Ieee.Nearest.{closest}
use Rattle.whole.proofs.Clamping.{clamp-low, clamp-high, clamp-mid, clamp-size}
use Rattle.whole.proofs.SignedLocals.{abs_neg}
use Rattle.whole.proofs.Differences.{diff-of, diff-pos, diff-neg, diff-add, diff-sub, diff-eq, diff-lt, diff-abs, abs_diff, over, under}
use Rattle.frame.specs.Quantise.{unit24, round24, scale, nearest_down, with_sign, quantise, clamp4}
use Rattle.frame.proofs.LawsOrder.{none_below}

-- ---- `compare` from an order
module _ (a b : ℕ) where
  cmp-lt : a < b → compare a b ≡ Ordering.lt
  cmp-lt h = go (compare a b) (nleb→lt a b) (eqb→eq a b)
    where
      go : (o : Ordering) → (T (not (is_le o)) → b < a) → (T (compare_is_eq o) → a ≡ b) → o ≡ Ordering.lt
      go Ordering.lt k e = refl
      go Ordering.eq k e = absurd (clash (e tt))
        where
          clash : a ≡ b → ⊥
          clash q = omega arith
      go Ordering.gt k e = absurd (clash (k tt))
        where
          clash : b < a → ⊥
          clash q = omega arith

  cmp-gt : b < a → compare a b ≡ Ordering.gt
  cmp-gt h = go (compare a b) (leb→le a b)
    where
      clash : a ≤ b → ⊥
      clash q = omega arith

      go : (o : Ordering) → (T (is_le o) → a ≤ b) → o ≡ Ordering.gt
      go Ordering.lt k = absurd (clash (k tt))
      go Ordering.eq k = absurd (clash (k tt))
      go Ordering.gt k = refl

  cmp-eq : a ≡ b → compare a b ≡ Ordering.eq
  cmp-eq h = go (compare a b) (subst (λ (x : ℕ). T (eqb a x)) h (eqb_refl a))
    where
      go : (o : Ordering) → T (compare_is_eq o) → o ≡ Ordering.eq
      go Ordering.lt t = absurd t
      go Ordering.eq t = refl
      go Ordering.gt t = absurd t

-- ---- shifts
pub shl_is : (a p k : ℕ) → p ≤ k → T (ltb (a * 2 ^ k) 18446744073709551616) → (a * 2 ^ p) % 18446744073709551616 ≡ a * 2 ^ p
shl_is a p k h t =
    let l : 2 ^ p * a ≤ 2 ^ k * a = mul-le-mul_right a (pow_mono h) in
    let b : a * 2 ^ k < 18446744073709551616 = lit< t in
    mod-eq_of_lt (lt_of_le_of_lt (le_trans (le_of_eq (mul_comm a (2 ^ p))) (le_trans l (le_of_eq (mul_comm (2 ^ k) a)))) b)

pub one_shl : (p k : ℕ) → p ≤ k → T (ltb (1 * 2 ^ k) 18446744073709551616) → (1 * 2 ^ p) % 18446744073709551616 ≡ 2 ^ p
one_shl p k h t = shl_is 1 p k h t ∙ one-mul (2 ^ p)

-- ---- leading zeros: with the size they make the width
size-twice : (m n : ℕ) → size m ≡ n → 2 ^ n ≤ 2 * m + 1
size-twice m zero e = omega arith
size-twice m (suc j) e =
    let r : 2 ^ j ≤ m = size_reaches m j (omega arith) in
    omega (arith, pow-suc 2 j)

pub lz-size : (k m : ℕ) → m < 2 ^ k → count_leading_zeros k m + size m ≡ k
lz-size k m h =
    let s : size m ≤ k = size-le m k h in
    let u : k - size m ≡ count_leading_zeros k m = leading_unique k m (k - size m) (size m) (omega arith) (size-lt m) (size-twice m (size m) refl) in
    omega arith

-- a number of more than 24 bits
pub size_above : (m j : ℕ) → 2 ^ j ≤ m → j < size m
size_above m j h = go (dec_le (size m) j)
  where
    bad : size m ≤ j → j < size m
    bad l =
        let a : 2 ^ size m ≤ 2 ^ j = pow_mono l in
        let b : m < 2 ^ size m = size-lt m in
        omega arith

    go : Dec (size m ≤ j) → j < size m
    go (yes l) = bad l
    go (no l) = lt_of_not-le l

pub digits-dropped : (m : ℕ) → m ≤ 2147483648 → 16777216 ≤ m → (count_leading_zeros 64 m ≤ 40) × (40 - count_leading_zeros 64 m ≡ size m - 24) × (1 ≤ 40 - count_leading_zeros 64 m) × (40 - count_leading_zeros 64 m ≤ 8)
digits-dropped m h g =
    let l : count_leading_zeros 64 m + size m ≡ 64 = lz-size 64 m (omega arith) in
    let a : 24 < size m = size_above m 24 g in
    let b : size m ≤ 32 = size-le m 32 (omega arith) in
    (omega arith, omega arith, omega arith, omega arith)

-- ---- the 24-bit rounding
unit-le : (m : ℕ) → m ≤ 2147483648 → unit24 m ≤ 256
unfolding unit24
unit-le m h =
    let s : size m ≤ 32 = size-le m 32 (omega arith) in
    let k : size m - 24 ≤ 8 = omega arith in
    pow_mono k

pub unit-pos : (m : ℕ) → 0 < unit24 m
unfolding unit24
unit-pos m = pow_pos (size m - 24)

-- a number of at most 24 bits stays
pub round_same : (m : ℕ) → m < 16777216 → m ≡ round24 m
unfolding round24 unit24
round_same m h =
    let s : size m ≤ 24 = size-le m 24 h in
    let e : size m - 24 ≡ 0 = omega arith in
    rw (e, div-one, mod-one) (sym (mul-one m))

-- twice a unit's half
pub halves : (k : ℕ) → 1 ≤ k → 2 ^ k ≡ 2 ^ (k - 1) + 2 ^ (k - 1)
halves zero l = absurd (never l)
  where
    never : 1 ≤ 0 → ⊥
    never l = omega arith
halves (suc k) l =
    let e : suc k - 1 ≡ k = omega arith in
    rw e (omega (arith, pow-suc 2 k))

pub round_is : (m k q u : ℕ) → k ≡ size m - 24 → q ≡ closest m (2 ^ k) → u ≡ 2 ^ k → q * u ≡ round24 m
unfolding round24 unit24
round_is m k q u e f g = rw (f, g, e)

pub closest-mul : (m u : ℕ) → closest m u * u ≤ m + u
closest-mul m u =
    let a : closest m u * u ≤ suc (m / u) * u = mul-le-mul_right u (nearest-le (m / u) (compare (m % u * 2) u)) in
    omega (arith, a, suc-mul (m / u) u, div-mul-le_self m u)

-- m / u to the nearest, times u, is within u / 2 of m
pub closest-near : (m u : ℕ) → 0 < u → (closest m u * u * 2 ≤ m * 2 + u) × (m * 2 ≤ closest m u * u * 2 + u)
closest-near m u p = go (dec_le u (m % u * 2)) (dec_le (m % u * 2) u)
  where
    m-is : m / u * u + m % u ≡ m
    m-is = div-add-mod' m u

    r-lt : m % u < u
    r-lt = mod-lt m p

    tie : (q : ℕ) → m % u * 2 ≡ u → m / u ≤ q → q ≤ m / u + 1 → (q * u * 2 ≤ m * 2 + u) × (m * 2 ≤ q * u * 2 + u)
    tie q e a b =
        let x : m / u * u ≤ q * u = mul-le-mul_right u a in
        let y : q * u ≤ (m / u + 1) * u = mul-le-mul_right u b in
        (omega (arith, m-is), omega (arith, m-is))

    go : Dec (u ≤ m % u * 2) → Dec (m % u * 2 ≤ u) → (closest m u * u * 2 ≤ m * 2 + u) × (m * 2 ≤ closest m u * u * 2 + u)
    go (no l) d = let h = lt_of_not-le l in rw (cmp-lt _ _ h) (omega (arith, m-is), omega (arith, m-is))
    go (yes l) (no k) = let h = lt_of_not-le k in rw (cmp-gt _ _ h) (omega (arith, m-is, r-lt), omega (arith, m-is, r-lt))
    go (yes l) (yes k) = let e : m % u * 2 ≡ u = omega arith in rw (cmp-eq _ _ e) (tie (m / u + m / u % 2) e (omega arith) (omega arith))

pub round24-le : (m : ℕ) → m ≤ 2147483648 → round24 m ≤ m + 256
unfolding round24
round24-le m h = omega (arith, closest-mul m (unit24 m), unit-le m h)

-- m / u to the nearest, a tie to the even one: half the unit less one is added, and one where the quotient is odd
pub even_is : (m u h : ℕ) → 0 < h → u ≡ h + h → ((m + h) - 1 + m / u % 2) / u ≡ closest m u
even_is m u h p e = go (dec_le u (m % u * 2)) (dec_le (m % u * 2) u)
  where
    m-is : m / u * u + m % u ≡ m
    m-is = div-add-mod' m u

    r-lt : m % u < u
    r-lt = mod-lt m (omega arith)

    tie : (b : ℕ) → m / u % 2 ≡ b → m % u * 2 ≡ u → ((m + h) - 1 + b) / u ≡ m / u + b
    tie zero f g = div-eq_of_lt-le u (omega (arith, m-is)) (omega (arith, m-is))
    tie (suc zero) f g = div-eq_of_lt-le u (omega (arith, m-is)) (omega (arith, m-is))
    tie (suc (suc b)) f g = absurd (never b f)
      where
        never : (b : ℕ) → m / u % 2 ≡ suc (suc b) → ⊥
        never b f = omega arith

    go : Dec (u ≤ m % u * 2) → Dec (m % u * 2 ≤ u) → ((m + h) - 1 + m / u % 2) / u ≡ closest m u
    go (no l) d = let k = lt_of_not-le l in rw (cmp-lt _ _ k) (div-eq_of_lt-le u (omega (arith, m-is)) (omega (arith, m-is)))
    go (yes l) (no g) = let k = lt_of_not-le g in rw (cmp-gt _ _ k) (div-eq_of_lt-le u (omega (arith, m-is, r-lt)) (omega (arith, m-is, r-lt)))
    go (yes l) (yes g) = let k : m % u * 2 ≡ u = omega arith in rw (cmp-eq _ _ k) (tie (m / u % 2) refl k)

-- ---- to the nearest, halves downwards
pub down_is : (m s h : ℕ) → 0 < h → s ≡ h + h → ((m + h) - 1) / s ≡ nearest_down m s
unfolding nearest_down
down_is m s h p e = go (ltb s (m % s * 2)) refl
  where
    m-is : m / s * s + m % s ≡ m
    m-is = div-add-mod' m s

    left : m % s < s
    left = mod-lt m (omega arith)

    more : (q : ℕ) → (q + 1) * s ≡ q * s + s
    more q = omega arith

    twice : (q : ℕ) → (q + 1 + 1) * s ≡ q * s + s + s
    twice q = omega arith

    go : (t : Bool) → ltb s (m % s * 2) ≡ t → ((m + h) - 1) / s ≡ cond t (m / s + 1) (m / s)
    go true f =
        let l = ltb-true s (m % s * 2) f in
        div-eq_of_lt-le s (omega (arith, m-is, more (m / s))) (omega (arith, m-is, left, twice (m / s)))
    go false f =
        let l = ltb-false s (m % s * 2) f in
        div-eq_of_lt-le s (omega (arith, m-is)) (omega (arith, m-is, left, more (m / s)))

-- the same of a number with its sign, by a shift
pub down_pos : (d : ℤ) (s h : ℕ) → 0 < h → s ≡ h + h → lt_z (pos 0) d ≡ true → shr_z (d +ℤ pos h -ℤ pos 1) s ≡ with_sign d (nearest_down (nat_abs d) s)
down_pos (pos m) s h p e t =
    let z : pos m +ℤ pos h -ℤ pos 1 ≡ pos ((m + h) - 1) = diff-eq (diff-sub (diff-add (diff-pos m) (diff-pos h)) (diff-pos 1)) (diff-pos ((m + h) - 1)) (omega arith) in
    ap (λ (v : ℤ). shr_z v s) z ∙ ap pos (down_is m s h p e)
down_pos (negsuc k) s h p e t = absurd (subst T (sym t) tt)

pub down-neg : (d : ℤ) (s h : ℕ) → 0 < h → s ≡ h + h → lt_z (pos 0) d ≡ false → shr_z (d +ℤ pos h) s ≡ with_sign d (nearest_down (nat_abs d) s)
down-neg (pos m) s h p e t =
    let none : m ≡ 0 = omega (arith, ltb-false 0 m t) in
    let below : (m + h) / s ≡ nearest_down m s = subst (λ (n : ℕ). (n + h) / s ≡ nearest_down n s) (sym none) (div-eq_of_lt (omega arith) ∙ sym (div-eq_of_lt (omega arith)) ∙ down_is 0 s h p e) in
    ap pos below
down-neg (negsuc k) s h p e t = go (dec_le (suc k) h)
  where
    low : suc k ≤ h → nearest_down (suc k) s ≡ 0
    low l = sym (down_is (suc k) s h p e) ∙ div-eq_of_lt (omega arith)

    above : h < suc k → suc ((k - h) / s) ≡ nearest_down (suc k) s
    above l =
        let a : (suc k + h) - 1 ≡ (k - h) + s = omega arith in
        let b : ((k - h) + s) / s ≡ (k - h) / s + 1 = add-div_right (k - h) (omega arith) in
        omega (arith, ap (λ (n : ℕ). n / s) a, b, down_is (suc k) s h p e)

    go : Dec (suc k ≤ h) → shr_z (negsuc k +ℤ pos h) s ≡ neg_ℤ (pos (nearest_down (suc k) s))
    go (yes l) =
        let z : negsuc k +ℤ pos h ≡ pos (h - suc k) = diff-eq (diff-add (diff-of (negsuc k)) (diff-pos h)) (diff-pos (h - suc k)) (omega arith) in
        let q : (h - suc k) / s ≡ 0 = div-eq_of_lt (omega arith) in
        ap (λ (v : ℤ). shr_z v s) z ∙ ap pos q ∙ sym (ap (λ (n : ℕ). neg_ℤ (pos n)) (low l))
    go (no l) =
        let m = lt_of_not-le l in
        let z : negsuc k +ℤ pos h ≡ negsuc (k - h) = diff-eq (diff-add (diff-of (negsuc k)) (diff-pos h)) (diff-of (negsuc (k - h))) (omega arith) in
        ap (λ (v : ℤ). shr_z v s) z ∙ ap (λ (n : ℕ). neg_ℤ (pos n)) (above m)

pub scale-is : (p : ℕ) → 2 ^ (p + 11) ≡ scale p
scale-is p = pow-add 2 p 11 ∙ mul_comm (2 ^ p) 2048

pub scale-le : (p : ℕ) → p ≤ 12 → scale p ≤ 8388608
scale-le p h = let l : 2 ^ p ≤ 4096 = pow_mono h in omega arith

-- 2^31 is a multiple of a step
pub scale-divides : (p : ℕ) → p ≤ 12 → 2 ^ (20 - p) * scale p ≡ 2147483648
scale-divides p h =
    let e : (20 - p) + (p + 11) ≡ 31 = omega arith in
    ap (λ (n : ℕ). 2 ^ (20 - p) * n) (sym (scale-is p)) ∙ sym (pow-add 2 (20 - p) (p + 11)) ∙ ap (λ (n : ℕ). 2 ^ n) e

pub scale-pos : (p : ℕ) → 0 < scale p
scale-pos p = omega (arith, pow_pos p)

pick-le : (t : Bool) (a b n : ℕ) → a ≤ n → b ≤ n → cond t a b ≤ n
pick-le true a b n p q = p
pick-le false a b n p q = q

pub down-zero : (s : ℕ) → 0 < s → nearest_down 0 s ≡ 0
unfolding nearest_down
down-zero s p = rw (zero-mod, zero-div) (go (ltb s (0 * 2)) refl)
  where
    go : (t : Bool) → ltb s (0 * 2) ≡ t → cond t (0 + 1) 0 ≡ 0
    go true e = absurd (none_below s (ltb-true s (0 * 2) e))
    go false e = refl

pub down_le : (m s : ℕ) → nearest_down m s ≤ m + 1
unfolding nearest_down
down_le m s = pick-le (ltb s (m % s * 2)) (m / s + 1) (m / s) (m + 1) (omega (arith, div-le_self m s)) (omega (arith, div-le_self m s))

-- ---- the sign
pub sign-neg : (z : ℤ) (n : ℕ) → lt_z z (pos 0) ≡ true → pos 0 -ℤ pos n ≡ with_sign z n
sign-neg (pos k) n e = absurd (none_below k (ltb-true k 0 e))
sign-neg (negsuc k) n e = +ℤ_idl (neg_ℤ (pos n))

pub sign_pos : (z : ℤ) (n : ℕ) → lt_z z (pos 0) ≡ false → pos n ≡ with_sign z n
sign_pos (pos k) n e = refl
sign_pos (negsuc k) n e = absurd (subst T e tt)

-- a number has its own sign
pub sign-abs : (z : ℤ) → with_sign z (nat_abs z) ≡ z
sign-abs (pos n) = refl
sign-abs (negsuc n) = refl

-- a number with the sign of z has z's sign, or is 0
pub sign-twice : (z : ℤ) (m s : ℕ) → 0 < s → with_sign (with_sign z m) (nearest_down m s) ≡ with_sign z (nearest_down m s)
sign-twice (pos k) m s p = refl
sign-twice (negsuc k) zero s p = let e : nearest_down 0 s ≡ 0 = down-zero s p in rw e
sign-twice (negsuc k) (suc m) s p = refl

pub sign-size : (z : ℤ) (n : ℕ) → nat_abs (with_sign z n) ≡ n
sign-size (pos k) n = refl
sign-size (negsuc k) n = abs_neg (pos n)

pub quantise-size : (d : ℤ) (p : ℕ) → nat_abs d ≤ 2147483648 → nat_abs (quantise d p) ≤ nat_abs d + 257
unfolding quantise
quantise-size d p h =
    omega (arith, down_le (round24 (nat_abs d)) (scale p), round24-le (nat_abs d) h, sign-size d (nearest_down (round24 (nat_abs d)) (scale p)))

-- ---- the clamp to a nibble
pub clamp4-size : (z : ℤ) → nat_abs (clamp4 z) ≤ 8
clamp4-size z = clamp-size 7 z

-- the excess at either end, and within
pub excess-low : (z : ℤ) → lt_z z (negsuc 7) ≡ true → negsuc 7 -ℤ z ≡ pos (nat_abs (z -ℤ clamp4 z))
excess-low z e =
    let l = diff-lt (diff-of z) (diff-neg (diff-pos 8)) e in
    let d = diff-sub (diff-of z) (diff-neg (diff-pos 8)) in
    rw (clamp-low 7 z e) (diff-eq (diff-sub (diff-neg (diff-pos 8)) (diff-of z)) (diff-pos (nat_abs (z -ℤ negsuc 7)))
    (omega (arith, diff-abs d, abs_diff d (under z - (over z + 8)) (omega arith) (omega arith))))

pub excess-high : (z : ℤ) → lt_z z (negsuc 7) ≡ false → lt_z (pos 7) z ≡ true → z -ℤ pos 7 ≡ pos (nat_abs (z -ℤ clamp4 z))
excess-high z e f =
    let l = diff-lt (diff-pos 7) (diff-of z) f in
    let d = diff-sub (diff-of z) (diff-pos 7) in
    rw (clamp-high 7 z e f) (diff-eq d (diff-pos (nat_abs (z -ℤ pos 7))) (omega (arith, diff-abs d, abs_diff d (over z - (under z + 7)) (omega arith) (omega arith))))

pub excess-none : (z : ℤ) → lt_z z (negsuc 7) ≡ false → lt_z (pos 7) z ≡ false → ◌≡◌ {A = ℕ} 0 (nat_abs (z -ℤ clamp4 z))
excess-none z e f = rw (clamp-mid 7 z e f) (omega (arith, abs_diff (diff-sub (diff-of z) (diff-of z)) 0 (omega arith) (omega arith)))

-- the excess is no larger than what was clamped
pub clamp4-excess : (z : ℤ) → nat_abs (z -ℤ clamp4 z) ≤ nat_abs z
clamp4-excess z = go (lt_z z (negsuc 7)) refl
  where
    high : (t : Bool) → lt_z (pos 7) z ≡ t → lt_z z (negsuc 7) ≡ false → nat_abs (z -ℤ clamp4 z) ≤ nat_abs z
    high true f e =
        subst (λ (v : ℤ). nat_abs (z -ℤ v) ≤ nat_abs z) (sym (clamp-high 7 z e f))
        (let l = diff-lt (diff-pos 7) (diff-of z) f in
        let d = diff-abs (diff-of z) in
        abs_diff (diff-sub (diff-of z) (diff-pos 7)) (nat_abs z) (omega arith) (omega arith))
    high false f e =
        subst (λ (v : ℤ). nat_abs (z -ℤ v) ≤ nat_abs z) (sym (clamp-mid 7 z e f))
        (abs_diff (diff-sub (diff-of z) (diff-of z)) (nat_abs z) (omega arith) (omega arith))

    go : (t : Bool) → lt_z z (negsuc 7) ≡ t → nat_abs (z -ℤ clamp4 z) ≤ nat_abs z
    go true e =
        subst (λ (v : ℤ). nat_abs (z -ℤ v) ≤ nat_abs z) (sym (clamp-low 7 z e))
        (let l = diff-lt (diff-of z) (diff-neg (diff-pos 8)) e in
        let d = diff-abs (diff-of z) in
        abs_diff (diff-sub (diff-of z) (diff-neg (diff-pos 8))) (nat_abs z) (omega arith) (omega arith))
    go false e = high (lt_z (pos 7) z) refl e

-- at the largest scale little is left over: with D at most 31 * 2^26 the quotient is at most 248
pub quantise-12 : (d : ℤ) → nat_abs d ≤ 2080374784 → nat_abs (quantise d 12) ≤ 248
unfolding quantise nearest_down
quantise-12 d h =
    let b : round24 (nat_abs d) ≤ nat_abs d + 256 = round24-le (nat_abs d) (omega arith) in
    omega (
      arith,
      sign-size d (cond (ltb 8388608 (round24 (nat_abs d) % 8388608 * 2)) (round24 (nat_abs d) / 8388608 + 1) (round24 (nat_abs d) / 8388608)),
      go
          (ltb 8388608 (round24 (nat_abs d) % 8388608 * 2)) (round24 (nat_abs d)) refl (omega arith),
    )
  where
    go : (t : Bool) (m : ℕ) → ltb 8388608 (m % 8388608 * 2) ≡ t → m ≤ 2080375040 → cond t (m / 8388608 + 1) (m / 8388608) ≤ 248
    go true m e h = let l = ltb-true 8388608 (m % 8388608 * 2) e in omega arith
    go false m e h = omega arith
