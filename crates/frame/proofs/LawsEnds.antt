-- Laws of the differences' ends: the halvings of numbers of either sign, the highest and the lowest, the largest by the two.
use mathlib.Core.Path.{◌≡◌, refl, sym, ap, ap₂, ◌∙◌, subst}
use mathlib.Core.Bool.{Bool, true, false, cond, ◌&&◌}
use mathlib.Core.List.{List}
use Prim.Native.Nat.{ℕ, zero, suc, ◌+◌, ◌-◌, ◌*◌, ◌/◌, ◌^◌, ◌≤◌, ◌<◌, max}
use native.Mathlib.Nat.{le_refl, le_trans, le_antisymm, pow-suc, lt_of_not-le}
use native.Mathlib.Decide.{dec_le}
use native.Mathlib.Numerals.{add-one}
use native.Mathlib.Omega.{arith}
use lib.Bits.{bit_or, or_lt, or_add_and, and_le_l, and_le_r}
use lib.Count.{count_leading_zeros}
use lib.Dec.{T, ltb, eqb}
use lib.Ieee.{size}
use lib.Ieee.Digits.{size-lt, size-le}
use lib.IntN.{ℤ, pos, negsuc, neg_ℤ, nat_abs}
use lib.ListN.{get_or}
use lib.Pow.{pow_mono, pow-add}
use lib.Signed.{non_neg, le_z}
use borrow.Author.Tests.{le-leb, lt-ltb, le-ltb, ltb-true, ltb-false, eqb-true, eqb-false, eq-eqb, ne_eqb}
use mir.Syntax.{w16}
use mir.Val.{SFits}
use Rattle.std.specs.Int.{int_max, int_min}
use Rattle.std.proofs.lemmas.Bool.Decides.{nat_tests}
use Rattle.whole.proofs.SignedLocals.{abs-sfits}
use Rattle.whole.proofs.Differences.{over, under}
use Rattle.frame.specs.Estimate.{difference, larger_magnitude, is_lowest, look, largest_difference, is_small, halvings_within, halvings, max_z, exponent_of, first_exponent}
use Rattle.frame.specs.inner.Ends.{min_z, difference_at, highest_of, lowest_of, up_first}
use Rattle.frame.specs.inner.Places.{history_of, samples_of}
use Rattle.frame.proofs.LawsEstimate.{exponent-is, difference-fits, larger-magnitude-yes, larger-magnitude-no}
use Rattle.frame.proofs.LawsPlaces.{sample-at}
use Rattle.frame.proofs.LawsOrder.{none_below, below_more}
use Rattle.frame.proofs.LawsQuantise.{lz-size, size_above}

-- ---- halving a number without a sign until it is below t

abbrev until_below : ℕ → ℕ → ℕ → ℕ
until_below t zero m = zero
until_below t (suc n) m = cond (ltb m t) zero (suc (until_below t n (m / 2)))

twice : (t k : ℕ) → t * 2 ^ suc k ≡ t * 2 ^ k * 2
twice t k = rw (pow-suc 2 k) (omega arith)

half : (m r : ℕ) → m < r * 2 → m / 2 < r
half m r h = omega arith

-- a number below t * 2^k takes k halvings at most
until-le : (t n k m : ℕ) → m < t * 2 ^ k → until_below t n m ≤ k
until-le t zero k m h = omega arith
until-le t (suc n) zero m h = rw (lt-ltb m t (omega arith)) (omega arith)
until-le t (suc n) (suc k) m h = go (ltb m t) (until-le t n k (m / 2) (half m (t * 2 ^ k) (omega (arith, h, twice t k))))
  where
    go : (b : Bool) → until_below t n (m / 2) ≤ k → cond b zero (suc (until_below t n (m / 2))) ≤ suc k
    go true l = omega arith
    go false l = omega arith

-- and is below t after those it takes
until-below : (t n m : ℕ) → m < t * 2 ^ n → m < t * 2 ^ until_below t n m
until-below t zero m h = h
until-below t (suc n) m h = go (ltb m t) refl (until-below t n (m / 2) (half m (t * 2 ^ n) (omega (arith, h, twice t n))))
  where
    back : (m r : ℕ) → m / 2 < r → m < r * 2
    back m r h = omega arith

    go : (b : Bool) → ltb m t ≡ b → m / 2 < t * 2 ^ until_below t n (m / 2) → m < t * 2 ^ cond b zero (suc (until_below t n (m / 2)))
    go true e l = omega (arith, ltb-true m t e)
    go false e l = omega (arith, twice t (until_below t n (m / 2)), back m (t * 2 ^ until_below t n (m / 2)) l)

-- halvings until below 9 are those of eight ninths until below 8
until-ninths : (n m : ℕ) → m < 8 * 2 ^ n → until_below 9 n m ≡ until_below 8 n (8 * m / 9)
until-ninths n m h =
    let a = until-below 9 n m (omega arith) in
    let b = until-below 8 n (8 * m / 9) (less m (2 ^ n) (omega arith)) in
    le_antisymm (until-le 9 n (until_below 8 n (8 * m / 9)) m (more m (2 ^ until_below 8 n (8 * m / 9)) b)) (until-le 8 n (until_below 9 n m) (8 * m / 9) (less m (2 ^ until_below 9 n m) a))
  where
    less : (m p : ℕ) → m < 9 * p → 8 * m / 9 < 8 * p
    less m p h = omega arith

    more : (m p : ℕ) → 8 * m / 9 < 8 * p → m < 9 * p
    more m p h = omega arith

-- ---- the halvings of a number with a sign

within-pos : (n m : ℕ) → halvings_within n (pos m) ≡ until_below 8 n m
unfolding halvings_within is_small
within-pos zero m = refl
within-pos (suc n) m = ap (λ (k : ℕ). cond (ltb m 8) zero (suc k)) (within-pos n (m / 2))

within-neg : (n m : ℕ) → halvings_within n (neg_ℤ (pos m)) ≡ until_below 9 n m
unfolding halvings_within is_small
within-neg zero m = refl
within-neg (suc n) zero = refl
within-neg (suc n) (suc m) = go (ltb m 8) refl (within-neg n (suc m / 2))
  where
    go : (b : Bool) → ltb m 8 ≡ b → {x y : ℕ} → x ≡ y → cond (b && true) zero (suc x) ≡ cond (ltb (suc m) 9) zero (suc y)
    go true e r = rw (lt-ltb (suc m) 9 (omega (arith, ltb-true m 8 e)))
    go false e r = rw (le-ltb (suc m) 9 (omega (arith, ltb-false m 8 e))) (ap suc r)

-- a negative number takes the halvings of eight ninths of its magnitude
halvings-negative : (m : ℕ) → m ≤ 32768 → halvings (neg_ℤ (pos m)) ≡ halvings (pos (8 * m / 9))
unfolding halvings
halvings-negative m h = within-neg 13 m ∙ until-ninths 13 m (omega arith) ∙ sym (within-pos 13 (8 * m / 9))

-- ---- the exponent by leading zeros

or_above : (m : ℕ) → (m ≤ bit_or m 15) × (15 ≤ bit_or m 15)
or_above m = let e = or_add_and m 15 in (omega (arith, and_le_r m 15), omega (arith, and_le_l m 15))

-- the size of m | 15
or-size : (m : ℕ) → m ≤ 32768 → (4 ≤ size (bit_or m 15)) × (size (bit_or m 15) - 4 ≡ until_below 8 13 m - 1) × (size (bit_or m 15) ≤ 16)
or-size m h =
    let n = bit_or m 15 in
    let t = until_below 8 13 m in
    let s = size n in
    let o = or_above m in
    let four : 3 < s = size_above n 3 (omega arith) in
    let below : m < 8 * 2 ^ t = until-below 8 13 m (omega arith) in
    let up : s ≤ (t - 1) + 4 = size-le n ((t - 1) + 4) (or_lt ((t - 1) + 4) m 15 (room t below) (sixteen (t - 1))) in
    let down : t ≤ s - 3 = until-le 8 13 (s - 3) m (omega (arith, size-lt n, eight s four)) in
    (four, omega arith, size-le n 16 (or_lt 16 m 15 (omega arith) (omega arith)))
  where
    eight : (s : ℕ) → 3 < s → 8 * 2 ^ (s - 3) ≡ 2 ^ s
    eight s f = sym (ap (λ (k : ℕ). 2 ^ k) (omega arith) ∙ pow-add 2 3 (s - 3))

    room : (h : ℕ) → m < 8 * 2 ^ h → m < 2 ^ ((h - 1) + 4)
    room zero l = omega arith
    room (suc h) l =
        let e : (suc h - 1) + 4 ≡ h + 4 = omega arith in
        rw e (omega (arith, l, pow-suc 2 h, pow-add 2 h 4))

    sixteen : (k : ℕ) → 15 < 2 ^ (k + 4)
    sixteen k = let l : 4 ≤ k + 4 = omega arith in
        let p : 2 ^ 4 ≤ 2 ^ (k + 4) = pow_mono l in
        omega arith

pub zeros-le : (m : ℕ) → m ≤ 32768 → count_leading_zeros 32 (bit_or m 15) ≤ 28
zeros-le m h =
    let z = lz-size 32 (bit_or m 15) (or_lt 32 m 15 (omega arith) (omega arith)) in
    omega (arith, (or-size m h).0)

pub exponent-by-zeros : (m : ℕ) → m ≤ 32768 → 28 - count_leading_zeros 32 (bit_or m 15) ≡ exponent_of (halvings (pos m))
unfolding halvings
exponent-by-zeros m h =
    let z = lz-size 32 (bit_or m 15) (or_lt 32 m 15 (omega arith) (omega arith)) in
    let o = or-size m h in
    omega (arith, o.0, o.1, exponent-is (halvings_within 13 (pos m)), within-pos 13 m)

-- ---- the largest of the first k numbers of a sequence, 0 counting as one

abbrev top_of : (ℕ → ℕ) → ℕ → ℕ
top_of f zero = 0
top_of f (suc k) = max (top_of f k) (f k)

top-le : (f : ℕ → ℕ) (k n : ℕ) → ((j : ℕ) → j < k → f j ≤ n) → top_of f k ≤ n
top-le f zero n h = omega arith
top-le f (suc k) n h = omega (arith, top-le f k n (λ j l. h j (omega arith)), h k (omega arith))

top-ge : (f : ℕ → ℕ) (k j : ℕ) → j < k → f j ≤ top_of f k
top-ge f zero j l = absurd (none_below j l)
top-ge f (suc k) j l = below_more (λ (i : ℕ). f i ≤ top_of f (suc k)) k (λ i m. omega (arith, top-ge f k i m)) (omega arith) j (omega arith)

both-le : (a b n : ℕ) → a ≤ n → b ≤ n → max a b ≤ n
both-le a b n h k = omega arith

le-first : (n a b : ℕ) → n ≤ a → n ≤ max a b
le-first n a b h = omega arith

le-second : (n a b : ℕ) → n ≤ b → n ≤ max a b
le-second n a b h = omega arith

-- of the first 8 and of 8 from place 6 on
abbrev pub two_tops : (ℕ → ℕ) → ℕ → ℕ
two_tops f i = max (top_of f i) (top_of (λ j. f (j + 6)) i)

tops-more : (f : ℕ → ℕ) (i : ℕ) → max (max (two_tops f i) (f i)) (f (i + 6)) ≡ two_tops f (i + 1)
tops-more f i = rw (add-one i) (omega arith)

tops-done : (f : ℕ → ℕ) → two_tops f 8 ≡ top_of f 14
tops-done f = le_antisymm
    (both-le _ _ _ (top-le f 8 (top_of f 14) (λ j l. top-ge f 14 j (omega arith))) (top-le (λ j. f (j + 6)) 8 (top_of f 14) (λ j l. top-ge f 14 (j + 6) (omega arith))))
    (top-le f 14 (two_tops f 8) (λ j l. each j l (dec_le (suc j) 8)))
  where
    each : (j : ℕ) → j < 14 → Dec (suc j ≤ 8) → f j ≤ two_tops f 8
    each j l (yes h) = le-first _ _ _ (top-ge f 8 j h)
    each j l (no h) =
        let e : j ≡ (j - 6) + 6 = omega (arith, lt_of_not-le h) in
        let a : f ((j - 6) + 6) ≤ top_of (λ j. f (j + 6)) 8 = top-ge (λ j. f (j + 6)) 8 (j - 6) (omega arith) in
        le-second _ _ _ (subst (λ (k : ℕ). f k ≤ top_of (λ j. f (j + 6)) 8) (sym e) a)

-- ---- the higher and the lower one by what is over and under zero

-- the library's larger and smaller one
pub library-max : (a b : ℤ) → int_max a b ≡ max_z a b
unfolding max_z
library-max (pos a) (pos b) = grind (arith, nat_tests)
library-max (pos a) (negsuc b) = refl
library-max (negsuc a) (pos b) = refl
library-max (negsuc a) (negsuc b) = grind (arith, nat_tests)

pub library-min : (a b : ℤ) → int_min a b ≡ min_z a b
unfolding min_z
library-min a b = refl

pub max-over : (a : ℕ) (z : ℤ) → max_z (pos a) z ≡ pos (max a (over z))
unfolding max_z
max-over a (pos b) = go (ltb a b) refl
  where
    go : (t : Bool) → ltb a b ≡ t → cond t (pos b) (pos a) ≡ pos (max a b)
    go true e = let h = ltb-true a b e in ap pos (omega arith)
    go false e = let h = ltb-false a b e in ap pos (omega arith)
max-over a (negsuc b) = ap pos (omega arith)

min-under : (a : ℕ) (z : ℤ) → min_z (neg_ℤ (pos a)) z ≡ neg_ℤ (pos (max a (under z)))
unfolding min_z
min-under zero (pos b) = go (ltb b 0) refl
  where
    go : (t : Bool) → ltb b 0 ≡ t → cond t (pos b) (pos 0) ≡ pos 0
    go true e = absurd (none_below b (ltb-true b 0 e))
    go false e = refl
min-under zero (negsuc b) = let e : suc b ≡ max 0 (suc b) = omega arith in ap (λ (n : ℕ). neg_ℤ (pos n)) e
min-under (suc a) (pos b) = let e : suc a ≡ max (suc a) 0 = omega arith in ap (λ (n : ℕ). neg_ℤ (pos n)) e
min-under (suc a) (negsuc b) = go (ltb a b) refl
  where
    go : (t : Bool) → ltb a b ≡ t → cond t (negsuc b) (negsuc a) ≡ neg_ℤ (pos (max (suc a) (suc b)))
    go true e = let h = ltb-true a b e in let m : suc b ≡ max (suc a) (suc b) = omega arith in ap (λ (n : ℕ). neg_ℤ (pos n)) m
    go false e = let h = ltb-false a b e in let m : suc a ≡ max (suc a) (suc b) = omega arith in ap (λ (n : ℕ). neg_ℤ (pos n)) m

-- ---- the look over a sequence of differences

abbrev look_at : (ℕ → ℤ) → ℕ → ℕ → ℤ → ℤ
look_at d zero i z = z
look_at d (suc k) i z = cond (is_lowest (d i)) (d i) (look_at d k (suc i) (larger_magnitude z (d i)))

abbrev up_at : (ℕ → ℤ) → ℕ → ℕ → ℕ → Bool
up_at d n zero i = true
up_at d n (suc k) i = cond (eqb (nat_abs (d i)) n) (non_neg (d i)) (up_at d n k (suc i))

either : (P : ℤ → Type 0) (t : Bool) {a b : ℤ} → P a → P b → P (cond t a b)
either P true p q = p
either P false p q = q

larger-is : (P : ℤ → Type 0) (z e : ℤ) → P z → P e → P (larger_magnitude z e)
unfolding larger_magnitude
larger-is P z e p q = either P (ltb (nat_abs z) (nat_abs e)) q p

larger-ge : (z e : ℤ) → (nat_abs z ≤ nat_abs (larger_magnitude z e)) × (nat_abs e ≤ nat_abs (larger_magnitude z e))
unfolding larger_magnitude
larger-ge z e = go (ltb (nat_abs z) (nat_abs e)) refl
  where
    go : (t : Bool) → ltb (nat_abs z) (nat_abs e) ≡ t → (nat_abs z ≤ nat_abs (cond t e z)) × (nat_abs e ≤ nat_abs (cond t e z))
    go true q = let h = ltb-true (nat_abs z) (nat_abs e) q in (omega arith, omega arith)
    go false q = let h = ltb-false (nat_abs z) (nat_abs e) q in (omega arith, omega arith)

lowest-size : (z : ℤ) → is_lowest z ≡ true → 32768 ≤ nat_abs z
unfolding is_lowest
lowest-size (pos n) e = absurd (subst T (sym e) tt)
lowest-size (negsuc n) e = let h = ltb-true 32766 n e in omega arith

not-lowest : (z : ℤ) → nat_abs z ≤ 32767 → is_lowest z ≡ false
unfolding is_lowest
not-lowest (pos n) h = refl
not-lowest (negsuc n) h = le-ltb 32766 n (omega arith)

over-le : (z : ℤ) → (over z ≤ nat_abs z) × (under z ≤ nat_abs z)
over-le (pos n) = (omega arith, omega arith)
over-le (negsuc n) = (omega arith, omega arith)

size-between : (z : ℤ) → nat_abs z ≤ max (over z) (under z)
size-between (pos n) = omega arith
size-between (negsuc n) = omega arith

module _ (d : ℕ → ℤ) where
  -- what holds of 0 and of each difference holds of the largest
  look-is-one : (P : ℤ → Type 0) → ((j : ℕ) → j < 14 → P (d j)) → (k i : ℕ) (z : ℤ) → i + k ≤ 14 → P z → P (look_at d k i z)
  look-is-one P h zero i z l p = p
  look-is-one P h (suc k) i z l p =
      let q = h i (omega arith) in
      either P (is_lowest (d i)) q (look-is-one P h k (suc i) (larger_magnitude z (d i)) (omega arith) (larger-is P z (d i) p q))

  -- its magnitude is at least each one's
  look-reaches : ((j : ℕ) → nat_abs (d j) ≤ 32768) → (k i : ℕ) (z : ℤ) → nat_abs z ≤ 32768
      → (nat_abs z ≤ nat_abs (look_at d k i z)) × ((j : ℕ) → i ≤ j → j < i + k → nat_abs (d j) ≤ nat_abs (look_at d k i z))
  look-reaches f zero i z s = (le_refl (nat_abs z), λ j a b. absurd (omega (arith, a, b)))
  look-reaches f (suc k) i z s =
      go (is_lowest (d i)) refl (look_at d k (suc i) (larger_magnitude z (d i)))
      (look-reaches f k (suc i) (larger_magnitude z (d i)) (larger-is (λ v. nat_abs v ≤ 32768) z (d i) s (f i)))
    where
      there : {m : ℕ} → nat_abs (d i) ≤ m → ((j : ℕ) → suc i ≤ j → j < suc i + k → nat_abs (d j) ≤ m) → (j : ℕ) → i ≤ j → j < i + suc k → Dec (suc i ≤ j) → nat_abs (d j) ≤ m
      there a r j p q (yes h) = r j h (omega arith)
      there {m} a r j p q (no h) =
          let e : i ≡ j = omega (arith, lt_of_not-le h) in
          subst (λ (x : ℕ). nat_abs (d x) ≤ m) e a

      go : (t : Bool) → is_lowest (d i) ≡ t → (r : ℤ) → (nat_abs (larger_magnitude z (d i)) ≤ nat_abs r) × ((j : ℕ) → suc i ≤ j → j < suc i + k → nat_abs (d j) ≤ nat_abs r)
          → (nat_abs z ≤ nat_abs (cond t (d i) r)) × ((j : ℕ) → i ≤ j → j < i + suc k → nat_abs (d j) ≤ nat_abs (cond t (d i) r))
      go true e v r =
          let b = lowest-size (d i) e in
          (omega (arith, s), λ j p q. le_trans (f j) b)
      go false e v r =
          let g = larger-ge z (d i) in
          (le_trans g.0 r.0, λ j p q. there (le_trans g.1 r.0) r.1 j p q (dec_le (suc i) j))

  module _ (n : ℕ) (small : n ≤ 32767) (f : (j : ℕ) → j < 14 → nat_abs (d j) ≤ n) where
    low-no : (i : ℕ) → i < 14 → is_lowest (d i) ≡ false
    low-no i l = not-lowest (d i) (le_trans (f i l) small)

    -- the first one of magnitude n stays
    look-stays : (k i : ℕ) (z : ℤ) → i + k ≤ 14 → nat_abs z ≡ n → look_at d k i z ≡ z
    look-stays zero i z l e = refl
    look-stays (suc k) i z l e =
        let g = f i (omega arith) in
        let s : z ≡ larger_magnitude z (d i) = larger-magnitude-no z (d i) (omega arith) in
        rw (low-no i (omega arith), ← s) (look-stays k (suc i) z (omega arith) e)

    -- and its sign is the largest one's
    look-first : (k i : ℕ) (z : ℤ) → i + k ≤ 14 → nat_abs z < n → nat_abs (look_at d k i z) ≡ n → non_neg (look_at d k i z) ≡ up_at d n k i
    look-first zero i z l s e = absurd (omega (arith, s, e))
    look-first (suc k) i z l s e =
        go (eqb (nat_abs (d i)) n) refl (rw (low-no i (omega arith)) at e)
        (λ h. look-stays k (suc i) (d i) (omega arith) h)
        (λ h. look-first k (suc i) (larger_magnitude z (d i)) (omega arith) h)
      where
        go : (t : Bool) → eqb (nat_abs (d i)) n ≡ t → nat_abs (look_at d k (suc i) (larger_magnitude z (d i))) ≡ n
            → (nat_abs (d i) ≡ n → look_at d k (suc i) (d i) ≡ d i)
            → (nat_abs (larger_magnitude z (d i)) < n → nat_abs (look_at d k (suc i) (larger_magnitude z (d i))) ≡ n → non_neg (look_at d k (suc i) (larger_magnitude z (d i))) ≡ up_at d n k (suc i))
            → non_neg (cond (is_lowest (d i)) (d i) (look_at d k (suc i) (larger_magnitude z (d i)))) ≡ cond t (non_neg (d i)) (up_at d n k (suc i))
        go true e a stays more =
            let q = eqb-true (nat_abs (d i)) n e in
            let y : d i ≡ larger_magnitude z (d i) = larger-magnitude-yes z (d i) (omega arith) in
            rw (low-no i (omega arith), ← y, stays q)
        go false e a stays more =
            let b : nat_abs (d i) < n = omega (arith, f i (omega arith), eqb-false (nat_abs (d i)) n e) in
            rw (low-no i (omega arith)) (more (larger-is (λ v. nat_abs v < n) z (d i) s b) a)

-- a number between h and −l that reaches both is one of the two, by its sign
module _ (h l : ℕ) where
  abbrev Ends : ℤ → Type 0
  Ends z = ((over z ≤ h) × (under z ≤ l)) × ((h ≤ nat_abs z) × (l ≤ nat_abs z))

  end-up : (z : ℤ) → Ends z → non_neg z ≡ true → z ≡ pos h
  end-up (pos n) e t = ap pos (omega (arith, e.0.0, e.1.0))
  end-up (negsuc n) e t = absurd (subst T (sym t) tt)

  end-down : (z : ℤ) → Ends z → non_neg z ≡ false → z ≡ neg_ℤ (pos l)
  end-down (pos n) e t = absurd (subst T t tt)
  end-down (negsuc n) e t = let m : suc n ≡ l = omega (arith, e.0.1, e.1.1) in ap (λ (k : ℕ). neg_ℤ (pos k)) m

  end-sign : (z : ℤ) → Ends z → ((l < h) → non_neg z ≡ true) × ((h < l) → non_neg z ≡ false)
  end-sign (pos n) e = (λ p. refl, λ p. absurd (omega (arith, p, e.0.0, e.1.1)))
  end-sign (negsuc n) e = (λ p. absurd (omega (arith, p, e.0.1, e.1.0)), λ p. refl)

-- ---- the ends of a frame's differences

-- the differences over zero, and under it
abbrev pub over_at : ℤ → ℤ → List ℤ → ℕ → ℕ
over_at c0 c1 fs j = over (difference_at c0 c1 fs j)

abbrev pub under_at : ℤ → ℤ → List ℤ → ℕ → ℕ
under_at c0 c1 fs j = under (difference_at c0 c1 fs j)

-- the highest and the lowest one's magnitude
unfoldable pub high_of : ℤ → ℤ → List ℤ → ℕ
high_of c0 c1 fs = top_of (over_at c0 c1 fs) 14

unfoldable pub low_of : ℤ → ℤ → List ℤ → ℕ
low_of c0 c1 fs = top_of (under_at c0 c1 fs) 14

module _ (c0 c1 : ℤ) (fs : List ℤ) where
  highest-top : (k : ℕ) → highest_of c0 c1 fs k ≡ pos (top_of (over_at c0 c1 fs) k)
  unfolding highest_of
  highest-top zero = refl
  highest-top (suc k) = ap (λ (z : ℤ). max_z z (difference_at c0 c1 fs k)) (highest-top k) ∙ max-over (top_of (over_at c0 c1 fs) k) (difference_at c0 c1 fs k)

  lowest-top : (k : ℕ) → lowest_of c0 c1 fs k ≡ neg_ℤ (pos (top_of (under_at c0 c1 fs) k))
  unfolding lowest_of
  lowest-top zero = refl
  lowest-top (suc k) = ap (λ (z : ℤ). min_z z (difference_at c0 c1 fs k)) (lowest-top k) ∙ min-under (top_of (under_at c0 c1 fs) k) (difference_at c0 c1 fs k)

  pub highest-is : highest_of c0 c1 fs 14 ≡ pos (high_of c0 c1 fs)
  unfolding high_of
  highest-is = highest-top 14

  pub lowest-is : lowest_of c0 c1 fs 14 ≡ neg_ℤ (pos (low_of c0 c1 fs))
  unfolding low_of
  lowest-is = lowest-top 14

  -- a turn with places i and i + 6
  pub higher-more : (i : ℕ) (z x y : ℤ) → z ≡ pos (two_tops (over_at c0 c1 fs) i) → x ≡ max_z z (difference_at c0 c1 fs i) → y ≡ max_z x (difference_at c0 c1 fs (i + 6))
      → y ≡ pos (two_tops (over_at c0 c1 fs) (i + 1))
  higher-more i z x y a b c =
      c ∙ ap (λ (v : ℤ). max_z v (difference_at c0 c1 fs (i + 6))) (b ∙ ap (λ (v : ℤ). max_z v (difference_at c0 c1 fs i)) a ∙ max-over (two_tops (over_at c0 c1 fs) i) (difference_at c0 c1 fs i))
      ∙ max-over (max (two_tops (over_at c0 c1 fs) i) (over_at c0 c1 fs i)) (difference_at c0 c1 fs (i + 6))
      ∙ ap pos (tops-more (over_at c0 c1 fs) i)

  pub lower-more : (i : ℕ) (z x y : ℤ) → z ≡ neg_ℤ (pos (two_tops (under_at c0 c1 fs) i)) → x ≡ min_z z (difference_at c0 c1 fs i) → y ≡ min_z x (difference_at c0 c1 fs (i + 6))
      → y ≡ neg_ℤ (pos (two_tops (under_at c0 c1 fs) (i + 1)))
  lower-more i z x y a b c =
      c ∙ ap (λ (v : ℤ). min_z v (difference_at c0 c1 fs (i + 6))) (b ∙ ap (λ (v : ℤ). min_z v (difference_at c0 c1 fs i)) a ∙ min-under (two_tops (under_at c0 c1 fs) i) (difference_at c0 c1 fs i))
      ∙ min-under (max (two_tops (under_at c0 c1 fs) i) (under_at c0 c1 fs i)) (difference_at c0 c1 fs (i + 6))
      ∙ ap (λ (n : ℕ). neg_ℤ (pos n)) (tops-more (under_at c0 c1 fs) i)

  pub higher-done : (i : ℕ) (z : ℤ) → 8 ≤ i → i ≤ 8 → z ≡ pos (two_tops (over_at c0 c1 fs) i) → z ≡ highest_of c0 c1 fs 14
  higher-done i z h k e =
      let n : i ≡ 8 = omega arith in
      e ∙ ap (λ (j : ℕ). pos (two_tops (over_at c0 c1 fs) j)) n ∙ ap pos (tops-done (over_at c0 c1 fs)) ∙ sym (highest-top 14)

  pub lower-done : (i : ℕ) (z : ℤ) → 8 ≤ i → i ≤ 8 → z ≡ neg_ℤ (pos (two_tops (under_at c0 c1 fs) i)) → z ≡ lowest_of c0 c1 fs 14
  lower-done i z h k e =
      let n : i ≡ 8 = omega arith in
      e ∙ ap (λ (j : ℕ). neg_ℤ (pos (two_tops (under_at c0 c1 fs) j))) n ∙ ap (λ (n : ℕ). neg_ℤ (pos n)) (tops-done (under_at c0 c1 fs)) ∙ sym (lowest-top 14)

  -- ---- the sizes

  at-fits : (j : ℕ) → SFits w16 (difference_at c0 c1 fs j)
  unfolding difference_at
  at-fits j = difference-fits c0 c1 (get_or fs (j + 1) (pos 0)) (get_or fs j (pos 0)) (get_or fs (j + 2) (pos 0))

  pub high_le : high_of c0 c1 fs ≤ 32767
  unfolding high_of
  high_le = top-le (over_at c0 c1 fs) 14 32767 (λ j l. over-fits (difference_at c0 c1 fs j) (at-fits j))
    where
      over-fits : (z : ℤ) → SFits w16 z → over z ≤ 32767
      over-fits (pos n) f = let h = f.sfits in omega arith
      over-fits (negsuc n) f = omega arith

  pub low-le : low_of c0 c1 fs ≤ 32768
  unfolding low_of
  low-le = top-le (under_at c0 c1 fs) 14 32768 (λ j l. le_trans (over-le (difference_at c0 c1 fs j)).1 (abs-sfits (at-fits j)))

  -- ---- the largest difference by the two ends

  look_at_lem : (k i : ℕ) (z : ℤ) → i + k ≤ 14
      → look c0 c1 (samples_of fs) k i z (get_or fs (i + 1) (pos 0)) (get_or fs i (pos 0)) ≡ look_at (difference_at c0 c1 fs) k i z
  unfolding look difference_at
  look_at_lem zero i z l = refl
  look_at_lem (suc k) i z l =
      let xs = samples_of fs in
      let p = get_or fs (i + 1) (pos 0) in
      let b = get_or fs i (pos 0) in
      let e = difference c0 c1 p b (get_or fs (i + 2) (pos 0)) in
      let m : i + 2 ≡ suc i + 1 = omega arith in
      let n : i + 1 ≡ suc i = omega arith in
      ap (λ (x : ℤ). cond (is_lowest (difference c0 c1 p b x)) (difference c0 c1 p b x) (look c0 c1 xs k (suc i) (larger_magnitude z (difference c0 c1 p b x)) x p))
      (sample-at fs i (omega arith))
      ∙ ap (λ (r : ℤ). cond (is_lowest e) e r)
      (ap₂ (λ (x q : ℤ). look c0 c1 xs k (suc i) (larger_magnitude z e) x q) (ap (λ (j : ℕ). get_or fs j (pos 0)) m) (ap (λ (j : ℕ). get_or fs j (pos 0)) n)
      ∙ look_at_lem k (suc i) (larger_magnitude z e) (omega arith))

  largest : ℤ
  largest = largest_difference c0 c1 (history_of fs) (samples_of fs)

  largest-is : largest ≡ look_at (difference_at c0 c1 fs) 14 0 (pos 0)
  unfolding largest largest_difference
  largest-is = look_at_lem 14 0 (pos 0) (le_refl 14)

  abbrev Between : ℤ → Type 0
  Between z = (over z ≤ high_of c0 c1 fs) × (under z ≤ low_of c0 c1 fs)

  at-between : (j : ℕ) → j < 14 → Between (difference_at c0 c1 fs j)
  unfolding high_of low_of
  at-between j l = (top-ge (over_at c0 c1 fs) 14 j l, top-ge (under_at c0 c1 fs) 14 j l)

  between : Between largest
  between = subst Between (sym largest-is) (look-is-one (difference_at c0 c1 fs) Between at-between 14 0 (pos 0) (le_refl 14) (omega arith, omega arith))

  reached : (high_of c0 c1 fs ≤ nat_abs largest) × (low_of c0 c1 fs ≤ nat_abs largest)
  unfolding high_of low_of
  reached =
      let d = difference_at c0 c1 fs in
      let r = (look-reaches d (λ j. abs-sfits (at-fits j)) 14 0 (pos 0) (omega arith)).1 in
      let s : (j : ℕ) → j < 14 → nat_abs (d j) ≤ nat_abs largest = λ j l. subst (λ (z : ℤ). nat_abs (d j) ≤ nat_abs z) (sym largest-is) (r j (omega arith) (omega arith)) in (
        top-le (over_at c0 c1 fs) 14 (nat_abs largest) (λ j l. le_trans (over-le (d j)).0 (s j l)),
        top-le (under_at c0 c1 fs) 14 (nat_abs largest) (λ j l. le_trans (over-le (d j)).1 (s j l)),
      )

  ends : Ends (high_of c0 c1 fs) (low_of c0 c1 fs) largest
  ends = (between, reached)

  -- ---- the first exponent by the two ends

  of-up : largest ≡ pos (high_of c0 c1 fs) → exponent_of (halvings (pos (high_of c0 c1 fs))) ≡ first_exponent c0 c1 (history_of fs) (samples_of fs)
  unfolding first_exponent largest
  of-up e = ap (λ (z : ℤ). exponent_of (halvings z)) (sym e)

  of-down : largest ≡ neg_ℤ (pos (low_of c0 c1 fs)) → exponent_of (halvings (pos (8 * low_of c0 c1 fs / 9))) ≡ first_exponent c0 c1 (history_of fs) (samples_of fs)
  unfolding first_exponent largest
  of-down e = ap exponent_of (sym (halvings-negative (low_of c0 c1 fs) low-le) ∙ ap halvings (sym e))

  -- where both have one exponent
  pub first-same : (m : ℕ) → m ≡ exponent_of (halvings (pos (high_of c0 c1 fs))) → m ≡ exponent_of (halvings (pos (8 * low_of c0 c1 fs / 9)))
      → m ≡ first_exponent c0 c1 (history_of fs) (samples_of fs)
  first-same m a b = go (non_neg largest) refl
    where
      go : (t : Bool) → non_neg largest ≡ t → m ≡ first_exponent c0 c1 (history_of fs) (samples_of fs)
      go true e = a ∙ of-up (end-up _ _ largest ends e)
      go false e = b ∙ of-down (end-down _ _ largest ends e)

  -- where one has the larger magnitude
  pub first-higher : low_of c0 c1 fs < high_of c0 c1 fs → exponent_of (halvings (pos (high_of c0 c1 fs))) ≡ first_exponent c0 c1 (history_of fs) (samples_of fs)
  first-higher l = of-up (end-up _ _ largest ends ((end-sign _ _ largest ends).0 l))

  pub first-lower : high_of c0 c1 fs < low_of c0 c1 fs → exponent_of (halvings (pos (8 * low_of c0 c1 fs / 9))) ≡ first_exponent c0 c1 (history_of fs) (samples_of fs)
  first-lower l = of-down (end-down _ _ largest ends ((end-sign _ _ largest ends).1 l))

  -- where both have the same
  up_at_lem : (n k i : ℕ) → up_first c0 c1 fs n k i ≡ up_at (difference_at c0 c1 fs) n k i
  unfolding up_first
  up_at_lem n zero i = refl
  up_at_lem n (suc k) i = ap (λ (b : Bool). cond (eqb (nat_abs (difference_at c0 c1 fs i)) n) (non_neg (difference_at c0 c1 fs i)) b) (up_at_lem n k (suc i))

  module _ (n : ℕ) (p : high_of c0 c1 fs ≡ n) (q : low_of c0 c1 fs ≡ n) where
    size_is : nat_abs largest ≡ n
    size_is = omega (arith, between, reached, size-between largest)

    tie-sign : 0 < n → non_neg largest ≡ up_first c0 c1 fs n 14 0
    tie-sign l =
        ap non_neg largest-is
        ∙ look-first (difference_at c0 c1 fs) n (omega (arith, high_le)) (λ j h. omega (arith, at-between j h, size-between (difference_at c0 c1 fs j))) 14 0 (pos 0) (le_refl 14) l
        (sym (ap nat_abs largest-is) ∙ size_is)
        ∙ sym (up_at_lem n 14 0)

    -- no difference but zeros
    nothing : ¬ (0 < n) → largest ≡ pos 0
    nothing g = none largest (omega (arith, size_is, g))
      where
        none : (z : ℤ) → nat_abs z ≡ 0 → z ≡ pos 0
        none (pos m) e = ap pos e
        none (negsuc m) e = absurd (omega arith)

    pub first-up : up_first c0 c1 fs n 14 0 ≡ true → exponent_of (halvings (pos (high_of c0 c1 fs))) ≡ first_exponent c0 c1 (history_of fs) (samples_of fs)
    first-up e = of-up (go (dec_le 1 n))
      where
        go : Dec (1 ≤ n) → largest ≡ pos (high_of c0 c1 fs)
        go (yes l) = end-up _ _ largest ends (tie-sign l ∙ e)
        go (no g) = nothing g ∙ ap pos (omega (arith, p, g))

    pub first-down : up_first c0 c1 fs n 14 0 ≡ false → exponent_of (halvings (pos (8 * low_of c0 c1 fs / 9))) ≡ first_exponent c0 c1 (history_of fs) (samples_of fs)
    first-down e = of-down (go (dec_le 1 n))
      where
        go : Dec (1 ≤ n) → largest ≡ neg_ℤ (pos (low_of c0 c1 fs))
        go (yes l) = end-down _ _ largest ends (tie-sign l ∙ e)
        go (no g) = let z : 0 ≡ low_of c0 c1 fs = omega (arith, q, g) in nothing g ∙ ap (λ (m : ℕ). neg_ℤ (pos m)) z

-- ---- the first of magnitude n, from place i on
module _ (c0 c1 : ℤ) (fs : List ℤ) (n i : ℕ) (E : Bool) (inv : up_first c0 c1 fs n (14 - i) i ≡ E) where
  pub up-yes : i < 14 → nat_abs (difference_at c0 c1 fs i) ≡ n → non_neg (difference_at c0 c1 fs i) ≡ E
  unfolding up_first
  up-yes h e =
      let one : 14 - i ≡ suc (14 - (i + 1)) = omega arith in
      sym (ap (λ (k : ℕ). up_first c0 c1 fs n k i) one ∙ rw (eq-eqb (nat_abs (difference_at c0 c1 fs i)) n e)) ∙ inv

  pub up-no : i < 14 → (nat_abs (difference_at c0 c1 fs i) ≡ n → ⊥) → up_first c0 c1 fs n (14 - (i + 1)) (i + 1) ≡ E
  unfolding up_first
  up-no h g =
      let one : 14 - i ≡ suc (14 - (i + 1)) = omega arith in
      ap (λ (j : ℕ). up_first c0 c1 fs n (14 - (i + 1)) j) (add-one i)
      ∙ sym (ap (λ (k : ℕ). up_first c0 c1 fs n k i) one ∙ rw (ne_eqb (nat_abs (difference_at c0 c1 fs i)) n g)) ∙ inv

  pub up-end : 14 ≤ i → true ≡ E
  unfolding up_first
  up-end h =
      let none : 14 - i ≡ 0 = omega arith in
      sym (ap (λ (k : ℕ). up_first c0 c1 fs n k i) none) ∙ inv

-- a number is not negative where 0 is at most as large
pub sign-test : (z : ℤ) → le_z (pos 0) z ≡ non_neg z
sign-test (pos n) = le-leb 0 n (omega arith)
sign-test (negsuc n) = refl
