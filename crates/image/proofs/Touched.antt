-- The blocks that a run of samples overlaps.
use mathlib.Core.Bool.{Bool, true, false, cond, not, ◌&&◌}
use mathlib.Core.Path.{◌≡◌, refl, sym, ap, ◌∙◌}
use Prim.Native.Nat.{ℕ, zero, suc, ◌+◌, ◌-◌, ◌*◌, ◌/◌, ◌%◌, ◌≤◌, ◌<◌, min}
use native.Mathlib.Nat.{add_assoc, add-zero, zero-add, suc-mul, mul-le-mul_right, lt_of_mul-lt-mul_right, div-add-mod', div-mul-le_self, div-lt_iff_lt-mul, mod-lt, lt-suc_self}
use native.Mathlib.Numerals.{add-one}
use native.Mathlib.Omega.{arith}
use borrow.Author.Tests.{lt-ltb, le-ltb, ltb-true, ltb-false, eqb-true, eqb-false}
use lib.Dec.{eqb, ltb}
use Rattle.layout.proofs.LimitLaws.{both_true}
use Rattle.image.specs.Part.{overlaps, touched}
use Rattle.image.specs.PartCut.{shared}

-- block `start` has the run's first sample, and block k is the one after that of its last
module _ (p first n start k : ℕ) (z : 0 < n) (a : start * p ≤ first) (b : first < suc start * p) (c : k * p < first + n + p) (d : first + n ≤ k * p) where
  beyond : (i : ℕ) → k ≤ i → overlaps p first n i ≡ false
  beyond i f = go (overlaps p first n i) refl
    where
      go : (t : Bool) → overlaps p first n i ≡ t → t ≡ false
      go true q =
          let u = both_true (ltb 0 n) _ q in
          let v = both_true (ltb first (suc i * p)) _ u.1 in
          let w = ltb-true (i * p) _ v.1 in
          let x : k * p ≤ i * p = mul-le-mul_right p f in
          absurd (omega (arith, d, w, x))
      go false q = refl

  inside : (i : ℕ) → start ≤ i → i < k → overlaps p first n i ≡ true
  inside i e f =
      let u : suc start * p ≤ suc i * p = mul-le-mul_right p (omega arith) in
      let v : suc i * p ≤ k * p = mul-le-mul_right p f in
      let w = suc-mul i p in
      rw (lt-ltb 0 n z, lt-ltb first (suc i * p) (omega (arith, b, u)), lt-ltb (i * p) (first + n) (omega (arith, c, v, w)))

  before : (i : ℕ) → i < start → overlaps p first n i ≡ false
  before i e =
      let u : suc i * p ≤ start * p = mul-le-mul_right p e in
      rw (lt-ltb 0 n z, le-ltb first (suc i * p) (omega (arith, a, u)))

  start-before : start < k
  start-before = go (ltb start k) refl
    where
      go : (t : Bool) → ltb start k ≡ t → start < k
      go true e = ltb-true start k e
      go false e =
          let u : k * p ≤ start * p = mul-le-mul_right p (ltb-false start k e) in
          absurd (omega (arith, a, d, u, z))

  upto : (i : ℕ) → touched p first n i ≡ min i k - min i start
  unfolding touched
  upto zero = omega arith
  upto (suc i) = go (upto i) (ltb i start) (ltb i k) refl refl
    where
      go : touched p first n i ≡ min i k - min i start → (s t : Bool) → ltb i start ≡ s → ltb i k ≡ t
          → touched p first n i + cond (overlaps p first n i) 1 0 ≡ min (suc i) k - min (suc i) start
      go rec true t e f = let h = ltb-true i start e in let g = start-before in rw (before i h, rec) (omega (arith, h, g))
      go rec false true e f = let h = ltb-false i start e in let g = ltb-true i k f in rw (inside i h g, rec) (omega (arith, h, g))
      go rec false false e f = let h = ltb-false i start e in let g = ltb-false i k f in let b = start-before in rw (beyond i g, rec) (omega (arith, h, g, b))

  -- they are those from the one up to the other
  pub touched-between : (kk : ℕ) → k ≤ kk → touched p first n kk ≡ k - start
  touched-between kk h = upto kk ∙ (let g = start-before in omega (arith, h, g))

-- a run of no samples touches none
pub touched_none : (p first k : ℕ) → touched p first 0 k ≡ 0
unfolding touched
touched_none p first zero = refl
touched_none p first (suc k) = rw (touched_none p first k)

-- no more than there are
pub touched-le : (p first n k : ℕ) → touched p first n k ≤ k
unfolding touched
touched-le p first n zero = omega arith
touched-le p first n (suc k) = go (overlaps p first n k) (touched-le p first n k)
  where
    go : (t : Bool) → touched p first n k ≤ k → touched p first n k + cond t 1 0 ≤ suc k
    go true h = omega (arith, h)
    go false h = omega (arith, h)

-- the blocks of a run's first sample and of its last
module _ (p first n : ℕ) (h : 0 < p) (z : 0 < n) where
  abbrev last : ℕ
  last = (first + n - 1) / p

  pub first-from : first / p * p ≤ first
  first-from = div-mul-le_self first p

  first-before : first < suc (first / p) * p
  first-before = (div-lt_iff_lt-mul h).0 (lt-suc_self (first / p))

  last-from : suc last * p < first + n + p
  last-from = let c = div-mul-le_self (first + n - 1) p in let w = suc-mul last p in omega (arith, c, w, z)

  pub last-before : first + n ≤ suc last * p
  last-before = let d : first + n - 1 < suc last * p = (div-lt_iff_lt-mul h).0 (lt-suc_self last) in omega (arith, d)

  pub first-to-last : first / p < suc last
  first-to-last = start-before p first n (first / p) (suc last) z first-from first-before last-from last-before

  pub last-there : (k : ℕ) → first + n ≤ k * p → last < k
  last-there k e = (div-lt_iff_lt-mul h).1 (omega (arith, e, z))

  -- The blocks touched by a formula: from the first sample's block to the last one's.
  pub touched-formula : (k : ℕ) → first + n ≤ k * p → touched p first n k ≡ suc (last - first / p)
  touched-formula k e =
      let i = first-to-last in
      touched-between p first n (first / p) (suc last) z first-from first-before last-from last-before k (last-there k e)
      ∙ omega (arith, i)

-- ---- a run cut in two

-- a part without samples shares no block
pub shared-none : (p second m : ℕ) → shared p second m 0 ≡ 0
shared-none p second m = go (ltb 0 m)
  where
    go : (t : Bool) → cond {A = ℕ} (t && (ltb 0 0 && not (eqb (second % p) 0))) 1 0 ≡ 0
    go true = refl
    go false = refl

module _ (p first m n k : ℕ) (h : 0 < p) (zm : 0 < m) (zn : 0 < n) (e : first + m + n ≤ k * p) where
  abbrev second : ℕ
  second = first + m

  abbrev quotient : ℕ
  quotient = second / p

  cut-place : quotient * p + second % p ≡ second
  cut-place = div-add-mod' second p

  -- the last block that the first part touches is the one before block quotient + t
  cut_at : (t : ℕ) → (quotient + t) * p < second + p → second ≤ (quotient + t) * p → touched p first (m + n) k + t ≡ touched p first m k + touched p second n k
  cut_at t lo hi =
      let zw : 0 < m + n = omega (arith, zm) in
      let sum = add_assoc first m n in
      let x : (first + (m + n) - 1) / p ≡ (second + n - 1) / p = ap (λ (i : ℕ). (i - 1) / p) (sym sum) in
      let a = first-from p first m h zm in
      let b = first-before p first m h zm in
      let g = first-before p second n h zn in
      let y : first / p < suc quotient = lt_of_mul-lt-mul_right p (omega (arith, a, g)) in
      let kk = suc-mul k p in
      let i : quotient + t < suc k = lt_of_mul-lt-mul_right p (omega (arith, lo, e, zn, kk)) in
      let whole = touched-formula p first (m + n) h zw k (omega (arith, e, sum)) in
      let one = touched-between p first m (first / p) (quotient + t) zm a b lo hi k (omega (arith, i)) in
      let other = touched-formula p second n h zn k e in
      let o = start-before p first m (first / p) (quotient + t) zm a b lo hi in
      let q = first-to-last p second n h zn in
      omega (arith, whole, one, other, o, q, x, y)

  cut-some : touched p first (m + n) k + cond (not (eqb (second % p) 0)) 1 0 ≡ touched p first m k + touched p second n k
  cut-some = go (eqb (second % p) 0) refl
    where
      positive : (i : ℕ) → (i ≡ 0 → ⊥) → 0 < i
      positive i f = omega arith

      go : (t : Bool) → eqb (second % p) 0 ≡ t → touched p first (m + n) k + cond (not t) 1 0 ≡ touched p first m k + touched p second n k
      go true q =
          let r = eqb-true (second % p) 0 q in
          let c = cut-place in
          let z = add-zero quotient in
          cut_at 0 (rw z (omega (arith, r, c, h))) (rw z (omega (arith, r, c)))
      go false q =
          let r = eqb-false (second % p) 0 q in
          let c = cut-place in
          let u = mod-lt second h in
          let w : (quotient + 1) * p ≡ quotient * p + p = ap (λ (i : ℕ). i * p) (add-one quotient) ∙ suc-mul quotient p in
          cut_at 1 (let v = positive (second % p) r in omega (arith, v, c, w)) (omega (arith, c, u, w))

-- The parts' blocks are the run's, with one that both touch counted twice.
pub touched-cut : (p first m n k : ℕ) → 0 < p → first + m + n ≤ k * p
    → touched p first (m + n) k + shared p (first + m) m n ≡ touched p first m k + touched p (first + m) n k
touched-cut p first zero n k h e = rw (zero-add n, add-zero first, touched_none p first k) (omega arith)
touched-cut p first (suc m) zero k h e = rw (add-zero (suc m), touched_none p (first + suc m) k, lt-ltb 0 (suc m) (omega arith)) (omega arith)
touched-cut p first (suc m) (suc n) k h e =
    rw (lt-ltb 0 (suc m) (omega arith), lt-ltb 0 (suc n) (omega arith)) (cut-some p first (suc m) (suc n) k h (omega arith) (omega arith) e)
