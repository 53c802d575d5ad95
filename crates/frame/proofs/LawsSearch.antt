-- Laws of the scale search.
use mathlib.Core.Path.{◌≡◌, refl, sym, ap, ◌∙◌, subst}
use mathlib.Core.Bool.{Bool, true, false, cond, ◌||◌}
use mathlib.Core.List.{List}
use mathlib.Core.Logic.{◌⊎◌, inl, inr, ⊎_elim}
use Prim.Native.Nat.{ℕ, zero, suc, ◌+◌, ◌-◌, ◌*◌, ◌/◌, ◌^◌, ◌≤◌, ◌<◌, min}
use native.Mathlib.Omega.{arith}
use native.Mathlib.Nat.{le_trans, pow-suc, lt_of_not-le, zero-add, suc-add}
use native.Mathlib.Decide.{dec_le}
use lib.Dec.{eqb, leb, ltb, lit≤}
use lib.IntN.{ℤ}
use borrow.Author.Tests.{eqb-true, eqb-false, leb-true, lt-ltb, le-ltb}
use Rattle.whole.specs.declared.History.{History}
use Rattle.frame.specs.declared.search.Coded.{Coded}
use Rattle.frame.specs.Estimate.{first_exponent}
use Rattle.frame.specs.Pass.{Bounded, run_pass}
use Rattle.frame.specs.Search.{raise_within, raise, is_last, finished, search_within, try_coefficients}
use Rattle.frame.specs.Fits.{Fit, FitHistory}
use Rattle.frame.proofs.LawsOrder.{neither}
use Rattle.frame.proofs.LawsEstimate.{first-le}
use Rattle.frame.proofs.LawsPass.{overflow-12}

-- ---- the raise
pub raise-more : (k y p : ℕ) → 256 < y → raise_within (suc k) y p ≡ raise_within k (y / 2) (min (p + 1) 11)
unfolding raise_within
raise-more k y p h = rw (lt-ltb 256 y h)

pub raise-done : (k y p : ℕ) → y ≤ 256 → raise_within k y p ≡ p
unfolding raise_within
raise-done zero y p h = refl
raise-done (suc k) y p h = rw (le-ltb 256 y h)

-- what the loop carries: some number of turns is enough for y, and leads to E
abbrev pub Left : ℕ → ℕ → ℕ → Type 0
Left E y p = (k : ℕ) × (y < 257 * 2 ^ k) × (raise_within k y p ≡ E)

pub left-more : (E y p q : ℕ) → 256 < y → q ≡ min (p + 1) 11 → Left E y p → Left E (y / 2) q
left-more E y p q h e (zero, l, b) = absurd (no l)
  where
    no : y < 257 * 1 → ⊥
    no l = omega arith
left-more E y p q h e (suc k, l, b) = (k, omega (arith, pow-suc 2 k), ap (raise_within k (y / 2)) e ∙ sym (raise-more k y p h) ∙ b)

pub left-done : (E y p : ℕ) → y ≤ 256 → Left E y p → p ≡ E
left-done E y p h (k, l, b) = sym (raise-done k y p h) ∙ b

-- 24 halvings are more than any overflow needs
pub raise-ends : (j k y p : ℕ) → y < 257 * 2 ^ k → raise_within (k + j) y p ≡ raise_within k y p
unfolding raise_within
raise-ends j zero y p h = ap (λ (m : ℕ). raise_within m y p) (zero-add j) ∙ raise-done j y p (omega arith)
raise-ends j (suc k) y p h = ap (λ (m : ℕ). raise_within m y p) (suc-add k j) ∙ (ap (λ (r : ℕ). cond (ltb 256 y) r p) (raise-ends j k (y / 2) (min (p + 1) 11) (omega (arith, pow-suc 2 k))))

raise-within-11 : (k y p : ℕ) → p ≤ 11 → (p ≤ raise_within k y p) × (raise_within k y p ≤ 11)
unfolding raise_within
raise-within-11 zero y p h = (omega arith, h)
raise-within-11 (suc k) y p h = go (ltb 256 y) (raise-within-11 k (y / 2) (min (p + 1) 11) (omega arith))
  where
    go : (t : Bool) → (min (p + 1) 11 ≤ raise_within k (y / 2) (min (p + 1) 11)) × (raise_within k (y / 2) (min (p + 1) 11) ≤ 11) → (p ≤ cond t (raise_within k (y / 2) (min (p + 1) 11)) p)
        × (cond t (raise_within k (y / 2) (min (p + 1) 11)) p ≤ 11)
    go true i = (omega arith, i.1)
    go false i = (omega arith, h)

-- below 12 an exponent rises to 11 at most
pub raise-11 : (o p : ℕ) → p ≤ 11 → (p ≤ raise o p) × (raise o p ≤ 11)
unfolding raise
raise-11 o p h = raise-within-11 24 (o + 8) p h

-- a small overflow raises nothing
pub raise-same : (o p : ℕ) → o ≤ 248 → raise o p ≡ p
unfolding raise
raise-same o p h = raise-done 24 (o + 8) p (omega arith)

raise-within-12 : (k y p : ℕ) → p ≤ 12 → raise_within k y p ≤ 12
unfolding raise_within
raise-within-12 zero y p h = h
raise-within-12 (suc k) y p h = go (ltb 256 y) (raise-within-11 k (y / 2) (min (p + 1) 11) (omega arith)).1
  where
    go : (t : Bool) → raise_within k (y / 2) (min (p + 1) 11) ≤ 11 → cond t (raise_within k (y / 2) (min (p + 1) 11)) p ≤ 12
    go true i = omega arith
    go false i = h

pub raise-12 : (o p : ℕ) → p ≤ 12 → raise o p ≤ 12
unfolding raise
raise-12 o p h = raise-within-12 24 (o + 8) p h

-- ---- the end test
pub not-twelve : (p o : ℕ) → is_last p o ≡ false → p ≡ 12 → ⊥
unfolding is_last
not-twelve p o e q = eqb-false p 12 (neither (eqb p 12) (leb o 1) e).0 q

either : (a b : Bool) → (a || b) ≡ true → (a ≡ true) ⊎ (b ≡ true)
either true b e = inl refl
either false b e = inr e

pub ended : (p o : ℕ) → is_last p o ≡ true → (p ≡ 12) ⊎ (o ≤ 1)
unfolding is_last
ended p o e = ⊎_elim (λ x. inl (eqb-true p 12 x)) (λ y. inr (leb-true o 1 y)) (either (eqb p 12) (leb o 1) e)

-- ---- the loop's step
module _ (c0 c1 : ℤ) (h : History) (xs : List ℤ) (p n q : ℕ) (E : Coded) (l : n < 13) (b : q ≡ raise (run_pass c0 c1 h xs p).overflow p) (i : search_within (13 - n) c0 c1 h xs p n ≡ E) where
  one : 13 - n ≡ suc (13 - (n + 1))
  one = omega arith

  pub search-more : is_last q (run_pass c0 c1 h xs p).overflow ≡ false → search_within (13 - (n + 1)) c0 c1 h xs (q + 1) (n + 1) ≡ E
  unfolding search_within
  search-more e = sym (ap (λ (k : ℕ). search_within k c0 c1 h xs p n) one ∙ rw (← b, e)) ∙ i

  pub search-last : is_last q (run_pass c0 c1 h xs p).overflow ≡ true → finished (run_pass c0 c1 h xs p) q (n + 1) ≡ E
  unfolding search_within
  search-last e = sym (ap (λ (k : ℕ). search_within k c0 c1 h xs p n) one ∙ rw (← b, e)) ∙ i

module _ (c0 c1 : ℤ) (h : History) (xs : List ℤ) (b : Bounded c0 c1) (f : FitHistory h) (x : Fit 14 xs) where
  -- where the search goes on, the exponent is not above 11 and has not fallen
  pub goes_on : (p q : ℕ) → p ≤ 12 → q ≡ raise (run_pass c0 c1 h xs p).overflow p → (q ≡ 12 → ⊥) → (p ≤ q) × (q ≤ 11)
  goes_on p q l e no-12 = go (dec_le p 11)
    where
      twelve : 11 < p → p ≡ 12
      twelve m = omega arith

      same : p ≡ 12 → q ≡ 12
      same g = e ∙ ap (λ (m : ℕ). raise (run_pass c0 c1 h xs m).overflow m) g ∙ raise-same (run_pass c0 c1 h xs 12).overflow 12 (overflow-12 c0 c1 h xs b f x)

      go : Dec (p ≤ 11) → (p ≤ q) × (q ≤ 11)
      go (yes m) = let w = raise-11 (run_pass c0 c1 h xs p).overflow p m in (omega arith, omega arith)
      go (no m) = absurd (no-12 (same (twelve (lt_of_not-le m))))

  -- the pass that ends the search keeps its exponent
  pub stays : (p q : ℕ) → p ≤ 12 → q ≡ raise (run_pass c0 c1 h xs p).overflow p → is_last q (run_pass c0 c1 h xs p).overflow ≡ true → q ≡ p
  stays p q l e t = ⊎_elim (λ w. at-12 (dec_le p 11) w) (λ w. e ∙ raise-same (run_pass c0 c1 h xs p).overflow p (omega arith)) (ended q (run_pass c0 c1 h xs p).overflow t)
    where
      at-12 : Dec (p ≤ 11) → q ≡ 12 → q ≡ p
      at-12 (yes m) w = let r = raise-11 (run_pass c0 c1 h xs p).overflow p m in omega arith
      at-12 (no m) w = let r = lt_of_not-le m in omega arith

-- ---- of whatever the search gives, for any input

-- a finished pass, an exponent of at most 12, between n and n + k passes
pub record Shape (c0 c1 : ℤ) (h : History) (xs : List ℤ) (n k : ℕ) (c : Coded) : Type 0 where
  pub at : ℕ
  pub is : c ≡ finished (run_pass c0 c1 h xs at) c.exponent c.passes
  pub exponent-le : c.exponent ≤ 12
  pub passes-ge : n ≤ c.passes
  pub passes-le : c.passes ≤ n + k

module _ (c0 c1 : ℤ) (h : History) (xs : List ℤ) where
  one_more : (k p n q : ℕ) (t : Bool) → q ≤ 12 → (t ≡ false → q ≡ 12 → ⊥) → (q + 1 ≤ 12 → Shape c0 c1 h xs (n + 1) k (search_within k c0 c1 h xs (q + 1) (n + 1)))
      → Shape c0 c1 h xs n (suc k) (cond t (finished (run_pass c0 c1 h xs p) q (n + 1)) (search_within k c0 c1 h xs (q + 1) (n + 1)))
  unfolding finished
  one_more k p n q true l b r = record { at = p; is = refl; exponent-le = l; passes-ge = omega arith; passes-le = omega arith }
  one_more k p n q false l b r =
      let m = b refl in
      let s = r (omega arith) in
      record { at = s.at; is = s.is; exponent-le = s.exponent-le; passes-ge = omega arith; passes-le = omega arith }

  pub search-shape : (k p n : ℕ) → p ≤ 12 → Shape c0 c1 h xs n k (search_within k c0 c1 h xs p n)
  unfolding search_within finished
  search-shape zero p n l = record { at = p; is = refl; exponent-le = l; passes-ge = omega arith; passes-le = omega arith }
  search-shape (suc k) p n l =
      let o = (run_pass c0 c1 h xs p).overflow in
      one_more k p n (raise o p) (is_last (raise o p) o) (raise-12 o p l) (not-twelve (raise o p) o) (search-shape k (raise o p + 1) (n + 1))

  pub try-shape : Shape c0 c1 h xs 0 13 (try_coefficients c0 c1 h xs)
  unfolding try_coefficients
  try-shape = search-shape 13 _ 0 (le_trans (first-le _ _ _ _) (lit≤ tt))

-- ---- what ends the search, where the coefficients are bounded and the samples are of 16 bits

-- a pass that meets the end test at its own exponent
pub record Found (c0 c1 : ℤ) (h : History) (xs : List ℤ) (c : Coded) : Type 0 where
  pub is : c ≡ finished (run_pass c0 c1 h xs c.exponent) c.exponent c.passes
  pub met : is_last c.exponent (run_pass c0 c1 h xs c.exponent).overflow ≡ true

-- with no turn left an exponent is above 12
no-turns : {p : ℕ} → p ≤ 12 → 12 < zero + p → ⊥
no-turns l m = omega arith

module _ (c0 c1 : ℤ) (h : History) (xs : List ℤ) (b : Bounded c0 c1) (f : FitHistory h) (x : Fit 14 xs) where
  found-more : (k p n q : ℕ) (t : Bool) → p ≤ 12 → q ≡ raise (run_pass c0 c1 h xs p).overflow p → is_last q (run_pass c0 c1 h xs p).overflow ≡ t
      → (p ≤ q → q ≤ 11 → Found c0 c1 h xs (search_within k c0 c1 h xs (q + 1) (n + 1)))
      → Found c0 c1 h xs (cond t (finished (run_pass c0 c1 h xs p) q (n + 1)) (search_within k c0 c1 h xs (q + 1) (n + 1)))
  unfolding finished
  found-more k p n q true l e t r =
      let s : p ≡ q = sym (stays c0 c1 h xs b f x p q l e t) in
      record {
        is = ap (λ (m : ℕ). finished (run_pass c0 c1 h xs m) q (n + 1)) s;
        met = subst (λ (m : ℕ). is_last q (run_pass c0 c1 h xs m).overflow ≡ true) s t;
      }
  found-more k p n q false l e t r = let g = goes_on c0 c1 h xs b f x p q l e (not-twelve q (run_pass c0 c1 h xs p).overflow t) in r g.0 g.1

  pub search-found : (k p n : ℕ) → p ≤ 12 → 12 < k + p → Found c0 c1 h xs (search_within k c0 c1 h xs p n)
  unfolding search_within
  search-found zero p n l m = absurd (no-turns l m)
  search-found (suc k) p n l m =
      let o = (run_pass c0 c1 h xs p).overflow in
      found-more k p n (raise o p) (is_last (raise o p) o) l refl refl (λ u v. search-found k (raise o p + 1) (n + 1) (omega arith) (omega arith))

  -- a larger bound changes nothing: the bound is never what ends the search
  same_more : (j k p n q : ℕ) (t : Bool) → p ≤ 12 → q ≡ raise (run_pass c0 c1 h xs p).overflow p → is_last q (run_pass c0 c1 h xs p).overflow ≡ t
      → (p ≤ q → q ≤ 11 → search_within (k + j) c0 c1 h xs (q + 1) (n + 1) ≡ search_within k c0 c1 h xs (q + 1) (n + 1))
      → cond t (finished (run_pass c0 c1 h xs p) q (n + 1)) (search_within (k + j) c0 c1 h xs (q + 1) (n + 1))
      ≡ cond t (finished (run_pass c0 c1 h xs p) q (n + 1)) (search_within k c0 c1 h xs (q + 1) (n + 1))
  same_more j k p n q true l e t r = refl
  same_more j k p n q false l e t r = let g = goes_on c0 c1 h xs b f x p q l e (not-twelve q (run_pass c0 c1 h xs p).overflow t) in r g.0 g.1

  pub search-bound : (j k p n : ℕ) → p ≤ 12 → 12 < k + p → search_within (k + j) c0 c1 h xs p n ≡ search_within k c0 c1 h xs p n
  unfolding search_within
  search-bound j zero p n l m = absurd (no-turns l m)
  search-bound j (suc k) p n l m =
      let o = (run_pass c0 c1 h xs p).overflow in
      ap (λ (i : ℕ). search_within i c0 c1 h xs p n) (suc-add k j)
      ∙ same_more j k p n (raise o p) (is_last (raise o p) o) l refl refl (λ u v. search-bound j k (raise o p + 1) (n + 1) (omega arith) (omega arith))

  pub try-found : Found c0 c1 h xs (try_coefficients c0 c1 h xs)
  unfolding try_coefficients
  try-found = search-found 13 _ 0 (le_trans (first-le _ _ _ _) (lit≤ tt)) (omega arith)

  pub try-bound : (j : ℕ) → search_within (13 + j) c0 c1 h xs (first_exponent c0 c1 h xs) 0 ≡ try_coefficients c0 c1 h xs
  unfolding try_coefficients
  try-bound j = search-bound j 13 (first_exponent c0 c1 h xs) 0 (le_trans (first-le _ _ _ _) (lit≤ tt)) (omega arith)
