-- Laws of the tests of coefficients.
use mathlib.Core.Path.{◌≡◌, refl, sym, ap, ◌∙◌, subst}
use mathlib.Core.Bool.{Bool, true, false, ◌&&◌, ◌||◌}
use mathlib.Core.List.{List}
use Prim.Native.Nat.{ℕ, zero, suc, ◌+◌, ◌-◌, ◌*◌, ◌≤◌, ◌<◌}
use native.Mathlib.Nat.{zero-add, suc-add}
use native.Mathlib.Numerals.{add-one}
use native.Mathlib.Omega.{arith}
use borrow.Author.Tests.{eqb-true, eqb-false, eq-eqb, ltb-false}
use lib.Dec.{eqb, ltb}
use lib.IntN.{ℤ, pos, negsuc}
use lib.ListN.{length, get_or}
use lib.Pointwise.{pointwise}
use Rattle.std.specs.Ordering.{int_eq}
use Rattle.std.specs.Cmp.Rules.{signed_items}
use Rattle.std.proofs.lemmas.Bool.Decides.{same_from_decides}
use Rattle.std.proofs.lemmas.List.{ext_get_or}
use Rattle.std.proofs.Math.Bool.{or-true}
use Rattle.block.specs.Refusals.{equal, bad_length, lowest_among, lowest_pair, equal_up_to, equal_coefficients}

pub equal-self : (x : ℤ) → equal x x ≡ true
equal-self (pos n) = eq-eqb n n refl
equal-self (negsuc n) = eq-eqb n n refl

pub equal-true : (x y : ℤ) → equal x y ≡ true → x ≡ y
equal-true (pos m) (pos n) e = ap pos (eqb-true m n e)
equal-true (pos m) (negsuc n) e = absurd (let z : ◌≡◌ {A = ℕ} 0 1 = cc in omega arith)
equal-true (negsuc m) (pos n) e = absurd (let z : ◌≡◌ {A = ℕ} 0 1 = cc in omega arith)
equal-true (negsuc m) (negsuc n) e = ap negsuc (eqb-true m n e)

unequal : (x y : ℤ) → (x ≡ y → ⊥) → equal x y ≡ false
unequal x y f = go (equal x y) refl
  where
    go : (t : Bool) → equal x y ≡ t → t ≡ false
    go true e = absurd (f (equal-true x y e))
    go false e = refl

-- ---- a pair of which both are lowest

module _ (cs : List ℤ) (k : ℕ) where
  abbrev pub lowest_at : Bool
  lowest_at = equal (get_or cs (2 * k) (pos 0)) (negsuc 32767) && equal (get_or cs (2 * k + 1) (pos 0)) (negsuc 32767)

  pub both-lowest : get_or cs (2 * k) (pos 0) ≡ negsuc 32767 → get_or cs (2 * k + 1) (pos 0) ≡ negsuc 32767 → lowest_at ≡ true
  both-lowest e f = rw (e, f)

  pub first-above : (get_or cs (2 * k) (pos 0) ≡ negsuc 32767 → ⊥) → lowest_at ≡ false
  first-above f = rw (unequal (get_or cs (2 * k) (pos 0)) (negsuc 32767) f)

  pub second-above : get_or cs (2 * k) (pos 0) ≡ negsuc 32767 → (get_or cs (2 * k + 1) (pos 0) ≡ negsuc 32767 → ⊥) → lowest_at ≡ false
  second-above e f = rw e (unequal (get_or cs (2 * k + 1) (pos 0)) (negsuc 32767) f)

  pub lowest-more : lowest_among cs k ≡ false → lowest_at ≡ false → lowest_among cs (k + 1) ≡ false
  unfolding lowest_among
  lowest-more e f = rw (add-one k, e) f

  lowest-stays : (d : ℕ) → lowest_at ≡ true → lowest_among cs (d + suc k) ≡ true
  unfolding lowest_among
  lowest-stays zero e = rw (zero-add, e) (or-true (lowest_among cs k))
  lowest-stays (suc d) e = rw (suc-add, lowest-stays d e)

  pub lowest-found : k < 8 → lowest_at ≡ true → lowest_pair cs ≡ true
  unfolding lowest_pair
  lowest-found h e = let n : 7 - k + suc k ≡ 8 = omega arith in rw n at (lowest-stays (7 - k) e)

-- ---- coefficients of two blocks

split : (a b : Bool) → (a && b) ≡ true → (a ≡ true) × (b ≡ true)
split true b e = (refl, e)
split false b e = absurd (let z : ◌≡◌ {A = ℕ} 0 1 = cc in omega arith)

agreed : (cs ds : List ℤ) (k i : ℕ) → i < k → equal_up_to cs ds k ≡ true → get_or cs i (pos 0) ≡ get_or ds i (pos 0)
unfolding equal_up_to
agreed cs ds zero i h e = absurd (omega arith)
agreed cs ds (suc k) i h e =
    let p = split (equal_up_to cs ds k) (equal (get_or cs k (pos 0)) (get_or ds k (pos 0))) e in
    go (λ l. agreed cs ds k i l p.0) (equal-true _ _ p.1) (eqb i k) refl
  where
    go : (i < k → get_or cs i (pos 0) ≡ get_or ds i (pos 0)) → get_or cs k (pos 0) ≡ get_or ds k (pos 0) → (t : Bool) → eqb i k ≡ t → get_or cs i (pos 0) ≡ get_or ds i (pos 0)
    go f g true q = rw (eqb-true i k q) g
    go f g false q = f (earlier i k h (eqb-false i k q))
      where
        earlier : (i k : ℕ) → i < suc k → (i ≡ k → ⊥) → i < k
        earlier i k h n = omega arith

self-agrees : (cs : List ℤ) (k : ℕ) → equal_up_to cs cs k ≡ true
unfolding equal_up_to
self-agrees cs zero = refl
self-agrees cs (suc k) = rw (self-agrees cs k, equal-self)

-- what the library's test of two arrays says
pub same-coefficients : (cs ds : List ℤ) → length cs ≡ 16 → length ds ≡ 16 → pointwise int_eq cs ds ≡ equal_coefficients cs ds
unfolding equal_coefficients
same-coefficients cs ds e f =
    same_from_decides (pointwise int_eq cs ds) (equal_up_to cs ds 16) (signed_items cs ds) (
      (λ h. ext_get_or (pos 0) cs ds (e ∙ sym f) (λ i l. agreed cs ds 16 i (omega arith) h)),
      (λ p. subst (λ (ys : List ℤ). equal_up_to cs ys 16 ≡ true) p (self-agrees cs 16)),
    )

-- ---- lengths

pub good_length : (len bytes : ℕ) → bad_length len bytes ≡ false → (0 < len) × (len ≤ 2 * bytes)
unfolding bad_length
good_length len bytes e = go (eqb len 0) refl (ltb (2 * bytes) len) refl e
  where
    go : (t : Bool) → eqb len 0 ≡ t → (u : Bool) → ltb (2 * bytes) len ≡ u → (t || u) ≡ false → (0 < len) × (len ≤ 2 * bytes)
    go true p u q r = absurd (let z : ◌≡◌ {A = ℕ} 0 1 = cc in omega arith)
    go false p true q r = absurd (let z : ◌≡◌ {A = ℕ} 0 1 = cc in omega arith)
    go false p false q r = (positive len (eqb-false len 0 p), ltb-false (2 * bytes) len q)
      where
        positive : (n : ℕ) → (n ≡ 0 → ⊥) → 0 < n
        positive n h = omega arith
