-- Samples compared one by one, and lists of them.
use mathlib.Core.Bool.{Bool, true, false, ◌&&◌}
use mathlib.Core.List.{List, [], ◌∷◌, ◌++◌}
use mathlib.Core.Path.{◌≡◌, refl, sym, ap, ap₂, ◌∙◌}
use Prim.Native.Nat.{ℕ, zero, suc, ◌+◌, ◌≤◌, ◌<◌}
use native.Mathlib.Numerals.{add-one}
use native.Mathlib.Omega.{arith}
use borrow.Author.Tests.{eqb-true, eqb-false}
use lib.Dec.{eqb}
use lib.IntN.{ℤ, pos}
use lib.ListN.{length, get_or, take}
use lib.Seq.{take-suc}
use Rattle.block.specs.Refusals.{equal, equal_up_to}
use Rattle.block.proofs.LawsRefusals.{equal-self, equal-true}
use Rattle.layout.proofs.LimitLaws.{both_true}
use lib.Pointwise.{pointwise}
use Rattle.std.specs.Ordering.{int_eq}
use Rattle.std.specs.Cmp.Rules.{signed_items}
use Rattle.std.proofs.lemmas.Bool.Decides.{same_from_decides, Decides-int_eq}
use Rattle.std.proofs.lemmas.List.{get_or-take, take_all}
use Rattle.block.specs.Refusals.{equal_coefficients}
use Rattle.image.specs.Sameness.{equal_samples}

pub never : ◌≡◌ {A = Bool} false true → ⊥
never e = let z : ◌≡◌ {A = ℕ} 0 1 = cc in omega arith

-- ---- tests in turn

-- of the first n tests, one that fails
pub all-stop : (all each : ℕ → Bool) → ((k : ℕ) → all (suc k) ≡ all k && each k) → (k n : ℕ) → k < n → each k ≡ false → all n ≡ false
all-stop all each next k zero h e = absurd (omega arith)
all-stop all each next k (suc n) h e = next n ∙ go (eqb k n) refl (λ lt. all-stop all each next k n lt e)
  where
    and-false : (t : Bool) → t && false ≡ false
    and-false true = refl
    and-false false = refl

    go : (t : Bool) → eqb k n ≡ t → (k < n → all n ≡ false) → all n && each n ≡ false
    go true s rec = let q : each n ≡ false = ap each (sym (eqb-true k n s)) ∙ e in rw q (and-false (all n))
    go false s rec = let d = eqb-false k n s in rw (rec (omega (arith, d, h)))

-- ---- lists

pub equal-refl : (xs : List ℤ) → equal_samples xs xs ≡ true
unfolding equal_samples
equal-refl [] = refl
equal-refl (x ∷ xs) = rw (equal-self x) (equal-refl xs)

pub equal-lists : (xs ys : List ℤ) → equal_samples xs ys ≡ true → xs ≡ ys
unfolding equal_samples
equal-lists [] [] e = refl
equal-lists [] (y ∷ ys) e = absurd (never e)
equal-lists (x ∷ xs) [] e = absurd (never e)
equal-lists (x ∷ xs) (y ∷ ys) e =
    let b = both_true (equal x y) _ e in
    ap₂ (λ (a : ℤ) (l : List ℤ). a ∷ l) (equal-true x y b.0) (equal-lists xs ys b.1)

-- lists that differ
pub differ : (xs ys : List ℤ) → (xs ≡ ys → ⊥) → equal_samples xs ys ≡ false
differ xs ys h = go (equal_samples xs ys) refl
  where
    go : (t : Bool) → equal_samples xs ys ≡ t → equal_samples xs ys ≡ false
    go true e = absurd (h (equal-lists xs ys e))
    go false e = e

-- ---- the first samples

pub upto-more : (xs ys : List ℤ) (i : ℕ) → equal_up_to xs ys i ≡ true → equal (get_or xs i (pos 0)) (get_or ys i (pos 0)) ≡ true → equal_up_to xs ys (i + 1) ≡ true
unfolding equal_up_to
upto-more xs ys i e f = rw (add-one i, e, f)

-- a sample that differs
pub upto-stops : (xs ys : List ℤ) (i n : ℕ) → i < n → equal (get_or xs i (pos 0)) (get_or ys i (pos 0)) ≡ false → equal_up_to xs ys n ≡ false
unfolding equal_up_to
upto-stops xs ys i n h e = all-stop (equal_up_to xs ys) (λ k. equal (get_or xs k (pos 0)) (get_or ys k (pos 0))) (λ k. refl) i n h e

pub upto-refl : (xs : List ℤ) (n : ℕ) → equal_up_to xs xs n ≡ true
unfolding equal_up_to
upto-refl xs zero = refl
upto-refl xs (suc n) = rw (upto-refl xs n, equal-self (get_or xs n (pos 0)))

-- equal first samples are equal first parts
pub upto_take : (xs ys : List ℤ) (n : ℕ) → n ≤ length xs → n ≤ length ys → equal_up_to xs ys n ≡ true → take n xs ≡ take n ys
unfolding equal_up_to
upto_take xs ys zero p q e = refl
upto_take xs ys (suc n) p q e =
    let b = both_true (equal_up_to xs ys n) _ e in
    take-suc xs n (pos 0) (omega arith)
    ∙ ap₂ (λ (l : List ℤ) (x : ℤ). l ++ (x ∷ [])) (upto_take xs ys n (omega arith) (omega arith) b.0) (equal-true (get_or xs n (pos 0)) (get_or ys n (pos 0)) b.1)
    ∙ sym (take-suc ys n (pos 0) (omega arith))

upto-same : (xs ys : List ℤ) (n : ℕ) → ((k : ℕ) → k < n → get_or xs k (pos 0) ≡ get_or ys k (pos 0)) → equal_up_to xs ys n ≡ true
unfolding equal_up_to
upto-same xs ys zero h = refl
upto-same xs ys (suc n) h = rw (upto-same xs ys n (λ k l. h k (omega arith)), h n (omega arith)) (equal-self (get_or ys n (pos 0)))

-- ---- the library's tests

pub library_equal : (x y : ℤ) → int_eq x y ≡ equal x y
library_equal x y = same_from_decides (int_eq x y) (equal x y) (Decides-int_eq x y) (equal-true x y, λ e. rw e (equal-self y))

-- of two parts, the first n
pub library_equal_parts : (xs ys : List ℤ) (n : ℕ) → n ≤ length xs → n ≤ length ys → pointwise int_eq (take n xs) (take n ys) ≡ equal_up_to xs ys n
library_equal_parts xs ys n p q =
    same_from_decides (pointwise int_eq (take n xs) (take n ys)) (equal_up_to xs ys n) (signed_items (take n xs) (take n ys)) (
      upto_take xs ys n p q,
      λ e. upto-same xs ys n (λ k l. sym (get_or-take n xs k (pos 0) l) ∙ ap (λ (zs : List ℤ). get_or zs k (pos 0)) e ∙ get_or-take n ys k (pos 0) l),
    )

-- of sixteen coefficients
pub library_equal_sixteen : (cs ds : List ℤ) → length cs ≡ 16 → length ds ≡ 16 → pointwise int_eq cs ds ≡ equal_coefficients cs ds
unfolding equal_coefficients
library_equal_sixteen cs ds p q =
    ap₂ (pointwise int_eq) (sym (take_all 16 cs (omega arith))) (sym (take_all 16 ds (omega arith))) ∙ library_equal_parts cs ds 16 (omega arith) (omega arith)
