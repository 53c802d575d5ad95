-- Equal parts, one after the other: their length, and each element.
use mathlib.Core.Path.{◌≡◌, refl, sym, ap, ◌∙◌}
use mathlib.Core.Bool.{Bool, true, false}
use mathlib.Core.List.{List, [], ◌++◌}
use Prim.Native.Nat.{ℕ, zero, suc, ◌+◌, ◌*◌, ◌<◌}
use native.Mathlib.Nat.{mul-le-mul, le_refl, suc-mul, zero-mul}
use native.Mathlib.Omega.{arith}
use borrow.Author.Tests.{ltb-true, ltb-false}
use lib.Dec.{ltb}
use lib.ListN.{length, get_or, length-append, get_or-append}
use lib.Seq.{get_or-append-add}

-- the first k parts
unfoldable pub row : {A : Type 0} → (ℕ → List A) → ℕ → List A
row f zero = []
row f (suc k) = row f k ++ f k

module _ {A : Type 0} (d : A) (w : ℕ) (f : ℕ → List A) (each : (i : ℕ) → length (f i) ≡ w) where
  pub row-length : (k : ℕ) → length (row f k) ≡ k * w
  unfolding row
  row-length zero = sym (zero-mul w)
  row-length (suc k) = length-append (row f k) (f k) ∙ omega (arith, row-length k, each k, suc-mul k w)

  pub row_at : (k i r : ℕ) → i < k → r < w → get_or (row f k) (i * w + r) d ≡ get_or (f i) r d
  unfolding row
  row_at zero i r h l = absurd (omega arith)
  row_at (suc k) i r h l = go (ltb i k) refl (λ lt. row_at k i r lt l)
    where
      go : (t : Bool) → ltb i k ≡ t → (i < k → get_or (row f k) (i * w + r) d ≡ get_or (f i) r d) → get_or (row f k ++ f k) (i * w + r) d ≡ get_or (f i) r d
      go true e rec =
          let lt = ltb-true i k e in
          let m = mul-le-mul lt (le_refl w) in
          get_or-append (row f k) (f k) d (i * w + r) (omega (arith, row-length k, suc-mul i w, m)) ∙ rec lt
      go false e rec =
          let ge = ltb-false i k e in
          let same : k ≡ i = omega arith in
          let place : i * w + r ≡ length (row f k) + r = ap (λ (n : ℕ). n * w + r) (sym same) ∙ ap (λ (n : ℕ). n + r) (sym (row-length k)) in
          ap (λ (n : ℕ). get_or (row f k ++ f k) n d) place ∙ get_or-append-add (row f k) (f k) r d ∙ ap (λ (n : ℕ). get_or (f n) r d) same
