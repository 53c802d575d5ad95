-- Parts of a list of bytes are the fields that they hold, written again.
use mathlib.Core.Bool.{true}
use mathlib.Core.List.{List, [], ◌∷◌, ◌++◌}
use mathlib.Core.Path.{◌≡◌, refl, sym, ap, ap₂, ◌∙◌}
use Prim.Native.Nat.{ℕ, zero, suc, ◌+◌, ◌*◌, ◌/◌, ◌%◌, ◌≤◌, ◌<◌}
use native.Mathlib.Numerals.{add-one}
use native.Mathlib.Omega.{arith}
use borrow.Author.Tests.{eqb-true}
use lib.Dec.{eqb}
use lib.IntN.{ℤ}
use lib.ListN.{length, get_or, take, drop}
use lib.Seq.{take-add, take-nil, take-take, drop-drop, drop-cons}
use mir.Syntax.{w16}
use mir.ValLaws.{of_z-to_z}
use Rattle.block.specs.Context.{history_with}
use Rattle.layout.specs.Fields.{be16, be32, at16, at32, sample16}
use Rattle.layout.proofs.LimitLaws.{both_true}
use Rattle.clip.specs.Image.{coefficient_bytes, context_bytes}
use Rattle.image.specs.Reading.{signed_at, coefficients_up_to, coefficients_in}
use Rattle.image.specs.Opening.{holds}
use Rattle.dsp.specs.Returns.{Bytes}
use Rattle.dsp.proofs.Fitting.{word_fits}

-- ---- parts in turn

-- two known parts, one after the other
pub parts_are : (l xs ys : List ℕ) (i a j b n : ℕ) → take a (drop i l) ≡ xs → take b (drop j l) ≡ ys → j ≡ i + a → n ≡ a + b → take n (drop i l) ≡ xs ++ ys
parts_are l xs ys i a j b n p q e f =
    ap (λ (k : ℕ). take k (drop i l)) f
    ∙ take-add a b (drop i l)
    ∙ ap₂ (λ (u v : List ℕ). u ++ v) p (ap (take b) (drop-drop a i l) ∙ ap (λ (k : ℕ). take b (drop k l)) (sym e) ∙ q)

-- a part of the first t bytes
pub part-within : (l : List ℕ) (t o m : ℕ) → o + m ≤ t → take m (drop o (take t l)) ≡ take m (drop o l)
part-within l t zero m h = take-take m t l (omega arith)
part-within [] t (suc o) m h = ap (λ (x : List ℕ). take m (drop (suc o) x)) (take-nil t)
part-within (x ∷ l) zero (suc o) m h = absurd (omega arith)
part-within (x ∷ l) (suc t) (suc o) m h = part-within l t o m (omega arith)

-- ---- numbers

-- two bytes one by one
two : (l : List ℕ) (i : ℕ) → i + 2 ≤ length l → take 2 (drop i l) ≡ get_or l i 0 ∷ get_or l (i + 1) 0 ∷ []
two l i h =
    ap (take 2) (drop-cons l i 0 (omega arith) ∙ ap (λ (r : List ℕ). get_or l i 0 ∷ r) (drop-cons l (suc i) 0 (omega arith)))
    ∙ ap (λ (k : ℕ). get_or l i 0 ∷ get_or l k 0 ∷ []) (sym (add-one i))

-- a number's bytes are those that it was made of
digits16 : (a b : ℕ) → b < 256 → a ∷ b ∷ [] ≡ be16 (a * 256 + b)
digits16 a b h =
    let x : a ≡ (a * 256 + b) / 256 = omega arith in
    let y : b ≡ (a * 256 + b) % 256 = omega arith in
    λ i. x i ∷ y i ∷ []

digits32 : (a b c d : ℕ) → b < 256 → c < 256 → d < 256 → a ∷ b ∷ c ∷ d ∷ [] ≡ be32 (a * 16777216 + b * 65536 + c * 256 + d)
digits32 a b c d h i j =
    let v = a * 16777216 + b * 65536 + c * 256 + d in
    let w : a ≡ v / 16777216 = omega arith in
    let x : b ≡ v / 65536 % 256 = omega arith in
    let y : c ≡ v / 256 % 256 = omega arith in
    let z : d ≡ v % 256 = omega arith in
    λ k. w k ∷ x k ∷ y k ∷ z k ∷ []

-- bytes that were compared one by one
pub holds-part : (l vs : List ℕ) (i : ℕ) → i + length vs ≤ length l → holds l i vs ≡ true → take (length vs) (drop i l) ≡ vs
holds-part l [] i h e = refl
holds-part l (v ∷ vs) i h e =
    let p = both_true (eqb (get_or l i 0) v) (holds l (suc i) vs) e in
    ap (take (suc (length vs))) (drop-cons l i 0 (omega arith))
    ∙ ap₂ (λ (x : ℕ) (xs : List ℕ). x ∷ xs) (eqb-true (get_or l i 0) v p.0) (holds-part l vs (suc i) (omega arith) p.1)

-- a coefficient more
coefficient-snoc : (xs : List ℤ) (x : ℤ) → coefficient_bytes (xs ++ (x ∷ [])) ≡ coefficient_bytes xs ++ sample16 x
unfolding coefficient_bytes
coefficient-snoc [] x = refl
coefficient-snoc (y ∷ xs) x = ap (λ (l : List ℕ). sample16 y ++ l) (coefficient-snoc xs x)

module _ (l : List ℕ) (b : Bytes l) where
  -- two bytes are their number
  pub be16-part : (i : ℕ) → i + 2 ≤ length l → take 2 (drop i l) ≡ be16 (at16 l i)
  be16-part i h = two l i h ∙ digits16 (get_or l i 0) (get_or l (i + 1) 0) (b (i + 1))

  -- four bytes are their number
  pub be32-part : (i : ℕ) → i + 4 ≤ length l → take 4 (drop i l) ≡ be32 (at32 l i)
  be32-part i h =
      let e : i + 2 + 1 ≡ i + 3 = omega arith in
      parts_are l (get_or l i 0 ∷ get_or l (i + 1) 0 ∷ []) (get_or l (i + 2) 0 ∷ get_or l (i + 3) 0 ∷ []) i 2 (i + 2) 2 4 (two l i (omega arith))
      (two l (i + 2) (omega arith) ∙ ap (λ (k : ℕ). get_or l (i + 2) 0 ∷ get_or l k 0 ∷ []) e) refl refl
      ∙ digits32 (get_or l i 0) (get_or l (i + 1) 0) (get_or l (i + 2) 0) (get_or l (i + 3) 0) (b (i + 1)) (b (i + 2)) (b (i + 3))

  -- two bytes are their sample
  sample-part : (i : ℕ) → i + 2 ≤ length l → take 2 (drop i l) ≡ sample16 (signed_at l i)
  unfolding signed_at
  sample-part i h = be16-part i h ∙ ap be16 (sym (of_z-to_z w16 (at16 l i) (word_fits l b i)))

  -- six bytes are a header and a history
  pub context-part : (i j k : ℕ) → j ≡ i + 2 → k ≡ i + 4 → i + 6 ≤ length l → take 6 (drop i l) ≡ context_bytes (at16 l i) (history_with (signed_at l j) (signed_at l k))
  context-part i j k d e h =
      let p = parts_are l (sample16 (signed_at l j)) (sample16 (signed_at l k)) j 2 k 2 4 (sample-part j (omega arith)) (sample-part k (omega arith)) (omega arith) refl in
      parts_are l (be16 (at16 l i)) _ i 2 j 4 6 (be16-part i (omega arith)) p d refl

  -- the first k coefficients of a head
  upto-part : (k : ℕ) → 16 + 2 * k ≤ length l → take (2 * k) (drop 16 l) ≡ coefficient_bytes (coefficients_up_to l k)
  unfolding coefficients_up_to coefficient_bytes
  upto-part zero h = refl
  upto-part (suc k) h =
      parts_are l (coefficient_bytes (coefficients_up_to l k)) (sample16 (signed_at l (16 + 2 * k))) 16 (2 * k) (16 + 2 * k) 2 (2 * suc k)
      (upto-part k (omega arith)) (sample-part (16 + 2 * k) (omega arith)) refl (omega arith)
      ∙ sym (coefficient-snoc (coefficients_up_to l k) (signed_at l (16 + 2 * k)))

  -- all sixteen
  pub coefficients-part : 48 ≤ length l → take 32 (drop 16 l) ≡ coefficient_bytes (coefficients_in l)
  unfolding coefficients_in
  coefficients-part h = upto-part 16 h
