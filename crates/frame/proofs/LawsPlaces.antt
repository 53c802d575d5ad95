-- Laws of a frame with the two samples before it and two zeros after it: stores that fill it, and what is read from it.
use mathlib.Core.Path.{◌≡◌, refl, sym, ap, ◌∙◌, subst}
use mathlib.Core.List.{List, [], ◌∷◌, ◌++◌, append-nil}
use Prim.Native.Nat.{ℕ, zero, suc, ◌+◌, ◌-◌, ◌≤◌, ◌<◌}
use native.Mathlib.Nat.{add_comm, lt_of_not-le}
use native.Mathlib.Decide.{dec_le}
use native.Mathlib.Numerals.{add-one}
use native.Mathlib.Omega.{arith}
use lib.IntN.{ℤ, pos}
use lib.ListN.{length, get_or, take, drop, set, replicate, length-append, get_or-append}
use lib.Seq.{set_at, append_snoc, take-suc, length-take-le, take_at, get_or-take, get_or-drop, get_or-append-add}
use mir.Syntax.{w16}
use mir.Val.{SFits}
use Rattle.frame.specs.Fits.{Fit, FitHistory}
use Rattle.frame.specs.inner.Places.{Padded, Placed, history_of, samples_of}

-- a turn of a loop that stores the elements of xs over t zeros
pub filled_more : (t : ℕ) (xs : List ℤ) (i : ℕ) → i < length xs → i < t
    → set (take i xs ++ replicate (t - i) (pos 0)) i (get_or xs i (pos 0)) ≡ take (i + 1) xs ++ replicate (t - (i + 1)) (pos 0)
filled_more t xs i h l =
    let z = replicate (t - (i + 1)) (pos 0) in
    let e : t - i ≡ suc (t - (i + 1)) = omega arith in
    ap (λ (k : ℕ). set (take i xs ++ replicate k (pos 0)) i (get_or xs i (pos 0))) e
    ∙ set_at (take i xs) (pos 0) z (get_or xs i (pos 0)) i (length-take-le i xs (omega arith))
    ∙ sym (append_snoc (take i xs) (get_or xs i (pos 0)) z)
    ∙ ap (λ (l : List ℤ). l ++ z) (sym (take-suc xs i (pos 0) h))
    ∙ ap (λ (k : ℕ). take k xs ++ z) (sym (add-one i))

-- the loop's end: the first t elements
pub filled-done : (t : ℕ) (xs : List ℤ) (i : ℕ) → t ≤ i → i ≤ t → take i xs ++ replicate (t - i) (pos 0) ≡ take t xs
filled-done t xs i h k =
    let e : i ≡ t = omega arith in
    let z : t - i ≡ 0 = omega arith in
    ap (λ (n : ℕ). take i xs ++ replicate n (pos 0)) z ∙ append-nil (take i xs) ∙ ap (λ (n : ℕ). take n xs) e

-- ---- the samples

pub sample-at : (fs : List ℤ) (i : ℕ) → i < 14 → get_or (samples_of fs) i (pos 0) ≡ get_or fs (i + 2) (pos 0)
unfolding samples_of
sample-at fs i h = get_or-take 14 (drop 2 fs) i (pos 0) h ∙ get_or-drop 2 fs i (pos 0) ∙ ap (λ (k : ℕ). get_or fs k (pos 0)) (add_comm 2 i)

-- ---- two samples, fourteen and two zeros

module _ (a b : ℤ) (xs : List ℤ) (e : length xs ≡ 14) (fa : SFits w16 a) (fb : SFits w16 b) (fx : Fit 14 xs) where
  whole : List ℤ
  whole = a ∷ b ∷ (xs ++ (pos 0 ∷ pos 0 ∷ []))

  zeros : (r : ℕ) → get_or (pos 0 ∷ pos 0 ∷ []) r (pos 0) ≡ pos 0
  zeros zero = refl
  zeros (suc zero) = refl
  zeros (suc (suc r)) = refl

  behind : (i : ℕ) → 14 ≤ i → get_or (xs ++ (pos 0 ∷ pos 0 ∷ [])) i (pos 0) ≡ pos 0
  behind i h =
      let f : i ≡ length xs + (i - 14) = omega arith in
      ap (λ (k : ℕ). get_or (xs ++ (pos 0 ∷ pos 0 ∷ [])) k (pos 0)) f ∙ get_or-append-add xs (pos 0 ∷ pos 0 ∷ []) (i - 14) (pos 0) ∙ zeros (i - 14)

  after : (i : ℕ) → 16 ≤ i → get_or whole i (pos 0) ≡ pos 0
  unfolding whole
  after i h =
      let f : i ≡ suc (suc (i - 2)) = omega arith in
      ap (λ (k : ℕ). get_or whole k (pos 0)) f ∙ behind (i - 2) (omega arith)

  inner : (i : ℕ) → SFits w16 (get_or (xs ++ (pos 0 ∷ pos 0 ∷ [])) i (pos 0))
  inner i = go (dec_le 14 i)
    where
      go : Dec (14 ≤ i) → SFits w16 (get_or (xs ++ (pos 0 ∷ pos 0 ∷ [])) i (pos 0))
      go (yes h) = subst (λ (z : ℤ). SFits w16 z) (sym (behind i h)) (record { sfits = omega arith })
      go (no h) = let l = lt_of_not-le h in subst (λ (z : ℤ). SFits w16 z) (sym (get_or-append xs (pos 0 ∷ pos 0 ∷ []) (pos 0) i (omega arith))) (fx.at i l)

  fits : (i : ℕ) → SFits w16 (get_or whole i (pos 0))
  unfolding whole
  fits zero = fa
  fits (suc zero) = fb
  fits (suc (suc i)) = inner i

  -- they are placed
  pub placed-whole : Placed (record { newest = b; older = a }) xs (a ∷ b ∷ (xs ++ (pos 0 ∷ pos 0 ∷ [])))
  unfolding whole samples_of
  placed-whole = record {
    padded = record { length-is = omega (arith, length-append xs (pos 0 ∷ pos 0 ∷ [])); fit = record { at = λ i h. fits i }; after = after };
    before = refl;
    within = take_at xs (pos 0 ∷ pos 0 ∷ []) 14 e;
  }

-- ---- the numbers have 16 bits

pub samples-fit : (fs : List ℤ) → Padded fs → Fit 14 (samples_of fs)
samples-fit fs d = record { at = λ i h. subst (λ (z : ℤ). SFits w16 z) (sym (sample-at fs i h)) (d.fit.at (i + 2) (omega arith)) }

pub history-fits : (fs : List ℤ) → Padded fs → FitHistory (history_of fs)
history-fits fs d = record { newest-fits = d.fit.at 1 (omega arith); older-fits = d.fit.at 0 (omega arith) }
