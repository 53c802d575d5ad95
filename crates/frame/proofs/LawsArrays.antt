-- Laws of arrays of signed numbers: a parameter's length, that each element fits, and the elements after a store.
use mathlib.Core.Path.{◌≡◌, ◌∙◌}
use mathlib.Core.List.{List, [], ◌∷◌}
use Prim.Native.Nat.{ℕ, zero, suc, ◌+◌, ◌<◌}
use native.Mathlib.Omega.{arith}
use lib.IntN.{ℤ, pos}
use lib.ListN.{length, get_or, set}
use lib.Seq.{get_or-set_same, get_or-set_other}
use mir.Syntax.{Width, w16}
use mir.Val.{Val, SFits}
use denote.Array.{Array, each}
use denote.Laws.{Is}
use denote.Shadow.{shadow}
use denote.Signed.{SInt}
use Rattle.frame.specs.Fits.{Fit}
use Rattle.frame.proofs.LawsOrder.{none_below, below_more}

each_fits : (w : Width) (xs : List ℤ) (us : List Val) → shadow (each ℤ (SInt w).own_val xs us) → (i : ℕ) → i < length xs → SFits w (get_or xs i (pos 0))
each_fits w [] us s i h = absurd (none_below i h)
each_fits w (x ∷ xs) [] s i h = absurd s
each_fits w (x ∷ xs) (u ∷ us) s zero h = record { sfits = s.0.1 }
each_fits w (x ∷ xs) (u ∷ us) s (suc i) h = each_fits w xs us s.1 i (omega arith)

pub array-length : (w : Width) (n : ℕ) (xs : List ℤ) (vs : List Val) → Is (Array (SInt w) n) xs vs → length xs ≡ n
array-length w n xs vs p = p.1.0.1

pub array-fits : (n : ℕ) (xs : List ℤ) (vs : List Val) → Is (Array (SInt w16) n) xs vs → Fit n xs
array-fits n xs vs p = record { at = λ i h. each_fits w16 xs p.0 p.1.1 i (omega (arith, array-length w16 n xs vs p)) }

-- elements that are f's below k are f's below k + 1 once f's k-th is stored
pub stored_more : (f : ℕ → ℤ) (xs : List ℤ) (k : ℕ) (x : ℤ) → k < length xs → x ≡ f k → ((j : ℕ) → j < k → get_or xs j (pos 0) ≡ f j)
    → (j : ℕ) → j < k + 1 → get_or (set xs k x) j (pos 0) ≡ f j
stored_more f xs k x l e r =
    below_more (λ (j : ℕ). get_or (set xs k x) j (pos 0) ≡ f j) k (λ j m. get_or-set_other xs k j x (pos 0) (λ (q : j ≡ k). omega arith) ∙ r j m) (get_or-set_same xs k x (pos 0) l ∙ e)
