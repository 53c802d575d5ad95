-- Fields read back from where they were written, as an image's fields are read.
use mathlib.Core.Bool.{Bool, ◌&&◌}
use mathlib.Core.List.{List, [], ◌∷◌, ◌++◌}
use mathlib.Core.Path.{◌≡◌, refl, sym, ap, ap₂, ◌∙◌}
use Prim.Native.Nat.{ℕ, zero, suc, ◌+◌, ◌*◌, ◌≤◌, ◌<◌}
use native.Mathlib.Omega.{arith}
use lib.Dec.{eqb}
use lib.IntN.{ℤ, pos}
use lib.ListN.{length, get_or, take}
use lib.Seq.{take-suc, take_all}
use mir.Syntax.{w16}
use mir.Val.{of_z, to_z, SFits}
use mir.ValLaws.{to_z-of_z}
use Rattle.layout.specs.Fields.{at16}
use Rattle.clip.proofs.FieldsAgain.{shift}
use Rattle.image.specs.Reading.{signed_at, coefficients_up_to, coefficients_in}
use Rattle.image.specs.Opening.{holds}

pub shift-holds : (p l vs : List ℕ) (n i : ℕ) → n ≡ length p + i → holds (p ++ l) n vs ≡ holds l i vs
shift-holds p l [] n i e = refl
shift-holds p l (v ∷ vs) n i e = ap₂ (λ (a : ℕ) (t : Bool). eqb a v && t) (shift p l n i e) (shift-holds p l vs (suc n) (suc i) (omega arith))

-- a sample is the one that was written
pub sample-back : (l : List ℕ) (i : ℕ) (x : ℤ) → at16 l i ≡ of_z w16 x → SFits w16 x → signed_at l i ≡ x
unfolding signed_at
sample-back l i x e f = ap (to_z w16) e ∙ to_z-of_z w16 x f

module _ (l : List ℕ) (cs : List ℤ) (sixteen : length cs ≡ 16) (here : (i : ℕ) → i < 16 → at16 l (16 + 2 * i) ≡ of_z w16 (get_or cs i (pos 0)))
    (fit : (i : ℕ) → SFits w16 (get_or cs i (pos 0))) where
  upto-back : (k : ℕ) → k ≤ 16 → coefficients_up_to l k ≡ take k cs
  unfolding coefficients_up_to
  upto-back zero h = refl
  upto-back (suc k) h =
      let x = get_or cs k (pos 0) in
      ap₂ (λ (r : List ℤ) (z : ℤ). r ++ (z ∷ [])) (upto-back k (omega arith)) (sample-back l (16 + 2 * k) x (here k (omega arith)) (fit k))
      ∙ sym (take-suc cs k (pos 0) (omega (arith, sixteen)))

  -- sixteen that were written are read back
  pub coefficients-back : coefficients_in l ≡ cs
  unfolding coefficients_in
  coefficients-back = upto-back 16 (omega arith) ∙ take_all 16 cs (omega (arith, sixteen))
