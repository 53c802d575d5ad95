-- The coefficients that an image holds.
use mathlib.Core.List.{List, [], ◌∷◌, ◌++◌, append-nil}
use mathlib.Core.Path.{◌≡◌, refl, sym, ap, ◌∙◌}
use Prim.Native.Nat.{ℕ, zero, suc, ◌+◌, ◌*◌}
use native.Mathlib.Numerals.{add-one}
use native.Mathlib.Omega.{arith}
use lib.IntN.{ℤ, pos}
use lib.ListN.{length, set, replicate, drop, length-append}
use lib.Seq.{sets, sets-eq}
use Rattle.whole.proofs.Stores.{sets_then}
use Rattle.image.specs.Reading.{signed_at, coefficients_up_to, coefficients_in}

pub coefficients-length : (l : List ℕ) (k : ℕ) → length (coefficients_up_to l k) ≡ k
unfolding coefficients_up_to
coefficients-length l zero = refl
coefficients-length l (suc k) = length-append (coefficients_up_to l k) (signed_at l (16 + 2 * k) ∷ []) ∙ omega (arith, coefficients-length l k)

-- a coefficient more
pub coefficient-turn : (l : List ℕ) (zs cs : List ℤ) (i : ℕ) (x : ℤ) → cs ≡ sets zs 0 (coefficients_up_to l i) → x ≡ signed_at l (16 + 2 * i)
    → set cs i x ≡ sets zs 0 (coefficients_up_to l (i + 1))
unfolding coefficients_up_to
coefficient-turn l zs cs i x e f =
    rw (e, f, add-one i)
    (sets_then zs 0 i (coefficients_up_to l i) (signed_at l (16 + 2 * i) ∷ []) (sym (coefficients-length l i) ∙ omega arith))

pub coefficients-none : (l : List ℕ) (zs : List ℤ) → zs ≡ sets zs 0 (coefficients_up_to l 0)
unfolding coefficients_up_to
coefficients-none l zs = refl

-- all sixteen
pub coefficients-all : (l : List ℕ) (cs : List ℤ) (i : ℕ) → i ≡ 16 → cs ≡ sets (replicate 16 (pos 0)) 0 (coefficients_up_to l i) → cs ≡ coefficients_in l
unfolding coefficients_in
coefficients-all l cs i h e =
    let vs = coefficients_up_to l 16 in
    let n = coefficients-length l 16 in
    let z : List ℤ = replicate 16 (pos 0) in
    (rw h at e) ∙ sets-eq vs z 0 (omega (arith, n)) ∙ ap (λ (k : ℕ). vs ++ drop (0 + k) z) n ∙ append-nil vs
