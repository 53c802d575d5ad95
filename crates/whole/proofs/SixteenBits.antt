-- The bits of a signed number of 16 bits, as the code makes them.
use Prim.Native.Nat.{ℕ, suc}
use mathlib.Core.Path.{◌≡◌, sym, ap, ◌∙◌}
use mathlib.Core.Bool.{true, false}
use native.Mathlib.Omega.{arith}
use borrow.Author.Tests.{ltb-true, le-ltb}
use lib.IntN.{ℤ, pos, negsuc, ◌+ℤ◌}
use lib.Signed.{lt_z}
use mir.Syntax.{w16, w32}
use mir.Val.{of_z, to_z, SFits, Fits}
use mir.ValLaws.{to_z-of_z, of_z_fits}

pub up : (x : ℤ) → SFits w16 x → SFits w32 x
up x h = record { sfits = omega (arith, h.sfits) }

pub neg : (x : ℤ) → SFits w16 x → lt_z x (pos 0) ≡ true → x +ℤ pos 65536 ≡ pos (of_z w16 x)
neg (pos n) h e = absurd (omega (arith, ltb-true n 0 e))
neg (negsuc n) h e = rw (le-ltb 65536 (suc n) (omega (arith, h.sfits)))

pub fits32 : (n : ℕ) → Fits w16 n → SFits w32 (pos n)
fits32 n h = record { sfits = omega (arith, h.fits) }

pub sum : (x : ℤ) → SFits w16 x → lt_z (to_z w16 (of_z w16 x)) (pos 0) ≡ true
    → to_z w32 (of_z w32 (to_z w16 (of_z w16 x))) +ℤ pos 65536 ≡ pos (of_z w16 x)
sum x h e =
    let e' : lt_z x (pos 0) ≡ true = sym (ap (λ (y : ℤ). lt_z y (pos 0)) (to_z-of_z w16 x h)) ∙ e in
    ap (λ (y : ℤ). to_z w32 (of_z w32 y) +ℤ pos 65536) (to_z-of_z w16 x h)
    ∙ ap (λ (y : ℤ). y +ℤ pos 65536) (to_z-of_z w32 x (up x h))
    ∙ neg x h e'

pub inner : (x : ℤ) → SFits w16 x → lt_z (to_z w16 (of_z w16 x)) (pos 0) ≡ true
    → to_z w32 (of_z w32 (to_z w32 (of_z w32 (to_z w16 (of_z w16 x))) +ℤ pos 65536)) ≡ pos (of_z w16 x)
inner x h e =
    ap (λ (y : ℤ). to_z w32 (of_z w32 y)) (sum x h e) ∙ to_z-of_z w32 (pos (of_z w16 x)) (fits32 _ (of_z_fits w16 x h))

pub nonneg : (x : ℤ) → SFits w16 x → lt_z (to_z w16 (of_z w16 x)) (pos 0) ≡ false → to_z w16 (of_z w16 x) ≡ pos (of_z w16 x)
nonneg (pos n) h e = to_z-of_z w16 (pos n) h
nonneg (negsuc n) h e =
    let b : lt_z (negsuc n) (pos 0) ≡ false = sym (ap (λ (y : ℤ). lt_z y (pos 0)) (to_z-of_z w16 (negsuc n) h)) ∙ e in
    let z : true ≡ false = b in
    let q : ◌≡◌ {A = ℕ} 0 1 = cc in absurd (omega arith)
