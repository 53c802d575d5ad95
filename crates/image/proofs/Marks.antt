-- The mark, as the library compares it.
use mathlib.Core.Path.{◌≡◌, refl, sym, ap₂}
use mathlib.Core.Bool.{◌&&◌}
use mathlib.Core.List.{List, [], ◌∷◌}
use Prim.Native.Nat.{ℕ, suc, ◌+◌, ◌≤◌}
use native.Mathlib.Omega.{arith}
use borrow.Author.Tests.{eqb-true, eq-eqb}
use lib.Dec.{eqb}
use lib.ListN.{length, get_or, take, drop}
use lib.Pointwise.{pointwise}
use lib.Seq.{drop-cons}
use Rattle.std.proofs.lemmas.Bool.Decides.{same_from_decides, Decides-eqb}
use Rattle.image.specs.Opening.{holds}

turned : (x y : ℕ) → eqb x y ≡ eqb y x
turned x y = same_from_decides (eqb x y) (eqb y x) (Decides-eqb x y) ((λ e. sym (eqb-true y x e)), (λ e. eq-eqb y x (sym e)))

-- a slice that has these bytes at a place
pub begins : (l m : List ℕ) (i : ℕ) → i + length m ≤ length l → pointwise eqb m (take (length m) (drop i l)) ≡ holds l i m
begins l [] i h = refl
begins l (v ∷ vs) i h =
    rw (drop-cons l i 0 (omega arith))
    (ap₂ ◌&&◌ (turned v (get_or l i 0)) (begins l vs (suc i) (omega arith)))
