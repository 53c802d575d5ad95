-- What holds of the order of numbers, and of tests.
use mathlib.Core.Path.{◌≡◌, refl, subst}
use mathlib.Core.Bool.{Bool, true, false, ◌||◌}
use Prim.Native.Nat.{ℕ, ◌+◌, ◌≤◌, ◌<◌}
use native.Mathlib.Nat.{lt_of_not-le}
use native.Mathlib.Decide.{dec_le}
use native.Mathlib.Omega.{arith}
use lib.Dec.{T}

pub none_below : (j : ℕ) → j < 0 → ⊥
none_below j h = omega arith

-- what holds below k and at k holds below k + 1
pub below_more : (P : ℕ → Type 0) (k : ℕ) → ((j : ℕ) → j < k → P j) → P k → (j : ℕ) → j < k + 1 → P j
below_more P k r p j h = go (dec_le k j)
  where
    go : Dec (k ≤ j) → P j
    go (yes l) = let e : k ≡ j = omega arith in subst P e p
    go (no l) = r j (lt_of_not-le l)

-- neither test holds
pub neither : (a b : Bool) → (a || b) ≡ false → (a ≡ false) × (b ≡ false)
neither true b e = absurd (subst T e tt)
neither false b e = (refl, e)
