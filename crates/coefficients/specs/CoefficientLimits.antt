-- What the theorems on the bounds of the coefficients say of each. Definitions only.
use Rattle.std.specs.Prelude.{◌≡◌, ℕ, ◌+◌, ◌*◌, ◌≤◌, ◌⊎◌, List, ℤ, pos, negsuc, slice_index_or, unsigned_abs}

-- within ±n, or -32768
abbrev pub Within : ℤ → ℕ → Type 0
Within c n = (unsigned_abs c ≤ n) ⊎ (c ≡ negsuc 32767)

-- of pair i: P of its first coefficient, Q of its second
pub record OfPair (P Q : ℤ → Type 0) (cs : List ℤ) (i : ℕ) : Type 0 where
  pub even : P (slice_index_or cs (2 * i) (pos 0))
  pub odd : Q (slice_index_or cs (2 * i + 1) (pos 0))
