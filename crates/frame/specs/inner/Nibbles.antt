-- The numbers of four bits. Definitions only.
use Rattle.std.specs.Prelude.{ℕ, ◌<◌, ℤ, pos, negsuc}

-- −8 ≤ z ≤ 7
pub data InNibble : ℤ → Type 0 where
  up : {n : ℕ} → n < 8 → InNibble (pos n)
  down : {n : ℕ} → n < 8 → InNibble (negsuc n)
