-- What the theorems of an encoded frame ask of its samples and history: numbers of 16 bits. Definitions only.
use Rattle.std.specs.Prelude.{List, ℕ, ◌<◌, ℤ, pos, get_or}
use Rattle.std.specs.Int.{w16}
use Rattle.std.proofs.Common.{SFits}
use Rattle.whole.specs.declared.History.{History}

-- the first n numbers of a list are of 16 bits
pub record Fit (n : ℕ) (xs : List ℤ) : Type 0 where
  pub at : (i : ℕ) → i < n → SFits w16 (get_or xs i (pos 0))

-- a history of 16-bit samples
pub record FitHistory (h : History) : Type 0 where
  pub newest-fits : SFits w16 h.newest
  pub older-fits : SFits w16 h.older
