-- A frame with the two samples before it and two zeros after it, in one list. Definitions only.
use Rattle.std.specs.Prelude.{◌≡◌, List, ℕ, ◌≤◌, ℤ, pos, get_or, take, drop, length}
use Rattle.whole.specs.declared.History.{History}
use Rattle.frame.specs.Fits.{Fit}

-- the two samples before the frame, older first
abbrev pub history_of : List ℤ → History
history_of fs = record { newest = get_or fs 1 (pos 0); older = get_or fs 0 (pos 0) }

-- the frame's fourteen samples
unfoldable pub samples_of : List ℤ → List ℤ
samples_of fs = take 14 (drop 2 fs)

-- eighteen numbers of 16 bits, the last two zero
pub record Padded (fs : List ℤ) : Type 0 where
  pub length-is : length fs ≡ 18
  pub fit : Fit 18 fs
  pub after : (i : ℕ) → 16 ≤ i → get_or fs i (pos 0) ≡ pos 0

-- fs has xs after h
pub record Placed (h : History) (xs fs : List ℤ) : Type 0 where
  pub padded : Padded fs
  pub before : history_of fs ≡ h
  pub within : samples_of fs ≡ xs
