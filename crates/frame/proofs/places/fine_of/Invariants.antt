-- The first i products are stored.
use Rattle.std.proofs.Common.{◌≡◌, ℕ, ◌+◌, ◌<◌, length, get_or}
use lib.IntN.{pos, ◌*ℤ◌}
use Rattle.frame.proofs.places.fine_of.Given as goal

abbrev pub invariant-loop-i : goal.invariant-loop-i
invariant-loop-i l = (length l.out ≡ 16) × ((j : ℕ) → j < l.i → get_or l.out j (pos 0) ≡ pos 8796093020160 *ℤ get_or l.frame (j + 2) (pos 0))
