-- The size of a nibble's number.
use Prim.Native.Nat.{ℕ, ◌≤◌, ◌<◌}
use native.Mathlib.Omega.{arith}
use lib.Dec.{ltb}
use lib.IntN.{pos, nat_abs, ◌-ℤ◌}
use Rattle.whole.proofs.SignedLocals.{abs-cond, abs-sub}
use Rattle.whole.specs.Whole.{signed_nibble}

pub nibble-size : (n : ℕ) → n < 16 → nat_abs (signed_nibble n) ≤ 31
unfolding signed_nibble
nibble-size n h = abs-cond (ltb n 8) (pos n) (pos n -ℤ pos 16) (omega arith) (omega (arith, abs-sub (pos n) (pos 16)))
