-- Laws of the two address functions.
use mathlib.Core.Path.{◌≡◌}
use Prim.Native.Nat.{ℕ, ◌+◌, ◌-◌, ◌*◌, ◌≤◌, ◌<◌}
use native.Mathlib.Omega.{arith}
use Rattle.block.specs.Address.{address_to_sample, sample_to_address}

-- there and back
pub back : (s : ℕ) → address_to_sample (sample_to_address s) ≡ s
unfolding address_to_sample sample_to_address
back s = omega arith

-- exported: a later address has no fewer samples before it
pub address-mono : (a b : ℕ) → a ≤ b → address_to_sample a ≤ address_to_sample b
unfolding address_to_sample
address-mono a b h = omega arith

-- exported: a later sample has a later address
pub sample-mono : (s t : ℕ) → s < t → sample_to_address s < sample_to_address t
unfolding sample_to_address
sample-mono s t h = omega arith

-- k frames more
pub frames-more : (k n : ℕ) → address_to_sample (16 * k + n) ≡ 14 * k + address_to_sample n
unfolding address_to_sample
frames-more k n = omega arith

-- one frame or less
pub one-frame : (n : ℕ) → n ≤ 16 → address_to_sample n ≡ n - 2
unfolding address_to_sample
one-frame n h = omega arith

-- k whole frames and one more are within a length that goes beyond them
pub room_whole : (k left : ℕ) → 16 ≤ left → 14 * k + 14 ≤ address_to_sample (16 * k + left)
unfolding address_to_sample
room_whole k left h = omega arith

-- k whole frames and a part of the next
pub room-last : (k left : ℕ) → left ≤ 16 → address_to_sample (16 * k + left) ≡ 14 * k + (left - 2)
unfolding address_to_sample
room-last k left h = omega arith
