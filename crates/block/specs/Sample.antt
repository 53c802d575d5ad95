-- One sample of a nibble. Definitions only.
use Rattle.std.specs.Prelude.{ℕ, ℤ, pos, ◌+ℤ◌, ◌*ℤ◌}
use Rattle.whole.specs.Whole.{clamp16, floored, signed_nibble}

-- the sample of a nibble: clamp(((c0 × s0 + c1 × s1 + 1024) >> 11) + nibble × scale)
unfoldable pub decode_sample : ℤ → ℤ → ℤ → ℤ → ℕ → ℕ → ℤ
decode_sample c0 c1 s0 s1 n scale = clamp16 (floored (c0 *ℤ s0 +ℤ c1 *ℤ s1 +ℤ pos 1024) 2048 +ℤ signed_nibble n *ℤ pos scale)
