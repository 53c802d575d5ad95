-- Clamping, division towards zero, division rounded down and signed nibbles, over ℤ. Definitions only.
use Rattle.std.specs.Prelude.{cond, ℕ, ltb, ℤ, pos, negsuc, ◌-ℤ◌}
use Rattle.std.specs.Int.Signed.{lt_z, quot_z, shr_z}

-- z, or the nearer end of −n − 1 .. n
unfoldable pub clamp : ℕ → ℤ → ℤ
clamp n z = cond (lt_z z (negsuc n)) (negsuc n) (cond (lt_z (pos n) z) (pos n) z)

-- z, or the nearer end of −32768..32767
abbrev pub clamp16 : ℤ → ℤ
clamp16 z = clamp 32767 z

-- z / d, rounded towards zero: the quotient of the magnitudes, with the sign of z
abbrev pub towards_zero : ℤ → ℕ → ℤ
towards_zero z d = quot_z z (pos d)

-- z / d, rounded down
abbrev pub floored : ℤ → ℕ → ℤ
floored z d = shr_z z d

-- "a nibble of 8 or more counts as itself less 16"
unfoldable pub signed_nibble : ℕ → ℤ
signed_nibble n = cond (ltb n 8) (pos n) (pos n -ℤ pos 16)
