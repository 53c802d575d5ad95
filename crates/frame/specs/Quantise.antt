-- From D to the number that is clamped to a nibble, over whole numbers. Definitions only.
use Rattle.std.specs.Prelude.{cond, ℕ, ◌+◌, ◌-◌, ◌*◌, ◌/◌, ◌%◌, ◌^◌, ltb, ℤ, pos, negsuc, neg_ℤ, nat_abs}
use Rattle.std.specs.Float.Ieee.{size}
use Rattle.std.specs.Float.Ieee.Nearest.{closest}
use Rattle.whole.specs.Whole.{clamp}

-- of m's `size m` binary digits the lowest `size m - 24` are dropped: the unit of the last that is kept
unfoldable pub unit24 : ℕ → ℕ
unit24 m = 2 ^ (size m - 24)

-- "rounded to 24 significant bits, ties to even"
unfoldable pub round24 : ℕ → ℕ
round24 m = closest m (unit24 m) * unit24 m

-- "S' = 2048 × 2^p"
abbrev pub scale : ℕ → ℕ
scale p = 2048 * 2 ^ p

-- "rounded to nearest, halves towards zero": m / s
unfoldable pub nearest_down : ℕ → ℕ → ℕ
nearest_down m s = cond (ltb s (m % s * 2)) (m / s + 1) (m / s)

-- n with the sign of z
abbrev pub with_sign : ℤ → ℕ → ℤ
with_sign (pos k) n = pos n
with_sign (negsuc k) n = neg_ℤ (pos n)

-- "D is rounded to 24 significant bits, .. divided by S' and rounded to nearest, halves towards zero"
unfoldable pub quantise : ℤ → ℕ → ℤ
quantise d p = with_sign d (nearest_down (round24 (nat_abs d)) (scale p))

-- "Clamp to −8..7"
abbrev pub clamp4 : ℤ → ℤ
clamp4 z = clamp 7 z
