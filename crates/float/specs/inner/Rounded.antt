-- Numbers and sums over a power of two, rounded once to an f64. They have names so that no goal writes the power out. Definitions only.
use Rattle.std.specs.Prelude.{ℕ, ◌+◌, ◌^◌, Bool, Float}
use Rattle.std.specs.Float.{binary64}
use Rattle.std.specs.Float.Ieee.{low, round, sum}

-- ±m / 2 ^ (1074 + g), rounded: in units of the smallest value it is m / 2 ^ g
unfoldable pub rounded : ℕ → Bool → ℕ → Float
unfolding round
rounded g s m = round binary64 s m (2 ^ (low binary64 + g))

-- ±a / 2 ^ (1074 + g) + ±b / 2 ^ (1074 + g), rounded once
unfoldable pub signed_sum : ℕ → Bool → ℕ → Bool → ℕ → Float
unfolding sum
signed_sum g s a t b = sum binary64 s a t b (2 ^ (low binary64 + g))
