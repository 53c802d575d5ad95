-- IEEE 754-2019's abs, maximumNumber, minimumNumber and roundToIntegralTiesToAway, over the logic's floats. Definitions only.
use Rattle.std.specs.Prelude.{◌+◌, ◌*◌, ◌/◌, ◌^◌, Bool, false, cond, not, ◌&&◌, ◌||◌, nat_lt, Float}
use Rattle.std.specs.Float.{nan, inf, fin, binary64}
use Rattle.std.specs.Float.Ieee.{up, down, round, lt, eq, ne}

-- the sign is cleared
unfoldable pub abs : Float → Float
abs nan = nan
abs (inf s) = inf false
abs (fin s m e) = fin false m e

-- the sign bit of a number
unfoldable pub negative : Float → Bool
negative nan = false
negative (inf s) = s
negative (fin s m e) = s

-- x is less than y, and -0 is less than +0
unfoldable pub is_less : Float → Float → Bool
is_less x y = lt x y || (eq x y && (negative x && not (negative y)))

-- the larger of two numbers; of a NaN and a number, the number
unfoldable pub maximum_number : Float → Float → Float
maximum_number x y = cond (ne x x) y (cond (is_less x y) y x)

-- the smaller of two numbers; of a NaN and a number, the number
unfoldable pub minimum_number : Float → Float → Float
minimum_number x y = cond (ne x x) y (cond (is_less y x) y x)

-- The whole number nearest to x, of two the one away from zero, with the sign of x: the whole part of |x| + 1/2.
-- From 2 ^ 52 on every value is whole.
unfoldable pub round_to_integral_ties_to_away : Float → Float
round_to_integral_ties_to_away nan = nan
round_to_integral_ties_to_away (inf s) = inf s
round_to_integral_ties_to_away (fin s m e) = cond (nat_lt (m * up e) (2 ^ 52 * down e)) (round binary64 s ((2 * (m * up e) + down e) / (2 * down e)) 1) (fin s m e)
