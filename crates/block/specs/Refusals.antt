-- Refusals by their numbers, and what the tests ask. Definitions only.
use Rattle.std.specs.Prelude.{Bool, true, false, ◌&&◌, ◌||◌, List, ℕ, zero, suc, ◌+◌, ◌*◌, eqb, ltb, ℤ, pos, negsuc, get_or}
use Rattle.block.specs.declared.Refusal.{Refusal}
use Rattle.block.specs.declared.Refusal.TheVariants.{LengthOutOfRange, LowestPair, OutputTooShort, CoefficientsDiffer}

-- document 01's number of a refusal
abbrev pub code : Refusal → ℕ
code LengthOutOfRange = 12
code LowestPair = 13
code OutputTooShort = 14
code CoefficientsDiffer = 18

-- whether two numbers are equal
abbrev pub equal : ℤ → ℤ → Bool
equal (pos m) (pos n) = eqb m n
equal (pos m) (negsuc n) = false
equal (negsuc m) (pos n) = false
equal (negsuc m) (negsuc n) = eqb m n

-- 12: length 0, or above twice the bytes
unfoldable pub bad_length : ℕ → ℕ → Bool
bad_length len bytes = eqb len 0 || ltb (2 * bytes) len

-- one of the first k pairs with both −32,768
unfoldable pub lowest_among : List ℤ → ℕ → Bool
lowest_among cs zero = false
lowest_among cs (suc k) = lowest_among cs k || (equal (get_or cs (2 * k) (pos 0)) (negsuc 32767) && equal (get_or cs (2 * k + 1) (pos 0)) (negsuc 32767))

-- 13: one of the eight pairs with both −32,768
unfoldable pub lowest_pair : List ℤ → Bool
lowest_pair cs = lowest_among cs 8

-- the first k coefficients are equal
unfoldable pub equal_up_to : List ℤ → List ℤ → ℕ → Bool
equal_up_to cs ds zero = true
equal_up_to cs ds (suc k) = equal_up_to cs ds k && equal (get_or cs k (pos 0)) (get_or ds k (pos 0))

-- 18: the coefficients differ where these are not all equal
unfoldable pub equal_coefficients : List ℤ → List ℤ → Bool
equal_coefficients cs ds = equal_up_to cs ds 16
