-- What the numbers of a quick pass show. Definitions only.
use Rattle.std.specs.Prelude.{Bool, false, ◌≡◌, List, ℕ, zero, suc, ◌+◌, ◌-◌, ◌*◌, ◌/◌, ◌%◌, ◌^◌, ◌<◌, max, ltb, ℤ, pos, nat_abs, ◌+ℤ◌, get_or, length, take}
use Rattle.std.specs.Int.Signed.{mag}
use Rattle.frame.specs.declared.pass.Pass.{Pass}
use Rattle.frame.specs.declared.seen.Seen.{Seen}
use Rattle.frame.specs.Quantise.{scale, clamp4}
use Rattle.frame.specs.Pass.{squared_difference}
use Rattle.frame.specs.inner.Quick.{steps_of}

-- how far at most the rounding to 24 bits moves a D of magnitude below 2^20 × 2^p
unfoldable pub margin : ℕ → ℕ
margin p = 2 ^ p / 32

-- w is within the margin of a multiple of S'; 2^31 is such a multiple, and no w is below −2^31
unfoldable pub is_near : ℤ → ℕ → Bool
is_near w p = ltb (nat_abs (w +ℤ pos (margin p) +ℤ pos 2147483648) % scale p) (2 * margin p)

-- the largest magnitude of the first k numbers before the clamp to a nibble, −8 counting as 7
unfoldable pub most_of : List ℤ → ℕ → ℕ → ℕ
most_of ws p zero = 0
most_of ws p (suc k) = max (most_of ws p k) (mag (steps_of (get_or ws k (pos 0)) p))

-- the sum of squared differences of the first k places; fs has two samples before them
unfoldable pub distance_of : List ℤ → List ℤ → ℕ → ℕ
distance_of fs ss zero = 0
distance_of fs ss (suc k) = distance_of fs ss k + squared_difference (get_or fs (k + 2) (pos 0)) (get_or ss k (pos 0))

-- what is shown, where it is sure
pub record Shows (fs ws ss : List ℤ) (p : ℕ) (r : Seen) : Type 0 where
  pub length-is : length r.nibbles ≡ 16
  pub nibble-at : (i : ℕ) → i < 14 → get_or r.nibbles i (pos 0) ≡ clamp4 (steps_of (get_or ws i (pos 0)) p)
  pub clear : (i : ℕ) → i < 14 → is_near (get_or ws i (pos 0)) p ≡ false
  pub most-lt : most_of ws p 14 < 256
  pub overflow-is : r.overflow ≡ most_of ws p 14 - 7
  pub distance_is : r.distance ≡ distance_of fs ss 14

-- the pass that is shown, its samples in ss
abbrev pub pass_of : Seen → List ℤ → Pass
pass_of r ss = record { nibbles = take 14 r.nibbles; samples = take 14 ss; overflow = r.overflow; distance = r.distance }
