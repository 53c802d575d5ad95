-- Numbers of up to 128 digits. Definitions only.
use Rattle.std.specs.Prelude.{◌≡◌, ℕ, ◌+◌, ◌%◌, ◌^◌, ◌<◌, ◌≤◌, Bool, true, false}

-- a number of 125 or 126 digits, of which the lowest 20 are zeros
pub record LeftJustified (n : ℕ) : Type 0 where
  pub least : 2 ^ 124 ≤ n
  pub most : n < 2 ^ 126
  pub zeros : n % 2 ^ 20 ≡ 0

-- w is a + b; or, apart, how far a is above b or, under, b above a
abbrev pub Merged : Bool → ℕ → ℕ → Bool → ℕ → Type 0
Merged false a b u w = (u ≡ false) × (w ≡ a + b)
Merged true a b false w = (b < a) × (w + b ≡ a)
Merged true a b true w = w + a ≡ b
