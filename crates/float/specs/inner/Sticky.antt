-- What a number whose lowest bit is sticky stands for, and two such numbers at one scale. Definitions only.
use Rattle.std.specs.Prelude.{◌≡◌, ℕ, zero, suc, ◌+◌, ◌-◌, ◌*◌, ◌%◌, ◌^◌, ◌<◌, ◌≤◌, ◌⊎◌}

-- q, made odd where something was cut off
abbrev pub sticky : ℕ → ℕ → ℕ
sticky q zero = q
sticky q (suc r) = q + 1 - q % 2

-- w is m / t with a sticky bit: both lie on the same side of every even number, and where w is an even number m / t is that number
pub record Sticky (m w t : ℕ) : Type 0 where
  pub under : (v : ℕ) → w < 2 * v → m < 2 * v * t
  pub at : (v : ℕ) → w ≡ 2 * v → m ≡ 2 * v * t
  pub over : (v : ℕ) → 2 * v < w → 2 * v * t < m

-- w is m / t exactly, or it has more than 64 digits and is m / t with a sticky bit
abbrev pub ExactOrSticky : ℕ → ℕ → ℕ → Type 0
ExactOrSticky m w t = (m ≡ w * t) ⊎ ((2 ^ 64 ≤ w) × Sticky m w t)

-- p is a / t exactly, and even; c is b / t with a sticky bit, and far below p
pub record FarAbove (a p b c t : ℕ) : Type 0 where
  pub half : ℕ
  pub even : p ≡ 2 * half
  pub exact : a ≡ p * t
  pub below : Sticky b c t
  pub far : c + 2 ^ 64 ≤ p

-- p and c are a / t and b / t: both exactly, or one is far above the other
abbrev pub Aligned : ℕ → ℕ → ℕ → ℕ → ℕ → Type 0
Aligned a p b c t = ((a ≡ p * t) × (b ≡ c * t)) ⊎ (FarAbove a p b c t ⊎ FarAbove b c a p t)
