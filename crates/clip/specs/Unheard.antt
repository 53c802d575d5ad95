-- Places of the unfinished frame past the samples fed. Definitions only.
use Rattle.std.specs.Prelude.{List, ◌≡◌, ℕ, ◌%◌, ℤ, length, take}
use Rattle.clip.specs.declared.Encoder.{Encoder}
use Rattle.clip.specs.Encoding.{moved}

-- the state with another unfinished frame
abbrev pub framed : Encoder → List ℤ → Encoder
framed e f = moved e e.fed e.history f e.passes e.closed e.context

-- two frames with the same samples fed
pub record Alike (n : ℕ) (a b : List ℤ) : Type 0 where
  pub first : length a ≡ 14
  pub second : length b ≡ 14
  pub same : take (n % 14) a ≡ take (n % 14) b
