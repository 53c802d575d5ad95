-- Nibbles under one pair and one scale: what the private functions do. Definitions only.
use mathlib.Core.List.{List, [], ◌∷◌, ◌++◌, foldl}
use Rattle.std.specs.Prelude.{ℕ, ℤ}
use Rattle.whole.specs.declared.History.{History}
use Rattle.block.specs.Context.{history_with}
use Rattle.block.specs.Sample.{decode_sample}
use Rattle.block.specs.inner.Frames.{nibbles_from}

-- what is carried: the history, and the samples so far
pub record Decoded : Type 0 where
  pub history : History
  pub samples : List ℤ

-- a history and samples, together
abbrev pub decoded : History → List ℤ → Decoded
decoded h xs = record { history = h; samples = xs }

-- the history after one nibble more: its newest is the nibble's sample
abbrev pub advanced : ℤ → ℤ → ℕ → History → ℕ → History
advanced c0 c1 scale h n = history_with (decode_sample c0 c1 h.newest h.older n scale) h.newest

-- one nibble more
unfoldable pub decode_nibble : ℤ → ℤ → ℕ → Decoded → ℕ → Decoded
decode_nibble c0 c1 scale d n =
    let h = d.history in
    let x = decode_sample c0 c1 h.newest h.older n scale in
    decoded (history_with x h.newest) (d.samples ++ (x ∷ []))

-- some nibbles more
unfoldable pub decode_nibbles : ℤ → ℤ → ℕ → Decoded → List ℕ → Decoded
decode_nibbles c0 c1 scale d ns = foldl (decode_nibble c0 c1 scale) d ns

-- the samples of n nibbles from address a on, after a history
unfoldable pub play_nibbles : List ℕ → ℕ → ℕ → ℤ → ℤ → ℕ → History → Decoded
play_nibbles bytes a n c0 c1 scale h = decode_nibbles c0 c1 scale (decoded h []) (nibbles_from bytes a n)
