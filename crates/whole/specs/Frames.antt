-- A recording cut into frames of fourteen samples. Definitions only.
use Rattle.std.specs.Prelude.{List, ◌++◌, ℕ, ◌+◌, ◌*◌, ◌/◌, ℤ, pos, take, drop, replicate}

-- the most samples of a recording
abbrev pub most : ℕ
most = 14680064

-- "F = ⌈N/14⌉ its frames"
unfoldable pub frame_count : ℕ → ℕ
frame_count n = (n + 13) / 14

-- frame i of X, the last one filled with zeros
unfoldable pub frame_at : List ℤ → ℕ → List ℤ
frame_at xs i = take 14 (drop (14 * i) xs ++ replicate 14 (pos 0))
