-- Playing by frames: what the private functions do. Definitions only.
use mathlib.Core.List.{List, [], ◌∷◌, foldl}
use Rattle.std.specs.Prelude.{ℕ, zero, suc, ◌+◌, ◌*◌, ℤ}
use Rattle.block.specs.Frame.{nibble_at, Playing, take_nibble}
use Rattle.block.specs.Play.{take_header}

-- n nibbles from address a on
unfoldable pub nibbles_from : List ℕ → ℕ → ℕ → List ℕ
nibbles_from bytes a zero = []
nibbles_from bytes a (suc n) = nibble_at bytes a ∷ nibbles_from bytes (suc a) n

-- count samples of the frame at a byte, under the context's header
unfoldable pub play_frame : List ℕ → ℕ → ℕ → List ℤ → Playing → Playing
play_frame bytes at count cs p = foldl (take_nibble cs) p (nibbles_from bytes (2 * at + 2) count)

-- the first k frames, all whole, each followed by the next one's header
unfoldable pub play_frames : List ℕ → List ℤ → ℕ → Playing → Playing
play_frames bytes cs zero p = p
play_frames bytes cs (suc k) p = take_header bytes (16 * suc k) (play_frame bytes (8 * k) 14 cs (play_frames bytes cs k p))
