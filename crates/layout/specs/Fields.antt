-- The fields of an image. Definitions only.
use Rattle.std.specs.Prelude.{List, [], ◌∷◌, ℕ, ◌+◌, ◌*◌, ◌/◌, ◌%◌, ℤ, get_or}
use Rattle.std.specs.Int.{w16}
use Rattle.std.proofs.Common.{of_z}

-- "stored fields are big-endian"
abbrev pub be16 : ℕ → List ℕ
be16 v = v / 256 ∷ v % 256 ∷ []

abbrev pub be32 : ℕ → List ℕ
be32 v = v / 16777216 ∷ v / 65536 % 256 ∷ v / 256 % 256 ∷ v % 256 ∷ []

-- the number that two and four bytes are
abbrev pub at16 : List ℕ → ℕ → ℕ
at16 l i = get_or l i 0 * 256 + get_or l (i + 1) 0

abbrev pub at32 : List ℕ → ℕ → ℕ
at32 l i = get_or l i 0 * 16777216 + get_or l (i + 1) 0 * 65536 + get_or l (i + 2) 0 * 256 + get_or l (i + 3) 0

-- a sample's two bytes
abbrev pub sample16 : ℤ → List ℕ
sample16 x = be16 (of_z w16 x)

-- "the mark 44 53 50 43", and the four zeros before closing
abbrev pub mark : List ℕ
mark = 0x44 ∷ 0x53 ∷ 0x50 ∷ 0x43 ∷ []

abbrev pub no_mark : List ℕ
no_mark = 0 ∷ 0 ∷ 0 ∷ 0 ∷ []
