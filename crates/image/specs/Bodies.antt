-- The body of a block. Definitions only.
use Rattle.std.specs.Prelude.{cond, List, [], ℕ, ◌+◌, ◌/◌, leb, take, drop}
use Rattle.whole.specs.Outcome.{Outcome, accepted, refused, if_accepted, Effect, effect}
use Rattle.image.specs.Reading.{blocks_in, offset_in, length_in}
use Rattle.image.specs.Opening.{and_then, open_answer}

-- codes 15; 20, 21, 22; 24; 17: "block number K or more"
unfoldable pub block_answer : List ℕ → ℕ → Outcome Unit
block_answer l k = and_then (open_answer l) (cond (leb (blocks_in l) k) (refused 17) (accepted tt))

-- "A block of an image is found by its entry": the bytes from the entry's offset on that hold the entry's length in nibbles
unfoldable pub body_in : List ℕ → ℕ → List ℕ
body_in l k = take ((length_in l k + 1) / 2) (drop (offset_in l k) l)

-- the body of a block; where it is refused, no bytes
unfoldable pub block_body : List ℕ → ℕ → List ℕ
block_body l k = if_accepted (block_answer l k) (body_in l k) []

-- "its body is handed back as that part of the caller's image": where in memory the part begins, of an image l that begins at p, and its bytes
unfoldable pub block_part : ℕ × ℕ → List ℕ → ℕ → Effect (ℕ × ℕ) (List ℕ)
block_part p l k = effect (p.0, p.1 + if_accepted (block_answer l k) (offset_in l k) 0) (block_body l k)
