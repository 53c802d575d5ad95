-- The limits of a clip's numbers. Definitions only.
use Rattle.std.specs.Prelude.{Bool, true, not, cond, ◌&&◌, ◌≡◌, ℕ, ◌%◌, ◌≤◌, eqb, leb, ltb}
use Rattle.whole.specs.Frames.{most}
use Rattle.layout.specs.declared.Shape.{Shape}
use Rattle.layout.specs.declared.Loop.{Loop}

-- N within the limits of 4, B within those of 6
abbrev pub total_ok : ℕ → Bool
total_ok n = leb 1 n && leb n most

abbrev pub block_ok : ℕ → Bool
block_ok b = leb 8 b && leb b 65536

-- "n > N, N or B outside limits or B not a multiple of 8, rate 0"
unfoldable pub numbers_ok : ℕ → ℕ → ℕ → ℕ → Bool
numbers_ok n total b rate = leb n total && (total_ok total && (block_ok b && (eqb (b % 8) 0 && not (eqb rate 0))))

-- a loop, where there is one, has its start below its end and its end not above N
unfoldable pub loop_ok : Loop → ℕ → Bool
loop_ok p n = cond p.present (ltb p.start p.end && leb p.end n) true

-- the limits of a clip's shape
pub record Limits (s : Shape) : Type 0 where
  pub some : 1 ≤ s.total
  pub few : s.total ≤ most
  pub wide : 8 ≤ s.block
  pub narrow : s.block ≤ 65536
  pub eights : s.block % 8 ≡ 0
  pub further : s.extra ≤ 1
