-- A run of samples cut in two. Definitions only.
use Rattle.std.specs.Prelude.{cond, not, ◌&&◌, List, ◌++◌, ◌≡◌, ℕ, ◌+◌, ◌%◌, eqb, ltb, ℤ, length}
use Rattle.whole.specs.Outcome.{outcome_code}
use Rattle.image.specs.Part.{samples_of, blocks_of, per_block, play_from}

-- the block that two parts of m and n samples share: both have a sample, and the second begins inside a block of p
abbrev pub shared : ℕ → ℕ → ℕ → ℕ → ℕ
shared p second m n = cond (ltb 0 m && (ltb 0 n && not (eqb (second % p) 0))) 1 0

-- one call on an output u ++ v answers by the code of a call on u, and leaves what that and a call on v from the sample after leave; a block that both play a part of is counted once
pub record PartCut (l : List ℕ) (first : ℕ) (u v : List ℤ) : Type 0 where
  pub code : outcome_code (play_from l first (u ++ v)).outcome ≡ outcome_code (play_from l first u).outcome
  pub left : (play_from l first (u ++ v)).left ≡ (play_from l first u).left ++ (play_from l (first + length u) v).left
  pub samples : samples_of (play_from l first (u ++ v)).outcome ≡ samples_of (play_from l first u).outcome + samples_of (play_from l (first + length u) v).outcome
  pub blocks : (let a = (play_from l first u).outcome in let b = (play_from l (first + length u) v).outcome in
      blocks_of (play_from l first (u ++ v)).outcome + shared (per_block l) (first + length u) (samples_of a) (samples_of b) ≡ blocks_of a + blocks_of b)
