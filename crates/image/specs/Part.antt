-- Playing from a sample on. Definitions only.
use Rattle.std.specs.Prelude.{Bool, cond, ◌&&◌, List, ℕ, zero, suc, ◌+◌, ◌-◌, ◌*◌, ◌/◌, min, leb, ltb, ℤ, length, take, drop, Result, Ok, Err}
use Rattle.std.proofs.lemmas.List.Edits.{sets}
use Rattle.whole.specs.Outcome.{Outcome, accepted, refused, with_values, value_or, if_accepted, Effect, effect}
use Rattle.image.specs.declared.Part as Declared
use Rattle.image.specs.declared.Refusal.{Refusal}
use Rattle.image.specs.Reading.{total_in, block_in, blocks_in}
use Rattle.image.specs.Opening.{refusal, and_then}
use Rattle.image.specs.Sameness.{samples_in, compare_answer}

-- codes 15; 20, 21, 22; 24; 13; "19 when the first sample is N or more, after 13"
unfoldable pub from_answer : List ℕ → ℕ → Outcome Unit
from_answer l first = and_then (compare_answer l) (cond (leb (total_in l) first) (refused 19) (accepted tt))

-- "fill the buffer, across blocks if needed, or up to the clip's last sample": how many samples
abbrev pub run_count : List ℕ → ℕ → ℕ → ℕ
run_count l first room = min room (total_in l - first)

-- "the same run of samples that playing the whole clip gives"
abbrev pub run_of : List ℕ → ℕ → ℕ → List ℤ
run_of l first n = take n (drop first (samples_in l))

-- the samples of a whole block of b bytes: fourteen of each of its b / 8 frames
abbrev pub samples_per_block : ℕ → ℕ
samples_per_block b = 14 * (b / 8)

abbrev pub per_block : List ℕ → ℕ
per_block l = samples_per_block (block_in l)

-- with p samples a block, a run of n samples overlaps block j: it has a sample, begins before the block's end and ends after the block's beginning
abbrev pub overlaps : ℕ → ℕ → ℕ → ℕ → Bool
overlaps p first n j = ltb 0 n && (ltb first (suc j * p) && ltb (j * p) (first + n))

-- "how many blocks were touched, which is the number of blocks the run overlaps": among the first k
unfoldable pub touched : ℕ → ℕ → ℕ → ℕ → ℕ
touched p first n zero = 0
touched p first n (suc k) = touched p first n k + cond (overlaps p first n k) 1 0

-- how many samples and how many blocks
abbrev pub part_counts : Declared.Part → ℕ × ℕ
part_counts p = (p.samples, p.blocks)

-- what an answer of playing from a sample says: how many samples and how many blocks, or the refusal
abbrev pub part_outcome : Result Declared.Part Refusal → Outcome (ℕ × ℕ)
part_outcome (Ok p) = accepted (part_counts p)
part_outcome (Err r) = refusal r

-- the samples and the blocks of what is answered, 0 where it is a refusal
abbrev pub samples_of : Outcome (ℕ × ℕ) → ℕ
samples_of o = (value_or o (0, 0)).0

abbrev pub blocks_of : Outcome (ℕ × ℕ) → ℕ
blocks_of o = (value_or o (0, 0)).1

-- an image is played from a sample on: the run in the output from its start on, the rest of the output as it was; refused, all of it
unfoldable pub play_from : List ℕ → ℕ → List ℤ → Effect (Outcome (ℕ × ℕ)) (List ℤ)
play_from l first out =
    let o = from_answer l first in
    let n = run_count l first (length out) in
    effect (with_values o (n, touched (per_block l) first n (blocks_in l))) (if_accepted o (sets out 0 (run_of l first n)) out)
