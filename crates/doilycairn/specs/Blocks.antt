-- Playing bytes and joining, as C sees them. Definitions only.
use Rattle.std.specs.Prelude.{List, ℕ, ℤ, Result, Ok, Err}
use Rattle.block.specs.declared.Playback as Block
use Rattle.block.specs.declared.FrameContext.{FrameContext}
use Rattle.block.specs.Frame.{Playing}
use Rattle.whole.specs.Outcome.{Outcome, accepted, refused_at, value_or, outcome_code, outcome_entry, Effect, effect}
use Rattle.doilycairn.specs.declared.blocks.Joining.{Joining}
use Rattle.doilycairn.specs.declared.blocks.Playback.{Playback}

-- ---- playing bytes

-- what an answer of playing says: the sample count, or the refusal's number and the block that it names
abbrev pub count_of : {R : Type 0} → (R → ℕ) → (R → ℕ) → Result Block.Playback R → Outcome ℕ
count_of number named (Ok p) = accepted p.samples
count_of number named (Err r) = refused_at (number r) (named r)

-- the sample count and code 0, or no samples, the refusal's number and the block that it names
abbrev pub played_answer : Outcome ℕ → FrameContext → Playback
played_answer o c = record { code = outcome_code o; entry = outcome_entry o; samples = value_or o 0; context = c }

-- what C sees of a call of playing: what it returns, and the output after it
abbrev pub play_seen : Effect (Outcome ℕ) Playing → Effect Playback (List ℤ)
play_seen e = effect (played_answer e.outcome e.left.context) e.left.samples

-- ---- joining

-- the lengths' sum and code 0, or no nibbles and document 01's number
abbrev pub joined_answer : Outcome ℕ → Joining
joined_answer o = record { code = outcome_code o; nibbles = value_or o 0 }

-- what C sees of a call of joining: what it returns, and the output after it
abbrev pub join_seen : Effect (Outcome ℕ) (List ℕ) → Effect Joining (List ℕ)
join_seen e = effect (joined_answer e.outcome) e.left
