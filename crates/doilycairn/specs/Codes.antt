-- The numbers of refusals. Definitions only.
use Rattle.std.specs.Prelude.{◌≢◌, ℕ, ◌<◌, Result}
use Rattle.whole.specs.Outcome.{outcome_code, outcome_entry, answered}

-- what the number of every refusal is not: 0, which tells an accepted call, and 16, in whose place 20, 21 and 22 stand
abbrev pub RefusalNumber : ℕ → Type 0
RefusalNumber n = (0 < n) × (n ≢ 16)

-- the number of an answer, 0 where the call is accepted
abbrev pub code_of : {A R : Type 0} → (R → ℕ) → (R → ℕ) → Result A R → ℕ
code_of number named a = outcome_code (answered number named a)

-- the block that an answer names, 0 where it names none
abbrev pub entry_of : {A R : Type 0} → (R → ℕ) → (R → ℕ) → Result A R → ℕ
entry_of number named a = outcome_entry (answered number named a)
