-- .dsp files, as C sees them. Definitions only.
use Rattle.std.specs.Prelude.{cond, List, ℕ}
use Rattle.whole.specs.Outcome.{Outcome, value_or, outcome_code, outcome_entry, Effect, effect}
use Rattle.layout.specs.Limits.{total_ok}
use Rattle.dsp.specs.File.{file_bytes}
use Rattle.doilycairn.specs.declared.files.Written.{Written}

-- how many bytes, with code 0, or no bytes, the refusal's number and the block that it names
abbrev pub written_answer : Outcome ℕ → Written
written_answer o = record { code = outcome_code o; entry = outcome_entry o; bytes = value_or o 0 }

-- what C sees of a call: what it returns, and the buffer after it
abbrev pub written_seen : Effect (Outcome ℕ) (List ℕ) → Effect Written (List ℕ)
written_seen e = effect (written_answer e.outcome) e.left

-- the bytes of a clip's file; 0 where 4 refuses its count
unfoldable pub dsp_size : ℕ → ℕ
dsp_size n = cond (total_ok n) (file_bytes n) 0
