-- Encoding a frame, and starting, feeding and closing a clip, as C sees them. Definitions only.
use Rattle.std.specs.Prelude.{true, List, ℕ, ℤ, Result}
use Rattle.clip.specs.declared.Encoder.{Encoder}
use Rattle.clip.specs.declared.Refusal.{Refusal}
use Rattle.clip.specs.declared.starting.Start.{Start}
use Rattle.clip.specs.Encoding as Clip
use Rattle.whole.specs.declared.History.{History}
use Rattle.layout.specs.declared.Loop.{Loop}
use Rattle.frame.specs.Frame.{FrameEffect}
use Rattle.whole.specs.Outcome.{Outcome, or_kept, outcome_code, Effect, effect}
use Rattle.doilycairn.specs.declared.writing.Frame.{Frame}
use Rattle.doilycairn.specs.declared.writing.Encoding.{Encoding}

-- ---- one frame

-- what C sees of a call on a frame
abbrev pub frame_seen : FrameEffect → Frame
frame_seen o = record { code = outcome_code o.outcome; bytes = o.bytes; passes = o.passes; history = o.history }

-- ---- a clip

-- the number of an answer, and the state; refused, the state kept
abbrev pub encoding_answer : Result Encoder Refusal → Encoder → Encoding
encoding_answer a kept = record { code = outcome_code (Clip.outcome a); encoder = or_kept a kept }

-- what C sees of a call on a clip: what it returns, and the image buffer after it
abbrev pub clip_seen : Effect (Outcome Unit) Clip.Left → Effect Encoding (List ℕ)
clip_seen e = effect (record { code = outcome_code e.outcome; encoder = e.left.encoder }) e.left.bytes

-- what a clip is started with, from C's arguments
abbrev pub given : ℕ → ℕ → ℕ → ℕ → List ℤ → History → Loop → Start
given n rate size gain cs h p = record { total = n; rate = rate; block = size; gain = gain; coefficients = cs; history = h; looped = p }

-- "a loop start and a loop end (the sample after the last)"
abbrev pub between : ℕ → ℕ → Loop
between s e = record { start = s; end = e; present = true }
