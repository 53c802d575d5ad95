-- Playing a block of an image. Definitions only.
use Rattle.std.specs.Prelude.{cond, List, ℕ, ltb, ℤ, length, Result, Ok, Err}
use Rattle.whole.specs.Outcome.{Outcome, accepted, refused, with_values, if_accepted, Effect, effect}
use Rattle.block.specs.declared.Playback.{Playback}
use Rattle.block.specs.Address.{address_to_sample}
use Rattle.block.specs.Context.{new_context}
use Rattle.block.specs.Frame.{Playing, playing}
use Rattle.block.specs.Play.{play_into}
use Rattle.block.specs.Refusals.{lowest_pair}
use Rattle.image.specs.declared.bodies.Entry.{Entry}
use Rattle.image.specs.declared.Refusal.{Refusal}
use Rattle.image.specs.Reading.{coefficients_in, offset_in, length_in, context_in}
use Rattle.image.specs.Opening.{refusal, and_then}
use Rattle.image.specs.Bodies.{block_answer, body_in}

-- what block k's entry says, its context put together
abbrev pub read_entry : List ℕ → ℕ → Entry
read_entry l k = record { offset = offset_in l k; nibbles = length_in l k; context = context_in l k }

-- codes 13, 14: for so many samples and an output of some room
unfoldable pub room_answer : List ℤ → ℕ → ℕ → Outcome Unit
room_answer cs n room = cond (lowest_pair cs) (refused 13) (cond (ltb room n) (refused 14) (accepted tt))

-- codes 15; 20, 21, 22; 24; 17, 13, 14
unfoldable pub play_answer : List ℕ → ℕ → ℕ → Outcome Unit
play_answer l k room = and_then (block_answer l k) (room_answer (coefficients_in l) (address_to_sample (length_in l k)) room)

-- what an answer of playing says: the sample count, or the refusal
abbrev pub play_outcome : Result Playback Refusal → Outcome ℕ
play_outcome (Ok p) = accepted p.samples
play_outcome (Err r) = refusal r

-- n samples as they are left in the output; refused, no context and the output unaltered
abbrev pub played : Outcome Unit → ℕ → Playing → List ℤ → Effect (Outcome ℕ) Playing
played o n left out = effect (with_values o n) (if_accepted o left (playing new_context out))

-- block k is played: its samples as section 4 plays its body with the entry's length and context
unfoldable pub play : List ℕ → ℕ → List ℤ → Effect (Outcome ℕ) Playing
play l k out = played (play_answer l k (length out)) (address_to_sample (length_in l k)) (play_into (body_in l k) (coefficients_in l) (length_in l k) (context_in l k) out) out
