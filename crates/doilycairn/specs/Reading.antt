-- Reading an image, as C sees it. Definitions only.
use Rattle.std.specs.Prelude.{Bool, false, List, ℕ, ◌+◌, ◌/◌, ℤ, take, drop}
use Rattle.whole.specs.Outcome.{Outcome, value_or, if_accepted, outcome_code, outcome_entry, Effect, effect}
use Rattle.block.specs.Context.{new_context}
use Rattle.image.specs.Bodies.{block_answer, block_body}
use Rattle.image.specs.Opening.{Told}
use Rattle.image.specs.Reading.{offset_in, length_in, context_in}
use Rattle.image.specs.Part.{samples_of, blocks_of}
use Rattle.doilycairn.specs.declared.reading.Body.{Body}
use Rattle.doilycairn.specs.declared.reading.Comparison.{Comparison}
use Rattle.doilycairn.specs.declared.reading.Opening.{Opening}
use Rattle.doilycairn.specs.declared.reading.Part.{Part}
use Rattle.doilycairn.specs.declared.reading.Turns.{Turns}

-- ---- opening

-- what C sees of opening
abbrev pub open_seen : Effect (Outcome Unit) Told → Opening
open_seen e =
    let t = e.left in
    record { code = outcome_code e.outcome; entry = outcome_entry e.outcome; head = t.head; looped = t.looped; context = t.context }

-- ---- the body of a block

-- what a call returns, and the bytes of the image that it points to
abbrev pub handed : Body → List ℕ → Effect Body (List ℕ)
handed r l = effect r (take r.bytes (drop r.offset l))

-- where block k's entry says that its body stands, two nibbles a byte, and the entry's context
unfoldable pub body_at : List ℕ → ℕ → Body
body_at l k = record { code = 0; entry = 0; offset = offset_in l k; bytes = (length_in l k + 1) / 2; nibbles = length_in l k; context = context_in l k }

-- the bytes that it points to are the block's body; refused, the number and the block that it names, and zeros
unfoldable pub body_in_c : List ℕ → ℕ → Effect Body (List ℕ)
body_in_c l k =
    let o = block_answer l k in
    effect (if_accepted o (body_at l k) (record { code = outcome_code o; entry = outcome_entry o; offset = 0; bytes = 0; nibbles = 0; context = new_context })) (block_body l k)

-- ---- playing from a sample on

-- how many samples and how many blocks, with code 0, or zeros, the refusal's number and the block that it names
abbrev pub part_answer : Outcome (ℕ × ℕ) → Part
part_answer o = record { code = outcome_code o; entry = outcome_entry o; samples = samples_of o; blocks = blocks_of o }

-- what C sees of it
abbrev pub part_seen : Effect (Outcome (ℕ × ℕ)) (List ℤ) → Effect Part (List ℤ)
part_seen e = effect (part_answer e.outcome) e.left

-- ---- playing the loop

-- how many samples, with code 0, or no samples, the refusal's number and the block that it names
abbrev pub turns_answer : Outcome ℕ → Turns
turns_answer o = record { code = outcome_code o; entry = outcome_entry o; samples = value_or o 0 }

-- what C sees of it
abbrev pub turns_seen : Effect (Outcome ℕ) (List ℤ) → Effect Turns (List ℤ)
turns_seen e = effect (turns_answer e.outcome) e.left

-- ---- sameness

-- whether they are the same, with code 0, or not the same, the refusal's number and the block that it names
abbrev pub compared_answer : Outcome Bool → Comparison
compared_answer o = record { code = outcome_code o; entry = outcome_entry o; same = value_or o false }
