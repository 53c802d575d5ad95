-- Playing a block. Definitions only.
use Rattle.std.specs.Prelude.{cond, List, [], ℕ, zero, suc, ◌+◌, ◌-◌, ◌/◌, ◌%◌, eqb, ltb, ℤ, length, get_or, Result, Ok, Err}
use Rattle.block.specs.declared.FrameContext.{FrameContext}
use Rattle.block.specs.declared.Playback.{Playback}
use Rattle.block.specs.declared.Refusal.{Refusal}
use Rattle.block.specs.Address.{address_to_sample}
use Rattle.block.specs.Context.{with_header}
use Rattle.block.specs.Frame.{Playing, playing, nibble_at, take_nibble, into}
use Rattle.block.specs.Refusals.{code, bad_length, lowest_pair}
use Rattle.whole.specs.Outcome.{Outcome, accepted, refused, Effect, effect}

-- the header at an address taken
unfoldable pub take_header : List ℕ → ℕ → Playing → Playing
take_header bytes a p = playing (with_header p.context (get_or bytes (a / 2) 0)) p.samples

-- from address a on, n addresses before the end: at a multiple of 16 take a new header and go on by 2, else one sample
unfoldable pub play_from : List ℕ → List ℤ → ℕ → ℕ → Playing → Playing
play_from bytes cs a zero p = p
play_from bytes cs a (suc zero) p = cond (eqb (a % 16) 0) (take_header bytes a p) (take_nibble cs p (nibble_at bytes a))
play_from bytes cs a (suc (suc n)) p =
    cond (eqb (a % 16) 0) (play_from bytes cs (2 + a) n (take_header bytes a p)) (play_from bytes cs (suc a) (suc n) (take_nibble cs p (nibble_at bytes a)))

-- start at address 2, end before the length; the first header is the context's
unfoldable pub play : List ℕ → List ℤ → ℕ → FrameContext → Playing
play bytes cs len c = play_from bytes cs 2 (len - 2) (playing c [])

-- the samples in the output from its start on, and the final context
unfoldable pub play_into : List ℕ → List ℤ → ℕ → FrameContext → List ℤ → Playing
play_into bytes cs len c out = into out 0 (play bytes cs len c)

-- the sample count, or the refusal's number
abbrev pub play_outcome : Result Playback Refusal → Outcome ℕ
play_outcome (Ok p) = accepted p.samples
play_outcome (Err r) = refused (code r)

-- the final context or, where playing is refused, the one given
abbrev pub final_context : {R : Type 0} → Result Playback R → FrameContext → FrameContext
final_context (Ok p) c = p.context
final_context (Err r) c = c

-- playing bytes: refusals 12, 13, 14 in that sequence, with the context given and the output unaltered; else the sample count, the final context and the samples
unfoldable pub play_bytes : List ℕ → ℕ → List ℤ → FrameContext → List ℤ → Effect (Outcome ℕ) Playing
play_bytes bytes len cs c out =
    cond (bad_length len (length bytes)) (effect (refused 12) (playing c out))
    (cond (lowest_pair cs) (effect (refused 13) (playing c out))
    (cond (ltb (length out) (address_to_sample len)) (effect (refused 14) (playing c out))
    (effect (accepted (address_to_sample len)) (play_into bytes cs len c out))))
