-- The encoded frame: header, nibbles, history, and the one-frame call. Definitions only.
use Rattle.std.specs.Prelude.{Bool, true, cond, ◌&&◌, List, [], ◌∷◌, ◌++◌, ℕ, zero, suc, ◌+◌, ◌-◌, ◌*◌, ◌/◌, ◌%◌, eqb, leb, ℤ, pos, negsuc, nat_abs, get_or, replicate, Result}
use Rattle.whole.specs.declared.History.{History}
use Rattle.frame.specs.declared.EncodedFrame.{EncodedFrame}
use Rattle.frame.specs.declared.OneFrame.{OneFrame}
use Rattle.frame.specs.declared.Refusal.{Refusal}
use Rattle.frame.specs.declared.Refusal.TheVariants.{CoefficientOutside}
use Rattle.whole.specs.Outcome.{Outcome, accepted, refused, answered, or_kept, without_values}
use Rattle.frame.specs.Pass.{pair_limit}
use Rattle.frame.specs.Choice.{c0_at, c1_at, candidate_at, winner, passes_up_to}

-- "Header = index × 16 + p"
abbrev pub header : ℕ → ℕ → ℕ
header i p = i * 16 + p

-- a nibble's four bits: z mod 16
unfoldable pub low_four : ℤ → ℕ
low_four (pos n) = n
low_four (negsuc n) = 15 - n

-- "two nibbles a byte, high nibble first"
unfoldable pub byte_of : List ℤ → ℕ → ℕ
byte_of ns k = low_four (get_or ns (2 * k) (pos 0)) * 16 + low_four (get_or ns (2 * k + 1) (pos 0))

-- "a header byte, then two nibbles a byte": the header and k bytes
unfoldable pub pack_frame : ℕ → List ℤ → ℕ → List ℕ
pack_frame b ns zero = b ∷ []
pack_frame b ns (suc k) = pack_frame b ns k ++ (byte_of ns k ∷ [])

-- the four bits of sample i in a frame's bytes
unfoldable pub nibble_at : List ℕ → ℕ → ℕ
nibble_at bs i = cond (eqb (i % 2) 0) (get_or bs (suc (i / 2)) 0 / 16) (get_or bs (suc (i / 2)) 0 % 16)

-- `encode_frame`: bytes, passes and reconstructed samples of the frame xs after the history h
unfoldable pub encode_frame : History → List ℤ → List ℤ → EncodedFrame
encode_frame h xs cs =
    let i = winner h xs cs 7 in
    let c = candidate_at h xs cs i in
    record { bytes = pack_frame (header i c.exponent) c.nibbles 7; passes = passes_up_to h xs cs 8; samples = c.samples }

-- samples with the two before them, oldest first
unfoldable pub preceded : History → List ℤ → List ℤ
preceded h xs = h.older ∷ (h.newest ∷ xs)

-- "The history after it is the last two reconstructed real samples, the older being the newest one before the frame where m = 1"
unfoldable pub history_after : History → List ℤ → ℕ → History
history_after h xs m = record { newest = get_or (preceded h xs) (suc m) (pos 0); older = get_or (preceded h xs) m (pos 0) }

-- code 7: "|c0| + |c1| ≤ 61,440 .. in place of the two separate limits"
unfoldable pub pair_ok : ℤ → ℤ → Bool
pair_ok c0 c1 = leb (nat_abs c0 + nat_abs c1) pair_limit

-- the first k pairs are within the limit
unfoldable pub pairs_ok : List ℤ → ℕ → Bool
pairs_ok cs zero = true
pairs_ok cs (suc k) = pairs_ok cs k && pair_ok (c0_at cs k) (c1_at cs k)

-- "for every pair", whether or not a frame chooses it
unfoldable pub coefficients_ok : List ℤ → Bool
coefficients_ok cs = pairs_ok cs 8

-- document 01's number of a refusal
abbrev pub code : Refusal → ℕ
code CoefficientOutside = 7

-- what an answer says, by document 01's numbers
abbrev pub outcome : Result OneFrame Refusal → Outcome Unit
outcome a = without_values (answered code (λ r. 0) a)

-- what the one-frame call answers: its outcome, and the bytes, passes and history that come with it
pub record FrameEffect : Type 0 where
  pub outcome : Outcome Unit
  pub bytes : List ℕ
  pub passes : ℕ
  pub history : History

-- what a refused frame leaves: no bytes, no passes, and the history h that was given
abbrev pub no_frame : History → OneFrame
no_frame h = record { bytes = replicate 8 0; passes = 0; history = h }

-- what an answer is after the history h, by document 01's numbers and values
abbrev pub frame_effect : History → Result OneFrame Refusal → FrameEffect
frame_effect h a = let o = or_kept a (no_frame h) in record { outcome = outcome a; bytes = o.bytes; passes = o.passes; history = o.history }

-- "answers the eight bytes, the passes and the new history"; a refusal answers no bytes, no passes and the history given
unfoldable pub encode_one_frame : History → List ℤ → List ℤ → FrameEffect
encode_one_frame h xs cs =
    let e = encode_frame h xs cs in
    cond (coefficients_ok cs)
    (record { outcome = accepted tt; bytes = e.bytes; passes = e.passes; history = history_after h e.samples 14 })
    (record { outcome = refused 7; bytes = replicate 8 0; passes = 0; history = h })
