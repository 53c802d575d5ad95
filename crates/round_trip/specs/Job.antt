-- The whole job as calls: a recording measured in pieces and fed in pieces. Definitions only.
use Rattle.std.specs.Prelude.{List, [], ◌∷◌, ◌++◌, ℕ, ℤ, pos, get_or}
use Rattle.std.specs.Int.{w16}
use Rattle.std.proofs.Common.{SFits}
use Rattle.whole.specs.Outcome.{Outcome, accepted, refused_at}
use Rattle.coefficients.specs.Runs as measured
use Rattle.coefficients.specs.Runs.{measures, asks}
use Rattle.clip.specs.Runs as encoded
use Rattle.clip.specs.Runs.{feeds, closes}

-- "A sample is a signed 16-bit number"; a coefficient is one, too
abbrev pub Sampled : List ℤ → Type 0
Sampled xs = (i : ℕ) → SFits w16 (get_or xs i (pos 0))

-- pieces in turn, joined
unfoldable pub joined : List (List ℤ) → List ℤ
joined [] = []
joined (p ∷ ps) = p ++ joined ps

-- each piece measured, then coefficients asked for
unfoldable pub measuring_calls : List (List ℤ) → List measured.Call
measuring_calls [] = asks ∷ []
measuring_calls (p ∷ ps) = measures p ∷ measuring_calls ps

-- each piece fed, then the clip closed
unfoldable pub encoding_calls : List (List ℤ) → List encoded.Call
encoding_calls [] = closes ∷ []
encoding_calls (p ∷ ps) = feeds p ∷ encoding_calls ps

-- the coefficients that the last call answered
unfoldable pub last_coefficients : List (Outcome (List ℤ)) → List ℤ
last_coefficients [] = []
last_coefficients (accepted cs ∷ []) = cs
last_coefficients (refused_at n j ∷ []) = []
last_coefficients (o ∷ q ∷ os) = last_coefficients (q ∷ os)

-- what each call answered
unfoldable pub encoding_answers : List encoded.Seen → List (Outcome Unit)
encoding_answers [] = []
encoding_answers (s ∷ ss) = s.outcome ∷ encoding_answers ss
