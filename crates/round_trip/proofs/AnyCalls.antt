-- From any list of measurings and askings to the image.
use mathlib.Core.Path.{◌≡◌, refl, sym, ap, ◌∙◌, subst}
use mathlib.Core.List.{List, [], ◌∷◌, ◌++◌, foldl}
use Prim.Native.Nat.{ℕ}
use lib.Dec.{ltb}
use lib.Ieee.{Float}
use lib.IntN.{ℤ}
use lib.ListN.{length}
use Rattle.whole.specs.Outcome.{Outcome, accepted, refused}
use Rattle.whole.proofs.Outcomes.{failed}
use Rattle.coefficients.specs.Measure.{needed, Measuring, measuring, fresh}
use Rattle.coefficients.specs.Runs.{coefficients_of, Call, asks, plain_outcome, plain_next, plain_run, call_outcome, call_next, run}
use Rattle.coefficients.specs.StateOfSamples.{plain_after}
use Rattle.coefficients.proofs.WholeRuns.{measuring-runs}
use Rattle.clip.specs.Encoding.{start}
use Rattle.clip.specs.Runs as encoded
use Rattle.clip.specs.declared.starting.Start.{Start}
use Rattle.clip.proofs.WholeRuns.{encoding-runs}
use Rattle.round_trip.specs.Job.{Sampled, last_coefficients}
use Rattle.frame.specs.Fits.{FitHistory}
use Rattle.round_trip.specs.ClosedClip.{AnyCalls}
use Rattle.round_trip.proofs.ClipTheorem.{closed-image}
use Rattle.round_trip.proofs.Pieces.{coefficients-length, coefficients-sampled}

-- ---- an asking after some calls

-- the last answer, d where there is none
unfoldable last_of : Outcome (List ℤ) → List (Outcome (List ℤ)) → Outcome (List ℤ)
last_of d [] = d
last_of d (o ∷ os) = last_of o os

last-asked : (d : Outcome (List ℤ)) (m : Measuring) (ms : List Call) → last_of d (run m (ms ++ (asks ∷ []))) ≡ call_outcome (foldl call_next m ms) asks
unfolding last_of run
last-asked d m [] = refl
last-asked d m (c ∷ ms) = last-asked (call_outcome m c) (call_next m c) ms

last-plain : (size : ℕ) (d : Outcome (List ℤ)) (xs : List ℤ) (ms : List Call) → last_of d (plain_run size xs (ms ++ (asks ∷ []))) ≡ plain_outcome size (plain_after size xs ms) asks
unfolding last_of plain_run plain_after
last-plain size d xs [] = refl
last-plain size d xs (c ∷ ms) = let o = plain_outcome size xs c in last-plain size o (plain_next o xs c) ms

-- an asking that is accepted answers the coefficients of what was accepted before it
asked-after : (store : List Float) (ms : List Call) (cs : List ℤ) → call_outcome (foldl call_next (measuring fresh store) ms) asks ≡ accepted cs → cs ≡ coefficients_of (plain_after (length store) [] ms)
unfolding last_coefficients
asked-after store ms cs e =
    let size = length store in
    let xs = plain_after size [] ms in
    let p : plain_outcome size xs asks ≡ accepted cs =
    sym (last-plain size (refused 0) [] ms) ∙ ap (last_of (refused 0)) (sym (measuring-runs store (ms ++ (asks ∷ [])))) ∙ last-asked (refused 0) (measuring fresh store) ms ∙ e in
    sym (ap (λ (o : Outcome (List ℤ)). last_coefficients (o ∷ [])) (failed (ltb size (needed (length xs))) 3 (accepted (coefficients_of xs)) p).1)

-- ---- the theorem

-- Take any store and any list of measurings and askings on it, from the fresh state, refused ones included, then an asking that is accepted. Start a clip
-- with the coefficients that it answers, with any N, rate, block size, gain, starting history, loop or none, and buffer that starting accepts, then take any list of
-- feedings and closings on that buffer, refused ones included. Every call answers as document 01's plain machines, the coefficients are those of
-- what was accepted for measuring, and if the clip is closed, state and image are those of what was accepted for encoding: the image opens and plays as many samples,
-- each within its distance of the original.
pub any-calls-to-image : (store : List Float) (ms : List Call) (g : Start) (l : List ℕ) (ks : List encoded.Call)
    → call_outcome (foldl call_next (measuring fresh store) ms) asks ≡ accepted g.coefficients
    → FitHistory g.history → (start g l).outcome ≡ accepted tt
    → AnyCalls store ms g l ks
any-calls-to-image store ms g l ks asked hf ok =
    let c = asked-after store ms g.coefficients asked in
    let sixteen : length g.coefficients ≡ 16 = ap length c ∙ coefficients-length (plain_after (length store) [] ms) in
    record {
      measured-answers = measuring-runs store (ms ++ (asks ∷ []));
      coefficients = c;
      encoded-answers = encoding-runs g l sixteen ok ks;
      closed = closed-image g l sixteen (subst Sampled (sym c) (coefficients-sampled (plain_after (length store) [] ms))) hf ok ks;
    }
