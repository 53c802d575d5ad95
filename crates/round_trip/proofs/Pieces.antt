-- Pieces that fit are accepted: what the plain machines do with a recording that is cut into them.
use mathlib.Core.Path.{◌≡◌, refl, sym, ap, ◌∙◌}
use mathlib.Core.Bool.{true, false}
use mathlib.Core.List.{List, [], ◌∷◌, ◌++◌, append_assoc, append-nil}
use Prim.Native.Nat.{ℕ, zero, suc, ◌+◌, ◌-◌, ◌≤◌}
use native.Mathlib.Omega.{arith}
use borrow.Author.Tests.{le-ltb}
use lib.IntN.{ℤ}
use lib.ListN.{length, replicate, length-append}
use Rattle.coefficients.specs.Measure.{needed}
use Rattle.whole.specs.Outcome.{Outcome, accepted}
use Rattle.whole.specs.Frames.{most, frame_count}
use Rattle.coefficients.specs.Runs as measured
use Rattle.coefficients.specs.Runs.{coefficients_of, measures, asks}
use Rattle.coefficients.proofs.EachCoefficient.{finish-length, finish-fits}
use Rattle.clip.specs.Runs as encoded
use Rattle.clip.specs.declared.starting.Start.{Start}
use Rattle.clip.specs.Runs.{plain, feeds, closes, plain_after}
use Rattle.round_trip.specs.Job.{Sampled, joined, measuring_calls, encoding_calls, last_coefficients, encoding_answers}

pub coefficients-length : (xs : List ℤ) → length (coefficients_of xs) ≡ 16
unfolding coefficients_of
coefficients-length xs = finish-length _

pub coefficients-sampled : (xs : List ℤ) → Sampled (coefficients_of xs)
unfolding coefficients_of
coefficients-sampled xs = finish-fits _

-- ---- measured

module _ (size : ℕ) where
  measure-fits : (xs p : List ℤ) → length xs + length p ≤ most → needed (length xs + length p) ≤ size → measured.plain_outcome size xs (measures p) ≡ accepted []
  measure-fits xs p h k = rw (le-ltb most (length xs + length p) h, le-ltb size (needed (length xs + length p)) k)

  ask-fits : (xs : List ℤ) → needed (length xs) ≤ size → measured.plain_outcome size xs asks ≡ accepted (coefficients_of xs)
  ask-fits xs k = rw (le-ltb size (needed (length xs)) k)

  -- what is answered to a piece, and to what comes after it
  answered-next : (xs p : List ℤ) (cs : List measured.Call) → measured.plain_outcome size xs (measures p) ≡ accepted []
      → measured.plain_run size xs (measures p ∷ cs) ≡ accepted [] ∷ measured.plain_run size (xs ++ p) cs
  unfolding measured.plain_run
  answered-next xs p cs e = ap (λ (o : Outcome (List ℤ)). o ∷ measured.plain_run size (measured.plain_next o xs (measures p)) cs) e

  answered-last : (xs : List ℤ) → measured.plain_outcome size xs asks ≡ accepted (coefficients_of xs) → measured.plain_run size xs (asks ∷ []) ≡ accepted (coefficients_of xs) ∷ []
  unfolding measured.plain_run
  answered-last xs e = ap (λ (o : Outcome (List ℤ)). o ∷ []) e

  pub measured-answers : (ps : List (List ℤ)) (xs : List ℤ) → length xs + length (joined ps) ≤ most → needed (length xs + length (joined ps)) ≤ size
      → measured.plain_run size xs (measuring_calls ps) ≡ replicate (length ps) (accepted []) ++ (accepted (coefficients_of (xs ++ joined ps)) ∷ [])
  unfolding measuring_calls joined frame_count
  measured-answers [] xs h k = answered-last xs (ask-fits xs (omega arith)) ∙ ap (λ (l : List ℤ). accepted (coefficients_of l) ∷ []) (sym (append-nil xs))
  measured-answers (p ∷ ps) xs h k =
      let n = length-append p (joined ps) in
      let m = length-append xs p in
      answered-next xs p (measuring_calls ps) (measure-fits xs p (omega arith) (omega arith))
      ∙ ap (λ (more : List (Outcome (List ℤ))). accepted [] ∷ more)
      (measured-answers ps (xs ++ p) (omega arith) (omega arith)
      ∙ ap (λ (l : List ℤ). replicate (length ps) (accepted []) ++ (accepted (coefficients_of l) ∷ [])) (append_assoc xs p (joined ps)))

-- the last of them
pub last-answer : (n : ℕ) (cs : List ℤ) → last_coefficients (replicate n (accepted []) ++ (accepted cs ∷ [])) ≡ cs
unfolding last_coefficients
last-answer zero cs = refl
last-answer (suc zero) cs = refl
last-answer (suc (suc n)) cs = last-answer (suc n) cs

-- ---- encoded

module _ (g : Start) where
  feed-fits : (xs p : List ℤ) → length xs + length p ≤ g.total → encoded.plain_answer g (plain xs false) (feeds p) ≡ accepted tt
  feed-fits xs p h = rw (le-ltb (g.total - length xs) (length p) (omega arith))

  close-fits : (xs : List ℤ) → length xs ≡ g.total → encoded.plain_answer g (plain xs false) closes ≡ accepted tt
  close-fits xs h = rw (le-ltb (length xs) g.total (omega arith))

  pub encoded-after : (ps : List (List ℤ)) (xs : List ℤ) → length xs + length (joined ps) ≡ g.total → plain_after g (plain xs false) (encoding_calls ps) ≡ plain (xs ++ joined ps) true
  unfolding encoding_calls joined plain_after
  encoded-after [] xs h =
      let n : length xs ≡ g.total = omega arith in
      ap (λ (a : Outcome Unit). encoded.plain_next a (plain xs false) closes) (close-fits xs n) ∙ ap (λ (l : List ℤ). plain l true) (sym (append-nil xs))
  encoded-after (p ∷ ps) xs h =
      let n = length-append p (joined ps) in
      let m = length-append xs p in
      ap (λ (a : Outcome Unit). plain_after g (encoded.plain_next a (plain xs false) (feeds p)) (encoding_calls ps)) (feed-fits xs p (omega arith))
      ∙ encoded-after ps (xs ++ p) (omega arith)
      ∙ ap (λ (l : List ℤ). plain l true) (append_assoc xs p (joined ps))

  pub encoded-answers : (ps : List (List ℤ)) (xs : List ℤ) → length xs + length (joined ps) ≡ g.total
      → encoding_answers (encoded.plain_run g (plain xs false) (encoding_calls ps)) ≡ replicate (suc (length ps)) (accepted tt)
  unfolding encoding_calls joined encoding_answers encoded.plain_run encoded.passes_up_to encoded.image_after encoded.encoded_at encoded.context_at encoded.bodies encoded.history_at
  encoded-answers [] xs h =
      let n : length xs ≡ g.total = omega arith in
      ap (λ (a : Outcome Unit). a ∷ []) (close-fits xs n)
  encoded-answers (p ∷ ps) xs h =
      let n = length-append p (joined ps) in
      let m = length-append xs p in
      ap (λ (a : Outcome Unit). a ∷ encoding_answers (encoded.plain_run g (encoded.plain_next a (plain xs false) (feeds p)) (encoding_calls ps))) (feed-fits xs p (omega arith))
      ∙ ap (λ (more : List (Outcome Unit)). accepted tt ∷ more) (encoded-answers ps (xs ++ p) (omega arith))
