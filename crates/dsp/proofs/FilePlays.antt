-- A file is heard as an image is that has its bodies, its coefficients and its first context.
use mathlib.Core.List.{List}
use mathlib.Core.Path.{◌≡◌, ap, ◌∙◌}
use Prim.Native.Nat.{ℕ, ◌*◌, ◌≤◌}
use lib.ListN.{length, take}
use Rattle.block.specs.Frame.{Playing}
use Rattle.block.specs.Play.{play}
use Rattle.layout.specs.Sizes.{body_bytes}
use Rattle.image.specs.Reading.{coefficients_in, context_in}
use Rattle.dsp.specs.File.{coefficients_of, first_of, bodies_of}
use Rattle.dsp.specs.Export.{bodies_in}
use Rattle.dsp.specs.Import.{history_before}
use Rattle.dsp.specs.Returns.{history_from_first}
use Rattle.dsp.proofs.PlayedInParts.{play-part}

module _ (f l : List ℕ) (n : ℕ) (long : body_bytes n ≤ length (bodies_of f)) (bodies : bodies_in l ≡ take (body_bytes n) (bodies_of f))
    (coefficients : coefficients_in l ≡ coefficients_of f) (first : context_in l 0 ≡ first_of f) where
  pub heard-same : (len : ℕ) → len ≤ 2 * body_bytes n → play (bodies_in l) (coefficients_in l) len (context_in l 0) ≡ play (bodies_of f) (coefficients_of f) len (first_of f)
  heard-same len h = (λ i. play (bodies i) (coefficients i) len (first i)) ∙ play-part (bodies_of f) (coefficients_of f) (body_bytes n) len (first_of f) long h

  -- the history before frame q
  pub history-same : (q : ℕ) → 16 * q ≤ 2 * body_bytes n → history_from_first l q ≡ history_before f q
  unfolding history_from_first history_before
  history-same q h = ap (λ (p : Playing). p.context.last_samples) (heard-same (16 * q) h)
