-- A block that is played from an image.
use mathlib.Core.List.{List, ◌++◌}
use mathlib.Core.Path.{◌≡◌, sym, ap, ◌∙◌}
use Prim.Native.Nat.{ℕ}
use native.Mathlib.Omega.{arith}
use lib.IntN.{ℤ}
use lib.ListN.{length, drop}
use Rattle.block.specs.Address.{address_to_sample}
use Rattle.block.specs.Frame.{Playing}
use Rattle.block.specs.Play.{play_into}
use Rattle.block.proofs.LawsCalls.{play-out}
use Rattle.block.proofs.LawsPlay.{play-count}
use Rattle.whole.specs.Outcome.{Outcome, accepted, Effect, effect}
use Rattle.image.specs.Reading.{coefficients_in, length_in, context_in}
use Rattle.image.specs.inner.Asked.{Found, Playable}
use Rattle.image.specs.Bodies.{body_in}
use Rattle.image.specs.Playing.{play}
use Rattle.image.specs.Sameness.{block_samples}
use Rattle.image.proofs.LawsBody.{play-accepts, found_some}

module _ (l : List ℕ) (k : ℕ) (out : List ℤ) (p : Playable l k (length out)) where
  abbrev pub leaves : Playing
  leaves = play_into (body_in l k) (coefficients_in l) (length_in l k) (context_in l k) out

  -- an accepted call plays the body as section 4 says
  pub play-leaves : effect (accepted (address_to_sample (length_in l k))) leaves ≡ play l k out
  unfolding play
  play-leaves = rw (play-accepts l k (length out) p)

  -- the output after an accepted call: the block's samples, and what stood beyond them
  pub play-output : (play l k out).left.samples ≡ block_samples l k ++ drop (address_to_sample (length_in l k)) out
  unfolding block_samples
  play-output =
      ap (λ (e : Effect (Outcome ℕ) Playing). e.left.samples) (sym play-leaves)
      ∙ play-out (body_in l k) (coefficients_in l) (length_in l k) (context_in l k) out (let s = found_some l k p.found in omega arith) p.enough

-- a block's samples are as many as its entry's length says
pub block-count : (l : List ℕ) (k : ℕ) → Found l k → length (block_samples l k) ≡ address_to_sample (length_in l k)
unfolding block_samples
block-count l k f = play-count (body_in l k) (coefficients_in l) (length_in l k) (context_in l k) (let s = found_some l k f in omega arith)
