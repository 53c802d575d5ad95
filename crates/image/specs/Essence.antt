-- What counts of an image where it is compared with another. Definitions only.
use Rattle.std.specs.Prelude.{List, [], ◌∷◌, ℕ, zero, suc, ◌%◌, ℤ}
use Rattle.block.specs.declared.FrameContext.{FrameContext}
use Rattle.block.specs.Context.{context_with}
use Rattle.layout.specs.declared.Loop.{Loop}
use Rattle.image.specs.Reading.{total_in, rate_in, block_in, gain_in, blocks_in, coefficients_in, context_in, loop_in, loop_context_in}
use Rattle.image.specs.Sameness.{samples_in}

-- N, "rate, gain, B, coefficients, every context and the loop", with the context at its start, "besides the samples"
pub record Essence : Type 0 where
  pub total : ℕ
  pub rate : ℕ
  pub gain : ℕ
  pub block : ℕ
  pub coefficients : List ℤ
  pub contexts : List FrameContext
  pub looped : Loop
  pub context : FrameContext
  pub samples : List ℤ

-- a context without "The unused top bit of a header"
abbrev pub counted : FrameContext → FrameContext
counted c = context_with (c.predictor_and_scale % 128) c.last_samples

-- the contexts of k blocks from block j on
unfoldable pub contexts_from : List ℕ → ℕ → ℕ → List FrameContext
contexts_from l j zero = []
contexts_from l j (suc k) = counted (context_in l j) ∷ contexts_from l (suc j) k

-- all that counts of an image
unfoldable pub essence : List ℕ → Essence
essence l =
    record {
      total = total_in l;
      rate = rate_in l;
      gain = gain_in l;
      block = block_in l;
      coefficients = coefficients_in l;
      contexts = contexts_from l 0 (blocks_in l);
      looped = loop_in l;
      context = counted (loop_context_in l);
      samples = samples_in l;
    }
