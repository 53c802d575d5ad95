-- An image's fields, written again. Definitions only.
use Rattle.std.specs.Prelude.{List, ◌++◌, ℕ}
use Rattle.layout.specs.Fields.{mark}
use Rattle.layout.specs.Sizes.{block_count}
use Rattle.clip.specs.declared.starting.Start.{Start}
use Rattle.clip.specs.Image.{start_shape, head_bytes, context_bytes, table_bytes, loop_bytes}
use Rattle.image.specs.Reading.{total_in, rate_in, block_in, gain_in, coefficients_in, header_in, context_in, loop_in, loop_context_in}
use Rattle.dsp.specs.Export.{bodies_in}

-- what an image says, as a clip is started with it
unfoldable pub start_in : List ℕ → Start
start_in l =
    record {
      total = total_in l;
      rate = rate_in l;
      block = block_in l;
      gain = gain_in l;
      coefficients = coefficients_in l;
      history = (context_in l 0).last_samples;
      looped = loop_in l;
    }

-- the head, the contents with the contexts that they hold, the loop's entry and the bodies
unfoldable pub written_again : List ℕ → List ℕ
written_again l =
    head_bytes mark (start_in l)
    ++ (table_bytes (λ j. context_bytes (header_in l j) (context_in l j).last_samples) (start_shape (start_in l)) 0 (block_count (start_shape (start_in l)))
    ++ (loop_bytes (loop_in l) (loop_context_in l) ++ bodies_in l))
