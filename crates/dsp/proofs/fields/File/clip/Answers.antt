use Rattle.std.proofs.Common.{ap}
use Rattle.block.specs.declared.FrameContext.{FrameContext}
use Rattle.dsp.specs.Import.{clip_of}
use Rattle.dsp.proofs.fields.File.clip.Goals as goal

pub returns : goal.returns
unfolding clip_of
returns c =
    rw (
      ap (λ (x : FrameContext). x.last_samples) c.first.ensures,
      c.coefficients.ensures,
      c.looped.ensures,
      c.total.ensures,
      c.rate.ensures,
      c.cut_down.ensures,
      c.word_at.ensures,
      ← c.self.view_is,
    )
