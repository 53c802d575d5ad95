-- A part of a block: what playing on from a sample leaves. Definitions only.
use Rattle.std.specs.Prelude.{List, [], ℕ, ◌-◌, ℤ}
use Rattle.block.specs.declared.FrameContext.{FrameContext}
use Rattle.block.specs.Frame.{Playing, playing, into}
use Rattle.block.specs.Play.{play_from}

-- from address a on up to a length, under the context's header: the samples in the output from its start on, and the final context
unfoldable pub play_on : List ℕ → List ℤ → ℕ → ℕ → FrameContext → List ℤ → Playing
play_on bytes cs a len c out = into out 0 (play_from bytes cs a (len - a) (playing c []))
