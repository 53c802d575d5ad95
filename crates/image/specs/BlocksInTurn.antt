-- Blocks 0 to K−1 of an image, each played by a call of its own on the rest of the output. Definitions only.
use Rattle.std.specs.Prelude.{List, ◌++◌, ℕ, zero, suc, ◌+◌, ℤ, take, drop}
use Rattle.whole.specs.Outcome.{Outcome, value_or, Effect, effect}
use Rattle.block.specs.Context.{new_context}
use Rattle.block.specs.Frame.{Playing, playing}
use Rattle.image.specs.Playing.{play}

-- a call on the output from a place on, after others: how many samples they answered, the last one's context, and the output
abbrev pub after_call : Effect ℕ Playing → Effect (Outcome ℕ) Playing → Effect ℕ Playing
after_call t e = let n = t.outcome in effect (n + value_or e.outcome 0) (playing e.left.context (take n t.left.samples ++ e.left.samples))

-- the first k blocks, by a call of `play` each
unfoldable pub turns : List ℕ → ℕ → List ℤ → Effect ℕ Playing
turns l zero out = effect 0 (playing new_context out)
turns l (suc k) out = let t = turns l k out in after_call t (play l k (drop t.outcome t.left.samples))
