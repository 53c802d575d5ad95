-- The calls' effects, by their outcomes.
use mathlib.Core.List.{List}
use Prim.Native.Nat.{ℕ}
use lib.IntN.{ℤ}
use lib.Seq.{sets}
use Rattle.whole.specs.Outcome.{Outcome, if_accepted, Effect, effect}
use Rattle.clip.specs.declared.starting.Start.{Start}
use Rattle.clip.specs.Image.{fresh_bytes}
use Rattle.clip.specs.Encoding.{Left, left, feed_all, finish, begun, no_encoder}

-- what a call on a clip answers and leaves
abbrev pub CallEffect : Type 0
CallEffect = Effect (Outcome Unit) Left

abbrev pub feed_by : Outcome Unit → Left → List ℤ → CallEffect
feed_by o s xs = effect o (if_accepted o (feed_all s xs) s)

abbrev pub close_by : Outcome Unit → Left → CallEffect
close_by o s = effect o (if_accepted o (finish s) s)

abbrev pub start_by : Outcome Unit → Start → List ℕ → CallEffect
start_by o g l = effect o (if_accepted o (left (begun g) (sets l 0 (fresh_bytes g))) (left no_encoder l))
