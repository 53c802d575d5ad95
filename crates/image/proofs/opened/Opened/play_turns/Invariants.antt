use Rattle.std.proofs.Common.{◌≡◌}
use Rattle.std.proofs.lemmas.List.Edits.{sets}
use Rattle.image.specs.Looping.{loop_once, repeated}
use Rattle.image.proofs.opened.Opened.play_turns.Given as goal

abbrev pub invariant-loop-turn : goal.invariant-loop-turn
invariant-loop-turn l = l.out ≡ sets l.initial.out 0 (repeated l.turn (loop_once l.self))
