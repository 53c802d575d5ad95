use Rattle.std.proofs.Common.{◌≡◌, ◌-◌}
use Rattle.image.specs.Reading.{blocks_in}
use Rattle.dsp.specs.Export.{histories_answer}
use Rattle.dsp.proofs.opened.Opened.histories_answer.Given as goal

abbrev pub invariant-loop-j : goal.invariant-loop-j
invariant-loop-j l = histories_answer l.image 0 (blocks_in l.image - 1) ≡ histories_answer l.image l.j (blocks_in l.image - 1 - l.j)
