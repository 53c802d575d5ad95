use Rattle.std.proofs.Common.{◌≡◌, pos, replicate}
use Rattle.std.proofs.lemmas.List.Edits.{sets}
use Rattle.image.specs.Reading.{coefficients_up_to}
use Rattle.image.proofs.heading.read_coefficients.Given as goal

abbrev pub invariant-loop-i : goal.invariant-loop-i
invariant-loop-i l = l.c-items ≡ sets (replicate 16 (pos 0)) 0 (coefficients_up_to l.image l.i)
