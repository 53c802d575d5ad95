use Rattle.std.proofs.Common.{◌≡◌, take}
use Rattle.std.proofs.lemmas.List.Edits.{sets}
use Rattle.clip.specs.Image.{coefficient_bytes}
use Rattle.clip.proofs.contents.put_coefficients.Given as goal

abbrev pub invariant-loop-i : goal.invariant-loop-i
invariant-loop-i l = l.image ≡ sets l.fn.image l.at (coefficient_bytes (take l.i l.fn.coefficients))
