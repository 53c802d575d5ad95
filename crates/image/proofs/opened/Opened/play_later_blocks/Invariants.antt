use Rattle.std.proofs.Common.{◌≡◌, ◌*◌, ◌-◌, min, take}
use Rattle.std.proofs.lemmas.List.Edits.{sets}
use Rattle.image.specs.Part.{per_block}
use Rattle.image.specs.Reading.{blocks_in}
use Rattle.image.specs.Sameness.{samples_from}
use Rattle.image.proofs.opened.Opened.play_later_blocks.Given as goal

abbrev pub invariant-loop-j : goal.invariant-loop-j
invariant-loop-j l = l.out ≡ sets l.initial.out 0 (take (min (l.j * per_block l.self) l.count) (samples_from l.self l.k (blocks_in l.self - l.k)))
