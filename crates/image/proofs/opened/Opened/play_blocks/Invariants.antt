use Rattle.std.proofs.Common.{◌≡◌, length}
use Rattle.std.proofs.lemmas.List.Edits.{sets}
use Rattle.image.specs.Sameness.{samples_from}
use Rattle.image.proofs.LawsAll.{context_on}
use Rattle.image.proofs.opened.Opened.play_blocks.Given as goal

abbrev pub invariant-loop-k : goal.invariant-loop-k
invariant-loop-k l = record {
  at : l.at ≡ length (samples_from l.self 0 l.k);
  context : l.context ≡ context_on l.self l.k;
  out : l.out ≡ sets l.initial.out 0 (samples_from l.self 0 l.k);
}
