use Rattle.std.proofs.Common.{◌≡◌}
use Rattle.image.specs.inner.ByFrames.{frames_in}
use Rattle.image.proofs.opened.Opened.same_sound.Given as goal

abbrev pub invariant-loop-i : goal.invariant-loop-i
invariant-loop-i l = record {
  one : l.one ≡ (frames_in l.self l.i).context;
  two : l.two ≡ (frames_in l.other l.i).context;
  samples : (frames_in l.self l.i).samples ≡ (frames_in l.other l.i).samples;
}
