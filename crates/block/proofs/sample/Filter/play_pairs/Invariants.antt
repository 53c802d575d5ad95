use Rattle.std.proofs.Common.{◌≡◌, ◌*◌}
use lib.Seq.{sets}
use Rattle.block.specs.inner.Nibbles.{play_nibbles}
use Rattle.block.proofs.sample.Filter.play_pairs.Given as goal

abbrev pub invariant-loop-j : goal.invariant-loop-j
invariant-loop-j l =
    let r = play_nibbles l.bytes 0 (2 * l.j) l.self.c0 l.self.c1 l.self.scale l.initial.history in
    record { newest : r.history ≡ l.history; stored : l.out ≡ sets l.initial.out 0 r.samples }
