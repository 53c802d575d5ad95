-- What is carried after i samples is what the definition has after i.
use Rattle.std.proofs.Common.{◌≡◌, ◌*◌, ◌≤◌, length, take}
use Rattle.frame.specs.Pass.{upto}
use Rattle.frame.specs.inner.Places.{history_of, samples_of}
use Rattle.frame.proofs.LawsPass.{carried}
use Rattle.frame.proofs.pass.run_pass.Given as goal

abbrev pub invariant-loop-i : goal.invariant-loop-i
invariant-loop-i l =
    (length l.nibbles ≡ 14)
    × (length l.samples ≡ 14)
    × (l.distance ≤ l.i * 4294967296)
    × (upto l.pair.c0 l.pair.c1 (history_of l.frame.samples) (samples_of l.frame.samples) l.p.value l.i ≡ carried l.s0 l.s1 (take l.i l.nibbles) (take l.i l.samples) l.overflow l.distance)
