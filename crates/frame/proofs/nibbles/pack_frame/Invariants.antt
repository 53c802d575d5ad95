-- The bytes so far are the definition's.
use Rattle.std.proofs.Common.{◌≡◌, ◌+◌, length, take}
use Rattle.frame.specs.Frame.{pack_frame}
use Rattle.frame.proofs.nibbles.pack_frame.Given as goal

abbrev pub invariant-loop-k : goal.invariant-loop-k
invariant-loop-k l = (length l.out ≡ 8) × (take (l.k + 1) l.out ≡ pack_frame l.header l.nibbles l.k)
