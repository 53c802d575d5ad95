use Rattle.std.proofs.Common.{ℕ, ◌%◌, length, arith}
use Rattle.std.proofs.lemmas.List.FromFn.{fill_by_all}
use Rattle.replay.specs.Buffers.{filled}
use Rattle.replay.proofs.buffers.fill.Goals as goal

pub returns : goal.returns
unfolding filled
returns c =
    fill_by_all (λ (k : ℕ). k % 251) c.loop-i.buffer (length c.args.buffer.now) 0 c.loop-i.invariant.0 (λ k h. c.loop-i.invariant.1 k (omega arith))
