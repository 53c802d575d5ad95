use Rattle.std.proofs.Common.{◌≡◌, ◌<◌, take, fold}
use Rattle.replay.specs.Buffers.{digest_step}
use Rattle.replay.proofs.buffers.digest.Given as goal

abbrev pub invariant-loop-byte : goal.invariant-loop-byte
invariant-loop-byte l = (l.sum ≡ fold digest_step 0 (take l.byte-index l.bytes)) × (l.sum < 1099511627689)
