use Rattle.std.proofs.Common.{◌≡◌, length, take}
use Rattle.clip.specs.Encoding.{left, feed_all}
use Rattle.clip.specs.inner.Asked.{Going}
use Rattle.clip.proofs.feeding.feed_all.Given as goal

abbrev pub invariant-loop-sample : goal.invariant-loop-sample
invariant-loop-sample l = record {
  so_far : left l.fed l.image ≡ feed_all (left l.fn.e l.fn.image) (take l.sample-index l.piece);
  going : Going l.fed l.sample-index (length l.piece) (length l.fn.image);
}
