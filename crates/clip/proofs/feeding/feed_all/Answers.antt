use Rattle.std.proofs.Common.{◌∙◌, arith, ap}
use Rattle.std.proofs.lemmas.Int.{to_z-of_z}
use Rattle.std.proofs.lemmas.List.{take_all}
use Rattle.clip.specs.Encoding.{left, feed_all}
use Rattle.clip.proofs.Pieces.{turn-going, turn}
use Rattle.clip.proofs.feeding.feed_all.Goals as goal

pub push-requires : goal.push-requires
push-requires c =
    let l = c.loop-sample in
    turn-going (left c.args.e c.args.image.now) c.args.piece.now l.sample-index l.fed l.image c.loop-sample-test.true l.invariant.going l.auto.image

pub loop-sample-preserved : goal.loop-sample-preserved
loop-sample-preserved c =
    let l = c.loop-sample in
    let t = turn (left c.args.e c.args.image.now) c.args.piece.now l.sample-index l.fed l.image c.loop-sample-test.true l.invariant.going l.auto.image c.push.new.self c.push.new.image l.invariant.so_far (grind (arith, to_z-of_z)) in
    record { so_far = t.0; going = t.1 }

pub returns : goal.returns
returns c = c.loop-sample.invariant.so_far ∙ ap (feed_all (left c.args.e c.args.image.now)) (take_all _ _ c.loop-sample-test.false)
