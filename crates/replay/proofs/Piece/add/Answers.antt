use Rattle.std.proofs.Common.{rules}
use Rattle.replay.proofs.Pieces.{piece_grown}
use Rattle.replay.proofs.Piece.add.Goals as goal

pub returns : goal.returns
returns g c =
    let p = c.self.inside in
    rw (← c.self.view_is) (piece_grown p.samples c.args.samples.now c.copy_from_slice.new.self p.count g.row.N c.min-added.result c.self.invariant (search rules) (search rules) c.copy_from_slice.ensures.after)
