use Rattle.std.proofs.Common.{◌≡◌, ◌+◌, ◌-◌, length, take, drop, rules}
use Rattle.block.proofs.LawsFrame.{frame-into}
use Rattle.block.proofs.play_frame.Goals as goal

pub returns : goal.returns
returns c =
    let a = c.args in
    let n = c.new-filter.ensures in
    let k : length (take (a.to + a.count - a.to) (drop a.to a.out.now)) ≡ a.count = search rules in
    let p = rw (k, n.newest, n.older, n.steps) at c.play_from_nibble.ensures in
    frame-into a.bytes.now a.at a.count a.coefficients a.context a.out.now a.to c.play_from_nibble.result c.play_from_nibble.new.out c.requires.1 p.left p.stored
