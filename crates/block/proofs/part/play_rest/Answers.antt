use Rattle.std.proofs.Common.{◌≡◌, ◌-◌, length, take, arith, rules}
use Rattle.block.proofs.LawsOn.{rest-into}
use Rattle.block.proofs.part.play_rest.Goals as goal

pub returns : goal.returns
returns c =
    let a = c.args in
    let r = c.requires in
    let n = c.new-filter.ensures in
    let k : length (take (a.len - a.from) a.out.now) ≡ a.len - a.from = search rules in
    let p = rw (k, n.newest, n.older, n.steps) at c.play_from_nibble.ensures in
    rest-into a.bytes.now a.coefficients a.from a.len a.context a.out.now c.play_from_nibble.result c.play_from_nibble.new.out r.0 (omega arith) r.2 (omega arith) p.left p.stored
