use Rattle.std.proofs.Common.{◌+◌, ◌-◌, ◌*◌, ◌/◌, ◌%◌, ◌≤◌, ◌∙◌, length, ap, arith}
use lib.ListN.{length-drop}
use Rattle.whole.proofs.Stores.{part-all}
use Rattle.block.proofs.LawsOn.{room-rest, room-frame, room-later, on-made}
use Rattle.block.proofs.part.play_on.Goals as goal

pub play_rest-requires : goal.play_rest-requires
play_rest-requires c =
    let a = c.args in
    let p = c.requires in
    let e : a.len ≤ 16 * (a.from / 16) + 16 = omega arith in
    (p.0, p.1, e, p.2, room-rest a.from a.len (length a.out.now) p.0 (omega arith) e p.3)

pub play_rest-after-requires : goal.play_rest-after-requires
play_rest-after-requires c =
    let a = c.args in
    let p = c.requires in
    let q = room-frame a.from a.len (length a.out.now) p.0 (omega arith) p.3 in
    (p.0, omega arith, omega arith, omega arith, omega (arith, q))

pub slice_bounds-play_into-count-2 : goal.slice_bounds-play_into-count-2
slice_bounds-play_into-count-2 c =
    let a = c.args in
    let p = c.requires in
    let q = room-frame a.from a.len (length a.out.now) p.0 (omega arith) p.3 in
    omega (arith, q)

pub slice_bounds-play_into-start-2 : goal.slice_bounds-play_into-start-2
slice_bounds-play_into-start-2 c =
    let a = c.args in
    let p = c.requires in
    let q = room-frame a.from a.len (length a.out.now) p.0 (omega arith) p.3 in
    omega (arith, q)

pub play_into-requires : goal.play_into-requires
play_into-requires c =
    let a = c.args in
    let p = c.requires in
    let rest = 16 - a.from % 16 in
    let o = c.play_rest-after.new.out in
    let b = ap length (part-all a.bytes.now ((a.from + rest) / 2)) ∙ length-drop ((a.from + rest) / 2) a.bytes.now in
    let l = room-later a.from a.len (length a.out.now) p.0 (omega arith) p.3 in
    let d = ap length (part-all o rest) ∙ length-drop rest o in
    (omega arith, omega (arith, b, p.2), omega (arith, l, d))

pub returns : goal.returns
returns c =
    let a = c.args in
    let p = c.requires in
    let r = c.play_rest-after in
    on-made a.bytes.now a.coefficients a.from a.len a.context r.result c.with_header-next.result c.play_into.result a.out.now _ _
    p.0 (omega arith) p.3 r.ensures c.with_header-next.ensures c.play_into.ensures
