use Rattle.std.proofs.Common.{◌≡◌, ◌+◌, ◌/◌, ◌<◌, length, rules, length-drop}
use lib.ListN.{length-set}
use mir.Facts.{to_z-of_z}
use mir.Syntax.{w16}
use mir.Val.{SFits}
use Rattle.whole.proofs.Stores.{part-all}
use Rattle.block.proofs.LawsOn.{none-on, even-on, odd-on}
use Rattle.block.proofs.sample.Filter.play_from_nibble.Goals as goal

pub returns-then-from-eq0 : goal.returns-then-from-eq0
returns-then-from-eq0 c =
    let a = c.args in
    let f = a.self in
    let p = c.play_nibbles in
    let l = rw part-all at p.ensures in
    let e = even-on f.c0 f.c1 f.scale a.bytes.now a.from a.out.now a.history p.result p.new.out c.if-from-eq0.true l.left l.stored in
    record { left = e.0; stored = e.1 }

pub returns-then-is_empty : goal.returns-then-is_empty
returns-then-is_empty c =
    let a = c.args in
    let f = a.self in
    let n : length a.out.now ≡ 0 = search rules in
    let e = none-on f.c0 f.c1 f.scale a.bytes.now a.from a.out.now a.history n in
    record { left = e.0; stored = e.1 }

pub returns : goal.returns
returns c =
    let a = c.args in
    let f = a.self in
    let p = c.play_nibbles-2 in
    let x = c.advance-low.result in
    let xf : SFits w16 x.newest = search rules in
    let n : 0 < length a.out.now = search rules in
    let l = rw (part-all a.bytes.now (a.from / 2 + 1), part-all _ 1, length-drop, length-set) at p.ensures in
    let e = odd-on f.c0 f.c1 f.scale a.bytes.now a.from a.out.now a.history x p.result p.new.out c.if-from-eq0.false n c.advance-low.ensures l.left l.stored in
    record { left = e.0; stored = rw (to_z-of_z xf) e.1 }
