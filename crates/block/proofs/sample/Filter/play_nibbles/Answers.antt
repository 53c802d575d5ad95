use Rattle.std.proofs.Common.{rules}
use mir.Facts.{to_z-of_z}
use mir.Syntax.{w16}
use mir.Val.{SFits}
use Rattle.block.proofs.LawsFrame.{even-played, odd-played}
use Rattle.block.proofs.sample.Filter.play_nibbles.Goals as goal

pub returns-then-count-eq0 : goal.returns-then-count-eq0
returns-then-count-eq0 c =
    let a = c.args in
    let f = a.self in
    let p = c.play_pairs-after in
    let e = even-played a.bytes.now a.out.now p.new.out f.c0 f.c1 f.scale a.history p.result p.ensures.left p.ensures.stored c.if-count-eq0.true in
    record { left = e.0; stored = e.1 }

pub returns : goal.returns
returns c =
    let a = c.args in
    let f = a.self in
    let p = c.play_pairs-after in
    let x = c.advance-last.result in
    let xf : SFits w16 x.newest = search rules in
    let e = odd-played a.bytes.now a.out.now p.new.out f.c0 f.c1 f.scale a.history p.result p.ensures.left p.ensures.stored c.if-count-eq0.false x c.advance-last.ensures in
    record { left = e.0; stored = rw (to_z-of_z xf) e.1 }
