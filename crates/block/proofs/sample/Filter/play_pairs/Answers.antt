use Rattle.std.proofs.Common.{◌≡◌, ◌*◌, length, arith, rules, refl, sym, ◌∙◌}
use mir.Facts.{to_z-of_z}
use mir.Syntax.{w16}
use mir.Val.{SFits}
use Rattle.block.specs.inner.Frames.{nibbles_from}
use Rattle.block.specs.inner.Nibbles.{play_nibbles, decode_nibbles}
use Rattle.block.proofs.LawsFrame.{from-length, pair-more, pair-stored}
use Rattle.block.proofs.LawsStores.{stored-whole}
use Rattle.block.proofs.sample.Filter.play_pairs.Goals as goal

pub loop-j-init : goal.loop-j-init
unfolding play_nibbles decode_nibbles nibbles_from
loop-j-init c = record { newest = refl; stored = refl }

pub loop-j-preserved : goal.loop-j-preserved
loop-j-preserved c =
    let a = c.args in
    let f = a.self in
    let j = c.loop-j.j in
    let x = c.advance-first.result in
    let y = c.advance-history.result in
    let m = pair-more a.bytes.now j f.c0 f.c1 f.scale a.history c.loop-j.history c.loop-j.invariant.newest x y c.advance-first.ensures c.advance-history.ensures in
    let xf : SFits w16 x.newest = search rules in
    let yf : SFits w16 y.newest = search rules in
    let n = from-length a.bytes.now 0 f.c0 f.c1 f.scale a.history (2 * j) in
    record {
      newest = rw m;
      stored = rw (to_z-of_z xf, to_z-of_z yf, c.loop-j.invariant.stored, m) (pair-stored a.out.now _ j x.newest y.newest n);
    }

pub returns : goal.returns
returns c =
    let a = c.args in
    let f = a.self in
    let d : 2 * c.loop-j.j ≡ length a.out.now = omega arith in
    let i = rw d at c.loop-j.invariant in
    record { left = sym i.newest; stored = i.stored ∙ stored-whole a.out.now _ (from-length a.bytes.now 0 f.c0 f.c1 f.scale a.history (length a.out.now)) }
