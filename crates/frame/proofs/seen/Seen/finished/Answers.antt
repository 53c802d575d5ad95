-- `finished` meets its contract.
use Rattle.std.proofs.Common.{◌≡◌, ℕ, ◌<◌, refl, rules, arith, length, w8, w16}
use Rattle.std.proofs.Math.Facts.{to_z-of_z}
use mathlib.Core.List.{List}
use lib.IntN.{ℤ, pos}
use lib.ListN.{get_or}
use mir.Val.{SFits}
use Rattle.whole.proofs.SignedLocals.{sfits-abs}
use Rattle.frame.specs.Search.{finished}
use Rattle.frame.specs.inner.Nibbles.{InNibble}
use Rattle.frame.proofs.LawsNibbles.{nibble-size}
use Rattle.frame.proofs.LawsPlaces.{filled_more, filled-done}
use Rattle.frame.proofs.seen.Seen.finished.Goals as goal

pub loop-i-init : goal.loop-i-init
loop-i-init c = (refl, refl)

-- a nibble has 8 bits
nibble-fits : (ns : List ℤ) (i : ℕ) → ((k : ℕ) → k < 14 → InNibble (get_or ns k (pos 0))) → i < 14 → SFits w8 (get_or ns i (pos 0))
nibble-fits ns i r h = sfits-abs {n = 8} (nibble-size (r i h)) tt

pub overflow_cast-nibbles : goal.overflow_cast-nibbles
overflow_cast-nibbles c =
    let f : SFits w16 (get_or c.args.self.nibbles c.loop-i.i (pos 0)) = search rules in rw (to_z-of_z f) (nibble-fits c.args.self.nibbles c.loop-i.i c.requires (omega arith))

pub loop-i-preserved : goal.loop-i-preserved
loop-i-preserved c =
    let ns = c.args.self.nibbles in
    let ss = c.args.room.now.s in
    let i = c.loop-i.i in
    let f : SFits w16 (get_or ns i (pos 0)) = search rules in
    let g : SFits w16 (get_or ss i (pos 0)) = search rules in
    let l : length ns ≡ 16 = search rules in
    let m = c.args.room.now.spare.s-length in (
      rw (to_z-of_z f, to_z-of_z (nibble-fits ns i c.requires (omega arith)), c.loop-i.invariant.0) (filled_more 14 ns i (omega arith) (omega arith)),
      rw (to_z-of_z g, c.loop-i.invariant.1) (filled_more 14 ss i (omega arith) (omega arith)),
    )

pub returns : goal.returns
unfolding finished
returns c =
    let i = c.loop-i.i in
    rw (c.loop-i.invariant.0, c.loop-i.invariant.1, filled-done 14 c.args.self.nibbles i (omega arith) (omega arith), filled-done 14 c.args.room.now.s i (omega arith) (omega arith))
