-- `show` meets its contract.
use Rattle.std.proofs.Common.{◌≡◌, ℕ, ◌+◌, ◌-◌, refl, ap, ◌∙◌, subst, rules, arith, w16, w32}
use Rattle.std.proofs.Math.Facts.{to_z-of_z}
use lib.IntN.{pos}
use lib.ListN.{get_or}
use mir.Val.{SFits, to_z}
use Rattle.whole.proofs.Clamping.{clamp-library}
use Rattle.frame.specs.inner.Seen.{most_of, distance_of}
use Rattle.frame.proofs.LawsEnds.{library-max}
use Rattle.frame.proofs.LawsOrder.{none_below}
use Rattle.frame.proofs.LawsShow.{SeenTo, seen_more, seen_all}
use Rattle.frame.proofs.seen.show.Goals as goal

pub loop-i-init : goal.loop-i-init
unfolding most_of distance_of
loop-i-init c = record {
  length-is = refl;
  nibble-at = λ j m. absurd (none_below j m);
  top = 0;
  most-is = refl;
  top-le = omega arith;
  top-is = λ m. refl;
  clear = λ q j m. absurd (none_below j m);
  high_le = omega arith;
  low-le = omega arith;
  distance_is = refl;
}

pub loop-i-preserved : goal.loop-i-preserved
loop-i-preserved c =
    let fs = c.args.frame.now.samples in
    let room = c.args.room.now in
    let l = c.loop-i in
    let fw : SFits w32 (get_or room.w l.i (pos 0)) = search rules in
    let fs2 = c.args.frame.now.padded.fit.at (l.i + 2) (omega arith) in
    let fr : SFits w16 (get_or room.s l.i (pos 0)) = search rules in
    let n = rw (to_z-of_z fw) at c.narrowed_steps-n.ensures in
    let fn : SFits w16 c.narrowed_steps-n.result = record { sfits = c.narrowed_steps-n.type_inv } in
    let k = (rw (to_z-of_z fn) at c.clamp.ensures.value) ∙ clamp-library 7 _ in
    let f = rw (to_z-of_z fn) at c.folded.ensures in
    let ff : SFits w16 c.folded.result = record { sfits = c.folded.type_inv } in
    let h = (rw (to_z-of_z ff) at c.max-most.ensures.value) ∙ library-max _ _ in
    let t = rw (to_z-of_z fw) at c.near_or-near.ensures in
    let e = rw (to_z-of_z fs2, to_z-of_z fr) at c.squared_difference-e.ensures in
    let more = seen_more fs room.w room.s c.args.p.value l.nibbles _ l.near l.high l.low l.i _ _ _ _ _ _ (omega arith) n k f h t e (omega arith) l.invariant in
    let fk : SFits w16 c.clamp.result = record { sfits = c.clamp.type_inv } in
    let fh : SFits w16 c.max-most.result = record { sfits = c.max-most.type_inv } in
    rw (to_z-of_z fk, to_z-of_z fh) more

pub returns-then-most-lt256 : goal.returns-then-most-lt256
returns-then-most-lt256 c =
    let d = c.args.frame.now in
    let room = c.args.room.now in
    let l = c.loop-i in
    let e : l.i ≡ 16 = omega arith in
    let u = subst (λ (n : ℕ). SeenTo d.samples room.w room.s c.args.p.value l.nibbles (to_z w16 l.most-bits) l.near l.high l.low n) e l.invariant in
    let o = c.from.ensures ∙ c.saturating_sub.ensures ∙ ap (λ (n : ℕ). n - 7) c.unsigned_abs.ensures.value in
    rw (c.from-then-most-lt256.ensures, c.from-then-most-lt256-2.ensures)
    (seen_all d.samples room.w room.s c.args.p.value _ _ l.near l.high l.low _ d.padded room.spare c.if-apart.true c.if-most-lt256.true o u)
