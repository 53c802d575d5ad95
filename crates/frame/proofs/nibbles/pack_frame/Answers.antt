-- `pack_frame` meets its contract.
use Rattle.std.proofs.Common.{◌≡◌, ℕ, ◌+◌, ◌*◌, refl, sym, ap₂, ◌∙◌, take, length-set, rules, arith, w8}
use Rattle.std.proofs.Math.Facts.{to_z-of_z}
use native.Mathlib.Nat.{le_of_eq}
use lib.Seq.{take_all}
use lib.IntN.{pos}
use lib.ListN.{get_or}
use mir.Val.{SFits}
use Rattle.frame.specs.Frame.{byte_of, pack_frame}
use Rattle.frame.proofs.LawsNibbles.{pack-more}
use Rattle.frame.proofs.nibbles.pack_frame.Goals as goal

pub loop-k-init : goal.loop-k-init
unfolding pack_frame
loop-k-init c = (refl, refl)

pub low_four-hi-requires : goal.low_four-hi-requires
low_four-hi-requires c =
    let f : SFits w8 (get_or c.args.nibbles (2 * c.loop-k.k) (pos 0)) = search rules in rw (to_z-of_z f) (c.requires (2 * c.loop-k.k) (omega arith))

pub low_four-lo-requires : goal.low_four-lo-requires
low_four-lo-requires c =
    let f : SFits w8 (get_or c.args.nibbles (2 * c.loop-k.k + 1) (pos 0)) = search rules in rw (to_z-of_z f) (c.requires (2 * c.loop-k.k + 1) (omega arith))

pub loop-k-preserved : goal.loop-k-preserved
unfolding byte_of
loop-k-preserved c =
    let f : SFits w8 (get_or c.args.nibbles (2 * c.loop-k.k) (pos 0)) = search rules in
    let g : SFits w8 (get_or c.args.nibbles (2 * c.loop-k.k + 1) (pos 0)) = search rules in
    let hi = rw (to_z-of_z f) at c.low_four-hi.ensures.bits in
    let lo = rw (to_z-of_z g) at c.low_four-lo.ensures.bits in (
      simp length-set c.loop-k.invariant.0,
      pack-more c.args.header c.args.nibbles c.loop-k.k c.loop-k.out _ (omega arith) c.loop-k.invariant.1 (ap₂ (λ (x y : ℕ). x * 16 + y) hi lo),
    )

pub returns : goal.returns
returns c =
    let e : c.loop-k.k ≡ 7 = omega arith in
    let t : take 8 c.loop-k.out ≡ c.loop-k.out = take_all 8 c.loop-k.out (le_of_eq c.loop-k.invariant.0) in
    sym t ∙ (rw e at c.loop-k.invariant.1)
