-- `fine_of` meets its contract.
use Rattle.std.proofs.Common.{◌≡◌, ℕ, ◌+◌, refl, get_or, length-set, rules, arith, w16, w64}
use mathlib.Core.List.{List}
use lib.IntN.{ℤ, pos, ◌*ℤ◌}
use mir.Val.{SFits}
use Rattle.whole.proofs.SignedLocals.{is_call, is-lit, is_mul, abs-sfits}
use Rattle.frame.proofs.LawsArrays.{stored_more}
use Rattle.frame.proofs.places.fine_of.Goals as goal

-- the product at a place
abbrev product : List ℤ → ℕ → ℤ
product fs j = pos 8796093020160 *ℤ get_or fs (j + 2) (pos 0)

pub loop-i-preserved : goal.loop-i-preserved
loop-i-preserved c =
    let fs = c.args.frame.now in
    let l = c.loop-i in
    let f : SFits w16 (get_or fs (l.i + 2) (pos 0)) = search rules in
    let r : c.from.result ≡ get_or fs (l.i + 2) (pos 0) = search rules in
    let e = (is_mul (is-lit w64 8796093020160 tt) (is_call {w = w64} r (abs-sfits f) tt) tt).is in
    (simp length-set l.invariant.0, rw e (stored_more (product fs) l.out l.i _ (omega (arith, l.invariant.0)) refl l.invariant.1))

pub returns : goal.returns
returns c = record { at = λ i h. c.loop-i.invariant.1 i (omega arith) }
