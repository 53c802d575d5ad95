-- `is_first` meets its contract.
use Rattle.std.proofs.Common.{refl, sym, ap, ◌∙◌, arith, w16}
use Rattle.std.proofs.Math.Facts.{to_z-of_z}
use lib.IntN.{pos}
use lib.Signed.{le_z}
use mir.Val.{SFits}
use Rattle.frame.proofs.LawsEnds.{up-yes, up-no, up-end, sign-test}
use Rattle.frame.proofs.estimate.is_first.Goals as goal

pub loop-i-init : goal.loop-i-init
loop-i-init c = refl

pub returns-then-unsigned_abs-n : goal.returns-then-unsigned_abs-n
returns-then-unsigned_abs-n c =
    let f : SFits w16 c.difference_at-d.result = record { sfits = c.difference_at-d.type_inv } in
    let v = rw (to_z-of_z f, c.difference_at-d.ensures) at c.unsigned_abs.ensures.value in
    ap (le_z (pos 0)) (to_z-of_z f ∙ c.difference_at-d.ensures) ∙ sign-test _ ∙ up-yes _ _ _ _ _ _ c.loop-i.invariant (omega arith) (sym v ∙ c.if-unsigned_abs-n.true)

pub loop-i-preserved : goal.loop-i-preserved
loop-i-preserved c =
    let f : SFits w16 c.difference_at-d.result = record { sfits = c.difference_at-d.type_inv } in
    let v = rw (to_z-of_z f, c.difference_at-d.ensures) at c.unsigned_abs.ensures.value in
    up-no _ _ _ _ _ _ c.loop-i.invariant (omega arith) (λ e. c.if-unsigned_abs-n.false (v ∙ e))

pub returns : goal.returns
returns c = up-end _ _ _ _ _ _ c.loop-i.invariant (omega arith)
