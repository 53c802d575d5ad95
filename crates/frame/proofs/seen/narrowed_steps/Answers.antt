-- `narrowed_steps` meets its contract: eight steps are taken off before the shift.
use Rattle.std.proofs.Common.{ℕ, ◌+◌, ◌*◌, ◌^◌, ap, ◌∙◌, w16, w64}
use Rattle.std.proofs.Math.Facts.{to_z-of_z}
use lib.IntN.{pos, ◌-ℤ◌}
use lib.Signed.{shr_z}
use Rattle.whole.specs.Whole.{clamp16}
use Rattle.whole.proofs.SignedLocals.{is-sized, is-sub, chk-sub, is-shr}
use Rattle.frame.proofs.LawsQuantise.{scale-is}
use Rattle.frame.proofs.LawsQuick.{is-shl}
use Rattle.frame.proofs.LawsShow.{steps-is}
use Rattle.frame.proofs.seen.narrowed_steps.Goals as goal

pub overflow_sub-w : goal.overflow_sub-w
overflow_sub-w c = chk-sub (is-sized c.args.w c.requires tt) (is-shl 16384 c.args.p.value c.args.p.most tt) tt

pub returns : goal.returns
returns c =
    let w = c.args.w in
    let p = c.args.p.value in
    let v = (is-shr (is-sub (is-sized w c.requires tt) (is-shl 16384 p c.args.p.most tt) tt) (2 ^ (p + 11)) tt).is ∙ ap (λ (m : ℕ). shr_z (w -ℤ pos (16384 * 2 ^ p)) m) (scale-is p) ∙ steps-is w p in
    rw (to_z-of_z {w = w16} {z = c.clamp_i16.result} (record { sfits = c.clamp_i16.type_inv }))
    (c.clamp_i16.ensures ∙ ap clamp16 (to_z-of_z {w = w64} {z = c.from.result} (record { sfits = c.from.type_inv }) ∙ c.from.ensures ∙ v))
