-- `nearest` meets its contract: half the scale is added, less one above zero, and the sum shifted.
use Rattle.std.proofs.Common.{ℕ, ◌≤◌, ◌+◌, ◌*◌, ◌^◌, ◌%◌, arith, ap, ◌∙◌, w64}
use Rattle.std.proofs.Math.Facts.{to_z-of_z}
use lib.Pow.{pow_pos}
use lib.IntN.{pos, ◌+ℤ◌, ◌-ℤ◌, ◌*ℤ◌}
use lib.Signed.{shr_z}
use mir.Val.{to_z, of_z}
use Rattle.whole.proofs.SignedLocals.{Is, is-sized, is-lit, is-one-shl, is_mul, is-add, is-sub, is-shr}
use Rattle.frame.proofs.LawsQuantise.{scale-is, down_pos, down-neg}
use Rattle.frame.proofs.quantise.nearest.Goals as goal

half_is : (p : ℕ) → p ≤ 12 → Is w64 (of_z w64 (pos 1024 *ℤ to_z w64 ((1 * 2 ^ p) % 18446744073709551616))) (pos 1024 *ℤ pos (2 ^ p)) 4194304
half_is p h = is_mul (is-lit w64 1024 tt) (is-one-shl w64 p 12 h tt) tt

pub returns-then-above : goal.returns-then-above
returns-then-above c =
    let d = c.args.d in
    let p = c.args.p.value in
    let s = is-add (is-sized {w = w64} d c.requires tt) (half_is p c.args.p.most) tt in
    (is-shr (is-sub s (is-lit w64 1 tt) tt) (2 ^ (p + 11)) tt).is ∙ ap (λ (m : ℕ). shr_z (d +ℤ pos (1024 * 2 ^ p) -ℤ pos 1) m) (scale-is p)
    ∙ down_pos d (2048 * 2 ^ p) (1024 * 2 ^ p) (omega (arith, pow_pos p)) (omega arith) (rw (to_z-of_z c.ranges.d) at c.if-above.true)

pub returns-else-above : goal.returns-else-above
returns-else-above c =
    let d = c.args.d in
    let p = c.args.p.value in
    let s = is-add (is-sized {w = w64} d c.requires tt) (half_is p c.args.p.most) tt in
    (is-shr s (2 ^ (p + 11)) tt).is ∙ ap (λ (m : ℕ). shr_z (d +ℤ pos (1024 * 2 ^ p)) m) (scale-is p)
    ∙ down-neg d (2048 * 2 ^ p) (1024 * 2 ^ p) (omega (arith, pow_pos p)) (omega arith) (rw (to_z-of_z c.ranges.d) at c.if-above.false)
