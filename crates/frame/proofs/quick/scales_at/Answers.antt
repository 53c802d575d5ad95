-- `scales_at` meets its contract: each value of the code with its number and its size.
use mathlib.Core.Path.{◌≡◌, ap, ◌∙◌}
use Prim.Native.Nat.{ℕ, ◌-◌, ◌*◌, ◌%◌, ◌^◌, ◌≤◌}
use native.Mathlib.Omega.{arith}
use lib.IntN.{pos, ◌-ℤ◌}
use mir.Syntax.{w64}
use Rattle.whole.proofs.Differences.{diff-pos, diff-sub, diff-eq}
use Rattle.whole.proofs.SignedLocals.{Is, is-lit, is_mul, chk-mul, is-add, chk-add, is-sub, chk-sub}
use Rattle.frame.specs.inner.Quick.{fine_scale}
use Rattle.frame.proofs.LawsQuick.{is-shl-64, fine-scale-pos}
use Rattle.frame.proofs.quick.scales_at.Goals as goal

u-is : (p : ℕ) → p ≤ 12 → Is w64 ((4294967296 * 2 ^ p) % 18446744073709551616) (pos (4294967296 * 2 ^ p)) 17592186044416
u-is p h = is-shl-64 4294967296 p h tt

pub overflow_mul-result : goal.overflow_mul-result
overflow_mul-result c = chk-mul (is-lit w64 2048 tt) (u-is c.args.p.value c.args.p.most) tt

pub overflow_sub-result : goal.overflow_sub-result
overflow_sub-result c = chk-sub (is_mul (is-lit w64 2048 tt) (u-is c.args.p.value c.args.p.most) tt) (is-lit w64 1 tt) tt

pub overflow_mul-result-2 : goal.overflow_mul-result-2
overflow_mul-result-2 c = chk-mul (is-lit w64 32768 tt) (u-is c.args.p.value c.args.p.most) tt

pub overflow_mul-result-3 : goal.overflow_mul-result-3
overflow_mul-result-3 c = chk-mul (is-lit w64 30720 tt) (u-is c.args.p.value c.args.p.most) tt

pub overflow_mul-result-4 : goal.overflow_mul-result-4
overflow_mul-result-4 c = chk-mul (is-lit w64 1024 tt) (u-is c.args.p.value c.args.p.most) tt

pub overflow_add-result : goal.overflow_add-result
overflow_add-result c = chk-add (is_mul (is-lit w64 1024 tt) (u-is c.args.p.value c.args.p.most) tt) (is-lit w64 4400193994752 tt) tt

pub overflow_mul-result-5 : goal.overflow_mul-result-5
overflow_mul-result-5 c = chk-mul (is-lit w64 16384 tt) (u-is c.args.p.value c.args.p.most) tt

pub overflow_sub-result-2 : goal.overflow_sub-result-2
overflow_sub-result-2 c = chk-sub (is_mul (is-lit w64 16384 tt) (u-is c.args.p.value c.args.p.most) tt) (is-lit w64 4400193994752 tt) tt

pub returns : goal.returns
returns c =
    let u = 2 ^ c.args.p.value in
    let f : 2048 * (4294967296 * u) ≡ fine_scale c.args.p.value = omega arith in
    let h : 1024 * (4294967296 * u) ≡ 4398046511104 * u = omega arith in
    let e : 16384 * (4294967296 * u) ≡ 70368744177664 * u = omega arith in
    record {
      mask_is = (is-sub (is_mul (is-lit w64 2048 tt) (u-is c.args.p.value c.args.p.most) tt) (is-lit w64 1 tt) tt).is
          ∙ ap (λ (n : ℕ). pos n -ℤ pos 1) f ∙ diff-eq (diff-sub (diff-pos (fine_scale c.args.p.value)) (diff-pos 1)) (diff-pos (fine_scale c.args.p.value - 1)) (omega (arith, fine-scale-pos c.args.p.value));
      all-is = (is_mul (is-lit w64 32768 tt) (u-is c.args.p.value c.args.p.most) tt).is ∙ ap pos (omega arith);
      top-is = (is_mul (is-lit w64 30720 tt) (u-is c.args.p.value c.args.p.most) tt).is ∙ ap pos (omega arith);
      half_is = (is-add (is_mul (is-lit w64 1024 tt) (u-is c.args.p.value c.args.p.most) tt) (is-lit w64 4400193994752 tt) tt).is ∙ ap pos (omega arith);
      eight_is = (is-sub (is_mul (is-lit w64 16384 tt) (u-is c.args.p.value c.args.p.most) tt) (is-lit w64 4400193994752 tt) tt).is ∙ ap (λ (n : ℕ). pos n -ℤ pos 4400193994752) e;
    }
