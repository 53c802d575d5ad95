-- `trace` meets its contract: each value of the code with its number and its size.
use Rattle.std.proofs.Common.{◌≡◌, ◌*◌, ◌≤◌, ap, ap₂, ◌∙◌, arith, w32, w64}
use Rattle.std.proofs.Math.Facts.{to_z-of_z}
use lib.IntN.{ℤ, nat_abs, ◌-ℤ◌, ◌*ℤ◌}
use lib.Signed.{shr_z}
use mir.Val.{SFits, to_z, of_z}
use Rattle.whole.proofs.SignedLocals.{is_call, is-shr, sfits-abs}
use Rattle.frame.specs.inner.Quick.{traced_by}
use Rattle.frame.proofs.LawsFloor.{fits-call}
use Rattle.frame.proofs.LawsQuick.{shr_le}
use Rattle.frame.proofs.quick.trace.Goals as goal

module _ (g c0 newest : ℤ) (fg : SFits w64 g) (f0 : SFits w64 c0) (fn : SFits w64 newest) (b : nat_abs (c0 *ℤ newest) ≤ 4611686018427387904)
    (d : nat_abs (g -ℤ c0 *ℤ newest) ≤ 2017460224 * 4294967296) where
  product : to_z w64 (of_z w64 c0) *ℤ to_z w64 (of_z w64 newest) ≡ c0 *ℤ newest
  product = ap₂ ◌*ℤ◌ (to_z-of_z f0) (to_z-of_z fn)

  w-sum : to_z w64 (of_z w64 g) -ℤ to_z w64 (of_z w64 (to_z w64 (of_z w64 c0) *ℤ to_z w64 (of_z w64 newest))) ≡ g -ℤ c0 *ℤ newest
  w-sum = ap₂ ◌-ℤ◌ (to_z-of_z fg) (to_z-of_z {w = w64} (fits-call product b tt) ∙ product)

  w-is : to_z w64 (of_z w64 (to_z w64 (of_z w64 g) -ℤ to_z w64 (of_z w64 (to_z w64 (of_z w64 c0) *ℤ to_z w64 (of_z w64 newest))))) ≡ g -ℤ c0 *ℤ newest
  w-is = to_z-of_z {w = w64} (fits-call w-sum d tt) ∙ w-sum

  -- w in whole units
  whole_is : nat_abs (shr_z (g -ℤ c0 *ℤ newest) 4294967296) ≤ 2017460224
  whole_is = shr_le (g -ℤ c0 *ℤ newest) 2017460224 4294967296 (omega arith) d

  units-is : to_z w64 (of_z w64 (shr_z (to_z w64 (of_z w64 (to_z w64 (of_z w64 g) -ℤ to_z w64 (of_z w64 (to_z w64 (of_z w64 c0) *ℤ to_z w64 (of_z w64 newest)))))) 4294967296)) ≡ shr_z (g -ℤ c0 *ℤ newest) 4294967296
  units-is = (is-shr (is_call {w = w64} w-sum d tt) 4294967296 tt).is

pub overflow_sub-w : goal.overflow_sub-w
overflow_sub-w c =
    let a = c.args in
    let f = c.ranges in
    let r = c.requires in
    fits-call (w-sum a.g a.c0 a.newest f.g f.c0 f.newest r.newest_bound r.newest_bound_2) r.newest_bound_2 tt

pub overflow_cast-result : goal.overflow_cast-result
overflow_cast-result c =
    let a = c.args in
    let f = c.ranges in
    let r = c.requires in
    fits-call (units-is a.g a.c0 a.newest f.g f.c0 f.newest r.newest_bound r.newest_bound_2) (whole_is a.g a.c0 a.newest f.g f.c0 f.newest r.newest_bound r.newest_bound_2) tt

pub overflow_sub-result : goal.overflow_sub-result
overflow_sub-result c =
    let a = c.args in
    let f = c.ranges in
    let r = c.requires in
    let e = rw (w-is a.g a.c0 a.newest f.g f.c0 f.newest r.newest_bound r.newest_bound_2) at c.rest.ensures in
    fits-call (ap₂ ◌-ℤ◌ (to_z-of_z f.y) (to_z-of_z {w = w64} (record { sfits = c.rest.type_inv }) ∙ e)) r.mask_bound tt

pub returns : goal.returns
unfolding traced_by
returns c =
    let a = c.args in
    let f = c.ranges in
    let r = c.requires in
    let e = rw (w-is a.g a.c0 a.newest f.g f.c0 f.newest r.newest_bound r.newest_bound_2) at c.rest.ensures in
    let u = units-is a.g a.c0 a.newest f.g f.c0 f.newest r.newest_bound r.newest_bound_2 in
    let n : SFits w32 (shr_z (a.g -ℤ a.c0 *ℤ a.newest) 4294967296) = sfits-abs (whole_is a.g a.c0 a.newest f.g f.c0 f.newest r.newest_bound r.newest_bound_2) tt in
    let i = is-shr (is_call {w = w64} (ap₂ ◌-ℤ◌ (to_z-of_z f.y) (to_z-of_z {w = w64} (record { sfits = c.rest.type_inv }) ∙ e)) r.mask_bound tt) 8796093022208 tt in
    rw (u, to_z-of_z n) (ap (λ (z : ℤ). record { w = shr_z (a.g -ℤ a.c0 *ℤ a.newest) 4294967296; s = z }) i.is)
