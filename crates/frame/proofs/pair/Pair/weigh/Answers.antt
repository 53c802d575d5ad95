-- `weigh` meets its contract: the sum fits in 32 bits, since the pair is within its limit.
use Rattle.std.proofs.Common.{◌≡◌, rules, ap₂, w16, w32}
use lib.IntN.{ℤ, ◌+ℤ◌, ◌*ℤ◌}
use mir.Val.{SFits, to_z, of_z}
use Rattle.whole.proofs.SignedLocals.{Is, is_call, is_mul, abs-sfits}
use Rattle.frame.specs.Estimate.{weigh}
use Rattle.frame.proofs.LawsEstimate.{weigh-size}
use Rattle.frame.proofs.LawsFloor.{fits-call}
use Rattle.frame.proofs.pair.Pair.weigh.Goals as goal

-- a product of two numbers of 16 bits
product : (r s : ℤ) {x y : ℤ} → r ≡ x → s ≡ y → SFits w16 x → SFits w16 y → Is w32 (of_z w32 (to_z w32 (of_z w32 r) *ℤ to_z w32 (of_z w32 s))) (x *ℤ y) 1073741824
product r s d e f g = is_mul (is_call {w = w32} d (abs-sfits f) tt) (is_call {w = w32} e (abs-sfits g) tt) tt

pub overflow_add-result : goal.overflow_add-result
unfolding weigh
overflow_add-result c =
    let a = c.args in
    let f : SFits w16 a.self.c0 = search rules in
    let g : SFits w16 a.self.c1 = search rules in
    fits-call (ap₂ ◌+ℤ◌ (product c.from.result c.from-2.result (search rules) (search rules) f c.ranges.previous).is (product c.from-3.result c.from-4.result (search rules) (search rules) g c.ranges.before).is)
    (weigh-size a.self.c0 a.self.c1 a.previous a.before a.self.bounded c.ranges.previous c.ranges.before) tt

pub returns : goal.returns
unfolding weigh
returns c =
    let a = c.args in
    let f : SFits w16 a.self.c0 = search rules in
    let g : SFits w16 a.self.c1 = search rules in
    (is_call {w = w32} (ap₂ ◌+ℤ◌ (product c.from.result c.from-2.result (search rules) (search rules) f c.ranges.previous).is (product c.from-3.result c.from-4.result (search rules) (search rules) g c.ranges.before).is)
    (weigh-size a.self.c0 a.self.c1 a.previous a.before a.self.bounded c.ranges.previous c.ranges.before) tt).is
