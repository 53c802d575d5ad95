-- `begun` meets its contract: each value of the code with its number and its size.
use mathlib.Core.Path.{ap₂}
use lib.IntN.{◌*ℤ◌}
use mir.Syntax.{w64}
use mir.Val.{to_z, of_z}
use mir.Facts.{to_z-of_z}
use Rattle.whole.proofs.SignedLocals.{Is, is-sized, is_call, is-add, chk-add, is-sub}
use Rattle.frame.proofs.quick.begun.Goals as goal

y-is : (c : goal.Start) → Is w64 (of_z w64 c.args.y) c.args.y 576460752303423488
y-is c = is-sized c.args.y c.requires.y_bound tt

e-is : (c : goal.Start) → Is w64 (of_z w64 c.args.e) c.args.e 576460752303423488
e-is c = is-sized c.args.e c.requires.e_bound tt

part-is : (c : goal.Start) → Is w64 (of_z w64 (to_z w64 (of_z w64 c.args.c1) *ℤ to_z w64 (of_z w64 c.args.older))) (c.args.c1 *ℤ c.args.older) 4611686018427387904
part-is c = is_call (ap₂ ◌*ℤ◌ (to_z-of_z c.ranges.c1) (to_z-of_z c.ranges.older)) c.requires.older_bound tt

pub overflow_add-result : goal.overflow_add-result
overflow_add-result c = chk-add (y-is c) (is-sub (e-is c) (part-is c) tt) tt

pub returns : goal.returns
returns c = (is-add (y-is c) (is-sub (e-is c) (part-is c) tt) tt).is
