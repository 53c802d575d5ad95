-- Products of samples are small.
use Rattle.std.proofs.Common.{◌≤◌, ℤ, ◌*ℤ◌, nat_abs, mul-le-mul, w16, SFits}
use Rattle.whole.proofs.SignedLocals.{abs-mul, abs-sfits}

pub small_product : (x y : ℤ) → SFits w16 x → SFits w16 y → nat_abs (x *ℤ y) ≤ 1073741824
small_product x y f g = rw abs-mul (mul-le-mul (abs-sfits f) (abs-sfits g))
