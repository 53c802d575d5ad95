-- How many blocks a run of samples has, rounded up.
use mathlib.Core.Path.{◌≡◌}
use Prim.Native.Nat.{ℕ, suc, ◌+◌, ◌*◌, ◌/◌, ◌%◌, ◌≤◌, ◌<◌, min}
use native.Mathlib.Nat.{suc-mul, mul-le-mul, le_refl}
use native.Mathlib.Omega.{arith}
use Rattle.std.proofs.lemmas.Grind.{div_ceil_times}

-- a block that is counted begins within the run
pub begins-within : (n p b j : ℕ) → 0 < p → b ≡ n / p + min 1 (n % p) → j < b → j * p < n
begins-within n p b j h e t =
    let m : suc j * p ≤ b * p = mul-le-mul t (le_refl p) in
    let s = suc-mul j p in
    let d = (div_ceil_times n p h).1 in
    let k = rw e at m in
    omega (arith, k, s, d)

pub begins-at : (n p q j : ℕ) → p ≡ q → j * p < n → j * p ≡ min (j * q) n
begins-at n p q j e t = rw (← e) (omega arith)
