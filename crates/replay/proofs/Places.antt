-- Places of numbers in a line.
use Prim.Native.Nat.{ℕ, suc, ◌+◌, ◌*◌, ◌≤◌, ◌<◌}
use native.Mathlib.Nat.{mul-le-mul_left, mul-suc}
use native.Mathlib.Omega.{arith}

-- number i of n is in a line that has all of them
pub place_within : (a d i n m : ℕ) → i < n → a + d * n ≤ m → a + d * i + d ≤ m
place_within a d i n m h k =
    let p : d * suc i ≤ d * n = mul-le-mul_left d h in
    omega (arith, p, mul-suc d i)
