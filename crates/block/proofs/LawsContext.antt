-- Laws of a header's predictor and scale.
use mathlib.Core.Path.{◌≡◌, ap, ◌∙◌}
use Prim.Native.Nat.{ℕ, ◌*◌, ◌%◌, ◌^◌, ◌≤◌, ◌<◌}
use native.Mathlib.Nat.{one-mul, mod-eq_of_lt, lt_of_le_of_lt}
use native.Mathlib.Omega.{arith}
use lib.Dec.{lit<}
use lib.Pow.{pow_mono}
use Rattle.block.specs.Context.{predictor, scale}

pub predictor-lt : (h : ℕ) → predictor h < 8
unfolding predictor
predictor-lt h = omega arith

pub scale-le : (h : ℕ) → scale h ≤ 32768
unfolding scale
scale-le h = pow_mono {i = h % 16} {j = 15} (omega arith)

-- the scale as a shift of 32 bits makes it
pub scale_word : (h : ℕ) → (1 * 2 ^ (h % 16)) % 2 ^ 32 ≡ scale h
unfolding scale
scale_word h =
    ap (λ (v : ℕ). v % 2 ^ 32) (one-mul (2 ^ (h % 16)))
    ∙ mod-eq_of_lt (lt_of_le_of_lt (scale-le h) (lit< tt))

-- exported: bits above the seventh say nothing
pub predictor-low : (h : ℕ) → predictor (h % 128) ≡ predictor h
unfolding predictor
predictor-low h = omega arith

pub scale-low : (h : ℕ) → scale (h % 128) ≡ scale h
unfolding scale
scale-low h =
    let e : h % 128 % 16 ≡ h % 16 = omega arith in
    ap (λ (n : ℕ). 2 ^ n) e
