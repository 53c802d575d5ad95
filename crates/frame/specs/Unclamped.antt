-- The Rust's own expression for the number that is clamped to a nibble (`try_coefficients` of vgaudio/encode.rs), one operation
-- of Rattle.std.specs.Float.Ieee for each of its operations. Definitions only.
--     let scale = (1 << power) * 2048;
--     let unclamped = if distance > 0 {
--         ((distance as f32 / scale as f32) as f64 + 0.4999999) as i32
--     } else {
--         ((distance as f32 / scale as f32) as f64 - 0.4999999) as i32
--     };
use Rattle.std.specs.Prelude.{false, cond, ℕ, ◌*◌, ◌^◌, Float, ℤ, pos}
use Rattle.std.specs.Float.{binary32, binary64}
use Rattle.std.specs.Float.Ieee.{round, add, sub, div, of_int, to_signed}
use Rattle.std.specs.Int.Signed.{lt_z}

-- `n as f32` of an i32: the nearest f32, a tie to the even one
abbrev pub as_f32 : ℤ → Float
as_f32 n = of_int binary32 n

-- `x as f64` of an f32: the value itself, since an f64 holds what an f32 holds
abbrev pub as_f64 : Float → Float
as_f64 x = x

-- `x as i32` of an f64: cut towards zero, the nearer end of the range where it is outside, 0 for a NaN
abbrev pub as_i32 : Float → ℤ
as_i32 x = to_signed 31 x

-- `0.4999999`: the f64 nearest to 4999999 / 10000000
unfoldable pub near_half : Float
near_half = round binary64 false 4999999 10000000

-- `distance as f32 / scale as f32`, in f32
unfoldable pub quotient : ℤ → ℤ → Float
quotient distance scale = div binary32 (as_f32 distance) (as_f32 scale)

-- `unclamped`; the sum and the difference are in f64
unfoldable pub unclamped : ℤ → ℕ → ℤ
unclamped distance power =
    let scale = pos (2 ^ power * 2048) in
    cond (lt_z (pos 0) distance) (as_i32 (add binary64 (as_f64 (quotient distance scale)) near_half)) (as_i32 (sub binary64 (as_f64 (quotient distance scale)) near_half))
