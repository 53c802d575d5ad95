-- The Rust's own sums of products (`inner_product_merge`, `outer_product_merge`), one operation of lib.Ieee for each of its operations. Definitions only.
--     vec_out[i] = 0.0;  for x in 0..14 { vec_out[i] -= ((pcm[14 + x - i] as i32) * (pcm[14 + x] as i32)) as f64; }
--     mtx_out[x][y] = 0.0;  for z in 0..14 { mtx_out[x][y] += ((pcm[14 + z - x] as i32) * (pcm[14 + z - y] as i32)) as f64; }
use Rattle.std.specs.Prelude.{ℕ, zero, suc, ◌+◌, ◌-◌, List, ℤ, pos, ◌*ℤ◌, slice_index_or, Float}
use Rattle.std.specs.Float.{binary64}
use Rattle.std.specs.Float.Ieee.{of_int, add, sub}

-- a product of two samples, as f64
abbrev pub product : List ℤ → ℕ → ℕ → ℕ → Float
product h a b k = of_int binary64 (slice_index_or h (14 + k - a) (pos 0) *ℤ slice_index_or h (14 + k - b) (pos 0))

-- the first k turns of the first loop
unfoldable pub lessened : List ℤ → ℕ → ℕ → ℕ → Float
lessened h a b zero = of_int binary64 (pos 0)
lessened h a b (suc k) = sub binary64 (lessened h a b k) (product h a b k)

-- the first k turns of the second loop
unfoldable pub raised : List ℤ → ℕ → ℕ → ℕ → Float
raised h a b zero = of_int binary64 (pos 0)
raised h a b (suc k) = add binary64 (raised h a b k) (product h a b k)
