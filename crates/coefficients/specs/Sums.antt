-- Whole sums of products of samples. Definitions only.
use Rattle.std.specs.Prelude.{ℕ, zero, suc, ◌+◌, ◌-◌, List, ℤ, pos, ◌+ℤ◌, ◌-ℤ◌, ◌*ℤ◌, slice_index_or, Float}
use Rattle.std.specs.Float.{binary64}
use Rattle.std.specs.Float.Ieee.{of_int}
use Rattle.coefficients.specs.declared.merging.Vec3.{Vec3}
use Rattle.coefficients.specs.declared.ranges.Mat2.{Mat2}

-- the sum of h[14 + z - a] * h[14 + z - b] over the first k places z
unfoldable pub dot : List ℤ → ℕ → ℕ → ℕ → ℤ
dot h a b zero = pos 0
dot h a b (suc k) = dot h a b k +ℤ slice_index_or h (14 + k - a) (pos 0) *ℤ slice_index_or h (14 + k - b) (pos 0)

-- a sum as a number of binary64: exact, and +0 where it is 0
unfoldable pub lag : List ℤ → ℕ → ℕ → Float
lag h a b = of_int binary64 (dot h a b 14)

-- a negated sum likewise
unfoldable pub neg_lag : List ℤ → ℕ → ℕ → Float
neg_lag h a b = of_int binary64 (pos 0 -ℤ dot h a b 14)

-- inner_product_merge: the negated products of the frame with itself and with one and two samples earlier
unfoldable pub inner_product_merge : List ℤ → Vec3
inner_product_merge h = record { x0 = neg_lag h 0 0; x1 = neg_lag h 1 0; x2 = neg_lag h 2 0 }

-- outer_product_merge: the products of one and two samples earlier
unfoldable pub outer_product_merge : List ℤ → Mat2
outer_product_merge h = record { a11 = lag h 1 1; a12 = lag h 1 2; a21 = lag h 2 1; a22 = lag h 2 2 }
