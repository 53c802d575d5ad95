-- IEEE 754's fusedMultiplyAdd: the sum of the exact product and z, rounded once. Definitions only.
use Rattle.std.specs.Prelude.{◌*◌, cond, ◌+ℤ◌, ◌==◌, Float}
use Rattle.std.specs.Float.{nan, inf, fin, Format}
use Rattle.std.specs.Float.Ieee.{unlike, add}

-- x times y, exactly: no format is asked to hold it
unfoldable pub times : Float → Float → Float
times nan y = nan
times (inf s) nan = nan
times (inf s) (inf t) = inf (unlike s t)
times (inf s) (fin t n d) = cond (n == 0) nan (inf (unlike s t))
times (fin s m e) nan = nan
times (fin s m e) (inf t) = cond (m == 0) nan (inf (unlike s t))
times (fin s m e) (fin t n d) = fin (unlike s t) (m * n) (e +ℤ d)

-- `add` rounds the exact sum of any two values, so this rounds once
unfoldable pub fused_multiply_add : Format → Float → Float → Float → Float
unfolding times add
fused_multiply_add f x y z = add f (times x y) z
