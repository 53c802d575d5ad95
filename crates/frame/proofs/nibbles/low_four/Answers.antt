-- `low_four` meets its contract: of the bits of a nibble the lowest four.
use Rattle.std.proofs.Common.{◌≡◌, ◌%◌, ap, ◌∙◌, w8}
use lib.IntN.{ℤ}
use Rattle.std.proofs.Math.Facts.{to_z-of_z}
use mir.Val.{of_z}
use Rattle.std.proofs.Common.{arith}
use Rattle.frame.specs.inner.Nibbles.{InNibble, up, down}
use Rattle.frame.specs.Frame.{low_four}
use Rattle.frame.proofs.nibbles.low_four.Goals as goal

low-of : {z : ℤ} → InNibble z → of_z w8 z % 16 ≡ low_four z
unfolding low_four
low-of (up h) = omega arith
low-of (down h) = omega arith

pub returns-clause-bits : goal.returns-clause-bits
returns-clause-bits c =
    let e = rw (to_z-of_z c.ranges.n) at c.cast_unsigned.ensures in
    ap (λ n. n % 16) e ∙ low-of c.requires
