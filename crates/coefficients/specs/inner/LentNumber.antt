-- A number of a vector, lent. Definitions only.
use Rattle.std.specs.Prelude.{Float}
use Rattle.std.specs.Borrow.{Lends, MutBor, Fml, f64}
use Rattle.coefficients.specs.declared.merging.Vec3.{Vec3}
use Rattle.coefficients.specs.declared.ranges.Row.{Row}
use Rattle.coefficients.specs.contracts.merging.Vec3.{the_row}
use Rattle.coefficients.specs.Analysis.{put}

-- the vector ends with its number at place i as r is left
abbrev pub LendsNumber : MutBor Vec3 → Row → MutBor Float → Fml
LendsNumber s i r = Lends the_row f64 s r (put s.now i)
