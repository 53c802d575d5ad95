-- finish's last loop: the sixteen coefficients of a list of records. Definitions only.
use Rattle.std.specs.Prelude.{ℕ, zero, suc, ◌+◌, ◌*◌, cond, List, length, replicate, ℤ, pos, ◌==◌, slice_index_or, slice_set, Float}
use Rattle.std.specs.Float.Ieee.{neg, lt, to_signed}
use Rattle.float.specs.Operations.{maximum_number, minimum_number, round_to_integral_ties_to_away}
use Rattle.coefficients.specs.Constants.{f0, f2048, f32767, f32768, ◌*f◌}
use Rattle.coefficients.specs.declared.merging.Record.{Record}
use Rattle.coefficients.specs.declared.merging.Vec3.{Vec3}
use Rattle.coefficients.specs.Clusters.{blank, vectors}

-- a vector's number as a coefficient: its negative in units of 1/2048, rounded, within 16 bits
unfoldable pub coefficient : Float → ℤ
coefficient v =
    let d = neg v *f f2048 in
    to_signed 15 (round_to_integral_ties_to_away (cond (lt f0 d) (minimum_number d f32767) (maximum_number d (neg f32768))))

-- the first k pairs
unfoldable pub pairs : List Vec3 → ℕ → List ℤ
pairs vs zero = replicate 16 (pos 0)
pairs vs (suc k) = slice_set (slice_set (pairs vs k) (2 * k) (coefficient (slice_index_or vs k blank).x1)) (2 * k + 1) (coefficient (slice_index_or vs k blank).x2)

-- the coefficients of some records: zeros where there is none
unfoldable pub record_coefficients : List Record → List ℤ
record_coefficients rs = cond (length rs == 0) (replicate 16 (pos 0)) (pairs (vectors rs) 8)
