-- The lent store: a record is two numbers, in order. Definitions only.
use Rattle.std.specs.Prelude.{ℕ, zero, suc, ◌+◌, ◌*◌, List, [], ◌∷◌, ◌++◌, length, pos, slice_index_or, slice_set, Float}
use mathlib.Core.List.{foldl}
use Rattle.std.specs.Float.{nan, binary64}
use Rattle.std.specs.Float.Ieee.{of_int}
use Rattle.coefficients.specs.declared.merging.Record.{Record}
use Rattle.coefficients.specs.declared.merging.Vec3.{Vec3}
use Rattle.coefficients.specs.Constants.{f0, f1, ◌+f◌, ◌/f◌}
use Rattle.coefficients.specs.Analysis.{matrix_filter, merge_finish_record}

-- the record at place k
unfoldable pub read_record : List Float → ℕ → Record
read_record s k = record { v1 = slice_index_or s (2 * k) nan; v2 = slice_index_or s (2 * k + 1) nan }

-- what reading past the end gives
abbrev pub blank_record : Record
blank_record = record { v1 = nan; v2 = nan }

-- the first n records, in order
unfoldable pub records : List Float → ℕ → List Record
records s zero = []
records s (suc k) = records s k ++ (read_record s k ∷ [])

-- the store with the record r at place k
unfoldable pub write_record : List Float → ℕ → Record → List Float
write_record s k r = slice_set (slice_set s (2 * k) r.v1) (2 * k + 1) r.v2

-- what matrix_filter makes of a record, added
unfoldable pub add_filtered : Vec3 → Record → Vec3
add_filtered a r = record { x0 = a.x0; x1 = a.x1 +f (matrix_filter r).x1; x2 = a.x2 +f (matrix_filter r).x2 }

-- the sums before any record
unfoldable pub start : Vec3
start = record { x0 = f1; x1 = f0; x2 = f0 }

-- finish's first loop: the sums of what matrix_filter makes of each record
unfoldable pub totals : List Record → Vec3
totals rs = foldl add_filtered start rs

-- and their mean, finished
unfoldable pub first_vector : List Record → Record
first_vector rs =
    let n = of_int binary64 (pos (length rs)) in
    merge_finish_record (record { x0 = (totals rs).x0; x1 = (totals rs).x1 /f n; x2 = (totals rs).x2 /f n })
