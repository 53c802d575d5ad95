-- process_frame: what a frame's history shows, and where its record goes. Definitions only.
use Rattle.std.specs.Prelude.{ℕ, ◌+◌, Option, Some, None, cond, List, ℤ, Float}
use Rattle.std.specs.Float.Ieee.{lt}
use Rattle.float.specs.Operations.{abs}
use Rattle.coefficients.specs.Constants.{f10}
use Rattle.coefficients.specs.declared.merging.Vec3.{Vec3}
use Rattle.coefficients.specs.declared.ranges.Merged.{Merged}
use Rattle.coefficients.specs.declared.ranges.Ranges.{Ranges}
use Rattle.coefficients.specs.declared.merging.Record.{Record}
use Rattle.coefficients.specs.Analysis.{analyze_ranges, bidirectional_filter, quadratic_merge, finish_record}
use Rattle.coefficients.specs.Sums.{inner_product_merge, outer_product_merge}
use Rattle.coefficients.specs.Store.{write_record}

-- what quadratic_merge leaves: no record where it leaves nothing
unfoldable pub merged : Option Merged → Option Record
merged None = None
merged (Some g) = Some (finish_record g.v1 g.v2)

-- what analyze_ranges leaves: no record where it leaves nothing
unfoldable pub ranged : Option Ranges → Vec3 → Option Record
ranged None v = None
ranged (Some g) v = merged (quadratic_merge (bidirectional_filter g v))

-- the record of a frame with its history, if it has one
unfoldable pub analyse : List ℤ → Option Record
analyse h =
    let v = inner_product_merge h in
    cond (lt f10 (abs v.x0)) (ranged (analyze_ranges (outer_product_merge h)) v) None

-- the store after a frame: its record, if it has one, at place r
unfoldable pub stored : List Float → ℕ → Option Record → List Float
stored s r None = s
stored s r (Some x) = write_record s r x

-- the count of records after a frame
unfoldable pub counted : ℕ → Option Record → ℕ
counted r None = r
counted r (Some x) = r + 1
