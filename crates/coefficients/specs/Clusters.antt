-- filter_records: each record joins the first vector of least contrast; each vector becomes the mean of what joined it. Definitions only.
use Rattle.std.specs.Prelude.{ℕ, zero, suc, ◌+◌, cond, List, replicate, pos, ◌==◌, slice_index_or, slice_set, Float}
use mathlib.Core.List.{foldl}
use Rattle.std.specs.Float.{nan, binary64}
use Rattle.std.specs.Float.Ieee.{neg, lt, of_int}
use Rattle.coefficients.specs.declared.merging.Record.{Record}
use Rattle.coefficients.specs.declared.merging.Vec3.{Vec3}
use Rattle.coefficients.specs.declared.contrasts.Best.{Best}
use Rattle.coefficients.specs.declared.clusters.Cluster.{Cluster}
use Rattle.coefficients.specs.Constants.{f0, f1, f_e30, f_e-2, ◌+f◌, ◌/f◌, fma}
use Rattle.coefficients.specs.Analysis.{contrast, matrix_filter, merge_finish_record}
use Rattle.coefficients.specs.Store.{first_vector}

-- what `get_or` gives past the end: the value that Rattle's own reading of an element gives there
abbrev pub blank : Vec3
blank = record { x0 = nan; x1 = nan; x2 = nan }

-- what no record has joined yet
unfoldable pub none : Vec3
none = record { x0 = f0; x1 = f0; x2 = f0 }

-- the lower of the best so far and number i
unfoldable pub better : Best → Float → ℕ → Best
better b t i = cond (lt t b.value) (record { value = t; index = i }) b

-- the first of least contrast among the first k vectors, or vector 0
unfoldable pub least : List Vec3 → Record → ℕ → Best
least vs r zero = record { value = f_e30; index = 0 }
least vs r (suc k) = better (least vs r k) (contrast (slice_index_or vs k blank) r) k

-- the sum of two vectors
unfoldable pub plus3 : Vec3 → Vec3 → Vec3
plus3 a b = record { x0 = a.x0 +f b.x0; x1 = a.x1 +f b.x1; x2 = a.x2 +f b.x2 }

-- what no record has joined yet, as a cluster
abbrev pub no_cluster : Cluster
no_cluster = record { count = 0; sum = none }

-- what `get_or` gives past the end
abbrev pub blank_cluster : Cluster
blank_cluster = record { count = 0; sum = blank }

-- a cluster with one record more
unfoldable pub joined : Cluster → Record → Cluster
joined c r = record { count = c.count + 1; sum = plus3 c.sum (matrix_filter r) }

-- one record joins the nearest of n vectors
unfoldable pub add_to_nearest : List Vec3 → ℕ → List Cluster → Record → List Cluster
add_to_nearest vs n cs r = let i = (least vs r n).index in slice_set cs i (joined (slice_index_or cs i blank_cluster) r)

-- the clusters before any record
unfoldable pub empty : List Cluster
empty = replicate 8 no_cluster

-- and after some records
unfoldable pub gather : List Vec3 → ℕ → List Record → List Cluster
gather vs n rs = foldl (add_to_nearest vs n) empty rs

-- a sum over its count; over 0, the sum
unfoldable pub mean : Vec3 → ℕ → Vec3
mean a c =
    let d = of_int binary64 (pos c) in
    cond (c == 0) a (record { x0 = a.x0 /f d; x1 = a.x1 /f d; x2 = a.x2 /f d })

-- a record with the 1 that it does not store
unfoldable pub with_one : Record → Vec3
with_one r = record { x0 = f1; x1 = r.v1; x2 = r.v2 }

-- the vector that comes of place k
unfoldable pub made : List Cluster → ℕ → Vec3
made cs k = let c = slice_index_or cs k blank_cluster in with_one (merge_finish_record (mean c.sum c.count))

-- the first k vectors are made anew
unfoldable pub renewed : List Vec3 → List Cluster → ℕ → List Vec3
renewed vs cs zero = vs
renewed vs cs (suc k) = slice_set (renewed vs cs k) k (made cs k)

-- one of filter_records' two rounds
unfoldable pub filter_round : List Vec3 → ℕ → List Record → List Vec3
filter_round vs m rs = renewed vs (gather vs m rs) m

-- a vector a little to the side of another
unfoldable pub beside : Vec3 → Vec3
beside v = record { x0 = fma f_e-2 f0 v.x0; x1 = fma f_e-2 (neg f1) v.x1; x2 = fma f_e-2 f0 v.x2 }

-- each of the first k vectors has its neighbour m places on
unfoldable pub doubled : List Vec3 → ℕ → ℕ → List Vec3
doubled vs m zero = vs
doubled vs m (suc k) = let ws = doubled vs m k in slice_set ws (m + k) (beside (slice_index_or ws k blank))

-- from m vectors to 2 m, with two rounds
unfoldable pub grown : List Vec3 → ℕ → List Record → List Vec3
grown vs m rs = filter_round (filter_round (doubled vs m m) (m + m) rs) (m + m) rs

-- the eight vectors of some records: one, grown three times
unfoldable pub vectors : List Record → List Vec3
vectors rs = grown (grown (grown (slice_set (replicate 8 none) 0 (with_one (first_vector rs))) 1 rs) 2 rs) 4 rs
