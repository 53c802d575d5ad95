-- What the gathering of records works out once for each vector and once for each record. proofs/SharedTerms.antt shows that it is the plain definitions' work. Definitions only.
use Rattle.std.specs.Prelude.{◌≡◌, ℕ, zero, suc, ◌<◌, List, slice_index_or, Float}
use Rattle.std.specs.Float.{nan}
use Rattle.std.specs.Float.Ieee.{neg}
use Rattle.coefficients.specs.declared.contrasts.Best.{Best}
use Rattle.coefficients.specs.declared.merging.Record.{Record}
use Rattle.coefficients.specs.declared.merging.RecordTerms.{RecordTerms}
use Rattle.coefficients.specs.declared.merging.Side.{Side}
use Rattle.coefficients.specs.declared.merging.Vec3.{Vec3}
use Rattle.coefficients.specs.declared.merging.VectorTerms.{VectorTerms}
use Rattle.coefficients.specs.Constants.{f0, f1, f2, f_e30, ◌*f◌, ◌+f◌, ◌/f◌, fma}
use Rattle.coefficients.specs.Clusters.{better}

-- a vector's part in its contrast with a record
unfoldable pub vector_terms : Vec3 → VectorTerms
vector_terms a =
    record {
      val1 = fma a.x2 a.x2 (fma a.x0 a.x0 (a.x1 *f a.x1));
      val2 = fma a.x0 a.x1 (a.x1 *f a.x2);
      val3 = a.x0 *f a.x2;
    }

-- what a record's contrasts and matrix_filter share: both divide the same numbers
unfoldable pub record_terms : Record → RecordTerms
record_terms b =
    let val = fma b.v2 b.v1 (neg b.v1) /f fma b.v2 (neg b.v2) f1 in
    let d1 = val +f f0 in
    record { val = val; d1 = d1; d2 = neg b.v2 +f fma (neg b.v1) d1 f0 }

-- a record's part in its contrasts
unfoldable pub record_side : Record → Float → Side
record_side b val = record { twice = f2 *f val; last = f2 *f fma (neg b.v1) val (neg b.v2) }

-- the contrast of the two
unfoldable pub terms_contrast : VectorTerms → Side → Float
terms_contrast v s = fma s.last v.val3 (fma s.twice v.val2 v.val1)

-- what `get_or` gives past the end
abbrev pub blank_terms : VectorTerms
blank_terms = record { val1 = nan; val2 = nan; val3 = nan }

-- what is kept of a record's contrasts with the first k vectors: `none` before the first, and `and` takes in the one of number k
unfoldable pub gone_through : {K : Type 0} → K → (K → Float → ℕ → K) → (VectorTerms → Side → Float) → List VectorTerms → Side → ℕ → K
gone_through none and contrast vs s zero = none
gone_through none and contrast vs s (suc k) = and (gone_through none and contrast vs s k) (contrast (slice_index_or vs k blank_terms) s) k

-- no contrast yet
abbrev pub no_best : Best
no_best = record { value = f_e30; index = 0 }

-- the first of least contrast among the first k vectors, or vector 0
abbrev pub least_by_terms : List VectorTerms → Side → ℕ → Best
least_by_terms vs s k = gone_through no_best better terms_contrast vs s k

-- what `nearest` answers
pub record Nearest (vs : List VectorTerms) (n : ℕ) (s : Side) (x : ℕ) : Type 0 where
  pub value : x ≡ (least_by_terms vs s n).index
  pub below : x < 8
