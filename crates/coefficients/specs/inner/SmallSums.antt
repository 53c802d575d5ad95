-- A sum of products of samples, and that it is small. Definitions only.
use Rattle.std.specs.Prelude.{◌≡◌, ℕ, ◌*◌, ◌≤◌, List, ℤ, unsigned_abs}
use Rattle.coefficients.specs.Sums.{dot}

-- r is the sum of fourteen products
pub record Dot (h : List ℤ) (a b : ℕ) (r : ℤ) : Type 0 where
  pub value : r ≡ dot h a b 14
  pub small : unsigned_abs r ≤ 14 * 1073741824
