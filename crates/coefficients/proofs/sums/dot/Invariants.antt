-- After k turns the sum is that of the first k products, and small.
use Rattle.std.proofs.Common.{◌≡◌, ◌*◌, ◌≤◌, unsigned_abs, ℕ, ℤ}
use Rattle.coefficients.specs.Sums as Sums
use Rattle.coefficients.proofs.sums.dot.Given as goal

-- what the sum is so far, and its size
pub record SoFar (sum whole : ℤ) (k : ℕ) : Type 0 where
  pub value : sum ≡ whole
  pub small : unsigned_abs sum ≤ k * 1073741824

abbrev pub invariant-loop-k : goal.invariant-loop-k
invariant-loop-k l = SoFar l.sum (Sums.dot l.h l.a l.b l.k) l.k
