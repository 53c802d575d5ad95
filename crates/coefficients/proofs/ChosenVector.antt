-- The vector that is chosen is one of the eight, and counts of records stay small.
use Rattle.std.proofs.Common.{◌≡◌, ap, ℕ, zero, suc, ◌+◌, ◌<◌, ◌≤◌, Bool, true, false, cond, List, [], ◌∷◌, get_or, set, replicate, arith}
use lib.Ieee.{Float, lt}
use Rattle.coefficients.specs.declared.contrasts.Best.{Best}
use Rattle.coefficients.specs.declared.clusters.Cluster.{Cluster}
use Rattle.coefficients.specs.inner.SharedTerms.{gone_through, least_by_terms}
use Rattle.coefficients.specs.declared.merging.Side.{Side}
use Rattle.coefficients.specs.declared.merging.VectorTerms.{VectorTerms}
use Rattle.coefficients.specs.Clusters.{better, blank_cluster, no_cluster}

either-below : (q : Bool) (a b : Best) (m : ℕ) → a.index < m → b.index < m → (cond q a b).index < m
either-below true a b m p q = p
either-below false a b m p q = q

better-below : (b : Best) (t : Float) (i m : ℕ) → i < m → b.index < m → (better b t i).index < m
unfolding better
better-below b t i m p q = either-below (lt t b.value) (record { value = t; index = i }) b m p q

pub least-below : (vs : List VectorTerms) (t : Side) (k m : ℕ) → 0 < m → k ≤ m → (least_by_terms vs t k).index < m
unfolding gone_through
least-below vs t zero m p h = p
least-below vs t (suc k) m p h = better-below (least_by_terms vs t k) _ k m (omega arith) (least-below vs t k m p (omega arith))

-- ---- counts of records

-- each of some clusters has at most k
abbrev pub CountsWithin : List Cluster → ℕ → Type 0
CountsWithin cs k = (i : ℕ) → (get_or cs i blank_cluster).count ≤ k

-- one record more: one count rises by one
pub counts-joined : (cs : List Cluster) (j k : ℕ) (c : Cluster) → c.count ≤ k + 1 → CountsWithin cs k → CountsWithin (set cs j c) (k + 1)
counts-joined [] j k c p h i = omega (arith, h i)
counts-joined (x ∷ xs) zero k c p h zero = p
counts-joined (x ∷ xs) zero k c p h (suc i) = omega (arith, h (suc i))
counts-joined (x ∷ xs) (suc j) k c p h zero = omega (arith, h zero)
counts-joined (x ∷ xs) (suc j) k c p h (suc i) = counts-joined xs j k c p (λ q. h (suc q)) i

pub counts-none : (c : Cluster) (n : ℕ) → c ≡ no_cluster → CountsWithin (replicate n c) 0
counts-none c zero e i = omega arith
counts-none c (suc n) e zero = omega (arith, ap (λ (x : Cluster). x.count) e)
counts-none c (suc n) e (suc i) = counts-none c n e i
