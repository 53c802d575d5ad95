-- The choice among the eight pairs of coefficients. Definitions only.
use Rattle.std.specs.Prelude.{cond, List, ◌≡◌, ℕ, zero, suc, ◌+◌, ◌-◌, ◌*◌, ◌≤◌, ◌<◌, ltb, ℤ, pos, get_or}
use Rattle.whole.specs.declared.History.{History}
use Rattle.frame.specs.declared.search.Coded.{Coded}
use Rattle.frame.specs.declared.choice.Held.{Held}
use Rattle.frame.specs.Pass.{Bounded}
use Rattle.frame.specs.Search.{try_coefficients}

-- "c0 even, c1 odd in each of eight pairs": the even coefficient of pair i
abbrev pub c0_at : List ℤ → ℕ → ℤ
c0_at cs i = get_or cs (2 * i) (pos 0)

-- the odd coefficient of pair i
abbrev pub c1_at : List ℤ → ℕ → ℤ
c1_at cs i = get_or cs (2 * i + 1) (pos 0)

-- every pair within the limit
pub record AllBounded (cs : List ℤ) : Type 0 where
  pub pair : (i : ℕ) → i < 8 → Bounded (c0_at cs i) (c1_at cs i)

-- "`try_coefficients`, for each pair in turn"
unfoldable pub candidate_at : History → List ℤ → List ℤ → ℕ → Coded
candidate_at h xs cs i = try_coefficients (c0_at cs i) (c1_at cs i) h xs

-- of the pairs 0 to k: "the least sum of squared differences .. the lowest index among equals"
unfoldable pub winner : History → List ℤ → List ℤ → ℕ → ℕ
winner h xs cs zero = 0
winner h xs cs (suc k) =
    let i = winner h xs cs k in
    cond (ltb (candidate_at h xs cs (suc k)).distance (candidate_at h xs cs i).distance) (suc k) i

-- "The passes made over" the first k candidates
unfoldable pub passes_up_to : History → List ℤ → List ℤ → ℕ → ℕ
passes_up_to h xs cs zero = 0
passes_up_to h xs cs (suc k) = passes_up_to h xs cs k + (candidate_at h xs cs k).passes

-- "the best so far": what the frame encoder holds after k candidates, k from 1 on
unfoldable pub held_after : History → List ℤ → List ℤ → ℕ → Held
held_after h xs cs k = let i = winner h xs cs (k - 1) in record { candidate = candidate_at h xs cs i; index = i; passes = passes_up_to h xs cs k }

-- b is "the one that would win among these alone, and their passes": of the first k candidates the least distance, the lowest index among equals
pub record Wins (h : History) (xs cs : List ℤ) (k : ℕ) (b : Held) : Type 0 where
  pub among : b.index < k
  pub is : b.candidate ≡ candidate_at h xs cs b.index
  pub least : (j : ℕ) → j < k → b.candidate.distance ≤ (candidate_at h xs cs j).distance
  pub lowest : (j : ℕ) → j < b.index → b.candidate.distance < (candidate_at h xs cs j).distance
  pub passes-are : b.passes ≡ passes_up_to h xs cs k
