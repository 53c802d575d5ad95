-- The highest and the lowest difference of a frame, from which its first exponent is found. Definitions only.
use Rattle.std.specs.Prelude.{Bool, true, cond, List, ℕ, zero, suc, ◌+◌, eqb, ℤ, pos, nat_abs, get_or}
use Rattle.std.specs.Int.Signed.{lt_z, non_neg}
use Rattle.frame.specs.declared.estimate.Ends.{Ends}
use Rattle.frame.specs.Estimate.{difference, max_z}

-- the smaller of two numbers
unfoldable pub min_z : ℤ → ℤ → ℤ
min_z a b = cond (lt_z b a) b a

-- the difference at place i; fs has the two samples before the frame
unfoldable pub difference_at : ℤ → ℤ → List ℤ → ℕ → ℤ
difference_at c0 c1 fs i = difference c0 c1 (get_or fs (i + 1) (pos 0)) (get_or fs i (pos 0)) (get_or fs (i + 2) (pos 0))

-- of the first k differences and 0
unfoldable pub highest_of : ℤ → ℤ → List ℤ → ℕ → ℤ
highest_of c0 c1 fs zero = pos 0
highest_of c0 c1 fs (suc k) = max_z (highest_of c0 c1 fs k) (difference_at c0 c1 fs k)

-- the same from below
unfoldable pub lowest_of : ℤ → ℤ → List ℤ → ℕ → ℤ
lowest_of c0 c1 fs zero = pos 0
lowest_of c0 c1 fs (suc k) = min_z (lowest_of c0 c1 fs k) (difference_at c0 c1 fs k)

-- the ends of all fourteen
abbrev pub ends_of : ℤ → ℤ → List ℤ → Ends
ends_of c0 c1 fs = record { high = highest_of c0 c1 fs 14; low = lowest_of c0 c1 fs 14 }

-- whether the first of k differences from place i on that has magnitude n is not negative; if none has it, true
unfoldable pub up_first : ℤ → ℤ → List ℤ → ℕ → ℕ → ℕ → Bool
up_first c0 c1 fs n zero i = true
up_first c0 c1 fs n (suc k) i =
    let d = difference_at c0 c1 fs i in
    cond (eqb (nat_abs d) n) (non_neg d) (up_first c0 c1 fs n k (suc i))
