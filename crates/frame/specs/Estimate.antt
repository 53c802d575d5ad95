-- The estimate of a frame's first exponent, over ℤ. Definitions only.
use Rattle.std.specs.Prelude.{Bool, cond, ◌&&◌, List, ℕ, zero, suc, ltb, ℤ, pos, negsuc, nat_abs, ◌+ℤ◌, ◌-ℤ◌, ◌*ℤ◌, get_or}
use Rattle.std.specs.Int.Signed.{lt_z}
use Rattle.whole.specs.Whole.{clamp16, towards_zero}
use Rattle.whole.specs.declared.History.{History}

-- "c0 × previous + c1 × one before"
unfoldable pub weigh : ℤ → ℤ → ℤ → ℤ → ℤ
weigh c0 c1 previous before = c0 *ℤ previous +ℤ c1 *ℤ before

-- "d = sample − (c0 × previous + c1 × one before) / 2048, division towards zero, clamped to 16 bits"
unfoldable pub difference : ℤ → ℤ → ℤ → ℤ → ℤ → ℤ
difference c0 c1 previous before sample = clamp16 (sample -ℤ towards_zero (weigh c0 c1 previous before) 2048)

-- "of largest magnitude .. the first among equals": d, found before e, unless e is larger
unfoldable pub larger_magnitude : ℤ → ℤ → ℤ
larger_magnitude d e = cond (ltb (nat_abs d) (nat_abs e)) e d

-- z is −32,768, among the numbers of 16 bits
unfoldable pub is_lowest : ℤ → Bool
is_lowest z = lt_z z (negsuc 32766)

-- the look over k samples from place i on, with the largest d so far and the two samples before: "−32,768 ends the look"
unfoldable pub look : ℤ → ℤ → List ℤ → ℕ → ℕ → ℤ → ℤ → ℤ → ℤ
look c0 c1 xs zero i d previous before = d
look c0 c1 xs (suc k) i d previous before =
    let x = get_or xs i (pos 0) in
    let e = difference c0 c1 previous before x in
    cond (is_lowest e) e (look c0 c1 xs k (suc i) (larger_magnitude d e) x previous)

-- "over the frame's fourteen original samples (padding zeros counted), preceded by the history"
unfoldable pub largest_difference : ℤ → ℤ → History → List ℤ → ℤ
largest_difference c0 c1 h xs = look c0 c1 xs 14 0 (pos 0) h.newest h.older

-- "within −8 to 7"
unfoldable pub is_small : ℤ → Bool
is_small z = lt_z (negsuc 8) z && lt_z z (pos 8)

-- "halved towards zero until within −8 to 7, h halvings", k at most
unfoldable pub halvings_within : ℕ → ℤ → ℕ
halvings_within zero z = zero
halvings_within (suc k) z = cond (is_small z) zero (suc (halvings_within k (towards_zero z 2)))

-- the halvings of z; the bound of 13 is the Rust's, and never what ends them (`halvings-end`)
unfoldable pub halvings : ℤ → ℕ
halvings z = halvings_within 13 z

-- the larger of two numbers
unfoldable pub max_z : ℤ → ℤ → ℤ
max_z a b = cond (lt_z a b) b a

-- "The first pass has exponent p = max(h−2, −1) + 1"
unfoldable pub exponent_of : ℕ → ℕ
exponent_of h = nat_abs (max_z (pos h -ℤ pos 2) (negsuc 0) +ℤ pos 1)

-- the exponent of the first pass, from the estimate
unfoldable pub first_exponent : ℤ → ℤ → History → List ℤ → ℕ
first_exponent c0 c1 h xs = exponent_of (halvings (largest_difference c0 c1 h xs))
