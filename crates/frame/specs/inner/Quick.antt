-- A pass in units of 2^-32, without the rounding to 24 bits and the clamp to 16. Definitions only.
-- Where what it shows is sure (Seen), it is `run_pass` (`LawsSeen`).
use Rattle.std.specs.Prelude.{Bool, cond, ◌||◌, ◌≡◌, List, ℕ, zero, suc, ◌+◌, ◌-◌, ◌*◌, ◌^◌, ◌≤◌, ◌<◌, leb, ℤ, pos, negsuc, nat_abs, ◌+ℤ◌, ◌-ℤ◌, ◌*ℤ◌, get_or, length}
use Rattle.std.specs.Int.Signed.{lt_z}
use Rattle.whole.specs.Whole.{floored}
use Rattle.whole.specs.declared.History.{History}
use Rattle.frame.specs.declared.quick.Traced.{Traced}
use Rattle.frame.specs.declared.quick.Scales.{Scales}
use Rattle.frame.specs.Estimate.{weigh}
use Rattle.frame.specs.Quantise.{scale, clamp4}
use Rattle.frame.specs.Pass.{residual}
use Rattle.frame.specs.Fits.{Fit}

-- a pair that leaves room for w: (57344 + 2048) × 32768 + 17408 × 4096 = 2017460224 is below 2^31
pub record Roomy (c0 c1 : ℤ) : Type 0 where
  pub sum : nat_abs c0 + nat_abs c1 ≤ 57344

-- whether it is one
unfoldable pub is_roomy : ℤ → ℤ → Bool
is_roomy c0 c1 = leb (nat_abs c0 + nat_abs c1) 57344

-- a step in units of 2^-32
abbrev pub fine_scale : ℕ → ℕ
fine_scale p = 8796093022208 * 2 ^ p

-- what a pass compares with: one step less one unit, sixteen steps, fifteen
pub record Steps (mask all top : ℤ) : Type 0 where
  pub p : ℕ
  pub most : p ≤ 12
  pub mask_is : mask ≡ pos (fine_scale p - 1)
  pub all-is : all ≡ pos (16 * fine_scale p)
  pub top-is : top ≡ pos (15 * fine_scale p)

-- k is what a pass at exponent p compares with and adds: half a step with 1024 and a half, and eight steps less these
pub record ScalesOf (p : ℕ) (k : Scales) : Type 0 where
  pub mask_is : k.mask ≡ pos (fine_scale p - 1)
  pub all-is : k.all ≡ pos (16 * fine_scale p)
  pub top-is : k.top ≡ pos (15 * fine_scale p)
  pub half_is : k.half ≡ pos (4398046511104 * 2 ^ p + 4400193994752)
  pub eight_is : k.eight ≡ pos (70368744177664 * 2 ^ p) -ℤ pos 4400193994752

-- xs has the samples of fs, times 2048 × (2^32 − 1)
pub record Fine (fs xs : List ℤ) : Type 0 where
  pub at : (i : ℕ) → i < 16 → get_or xs i (pos 0) ≡ pos 8796093020160 *ℤ get_or fs (i + 2) (pos 0)

-- D plus half a step and eight steps, less one where D is above 0: over S', rounded down, it is D / S' to the nearest, halves towards zero, and eight
unfoldable pub raised : ℤ → ℕ → ℤ
raised d p = cond (lt_z (pos 0) d) (d +ℤ pos (17408 * 2 ^ p) -ℤ pos 1) (d +ℤ pos (17408 * 2 ^ p))

-- the number that is clamped to a nibble, where no rounding shows
unfoldable pub steps_of : ℤ → ℕ → ℤ
steps_of w p = floored w (scale p) -ℤ pos 8

-- what the nibble leaves of w: w less 0 to 15 steps of s
unfoldable pub rest_of : ℤ → ℕ → ℤ
rest_of w s = w -ℤ (clamp4 (floored w s -ℤ pos 8) +ℤ pos 8) *ℤ pos s

-- w and what is reconstructed, from w and y in units of 2^-32
unfoldable pub traced_by : ℤ → ℤ → ℕ → Traced
traced_by y w s = record { w = floored w 4294967296; s = floored (y -ℤ rest_of w s) 8796093022208 }

-- s has more than 16 bits
unfoldable pub is_beyond : ℤ → Bool
is_beyond s = lt_z s (negsuc 32767) || lt_z (pos 32767) s

-- one sample x after s0 and s1: its w, and what is reconstructed, not clamped to 16 bits
unfoldable pub trace : ℤ → ℤ → ℤ → ℤ → ℤ → ℕ → Traced
trace c0 c1 s0 s1 x p =
    let w = raised (residual c0 c1 s0 s1 x) p in
    record { w = w; s = floored (weigh c0 c1 s0 s1 +ℤ clamp4 (steps_of w p) *ℤ pos (scale p) +ℤ pos 1024) 2048 }

-- the two newest samples after i samples of xs
unfoldable pub tracked : ℤ → ℤ → History → List ℤ → ℕ → ℕ → History
tracked c0 c1 h xs p zero = h
tracked c0 c1 h xs p (suc i) =
    let t = tracked c0 c1 h xs p i in
    record { newest = (trace c0 c1 t.newest t.older (get_or xs i (pos 0)) p).s; older = t.newest }

-- what the pass has at place i
unfoldable pub trace_at : ℤ → ℤ → History → List ℤ → ℕ → ℕ → Traced
trace_at c0 c1 h xs p i =
    let t = tracked c0 c1 h xs p i in
    trace c0 c1 t.newest t.older (get_or xs i (pos 0)) p

-- room for a pass: sixteen places each; the last two, which no pass writes, show no overflow, no doubt and no difference
pub record Spare (ws ss : List ℤ) : Type 0 where
  pub w-length : length ws ≡ 16
  pub s-length : length ss ≡ 16
  pub w-size : (i : ℕ) → i < 16 → nat_abs (get_or ws i (pos 0)) ≤ 2017460224
  pub w-after : (i : ℕ) → 14 ≤ i → i < 16 → get_or ws i (pos 0) ≡ pos 1024
  pub s-after : (i : ℕ) → 14 ≤ i → i < 16 → get_or ss i (pos 0) ≡ pos 0

-- ws and ss hold the pass over xs after h
pub record Traces (c0 c1 : ℤ) (h : History) (xs : List ℤ) (p : ℕ) (ws ss : List ℤ) : Type 0 where
  pub w_at : (i : ℕ) → i < 14 → get_or ws i (pos 0) ≡ (trace_at c0 c1 h xs p i).w
  pub s-at : (i : ℕ) → i < 14 → get_or ss i (pos 0) ≡ (trace_at c0 c1 h xs p i).s
  pub fit : Fit 14 ss
