-- A pass over a frame's fourteen samples, over ℤ. Definitions only.
use Rattle.std.specs.Prelude.{List, [], ◌∷◌, ◌++◌, ℕ, zero, suc, ◌+◌, ◌*◌, ◌≤◌, max, ℤ, pos, nat_abs, ◌+ℤ◌, ◌-ℤ◌, ◌*ℤ◌, get_or}
use Rattle.whole.specs.Whole.{clamp16, floored}
use Rattle.whole.specs.declared.History.{History}
use Rattle.frame.specs.declared.pass.Step.{Step}
use Rattle.frame.specs.declared.pass.Pass.{Pass}
use Rattle.frame.specs.Estimate.{weigh}
use Rattle.frame.specs.Quantise.{scale, quantise, clamp4}

-- "The frame encoder's limit becomes |c0| + |c1| ≤ 61,440"
abbrev pub pair_limit : ℕ
pair_limit = 61440

-- a pair within it, which is all that the arithmetic asks of its coefficients
pub record Bounded (c0 c1 : ℤ) : Type 0 where
  pub sum : nat_abs c0 + nat_abs c1 ≤ pair_limit

-- "D = 2048 × sample − (c0 × s0 + c1 × s1)"
unfoldable pub residual : ℤ → ℤ → ℤ → ℤ → ℤ → ℤ
residual c0 c1 s0 s1 x = pos 2048 *ℤ x -ℤ weigh c0 c1 s0 s1

-- "Reconstruct clamp((c0 × s0 + c1 × s1 + nibble × S' + 1024) >> 11)"
unfoldable pub reconstruct : ℤ → ℤ → ℤ → ℤ → ℤ → ℕ → ℤ
reconstruct c0 c1 s0 s1 n p = clamp16 (floored (weigh c0 c1 s0 s1 +ℤ n *ℤ pos (scale p) +ℤ pos 1024) 2048)

-- one sample: its nibble, what is reconstructed, and "the excess is the overflow"
unfoldable pub code_sample : ℤ → ℤ → ℤ → ℤ → ℤ → ℕ → Step
code_sample c0 c1 s0 s1 x p =
    let u = quantise (residual c0 c1 s0 s1 x) p in
    record { nibble = clamp4 u; sample = reconstruct c0 c1 s0 s1 (clamp4 u) p; overflow = nat_abs (u -ℤ clamp4 u) }

-- the squared difference of two samples
unfoldable pub squared_difference : ℤ → ℤ → ℕ
squared_difference x y = nat_abs (x -ℤ y) * nat_abs (x -ℤ y)

-- what is carried from sample to sample: "s0, s1 the newest and next reconstructed samples", and what was found so far
pub record Carried : Type 0 where
  pub s0 : ℤ
  pub s1 : ℤ
  pub nibbles : List ℤ
  pub samples : List ℤ
  pub overflow : ℕ
  pub distance : ℕ

-- one sample more
unfoldable pub next : ℤ → ℤ → ℕ → Carried → ℤ → Carried
next c0 c1 p r x =
    let t = code_sample c0 c1 r.s0 r.s1 x p in
    let d = r.distance + squared_difference x t.sample in
    record { s0 = t.sample; s1 = r.s0; nibbles = r.nibbles ++ (t.nibble ∷ []); samples = r.samples ++ (t.sample ∷ []); overflow = max r.overflow t.overflow; distance = d }

-- after i samples of xs
unfoldable pub upto : ℤ → ℤ → History → List ℤ → ℕ → ℕ → Carried
upto c0 c1 h xs p zero = record { s0 = h.newest; s1 = h.older; nibbles = []; samples = []; overflow = 0; distance = 0 }
upto c0 c1 h xs p (suc i) = next c0 c1 p (upto c0 c1 h xs p i) (get_or xs i (pos 0))

-- the whole pass: nibbles, reconstructed samples, "the pass's largest overflow", "sum of squared differences over all 14 places"
unfoldable pub run_pass : ℤ → ℤ → History → List ℤ → ℕ → Pass
run_pass c0 c1 h xs p =
    let r = upto c0 c1 h xs p 14 in
    record { nibbles = r.nibbles; samples = r.samples; overflow = r.overflow; distance = r.distance }
