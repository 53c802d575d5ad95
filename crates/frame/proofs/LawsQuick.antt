-- Laws of a quick pass: what the nibble leaves, one sample, the sizes, and the places that are written.
use mathlib.Core.Path.{◌≡◌, refl, sym, ap, ap₂, ◌∙◌, subst}
use mathlib.Core.Bool.{Bool, true, false, cond}
use mathlib.Core.List.{List}
use Prim.Native.Nat.{ℕ, zero, suc, ◌+◌, ◌-◌, ◌*◌, ◌/◌, ◌%◌, ◌^◌, ◌≤◌, ◌<◌}
use native.Mathlib.Nat.{le_refl, zero-mul, mul_comm, lt_of_mul-lt-mul_right, mul-le-mul, le_of_mul-le-mul_right, le_trans, lt_of_le_of_lt, div-mul-le_self, mod-eq_of_lt, div-add-mod'}
use native.Mathlib.Decide.{dec_le}
use native.Mathlib.Numerals.{add-one}
use native.Mathlib.Omega.{arith}
use lib.Dec.{T, ltb, ltb→lt}
use lib.Pow.{pow_mono, pow_pos, pow-add}
use lib.IntN.{ℤ, pos, negsuc, neg_ℤ, nat_abs, ◌+ℤ◌, ◌-ℤ◌, ◌*ℤ◌}
use lib.ListN.{length, get_or, set, length-set}
use lib.Seq.{get_or-set_same, get_or-set_other}
use lib.Signed.{lt_z, shr_z}
use borrow.Author.Tests.{leb-true}
use mir.Syntax.{w16, w32, w64}
use mir.Val.{SFits}
use Rattle.whole.specs.Whole.{floored}
use Rattle.whole.proofs.Clamping.{clamp-low, clamp-high, clamp-mid, mid-fits}
use Rattle.whole.proofs.SignedLocals.{Is, is-nat, abs-add, abs-sub, abs-mul, abs-sfits, not-below-zero}
use Rattle.whole.proofs.Differences.{Diff, diff-of, diff-pos, diff-add, diff-sub, diff-times, diff-move, diff-same, diff-eq}
use Rattle.whole.proofs.Differences.{diff-lt, diff-le, lt-diff, le-diff, diff-abs, abs_diff, over, under}
use Rattle.frame.specs.declared.quick.Traced.{Traced}
use Rattle.frame.specs.Estimate.{weigh}
use Rattle.frame.specs.Quantise.{scale, clamp4}
use Rattle.frame.specs.Pass.{Bounded, residual}
use Rattle.frame.specs.inner.Places.{history_of, samples_of}
use Rattle.frame.specs.inner.Quick.{Roomy, is_roomy, Spare, Traces, raised, steps_of, rest_of, traced_by, trace, trace_at, tracked, is_beyond, fine_scale}
use Rattle.frame.proofs.LawsOrder.{none_below, below_more, neither}
use Rattle.frame.proofs.LawsQuantise.{clamp4-size, scale-le, scale-pos}
use Rattle.frame.proofs.LawsEstimate.{weigh-of}
use Rattle.frame.proofs.LawsArrays.{stored_more}
use Rattle.frame.proofs.LawsFloor.{floor-diff, floor-unique, left_lt, shr-twice}

-- ---- numbers of the code

-- at most 4096 times a
pub shl-le : (a p : ℕ) → p ≤ 12 → a * 2 ^ p ≤ a * 4096
shl-le a p h = mul-le-mul (le_refl a) (pow_mono h)

-- `a << p`
pub is-shl : (a p : ℕ) → p ≤ 12 → T (ltb (a * 4096) 2147483648) → Is w32 ((a * 2 ^ p) % 4294967296) (pos (a * 2 ^ p)) (a * 4096)
is-shl a p h t =
    let l = ltb→lt (a * 4096) 2147483648 t in
    subst (λ (v : ℕ). Is w32 v (pos (a * 2 ^ p)) (a * 4096)) (sym (mod-eq_of_lt (omega (arith, shl-le a p h)))) (is-nat w32 (a * 2 ^ p) (a * 4096) (shl-le a p h) t)

-- the same in 64 bits
pub is-shl-64 : (a p : ℕ) → p ≤ 12 → T (ltb (a * 4096) 9223372036854775808) → Is w64 ((a * 2 ^ p) % 18446744073709551616) (pos (a * 2 ^ p)) (a * 4096)
is-shl-64 a p h t =
    let l = ltb→lt (a * 4096) 9223372036854775808 t in
    subst (λ (v : ℕ). Is w64 v (pos (a * 2 ^ p)) (a * 4096)) (sym (mod-eq_of_lt (omega (arith, shl-le a p h)))) (is-nat w64 (a * 2 ^ p) (a * 4096) (shl-le a p h) t)

-- one step less 1
pub one_less : (p : ℕ) → pos (scale p) -ℤ pos 1 ≡ pos (scale p - 1)
one_less p = diff-eq (diff-sub (diff-pos (scale p)) (diff-pos 1)) (diff-pos (scale p - 1)) (omega (arith, scale-pos p))

-- a step in units of 2^-32
pub fine-scale-is : (p : ℕ) → 2 ^ (p + 43) ≡ fine_scale p
fine-scale-is p = pow-add 2 p 43 ∙ mul_comm (2 ^ p) 8796093022208

pub fine-scale-le : (p : ℕ) → p ≤ 12 → fine_scale p ≤ 36028797018963968
fine-scale-le p h = mul-le-mul (le_refl 8796093022208) (pow_mono h)

pub fine-scale-pos : (p : ℕ) → 0 < fine_scale p
fine-scale-pos p = omega (arith, pow_pos p)

-- ---- what the nibble leaves

module _ (w : ℤ) (s : ℕ) (p : 0 < s) where
  -- the steps of w, less eight
  abbrev eight : ℤ
  eight = floored w s -ℤ pos 8

  -- w less n + 8 steps
  left-of : (n : ℤ) → clamp4 eight ≡ n → rest_of w s ≡ w -ℤ (n +ℤ pos 8) *ℤ pos s
  unfolding rest_of
  left-of n e = ap (λ (z : ℤ). w -ℤ (z +ℤ pos 8) *ℤ pos s) e

  -- below 0 nothing is taken off
  pub rest-low : lt_z w (pos 0) ≡ true → rest_of w s ≡ w
  rest-low e =
      let l = diff-lt (diff-of w) (diff-pos 0) e in
      let d = diff-same (floor-diff w s p) (diff-of w) in
      let m = left_lt w s p in
      let k : over (shr_z w s) < under (shr_z w s) = lt_of_mul-lt-mul_right s (omega arith) in
      let c : clamp4 eight ≡ negsuc 7 = clamp-low 7 eight (lt-diff (diff-sub (diff-of (shr_z w s)) (diff-pos 8)) (diff-of (negsuc 7)) (omega arith)) in
      left-of (negsuc 7) c ∙ diff-eq (diff-sub (diff-of w) (diff-times (diff-pos 0) s)) (diff-of w) (omega arith)

  -- below sixteen steps, whole steps are
  pub rest-mid : lt_z w (pos 0) ≡ false → lt_z w (pos (16 * s)) ≡ true → rest_of w s ≡ pos (nat_abs w % s)
  rest-mid e f =
      let a = nat_abs w in
      let g : w ≡ pos a = not-below-zero w e in
      let l = diff-lt (diff-of w) (diff-pos (16 * s)) f in
      let h : Diff w a 0 = subst (λ (z : ℤ). Diff z a 0) (sym g) (diff-pos a) in
      let k = diff-same h (diff-of w) in
      let q : a / s < 16 = lt_of_mul-lt-mul_right s (omega (arith, div-add-mod' a s)) in
      let r : shr_z w s ≡ pos (a / s) = ap (λ (z : ℤ). shr_z z s) g in
      let d : Diff eight (a / s) 8 = subst (λ (z : ℤ). Diff (z -ℤ pos 8) (a / s) 8) (sym r) (diff-move (diff-sub (diff-pos (a / s)) (diff-pos 8)) (omega arith)) in
      let c : clamp4 eight ≡ eight = clamp-mid 7 eight (le-diff d (diff-of (negsuc 7)) (omega arith)) (le-diff (diff-pos 7) d (omega arith)) in
      let t : Diff ((eight +ℤ pos 8) *ℤ pos s) ((a / s + 8) * s) (8 * s) = diff-move (diff-times (diff-add d (diff-pos 8)) s) (omega arith) in
      left-of eight c ∙ diff-eq (diff-sub h t) (diff-pos (a % s)) (omega (arith, div-add-mod' a s))

  -- from there on, fifteen
  pub rest-high : lt_z w (pos (16 * s)) ≡ false → rest_of w s ≡ w -ℤ pos (15 * s)
  rest-high f =
      let l = diff-le (diff-of w) (diff-pos (16 * s)) f in
      let d = diff-same (floor-diff w s p) (diff-of w) in
      let m = left_lt w s p in
      let k : under (shr_z w s) + 16 < suc (over (shr_z w s)) = lt_of_mul-lt-mul_right s (omega arith) in
      let e : Diff eight (over (shr_z w s)) (under (shr_z w s) + 8) = diff-move (diff-sub (diff-of (shr_z w s)) (diff-pos 8)) (omega arith) in
      let c : clamp4 eight ≡ pos 7 = clamp-high 7 eight (le-diff e (diff-of (negsuc 7)) (omega arith)) (lt-diff (diff-pos 7) e (omega arith)) in
      left-of (pos 7) c

-- sixteen steps or more, less fifteen, have 64 bits
pub sub-fits : (w : ℤ) (s : ℕ) → SFits w64 w → lt_z w (pos (16 * s)) ≡ false → SFits w64 (w -ℤ pos (15 * s))
sub-fits (pos n) s f e =
    let l = diff-le (diff-pos n) (diff-pos (16 * s)) e in
    let h = f.sfits in
    subst (λ (z : ℤ). SFits w64 z) (sym (diff-eq (diff-sub (diff-pos n) (diff-pos (15 * s))) (diff-pos (n - 15 * s)) (omega arith))) (record { sfits = omega arith })
sub-fits (negsuc n) s f e = let l = diff-le (diff-of (negsuc n)) (diff-pos (16 * s)) e in absurd (omega arith)

-- ---- products with 2^32 − 1

neg_left : (n b : ℕ) → neg_ℤ (pos n) *ℤ pos b ≡ neg_ℤ (pos (n * b))
neg_left zero b = rw zero-mul
neg_left (suc n) b = refl

neg-both : (n b : ℕ) → neg_ℤ (pos n) *ℤ negsuc b ≡ pos (n * suc b)
neg-both zero b = rw zero-mul
neg-both (suc n) b = refl

-- by the sign of both
by_most : (c s : ℤ) → (pos 4294967295 *ℤ c) *ℤ s ≡ (c *ℤ s) *ℤ pos 4294967295
by_most (pos a) (pos b) = ap pos (omega arith)
by_most (pos a) (negsuc b) =
    let e : 4294967295 * a * suc b ≡ a * suc b * 4294967295 = omega arith in
    ap (λ (n : ℕ). neg_ℤ (pos n)) e ∙ sym (neg_left (a * suc b) 4294967295)
by_most (negsuc a) (pos b) =
    let e : 4294967295 * suc a * b ≡ suc a * b * 4294967295 = omega arith in
    neg_left (4294967295 * suc a) b ∙ ap (λ (n : ℕ). neg_ℤ (pos n)) e ∙ sym (neg_left (suc a * b) 4294967295)
by_most (negsuc a) (negsuc b) =
    let e : 4294967295 * suc a * suc b ≡ suc a * suc b * 4294967295 = omega arith in
    neg-both (4294967295 * suc a) b ∙ ap pos e

fine-is : (x : ℤ) → pos 8796093020160 *ℤ x ≡ (pos 2048 *ℤ x) *ℤ pos 4294967295
fine-is (pos a) = ap pos (omega arith)
fine-is (negsuc a) =
    let e : 8796093020160 * suc a ≡ 2048 * suc a * 4294967295 = omega arith in
    ap (λ (n : ℕ). neg_ℤ (pos n)) e ∙ sym (neg_left (2048 * suc a) 4294967295)

-- ---- one sample

parts-lt : (z : ℤ) (n : ℕ) → nat_abs z < n → (over z < n) × (under z < n)
parts-lt (pos m) n h = (h, omega arith)
parts-lt (negsuc m) n h = (omega arith, h)

module _ (c0 c1 s0 s1 x : ℤ) (p : ℕ) where
  abbrev near : ℤ
  near = c0 *ℤ s0

  abbrev far : ℤ
  far = c1 *ℤ s1

  abbrev twice : ℤ
  twice = pos 2048 *ℤ x

  abbrev rest-of : ℤ
  rest-of = residual c0 c1 s0 s1 x

  -- the number that is clamped to a nibble
  abbrev nibble : ℤ
  nibble = clamp4 (steps_of (raised rest-of p) p)

  -- the code's y
  abbrev pub y_of : ℤ
  y_of = pos 8796093020160 *ℤ x +ℤ pos (4398046511104 * 2 ^ p + 4400193994752)

  -- the code's w
  abbrev pub w_of : ℤ
  w_of = y_of +ℤ ((pos (70368744177664 * 2 ^ p) -ℤ pos 4400193994752) -ℤ (pos 4294967295 *ℤ c1) *ℤ s1) -ℤ (pos 4294967295 *ℤ c0) *ℤ s0

  fine-diff : Diff (pos 8796093020160 *ℤ x) (over twice * 4294967295) (under twice * 4294967295)
  fine-diff = subst (λ (z : ℤ). Diff z (over twice * 4294967295) (under twice * 4294967295)) (sym (fine-is x)) (diff-times (diff-of twice) 4294967295)

  near-diff : Diff ((pos 4294967295 *ℤ c0) *ℤ s0) (over near * 4294967295) (under near * 4294967295)
  near-diff = subst (λ (z : ℤ). Diff z (over near * 4294967295) (under near * 4294967295)) (sym (by_most c0 s0)) (diff-times (diff-of near) 4294967295)

  far-diff : Diff ((pos 4294967295 *ℤ c1) *ℤ s1) (over far * 4294967295) (under far * 4294967295)
  far-diff = subst (λ (z : ℤ). Diff z (over far * 4294967295) (under far * 4294967295)) (sym (by_most c1 s1)) (diff-times (diff-of far) 4294967295)

  rest-diff : Diff rest-of (over twice + (under near + under far)) (under twice + (over near + over far))
  unfolding residual weigh
  rest-diff = diff-sub (diff-of twice) (diff-add (diff-of near) (diff-of far))

  -- w is D times 2^32 − 1, and eight and a half steps
  w-diff : Diff w_of (over rest-of * 4294967295 + 74766790688768 * 2 ^ p) (under rest-of * 4294967295)
  w-diff =
      let e = diff-same rest-diff (diff-of rest-of) in
      diff-move
      (diff-sub (diff-add (diff-add fine-diff (diff-pos (4398046511104 * 2 ^ p + 4400193994752))) (diff-sub (diff-sub (diff-pos (70368744177664 * 2 ^ p)) (diff-pos 4400193994752)) far-diff)) near-diff)
      (omega arith)

  module _ (b : nat_abs rest-of < 4294967296) where
    sized : (over rest-of < 4294967296) × (under rest-of < 4294967296)
    sized = parts-lt rest-of 4294967296 b

    -- over 2^32 it is what is stored
    pub w-shifted : shr_z w_of 4294967296 ≡ raised rest-of p
    unfolding raised
    w-shifted = go (lt_z (pos 0) rest-of) refl
      where
        go : (t : Bool) → lt_z (pos 0) rest-of ≡ t → shr_z w_of 4294967296 ≡ cond t (rest-of +ℤ pos (17408 * 2 ^ p) -ℤ pos 1) (rest-of +ℤ pos (17408 * 2 ^ p))
        go true e =
            let l = diff-lt (diff-pos 0) (diff-of rest-of) e in
            let n = rest-of +ℤ pos (17408 * 2 ^ p) -ℤ pos 1 in
            let d = diff-same (diff-of n) (diff-sub (diff-add (diff-of rest-of) (diff-pos (17408 * 2 ^ p))) (diff-pos 1)) in
            let s = sized in
            floor-unique w_of 4294967296 (omega arith) n ((4294967296 + under rest-of) - over rest-of) (omega (arith, s.0)) (diff-move w-diff (omega (arith, s.0)))
        go false e =
            let l = diff-le (diff-pos 0) (diff-of rest-of) e in
            let n = rest-of +ℤ pos (17408 * 2 ^ p) in
            let d = diff-same (diff-of n) (diff-add (diff-of rest-of) (diff-pos (17408 * 2 ^ p))) in
            let s = sized in
            floor-unique w_of 4294967296 (omega arith) n (under rest-of - over rest-of) (omega (arith, s.1)) (diff-move w-diff (omega (arith, s.1)))

    steps-same : shr_z w_of (fine_scale p) ≡ shr_z (raised rest-of p) (scale p)
    steps-same =
        let e : fine_scale p ≡ 4294967296 * scale p = omega arith in
        ap (shr_z w_of) e ∙ sym (shr-twice w_of 4294967296 (scale p)) ∙ ap (λ (z : ℤ). shr_z z (scale p)) w-shifted

    -- what is shifted by 43
    abbrev sum_of : ℤ
    sum_of = weigh c0 c1 s0 s1 +ℤ nibble *ℤ pos (scale p) +ℤ pos 1024

    weigh-diff : Diff (weigh c0 c1 s0 s1) (over near + over far) (under near + under far)
    unfolding weigh
    weigh-diff = diff-add (diff-of near) (diff-of far)

    sum-diff : Diff (y_of -ℤ rest_of w_of (fine_scale p)) (over sum_of * 4294967296 + (2147483648 + (under near + under far))) (under sum_of * 4294967296 + (over near + over far))
    unfolding rest_of steps_of
    sum-diff =
        let c = ap (λ (z : ℤ). clamp4 (z -ℤ pos 8)) steps-same in
        let n = nibble in
        let d = diff-same (diff-of sum_of) (diff-add (diff-add weigh-diff (diff-times (diff-of n) (scale p))) (diff-pos 1024)) in
        let e = diff-same rest-diff (diff-of rest-of) in
        subst (λ (z : ℤ). Diff (y_of -ℤ (w_of -ℤ (z +ℤ pos 8) *ℤ pos (fine_scale p))) (over sum_of * 4294967296 + (2147483648 + (under near + under far))) (under sum_of * 4294967296 + (over near + over far))) (sym c)
        (diff-move (diff-sub (diff-add fine-diff (diff-pos (4398046511104 * 2 ^ p + 4400193994752))) (diff-sub w-diff (diff-times (diff-add (diff-of n) (diff-pos 8)) (fine_scale p)))) (omega arith))

    -- what the code makes of the sample
    pub traced-is : nat_abs (weigh c0 c1 s0 s1) < 2147483648 → traced_by y_of w_of (fine_scale p) ≡ trace c0 c1 s0 s1 x p
    unfolding traced_by trace
    traced-is q =
        let l = diff-abs weigh-diff in
        let a : shr_z (y_of -ℤ rest_of w_of (fine_scale p)) 4294967296 ≡ sum_of =
        floor-unique (y_of -ℤ rest_of w_of (fine_scale p)) 4294967296 (omega arith) sum_of ((2147483648 + (under near + under far)) - (over near + over far)) (omega arith) (diff-move sum-diff (omega arith)) in
        let s : shr_z (y_of -ℤ rest_of w_of (fine_scale p)) 8796093022208 ≡ shr_z sum_of 2048 = sym (shr-twice (y_of -ℤ rest_of w_of (fine_scale p)) 4294967296 2048) ∙ ap (λ (z : ℤ). shr_z z 2048) a in
        ap₂ (λ (v z : ℤ). record { w = v; s = z }) w-shifted s

  -- ---- sizes
  module _ (r : Roomy c0 c1) (h : p ≤ 12) (f : SFits w16 s0) (g : SFits w16 s1) (k : SFits w16 x) where
    pub weigh-le : nat_abs (weigh c0 c1 s0 s1) ≤ 1879048192
    weigh-le = omega (arith, r.sum, weigh-of c0 c1 s0 s1 f g)

    pub rest_le : nat_abs rest-of ≤ 1946157056
    unfolding residual
    rest_le =
        let a : 2048 * nat_abs x ≤ 2048 * 32768 = mul-le-mul (le_refl 2048) (abs-sfits k) in
        omega (arith, abs-sub twice (weigh c0 c1 s0 s1), abs-mul (pos 2048) x, weigh-le)

    pub w-size : nat_abs w_of ≤ 2017460224 * 4294967296
    w-size =
        let e = parts-lt rest-of 1946157057 (omega (arith, rest_le)) in
        abs_diff w-diff (2017460224 * 4294967296) (omega (arith, e, shl-le 74766790688768 p h)) (omega (arith, e))

    pub raised-size : nat_abs (raised rest-of p) ≤ 2017460224
    unfolding raised
    raised-size = go (lt_z (pos 0) rest-of) refl
      where
        go : (t : Bool) → lt_z (pos 0) rest-of ≡ t → nat_abs (cond t (rest-of +ℤ pos (17408 * 2 ^ p) -ℤ pos 1) (rest-of +ℤ pos (17408 * 2 ^ p))) ≤ 2017460224
        go true e =
            let l = diff-lt (diff-pos 0) (diff-of rest-of) e in
            let q = parts-lt rest-of 1946157057 (omega (arith, rest_le)) in
            abs_diff (diff-sub (diff-add (diff-of rest-of) (diff-pos (17408 * 2 ^ p))) (diff-pos 1)) 2017460224 (omega (arith, q, shl-le 17408 p h)) (omega (arith, q))
        go false e = omega (arith, abs-add rest-of (pos (17408 * 2 ^ p)), rest_le, shl-le 17408 p h)

    pub sum-size : nat_abs (y_of -ℤ rest_of w_of (fine_scale p)) ≤ 2017460224 * 4294967296
    sum-size =
        let n = nibble in
        let m : nat_abs n * scale p ≤ 8 * 8388608 = mul-le-mul (clamp4-size (steps_of (raised rest-of p) p)) (scale-le p h) in
        let a : nat_abs (weigh c0 c1 s0 s1 +ℤ n *ℤ pos (scale p) +ℤ pos 1024) < 1946158081 =
        omega (arith, abs-add (weigh c0 c1 s0 s1 +ℤ n *ℤ pos (scale p)) (pos 1024), abs-add (weigh c0 c1 s0 s1) (n *ℤ pos (scale p)), abs-mul n (pos (scale p)), weigh-le) in
        let e = parts-lt (weigh c0 c1 s0 s1 +ℤ n *ℤ pos (scale p) +ℤ pos 1024) 1946158081 a in
        let l = diff-abs weigh-diff2 in
        abs_diff (sum-diff (omega (arith, rest_le))) (2017460224 * 4294967296) (omega (arith, e, weigh-le)) (omega (arith, e, weigh-le))
      where
        weigh-diff2 : Diff (weigh c0 c1 s0 s1) (over near + over far) (under near + under far)
        weigh-diff2 = weigh-diff (omega (arith, rest_le))

-- a quotient is smaller
pub shr_le : (z : ℤ) (n k : ℕ) → 0 < k → nat_abs z ≤ n * k → nat_abs (shr_z z k) ≤ n
shr_le (pos a) n k p h = le_of_mul-le-mul_right (le_trans (div-mul-le_self a k) h) p
shr_le (negsuc a) n k p h = lt_of_mul-lt-mul_right k (lt_of_le_of_lt (div-mul-le_self a k) h)

pub product_le : {c s : ℤ} → SFits w16 c → SFits w16 s → nat_abs ((pos 4294967295 *ℤ c) *ℤ s) ≤ 4611686018427387904
product_le {c} {s} f g = let m : nat_abs c * nat_abs s ≤ 32768 * 32768 = mul-le-mul (abs-sfits f) (abs-sfits g) in
    subst (λ (z : ℤ). nat_abs z ≤ 4611686018427387904) (sym (by_most c s)) (omega (arith, abs-mul (c *ℤ s) (pos 4294967295), abs-mul c s))

-- ---- the places that are written

-- what holds of an element and of what is stored holds of the element after the store
at-either : (xs : List ℤ) (x : ℤ) (i j : ℕ) (P : ℤ → Type 0) → i < length xs → P x → P (get_or xs j (pos 0)) → P (get_or (set xs i x) j (pos 0))
at-either xs x i j P l a b = go (dec_le i j) (dec_le j i)
  where
    other : (j ≡ i → ⊥) → P (get_or (set xs i x) j (pos 0))
    other n = subst P (sym (get_or-set_other xs i j x (pos 0) n)) b

    go : Dec (i ≤ j) → Dec (j ≤ i) → P (get_or (set xs i x) j (pos 0))
    go (yes m) (yes n) = let e : i ≡ j = omega arith in subst (λ (k : ℕ). P (get_or (set xs i x) k (pos 0))) e (subst P (sym (get_or-set_same xs i x (pos 0) l)) a)
    go (yes m) (no n) = other (λ (q : j ≡ i). omega (arith, n))
    go (no m) n = other (λ (q : j ≡ i). omega (arith, m))

module _ (c0 c1 : ℤ) (fs : List ℤ) (p : ℕ) where
  abbrev pub newest_at : ℕ → ℤ
  newest_at i = (tracked c0 c1 (history_of fs) (samples_of fs) p i).newest

  abbrev pub older_at : ℕ → ℤ
  older_at i = (tracked c0 c1 (history_of fs) (samples_of fs) p i).older

  abbrev pub at : ℕ → Traced
  at i = trace_at c0 c1 (history_of fs) (samples_of fs) p i

  -- y at place i, and what the sum there begins with
  abbrev pub lifted : ℕ → ℤ
  lifted i = pos 8796093020160 *ℤ get_or fs (i + 2) (pos 0) +ℤ pos (4398046511104 * 2 ^ p + 4400193994752)

  abbrev pub started : ℕ → ℤ
  started i = lifted i +ℤ ((pos (70368744177664 * 2 ^ p) -ℤ pos 4400193994752) -ℤ (pos 4294967295 *ℤ c1) *ℤ older_at i)

  -- after i samples: what is written, and that the newest samples have 16 bits
  pub record Ran (i : ℕ) (ws ss : List ℤ) : Type 0 where
    pub spare : Spare ws ss
    pub w_at : (j : ℕ) → j < i → get_or ws j (pos 0) ≡ (at j).w
    pub s-at : (j : ℕ) → j < i → get_or ss j (pos 0) ≡ (at j).s
    pub s-fits : (j : ℕ) → j < i → SFits w16 (at j).s
    pub newest-fits : SFits w16 (newest_at i)
    pub older-fits : SFits w16 (older_at i)

  pub ran-start : (ws ss : List ℤ) → Spare ws ss → SFits w16 (get_or fs 1 (pos 0)) → SFits w16 (get_or fs 0 (pos 0)) → Ran 0 ws ss
  unfolding tracked
  ran-start ws ss e f g = record { spare = e; w_at = λ j l. absurd (none_below j l); s-at = λ j l. absurd (none_below j l); s-fits = λ j l. absurd (none_below j l); newest-fits = f; older-fits = g }

  pub newest-more : (i : ℕ) → newest_at (i + 1) ≡ (at i).s
  unfolding tracked trace_at
  newest-more i = rw add-one

  pub older-more : (i : ℕ) → older_at (i + 1) ≡ newest_at i
  unfolding tracked
  older-more i = rw add-one

  pub ran-more : (i : ℕ) (ws ss : List ℤ) → i < 14 → Ran i ws ss → SFits w16 (at i).s → nat_abs (at i).w ≤ 2017460224 → Ran (i + 1) (set ws i (at i).w) (set ss i (at i).s)
  ran-more i ws ss l r f k = record {
    spare = record {
      w-length = length-set ws i (at i).w ∙ e.w-length;
      s-length = length-set ss i (at i).s ∙ e.s-length;
      w-size = λ j m. at-either ws (at i).w i j (λ (z : ℤ). nat_abs z ≤ 2017460224) (omega (arith, e.w-length)) k (e.w-size j m);
      w-after = λ j m n. get_or-set_other ws i j (at i).w (pos 0) (above j m) ∙ e.w-after j m n;
      s-after = λ j m n. get_or-set_other ss i j (at i).s (pos 0) (above j m) ∙ e.s-after j m n;
    };
    w_at = stored_more (λ (j : ℕ). (at j).w) ws i (at i).w (omega (arith, e.w-length)) refl r.w_at;
    s-at = stored_more (λ (j : ℕ). (at j).s) ss i (at i).s (omega (arith, e.s-length)) refl r.s-at;
    s-fits = below_more (λ (j : ℕ). SFits w16 (at j).s) i r.s-fits f;
    newest-fits = subst (λ (z : ℤ). SFits w16 z) (sym (newest-more i)) f;
    older-fits = subst (λ (z : ℤ). SFits w16 z) (sym (older-more i)) r.newest-fits;
  }
    where
      e : Spare ws ss
      e = r.spare

      above : (j : ℕ) → 14 ≤ j → j ≡ i → ⊥
      above j m q = omega arith

  pub ran-done : (ws ss : List ℤ) → Ran 14 ws ss → Traces c0 c1 (history_of fs) (samples_of fs) p ws ss
  ran-done ws ss r = record { w_at = r.w_at; s-at = r.s-at; fit = record { at = λ i l. subst (λ (z : ℤ). SFits w16 z) (sym (r.s-at i l)) (r.s-fits i l) } }

-- ---- the test of 16 bits

pub within-16 : (s : ℤ) → is_beyond s ≡ false → SFits w16 s
unfolding is_beyond
within-16 s e = let n = neither (lt_z s (negsuc 32767)) (lt_z (pos 32767) s) e in mid-fits s n.0 n.1

pub roomy-is : (c0 c1 : ℤ) → is_roomy c0 c1 ≡ true → Roomy c0 c1
unfolding is_roomy
roomy-is c0 c1 e = record { sum = leb-true (nat_abs c0 + nat_abs c1) 57344 e }

pub roomy-bounded : {c0 c1 : ℤ} → Roomy c0 c1 → Bounded c0 c1
roomy-bounded h = record { sum = omega (arith, h.sum) }
