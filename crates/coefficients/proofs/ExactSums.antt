-- "Sums of sample products are exact": the Rust's sums in f64, turn by turn, are the whole sums.
use Rattle.std.proofs.Common.{◌≡◌, ℕ, zero, suc, ◌+◌, ◌-◌, ◌*◌, ◌≤◌, Bool, true, false, cond, not, ltb, ◌⊎◌, List, get_or, ℤ, pos, negsuc, ◌+ℤ◌, ◌-ℤ◌, ◌*ℤ◌, neg_ℤ, nat_abs, sym, refl, ap, ◌∙◌, ap₂, inl, inr, mul-le-mul, arith, w16, SFits, ltb-false, ltb-true}
use lib.Ieee.{Float, nan, inf, fin, Format, binary64, round, sum, neg, add, sub, of_int}
use lib.Ieee.Back.{round_whole}
use lib.Ieee.Exact.{HasValue}
use Rattle.whole.proofs.Differences.{diff-of, diff-pos, diff-neg, diff-add, diff-sub, diff-eq}
use Rattle.whole.proofs.SignedLocals.{abs-add, abs-sub, abs-mul, abs-sfits}
use Rattle.float.proofs.Value.{sum_is, add-value}
use Rattle.coefficients.specs.Sums.{dot, lag, neg_lag}
use Rattle.coefficients.specs.RustSums.{product, lessened, raised}

-- ---- whole numbers in f64

-- a whole number by its sign and size
abbrev signed : Bool → ℕ → ℤ
signed false a = pos a
signed true a = neg_ℤ (pos a)

abbrev sign_of : ℤ → Bool
sign_of (pos n) = false
sign_of (negsuc n) = true

round-signed : (f : Format) (s : Bool) (a : ℕ) → (s ≡ false) ⊎ (1 ≤ a) → round f s a 1 ≡ of_int f (signed s a)
unfolding of_int
round-signed f false a o = refl
round-signed f true zero (inl e) = absurd (let z : ◌≡◌ {A = ℕ} 0 1 = ap (λ (t : Bool). cond t 1 0) (sym e) in omega arith)
round-signed f true zero (inr h) = absurd (omega arith)
round-signed f true (suc a) o = refl

-- the exact sum, rounded once
module _ (f : Format) where
  sum-signed : (s : Bool) (a : ℕ) (t : Bool) (b : ℕ) → (s ≡ false) ⊎ (1 ≤ a) → sum f s a t b 1 ≡ of_int f (signed s a +ℤ signed t b)
  sum-signed false a false b o = sum_is f false a false b 1 ∙ round-signed f false (a + b) (inl refl)
  sum-signed true a true b (inl e) = absurd (let z : ◌≡◌ {A = ℕ} 0 1 = ap (λ (t : Bool). cond t 1 0) (sym e) in omega arith)
  sum-signed true a true b (inr h) =
      sum_is f true a true b 1
      ∙ round-signed f true (a + b) (inr (omega arith))
      ∙ ap (of_int f) (diff-eq (diff-neg (diff-pos (a + b))) (diff-add (diff-neg (diff-pos a)) (diff-neg (diff-pos b))) (omega arith))
  sum-signed false a true b o = sum_is f false a true b 1 ∙ go (ltb a b) refl
    where
      go : (t : Bool) → ltb a b ≡ t → cond t (round f true (b - a) 1) (round f false (a - b) 1) ≡ of_int f (pos a +ℤ neg_ℤ (pos b))
      go true e =
          let l = ltb-true a b e in
          round-signed f true (b - a) (inr (omega arith))
          ∙ ap (of_int f) (diff-eq (diff-neg (diff-pos (b - a))) (diff-add (diff-pos a) (diff-neg (diff-pos b))) (omega arith))
      go false e =
          let l = ltb-false a b e in
          round-signed f false (a - b) (inl refl)
          ∙ ap (of_int f) (diff-eq (diff-pos (a - b)) (diff-add (diff-pos a) (diff-neg (diff-pos b))) (omega arith))
  sum-signed true a false b o = sum_is f true a false b 1 ∙ go (ltb a b) refl (ltb b a) refl
    where
      go : (t : Bool) → ltb a b ≡ t → (u : Bool) → ltb b a ≡ u → cond t (round f false (b - a) 1) (round f u (a - b) 1) ≡ of_int f (neg_ℤ (pos a) +ℤ pos b)
      go true e u d =
          let l = ltb-true a b e in
          round-signed f false (b - a) (inl refl)
          ∙ ap (of_int f) (diff-eq (diff-pos (b - a)) (diff-add (diff-neg (diff-pos a)) (diff-pos b)) (omega arith))
      go false e true d =
          let l = ltb-true b a d in
          round-signed f true (a - b) (inr (omega arith))
          ∙ ap (of_int f) (diff-eq (diff-neg (diff-pos (a - b))) (diff-add (diff-neg (diff-pos a)) (diff-pos b)) (omega arith))
      go false e false d =
          let l = ltb-false a b e in
          let m = ltb-false b a d in
          round-signed f false (a - b) (inl refl)
          ∙ ap (of_int f) (diff-eq (diff-pos (a - b)) (diff-add (diff-neg (diff-pos a)) (diff-pos b)) (omega arith))

whole-value : (z : ℤ) → nat_abs z ≤ 9007199254740992 → HasValue (of_int binary64 z) (sign_of z) (nat_abs z) 1
unfolding of_int
whole-value (pos n) h = round_whole binary64 false n h
whole-value (negsuc n) h = round_whole binary64 true (suc n) h

neg_value : (x : Float) (s : Bool) (a c : ℕ) → HasValue x s a c → HasValue (neg x) (not s) a c
unfolding neg
neg_value nan s a c v = v
neg_value (inf t) s a c v = v
neg_value (fin t m e) s a c v = (ap not v.0, v.1)

some-sign : (z : ℤ) → (sign_of z ≡ false) ⊎ (1 ≤ nat_abs z)
some-sign (pos n) = inl refl
some-sign (negsuc n) = inr (omega arith)

signed_is : (z : ℤ) → signed (sign_of z) (nat_abs z) ≡ z
signed_is (pos n) = refl
signed_is (negsuc n) = refl

signed-neg : (z : ℤ) → signed (not (sign_of z)) (nat_abs z) ≡ neg_ℤ z
signed-neg (pos n) = refl
signed-neg (negsuc n) = refl

-- f64's sum and difference of whole numbers up to 2^53
module _ (y z : ℤ) (hy : nat_abs y ≤ 9007199254740992) (hz : nat_abs z ≤ 9007199254740992) where
  pub add-whole : add binary64 (of_int binary64 y) (of_int binary64 z) ≡ of_int binary64 (y +ℤ z)
  add-whole =
      add-value binary64 (of_int binary64 y) (of_int binary64 z) (sign_of y) (sign_of z) (nat_abs y) (nat_abs z) 1 (omega arith) (whole-value y hy) (whole-value z hz)
      ∙ sum-signed binary64 (sign_of y) (nat_abs y) (sign_of z) (nat_abs z) (some-sign y)
      ∙ ap₂ (λ (a b : ℤ). of_int binary64 (a +ℤ b)) (signed_is y) (signed_is z)

  pub sub-whole : sub binary64 (of_int binary64 y) (of_int binary64 z) ≡ of_int binary64 (y -ℤ z)
  unfolding sub
  sub-whole =
      let n = neg_value (of_int binary64 z) (sign_of z) (nat_abs z) 1 (whole-value z hz) in
      add-value binary64 (of_int binary64 y) (neg (of_int binary64 z)) (sign_of y) (not (sign_of z)) (nat_abs y) (nat_abs z) 1 (omega arith) (whole-value y hy) n
      ∙ sum-signed binary64 (sign_of y) (nat_abs y) (not (sign_of z)) (nat_abs z) (some-sign y)
      ∙ ap₂ (λ (a b : ℤ). of_int binary64 (a +ℤ b)) (signed_is y) (signed-neg z)
      ∙ ap (of_int binary64) (diff-eq (diff-add (diff-of y) (diff-neg (diff-of z))) (diff-sub (diff-of y) (diff-of z)) (omega arith))

-- ---- the sums

module _ (h : List ℤ) (fits : (i : ℕ) → SFits w16 (get_or h i (pos 0))) (a b : ℕ) where
  abbrev term : ℕ → ℤ
  term k = get_or h (14 + k - a) (pos 0) *ℤ get_or h (14 + k - b) (pos 0)

  term-small : (k : ℕ) → nat_abs (term k) ≤ 1073741824
  term-small k =
      let x = get_or h (14 + k - a) (pos 0) in
      let y = get_or h (14 + k - b) (pos 0) in
      let m : nat_abs x * nat_abs y ≤ 32768 * 32768 = mul-le-mul (abs-sfits (fits (14 + k - a))) (abs-sfits (fits (14 + k - b))) in
      omega (arith, m, abs-mul x y)

  dot-small : (k : ℕ) → nat_abs (dot h a b k) ≤ k * 1073741824
  unfolding dot
  dot-small zero = omega arith
  dot-small (suc k) = omega (arith, abs-add (dot h a b k) (term k), dot-small k, term-small k)

  less-small : (k : ℕ) → nat_abs (pos 0 -ℤ dot h a b k) ≤ k * 1073741824
  less-small k = omega (arith, abs-sub (pos 0) (dot h a b k), dot-small k)

  raised_is : (k : ℕ) → k ≤ 14 → raised h a b k ≡ of_int binary64 (dot h a b k)
  unfolding raised dot
  raised_is zero l = refl
  raised_is (suc k) l =
      ap (λ (x : Float). add binary64 x (product h a b k)) (raised_is k (omega arith))
      ∙ add-whole (dot h a b k) (term k) (omega (arith, dot-small k)) (omega (arith, term-small k))

  lessened-is : (k : ℕ) → k ≤ 14 → lessened h a b k ≡ of_int binary64 (pos 0 -ℤ dot h a b k)
  unfolding lessened dot
  lessened-is zero l = refl
  lessened-is (suc k) l =
      let d = diff-of (dot h a b k) in
      let t = diff-of (term k) in
      ap (λ (x : Float). sub binary64 x (product h a b k)) (lessened-is k (omega arith))
      ∙ sub-whole (pos 0 -ℤ dot h a b k) (term k) (omega (arith, less-small k)) (omega (arith, term-small k))
      ∙ ap (of_int binary64) (diff-eq (diff-sub (diff-sub (diff-pos 0) d) t) (diff-sub (diff-pos 0) (diff-add d t)) (omega arith))

  -- of a history of 16-bit samples, the Rust's sums in f64 are the whole sums
  pub sum-is-exact : raised h a b 14 ≡ lag h a b
  unfolding lag
  sum-is-exact = raised_is 14 (omega arith)

  pub difference-is-exact : lessened h a b 14 ≡ neg_lag h a b
  unfolding neg_lag
  difference-is-exact = lessened-is 14 (omega arith)
