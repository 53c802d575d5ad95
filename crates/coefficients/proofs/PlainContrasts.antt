-- Plain contrasts that leave no doubt choose the vector that exact ones choose.
use Rattle.std.proofs.Common.{◌≡◌, ℕ, zero, suc, ◌+◌, ◌*◌, ◌^◌, ◌<◌, ◌≤◌, true, List, get_or, pos, sym, refl, mul-le-mul_right, arith, lit<, lit≤}
use native.Mathlib.Decide.{ℕ_discrete}
use lib.Ieee.{Float, binary64, of_bits, neg, lt, fits}
use Rattle.float.specs.Operations.{negative}
use Rattle.float.proofs.InUnits.{AtMost, InUnits, over, under, mag, at-most-sides, at-most-between, at-most-literal, neg-at-most, lt-true, true-lt}
use Rattle.float.proofs.RoundingDistance.{RoundingsApart, apart-same, add-at-most, mul-at-most, fma-at-most, mul-apart, fma-apart, add-near}
use Rattle.float.proofs.RoundingError.{ample64, slack}
use Rattle.coefficients.specs.declared.contrasts.Lead.{Lead}
use Rattle.coefficients.specs.declared.merging.Record.{Record}
use Rattle.coefficients.specs.declared.merging.VectorTerms.{VectorTerms}
use Rattle.coefficients.specs.Constants.{f2, f_e30, ◌*f◌, ◌+f◌, fma}
use Rattle.coefficients.specs.inner.SharedTerms.{record_side, terms_contrast, least_by_terms, gone_through, blank_terms}
use Rattle.coefficients.proofs.LeastAndNext.{Below, Finds, Leads, finds-first, finds-next, leads-first, leads-next}
use Rattle.coefficients.specs.inner.PlainContrasts.{f16, Small, Smalls, SmallTerms, AllSmall, plain_side, plain_contrast, leading}

-- ---- the numbers that the code names

f2-at-most : AtMost binary64 f2 2
unfolding of_bits fits
f2-at-most = at-most-literal {e = pos 1} 2 tt (lit≤ tt)

f16-at-most : AtMost binary64 f16 16
unfolding of_bits fits
f16-at-most = at-most-literal {e = pos 4} 16 tt (lit≤ tt)

-- ---- contrasts

small-at-most : {x : Float} → Small x → AtMost binary64 x 16
small-at-most h = at-most-between h.format f16-at-most h.above h.below

-- exact and plain contrasts of a record and a vector
module _ (v : VectorTerms) (b : Record) (val : Float) (sv : SmallTerms v) (sb : Smalls b.v1 b.v2 val) where
  x : AtMost binary64 (neg b.v1) 16
  x = neg-at-most (small-at-most sb.one)

  y : AtMost binary64 (neg b.v2) 16
  y = neg-at-most (small-at-most sb.two)

  q : AtMost binary64 val 16
  q = small-at-most sb.three

  inner : AtMost binary64 (fma (neg b.v1) val (neg b.v2)) 273
  inner = fma-at-most ample64 x q y (lit≤ tt)

  inner' : AtMost binary64 (neg b.v1 *f val +f neg b.v2) 274
  inner' = add-at-most ample64 (mul-at-most ample64 x q (lit≤ tt)) y (lit≤ tt)

  last : AtMost binary64 (f2 *f fma (neg b.v1) val (neg b.v2)) 547
  last = mul-at-most ample64 f2-at-most inner (lit≤ tt)

  last' : AtMost binary64 (f2 *f (neg b.v1 *f val +f neg b.v2)) 549
  last' = mul-at-most ample64 f2-at-most inner' (lit≤ tt)

  last_apart : RoundingsApart binary64 15 (f2 *f fma (neg b.v1) val (neg b.v2)) (f2 *f (neg b.v1 *f val +f neg b.v2)) 8
  last_apart =
      mul-apart ample64 3 f2-at-most inner inner' (lit≤ tt) (lit≤ tt)
      (fma-apart ample64 0 0 x q y x y (lit≤ tt) (lit≤ tt) (apart-same binary64 15 (neg b.v1)) (apart-same binary64 15 (neg b.v2)))

  twice : AtMost binary64 (f2 *f val) 33
  twice = mul-at-most ample64 f2-at-most q (lit≤ tt)

  rest : AtMost binary64 (fma (f2 *f val) v.val2 v.val1) 545
  rest = fma-at-most ample64 twice (small-at-most sv.two) (small-at-most sv.one) (lit≤ tt)

  rest' : AtMost binary64 (f2 *f val *f v.val2 +f v.val1) 546
  rest' = add-at-most ample64 (mul-at-most ample64 twice (small-at-most sv.two) (lit≤ tt)) (small-at-most sv.one) (lit≤ tt)

  rest-apart : RoundingsApart binary64 15 (fma (f2 *f val) v.val2 v.val1) (f2 *f val *f v.val2 +f v.val1) 3
  rest-apart =
      fma-apart ample64 0 0 twice (small-at-most sv.two) (small-at-most sv.one) twice (small-at-most sv.one) (lit≤ tt) (lit≤ tt)
      (apart-same binary64 15 (f2 *f val)) (apart-same binary64 15 v.val1)

  exact-at-most : AtMost binary64 (terms_contrast v (record_side b val)) 9298
  unfolding terms_contrast record_side
  exact-at-most = fma-at-most ample64 last (small-at-most sv.three) rest (lit≤ tt)

  plain-at-most : AtMost binary64 (plain_contrast v (plain_side b val)) 9332
  unfolding plain_contrast plain_side
  plain-at-most = add-at-most ample64 (mul-at-most ample64 last' (small-at-most sv.three) (lit≤ tt)) rest' (lit≤ tt)

  contrasts-apart : RoundingsApart binary64 15 (terms_contrast v (record_side b val)) (plain_contrast v (plain_side b val)) 134
  unfolding terms_contrast record_side plain_contrast plain_side
  contrasts-apart = fma-apart ample64 8 3 last (small-at-most sv.three) rest last' rest' (lit≤ tt) (lit≤ tt) last_apart rest-apart

-- ---- the choice

far-own : InUnits binary64 f_e30
unfolding of_bits fits
far-own = (at-most-literal {f = binary64} {e = pos 48} 1267650600228229401496703205376 tt (lit≤ tt)).is

far-above : 9333 * 2 ^ 1074 + under binary64 f_e30 ≤ over binary64 f_e30
unfolding of_bits over under mag negative
far-above = lit≤ tt

-- a small number lies below 1.0e30
far : {x : Float} {n : ℕ} → AtMost binary64 x n → n ≤ 9332 → lt x f_e30 ≡ true
far {x} {n} h l =
    true-lt binary64 x f_e30 h.is far-own
    (beyond (over binary64 x) (under binary64 x) n (2 ^ 1074) (over binary64 f_e30) (under binary64 f_e30) (at-most-sides h) (mul-le-mul_right (2 ^ 1074) l) (lit< tt) far-above)
  where
    beyond : (a b n u c d : ℕ) → a + b ≤ n * u → n * u ≤ 9332 * u → 0 < u → 9333 * u + d ≤ c → a + d < c + b
    beyond a b n u c d h l p q = omega arith

-- at least twice what an exact and a plain contrast can be apart, and what the rounding of a sum can move
pub record Wide (g : Float) : Type 0 where
  pub at_most : AtMost binary64 g 1
  pub wide : 269 * slack binary64 15 + under binary64 g ≤ over binary64 g

-- a is exact and p plain, and so are c and q; s is p and the gap g, t the second of the plain ones
clash : (a a' p p' c c' q q' s s' t t' g g' e : ℕ) → a + p' ≤ a' + p + 134 * e → c' + q ≤ c + q' + 134 * e
    → s' + (p + g) ≤ s + (p' + g') + e → s + t' < t + s' → t + q' ≤ q + t' → 269 * e + g' ≤ g → c + a' ≤ a + c' → ⊥
clash a a' p p' c c' q q' s s' t t' g g' e A B C D E F G = omega arith

module _ (ts : List VectorTerms) (n : ℕ) (b : Record) (val : Float) (sv : AllSmall ts n) (sb : Smalls b.v1 b.v2 val) where
  abbrev exact : ℕ → Float
  exact j = terms_contrast (get_or ts j blank_terms) (record_side b val)

  abbrev plain : ℕ → Float
  plain j = plain_contrast (get_or ts j blank_terms) (plain_side b val)

  exact-at : (j : ℕ) → j < n → AtMost binary64 (exact j) 9298
  exact-at j h = exact-at-most (get_or ts j blank_terms) b val (sv j h) sb

  plain_at : (j : ℕ) → j < n → AtMost binary64 (plain j) 9332
  plain_at j h = plain-at-most (get_or ts j blank_terms) b val (sv j h) sb

  finds : (k : ℕ) → k < n → Finds exact n (λ j h. (exact-at j h).is) (suc k) (least_by_terms ts (record_side b val) (suc k))
  unfolding gone_through
  finds zero h = finds-first exact n (λ j h. (exact-at j h).is) _ (far (exact-at 0 h) (lit≤ tt))
  finds (suc k) h = finds-next exact n (λ j h. (exact-at j h).is) (suc k) _ h (finds k (omega arith))

  leads : (k : ℕ) → k < n → Leads plain n (λ j h. (plain_at j h).is) (suc k) (leading ts (plain_side b val) (suc k))
  unfolding gone_through
  leads zero h = leads-first plain n (λ j h. (plain_at j h).is) _ far-own far-own (far (plain_at 0 h) (lit≤ tt))
  leads (suc k) h = leads-next plain n (λ j h. (plain_at j h).is) (suc k) _ h (leads k (omega arith))

  -- no other place i than that of the least plain one has an exact one that is as small
  no_other : (m i : ℕ) (l : Lead) (f : Float) → Wide f → m ≤ n → i < m → Leads plain n (λ j h. (plain_at j h).is) m l → lt (l.least +f f) l.second ≡ true
      → Below (exact i) (exact l.index) → (i ≡ l.index → ⊥) → ⊥
  no_other m i l f w M h r d g q =
      let k = l.index in
      let K : k < n = omega (arith, r.place) in
      let I : i < n = omega arith in
      let e : AtMost binary64 l.least 9332 = rw r.value (plain_at k K) in
      let A : RoundingsApart binary64 15 (exact k) l.least 134 = rw r.value (contrasts-apart (get_or ts k blank_terms) b val (sv k K) sb) in
      let B = contrasts-apart (get_or ts i blank_terms) b val (sv i I) sb in
      let C = add-near ample64 e w.at_most (lit≤ tt) in
      let D = lt-true binary64 (l.least +f f) l.second (add-at-most ample64 e w.at_most (lit≤ tt)).is r.own2 d in
      clash
      (over binary64 (exact k)) (under binary64 (exact k)) (over binary64 l.least) (under binary64 l.least)
      (over binary64 (exact i)) (under binary64 (exact i)) (over binary64 (plain i)) (under binary64 (plain i))
      (over binary64 (l.least +f f)) (under binary64 (l.least +f f)) (over binary64 l.second) (under binary64 l.second)
      (over binary64 f) (under binary64 f) (slack binary64 15)
      A.is.le B.is.ge C.ge D (r.others i h q) w.wide g

  abbrev lead : ℕ → Lead
  lead k = leading ts (plain_side b val) k

  abbrev least : ℕ → ℕ
  least k = (least_by_terms ts (record_side b val) k).index

  pub clear : (g : Float) → Wide g → lt ((leading ts (plain_side b val) n).least +f g) (leading ts (plain_side b val) n).second ≡ true
      → (leading ts (plain_side b val) n).index ≡ (least_by_terms ts (record_side b val) n).index
  unfolding gone_through
  clear g w d = go n refl d
    where
      go : (m : ℕ) → m ≡ n → lt ((lead m).least +f g) (lead m).second ≡ true → (lead m).index ≡ least m
      go zero e d = refl
      go (suc k) e d =
          let L = leads k (omega arith) in
          let F = finds k (omega arith) in
          elim (ℕ_discrete (least (suc k)) (lead (suc k)).index) [
            | yes p ↦ sym p
            | no q ↦ absurd (no_other (suc k) (least (suc k)) (lead (suc k)) g w (omega arith) F.place L d (rw F.value at (F.all (lead (suc k)).index L.place)) q)
          ]
