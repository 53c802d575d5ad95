-- Laws of a pass: sizes, the loop's step, what holds at each place.
use mathlib.Core.Path.{◌≡◌, refl, sym, ap, ◌∙◌, subst}
use mathlib.Core.Bool.{Bool, true, false}
use mathlib.Core.List.{List, [], ◌∷◌, ◌++◌}
use Prim.Native.Nat.{ℕ, zero, suc, ◌+◌, ◌*◌, ◌^◌, ◌<◌, ◌≤◌, max}
use native.Mathlib.Numerals.{add-one}
use native.Mathlib.Nat.{le_refl, le_trans, le_of_eq, mul-le-mul, lt_of_not-le}
use native.Mathlib.Decide.{dec_le}
use native.Mathlib.Omega.{arith}
use lib.IntN.{ℤ, pos, negsuc, nat_abs, ◌+ℤ◌, ◌*ℤ◌}
use lib.Signed.{lt_z}
use borrow.Author.Tests.{ltb-false}
use lib.ListN.{get_or, take, set, length, length-append, get_or-append}
use lib.Seq.{take-suc-set, take_all, get_or_at}
use mir.Syntax.{w16}
use mir.Val.{SFits}
use Rattle.whole.specs.Whole.{clamp16, floored}
use Rattle.whole.proofs.SignedLocals.{abs-sub, abs-mul, abs-sfits}
use Rattle.whole.proofs.FloorDivision.{floor-scaled}
use Rattle.whole.proofs.Clamping.{clamp-fits, clamp-low, clamp-high, clamp-mid}
use Rattle.whole.specs.declared.History.{History}
use Rattle.frame.specs.declared.pass.Step.{Step}
use Rattle.frame.specs.declared.pass.Pass.{Pass}
use Rattle.frame.specs.Estimate.{weigh}
use Rattle.frame.specs.Quantise.{scale, quantise, clamp4}
use Rattle.frame.specs.Pass.{Bounded, residual, reconstruct, code_sample, squared_difference, Carried, next, upto, run_pass}
use Rattle.frame.specs.Frame.{preceded}
use Rattle.frame.specs.inner.Nibbles.{InNibble, up, down}
use Rattle.frame.specs.Fits.{Fit, FitHistory}
use Rattle.frame.proofs.LawsOrder.{none_below}
use Rattle.frame.proofs.LawsEstimate.{weigh-size}
use Rattle.frame.proofs.LawsQuantise.{quantise-size, quantise-12, clamp4-size, clamp4-excess}

-- ---- sizes

pub residual-size : (c0 c1 s0 s1 x : ℤ) → Bounded c0 c1 → SFits w16 s0 → SFits w16 s1 → SFits w16 x → nat_abs (residual c0 c1 s0 s1 x) ≤ 2080374784
unfolding residual
residual-size c0 c1 s0 s1 x l f g h =
    let m : 2048 * nat_abs x ≤ 2048 * 32768 = mul-le-mul (le_refl 2048) (abs-sfits h) in
    omega (arith, abs-sub (pos 2048 *ℤ x) (weigh c0 c1 s0 s1), abs-mul (pos 2048) x, weigh-size c0 c1 s0 s1 l f g)

pub step_fits : (c0 c1 s0 s1 x : ℤ) (p : ℕ) → SFits w16 (code_sample c0 c1 s0 s1 x p).sample
unfolding code_sample reconstruct
step_fits c0 c1 s0 s1 x p = clamp-fits (floored (weigh c0 c1 s0 s1 +ℤ clamp4 (quantise (residual c0 c1 s0 s1 x) p) *ℤ pos (scale p) +ℤ pos 1024) 2048)

pub step-overflow : (c0 c1 s0 s1 x : ℤ) (p : ℕ) → Bounded c0 c1 → SFits w16 s0 → SFits w16 s1 → SFits w16 x → (code_sample c0 c1 s0 s1 x p).overflow ≤ 2080375049
unfolding code_sample
step-overflow c0 c1 s0 s1 x p l f g h =
    let u = quantise (residual c0 c1 s0 s1 x) p in
    let r = residual-size c0 c1 s0 s1 x l f g h in
    omega (arith, abs-sub u (clamp4 u), clamp4-size u, quantise-size (residual c0 c1 s0 s1 x) p (omega arith))

-- ---- playing gives what encoding reconstructed

-- "clamp(((c0 × s0 + c1 × s1 + 1024) >> 11) + nibble × scale)", for scale 2^p
pub reconstruct-played : (c0 c1 s0 s1 n : ℤ) (p : ℕ) → reconstruct c0 c1 s0 s1 n p ≡ clamp16 (floored (weigh c0 c1 s0 s1 +ℤ pos 1024) 2048 +ℤ n *ℤ pos (2 ^ p))
unfolding reconstruct
reconstruct-played c0 c1 s0 s1 n p = ap clamp16 (floor-scaled (weigh c0 c1 s0 s1) n (2 ^ p))

-- ---- the loop's step

-- what is carried, by its fields
abbrev pub carried : ℤ → ℤ → List ℤ → List ℤ → ℕ → ℕ → Carried
carried a b ns ss o d = record { s0 = a; s1 = b; nibbles = ns; samples = ss; overflow = o; distance = d }

pub carried-more : (c0 c1 : ℤ) (h : History) (xs : List ℤ) (p i : ℕ) (a b : ℤ) (ns ss : List ℤ) (o d : ℕ) (t : Step) → i < length ns → i < length ss
    → upto c0 c1 h xs p i ≡ carried a b (take i ns) (take i ss) o d → t ≡ code_sample c0 c1 a b (get_or xs i (pos 0)) p
    → upto c0 c1 h xs p (i + 1) ≡ carried t.sample a (take (i + 1) (set ns i t.nibble)) (take (i + 1) (set ss i t.sample)) (max o t.overflow)
    (d + squared_difference (get_or xs i (pos 0)) t.sample)
unfolding upto next
carried-more c0 c1 h xs p i a b ns ss o d t hn hs e s =
    rw (add-one, take-suc-set ns i, take-suc-set ss i) (ap (λ (u : Carried). next c0 c1 p u (get_or xs i (pos 0))) e ∙ rw (← s))

pub carried-done : (c0 c1 : ℤ) (h : History) (xs : List ℤ) (p i : ℕ) (a b : ℤ) (ns ss : List ℤ) (o d : ℕ) → i ≡ 14 → length ns ≡ 14 → length ss ≡ 14
    → upto c0 c1 h xs p i ≡ carried a b (take i ns) (take i ss) o d
    → ◌≡◌ {A = Pass} (record { nibbles = ns; samples = ss; overflow = o; distance = d }) (run_pass c0 c1 h xs p)
unfolding run_pass
carried-done c0 c1 h xs p i a b ns ss o d e ln ls inv =
    let tn : take 14 ns ≡ ns = take_all 14 ns (le_of_eq ln) in
    let ts : take 14 ss ≡ ss = take_all 14 ss (le_of_eq ls) in
    let q : upto c0 c1 h xs p 14 ≡ carried a b ns ss o d = rw (e, tn, ts) at inv in
    rw q

-- ---- a list that grows by one element a place
module _ (l : ℕ → List ℤ) (v : ℕ → ℤ) (none : l 0 ≡ []) (more : (i : ℕ) → l (suc i) ≡ l i ++ (v i ∷ [])) where
  pub grown-length : (i : ℕ) → length (l i) ≡ i
  grown-length zero = ap length none
  grown-length (suc i) = ap length (more i) ∙ length-append (l i) (v i ∷ []) ∙ omega (arith, grown-length i)

  pub grown-at : (i j : ℕ) → j < i → get_or (l i) j (pos 0) ≡ v j
  grown-at zero j k = absurd (none_below j k)
  grown-at (suc i) j k = ap (λ (ys : List ℤ). get_or ys j (pos 0)) (more i) ∙ go (dec_le i j) (grown-at i j)
    where
      go : Dec (i ≤ j) → (j < i → get_or (l i) j (pos 0) ≡ v j) → get_or (l i ++ (v i ∷ [])) j (pos 0) ≡ v j
      go (yes m) r = let e : i ≡ j = omega arith in get_or_at (l i) (v i) [] (pos 0) j (grown-length i ∙ e) ∙ ap v e
      go (no m) r = get_or-append (l i) (v i ∷ []) (pos 0) j (omega (arith, grown-length i, lt_of_not-le m)) ∙ r (lt_of_not-le m)

-- ---- what holds at each place

pub step-overflow-12 : (c0 c1 s0 s1 x : ℤ) → Bounded c0 c1 → SFits w16 s0 → SFits w16 s1 → SFits w16 x → (code_sample c0 c1 s0 s1 x 12).overflow ≤ 248
unfolding code_sample
step-overflow-12 c0 c1 s0 s1 x l f g h =
    le_trans (clamp4-excess (quantise (residual c0 c1 s0 s1 x) 12)) (quantise-12 (residual c0 c1 s0 s1 x) (residual-size c0 c1 s0 s1 x l f g h))

module _ (c0 c1 : ℤ) (h : History) (xs : List ℤ) (p : ℕ) where
  -- the step of place i
  abbrev pub step_at : ℕ → Step
  step_at i = code_sample c0 c1 (upto c0 c1 h xs p i).s0 (upto c0 c1 h xs p i).s1 (get_or xs i (pos 0)) p

  pub upto-fits : FitHistory h → (i : ℕ) → SFits w16 (upto c0 c1 h xs p i).s0 × SFits w16 (upto c0 c1 h xs p i).s1
  unfolding upto next
  upto-fits f zero = (f.newest-fits, f.older-fits)
  upto-fits f (suc i) = (step_fits c0 c1 (upto c0 c1 h xs p i).s0 (upto c0 c1 h xs p i).s1 (get_or xs i (pos 0)) p, (upto-fits f i).0)

  pub upto-overflow : (n i : ℕ) → ((j : ℕ) → j < i → (step_at j).overflow ≤ n) → (upto c0 c1 h xs p i).overflow ≤ n
  unfolding upto next
  upto-overflow n zero k = omega arith
  upto-overflow n (suc i) k = omega (arith, upto-overflow n i (λ j l. k j (omega arith)), k i (omega arith))

  -- each step's overflow is at most the pass's
  pub overflow-upto : (i j : ℕ) → j < i → (step_at j).overflow ≤ (upto c0 c1 h xs p i).overflow
  unfolding upto next
  overflow-upto zero j l = absurd (none_below j l)
  overflow-upto (suc i) j l = go (dec_le i j) (overflow-upto i j)
    where
      same : j ≡ i → (step_at j).overflow ≤ max (upto c0 c1 h xs p i).overflow (step_at i).overflow
      same e = subst (λ (k : ℕ). (step_at k).overflow ≤ max (upto c0 c1 h xs p i).overflow (step_at i).overflow) (sym e) (omega arith)

      go : Dec (i ≤ j) → (j < i → (step_at j).overflow ≤ (upto c0 c1 h xs p i).overflow) → (step_at j).overflow ≤ max (upto c0 c1 h xs p i).overflow (step_at i).overflow
      go (yes k) r = same (omega arith)
      go (no k) r = let m = r (lt_of_not-le k) in omega arith

  pub upto-nibble : (i j : ℕ) → j < i → get_or (upto c0 c1 h xs p i).nibbles j (pos 0) ≡ (step_at j).nibble
  unfolding upto next
  upto-nibble i j l = grown-at (λ (k : ℕ). (upto c0 c1 h xs p k).nibbles) (λ (k : ℕ). (step_at k).nibble) refl (λ k. refl) i j l

  pub upto-sample : (i j : ℕ) → j < i → get_or (upto c0 c1 h xs p i).samples j (pos 0) ≡ (step_at j).sample
  unfolding upto next
  upto-sample i j l = grown-at (λ (k : ℕ). (upto c0 c1 h xs p k).samples) (λ (k : ℕ). (step_at k).sample) refl (λ k. refl) i j l

  pub upto-lengths : (i : ℕ) → (length (upto c0 c1 h xs p i).nibbles ≡ i) × (length (upto c0 c1 h xs p i).samples ≡ i)
  unfolding upto next
  upto-lengths i = (
    grown-length (λ (k : ℕ). (upto c0 c1 h xs p k).nibbles) (λ (k : ℕ). (step_at k).nibble) refl (λ k. refl) i,
    grown-length (λ (k : ℕ). (upto c0 c1 h xs p k).samples) (λ (k : ℕ). (step_at k).sample) refl (λ k. refl) i,
  )

  -- before place j the two reconstructed samples are those that stand before it
  pub upto-newest : (i j : ℕ) → j ≤ i → get_or (preceded h (upto c0 c1 h xs p i).samples) (suc j) (pos 0) ≡ (upto c0 c1 h xs p j).s0
  unfolding upto next preceded
  upto-newest i zero l = refl
  upto-newest i (suc j) l = upto-sample i j (omega arith)

  pub upto-older : (i j : ℕ) → j ≤ i → get_or (preceded h (upto c0 c1 h xs p i).samples) j (pos 0) ≡ (upto c0 c1 h xs p j).s1
  unfolding upto next preceded
  upto-older i zero l = refl
  upto-older i (suc j) l = upto-newest i j (omega arith)

-- ---- the pass

-- a nibble is within −8..7
mid-nibble : (z : ℤ) → lt_z z (negsuc 7) ≡ false → lt_z (pos 7) z ≡ false → InNibble z
mid-nibble (pos n) e f = up {n = n} (omega (arith, ltb-false 7 n f))
mid-nibble (negsuc n) e f = down {n = n} (omega (arith, ltb-false 7 n e))

pub clamp4-nibble : (z : ℤ) → InNibble (clamp4 z)
clamp4-nibble z = go (lt_z z (negsuc 7)) refl
  where
    high : (t : Bool) → lt_z (pos 7) z ≡ t → lt_z z (negsuc 7) ≡ false → InNibble (clamp4 z)
    high true f e = subst InNibble (sym (clamp-high 7 z e f)) (up {n = 7} (omega arith))
    high false f e = subst InNibble (sym (clamp-mid 7 z e f)) (mid-nibble z e f)

    go : (t : Bool) → lt_z z (negsuc 7) ≡ t → InNibble (clamp4 z)
    go true e = subst InNibble (sym (clamp-low 7 z e)) (down {n = 7} (omega arith))
    go false e = high (lt_z (pos 7) z) refl e

module _ (c0 c1 : ℤ) (h : History) (xs : List ℤ) (p : ℕ) where
  pub pass-lengths : (length (run_pass c0 c1 h xs p).nibbles ≡ 14) × (length (run_pass c0 c1 h xs p).samples ≡ 14)
  unfolding run_pass
  pass-lengths = upto-lengths c0 c1 h xs p 14

  pub pass-nibble : (i : ℕ) → i < 14 → InNibble (get_or (run_pass c0 c1 h xs p).nibbles i (pos 0))
  unfolding run_pass code_sample
  pass-nibble i l = subst InNibble (sym (upto-nibble c0 c1 h xs p 14 i l)) (clamp4-nibble _)

  -- what is reconstructed at each place, from the nibble there and the two samples before it
  pub pass-sample : (i : ℕ) → i < 14 → get_or (run_pass c0 c1 h xs p).samples i (pos 0)
      ≡ reconstruct c0 c1 (get_or (preceded h (run_pass c0 c1 h xs p).samples) (suc i) (pos 0)) (get_or (preceded h (run_pass c0 c1 h xs p).samples) i (pos 0))
      (get_or (run_pass c0 c1 h xs p).nibbles i (pos 0)) p
  unfolding run_pass code_sample
  pass-sample i l =
      rw (upto-newest c0 c1 h xs p 14 i (omega arith), upto-older c0 c1 h xs p 14 i (omega arith), upto-nibble c0 c1 h xs p 14 i l)
      (upto-sample c0 c1 h xs p 14 i l)

  pub pass_fits : (i : ℕ) → i < 14 → SFits w16 (get_or (run_pass c0 c1 h xs p).samples i (pos 0))
  unfolding run_pass
  pass_fits i l = subst (λ (z : ℤ). SFits w16 z) (sym (upto-sample c0 c1 h xs p 14 i l)) (step_fits c0 c1 (upto c0 c1 h xs p i).s0 (upto c0 c1 h xs p i).s1 (get_or xs i (pos 0)) p)

module _ (c0 c1 : ℤ) (h : History) (xs : List ℤ) (b : Bounded c0 c1) (f : FitHistory h) (x : Fit 14 xs) where
  pub overflow-le : (p : ℕ) → (run_pass c0 c1 h xs p).overflow ≤ 2080375049
  unfolding run_pass
  overflow-le p = upto-overflow c0 c1 h xs p 2080375049 14 (λ j l. let u = upto-fits c0 c1 h xs p f j in step-overflow c0 c1 _ _ _ p b u.0 u.1 (x.at j l))

  -- "at p = 12 the overflow is at most 248"
  pub overflow-12 : (run_pass c0 c1 h xs 12).overflow ≤ 248
  unfolding run_pass
  overflow-12 = upto-overflow c0 c1 h xs 12 248 14 (λ j l. let u = upto-fits c0 c1 h xs 12 f j in step-overflow-12 c0 c1 _ _ _ b u.0 u.1 (x.at j l))
