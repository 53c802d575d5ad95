-- Laws of a quick pass: where what it shows is sure, it is the pass.
use mathlib.Core.Path.{◌≡◌, refl, sym, ap, ap₂, ◌∙◌, subst}
use mathlib.Core.Bool.{Bool, true, false}
use mathlib.Core.List.{List, [], ◌∷◌, ◌++◌}
use Prim.Native.Nat.{ℕ, zero, suc, ◌+◌, ◌-◌, ◌*◌, ◌/◌, ◌%◌, ◌^◌, ◌≤◌, ◌<◌, max}
use native.Mathlib.Nat.{mul-le-mul_right, lt_of_not-le, div-add-mod', mod-lt, pow-suc}
use native.Mathlib.Decide.{dec_le}
use native.Mathlib.Omega.{arith}
use lib.Dec.{ltb}
use lib.Pow.{pow_mono, pow_pos, pow-add}
use lib.IntN.{ℤ, pos, negsuc, nat_abs, ◌+ℤ◌, ◌-ℤ◌, ◌*ℤ◌}
use lib.ListN.{get_or, take, length}
use lib.Seq.{take-suc}
use lib.Signed.{lt_z, shr_z, mag}
use lib.Ieee.{size}
use lib.Ieee.Digits.{size-le, size_reaches}
use borrow.Author.Tests.{ltb-false, lt-ltb}
use mir.Syntax.{w16}
use mir.Val.{SFits}
use Rattle.whole.specs.Whole.{clamp16, floored}
use Rattle.whole.specs.declared.History.{History}
use Rattle.whole.proofs.SignedLocals.{not-below-zero}
use Rattle.whole.proofs.Differences.{Diff, diff-of, diff-pos, diff-neg, diff-add, diff-sub, diff-times, diff-move, diff-same, le-diff, diff-abs, abs_diff, over, under}
use Rattle.frame.specs.declared.pass.Step.{Step}
use Rattle.frame.specs.declared.pass.Pass.{Pass}
use Rattle.frame.specs.declared.quick.Traced.{Traced}
use Rattle.frame.specs.declared.seen.Seen.{Seen}
use Rattle.frame.specs.Estimate.{weigh}
use Rattle.frame.specs.Quantise.{unit24, round24, scale, nearest_down, with_sign, quantise, clamp4}
use Rattle.frame.specs.Pass.{Bounded, residual, reconstruct, code_sample, squared_difference, Carried, next, upto, run_pass}
use Rattle.frame.specs.Fits.{Fit, FitHistory}
use Rattle.frame.specs.inner.Quick.{Roomy, raised, steps_of, trace, tracked, trace_at, Traces}
use Rattle.frame.specs.inner.Seen.{margin, is_near, most_of, distance_of, Shows, pass_of}
use Rattle.frame.proofs.LawsOrder.{none_below, below_more}
use Rattle.frame.proofs.LawsQuantise.{size_above, closest-near, scale-divides, unit-pos, round_same, down_pos, down-neg, scale-pos, sign-twice, sign-size}
use Rattle.frame.proofs.LawsQuick.{roomy-bounded}
use Rattle.frame.proofs.LawsFloor.{floor-diff, left_lt, floor-unique, excess-is}
use Rattle.frame.proofs.LawsShow.{clamp-same}
use Rattle.frame.proofs.LawsPass.{carried, residual-size, upto-fits}

-- ---- how far the rounding to 24 bits moves a number

round-half : (m k : ℕ) → unit24 m ≤ 2 * k → (m ≤ round24 m + k) × (round24 m ≤ m + k)
unfolding round24
round-half m k h = let c = closest-near m (unit24 m) (unit-pos m) in (omega (arith, h, c.0, c.1), omega (arith, h, c.0, c.1))

-- the unit of the last digit that is kept of a number below 2^20 times 2^(5 + k)
unit-most : (m k : ℕ) → m < 1048576 * 2 ^ (5 + k) → unit24 m ≤ 2 * 2 ^ k
unfolding unit24
unit-most m k h =
    let e : 2 ^ (20 + (5 + k)) ≡ 1048576 * 2 ^ (5 + k) = pow-add 2 20 (5 + k) in
    let s : size m ≤ 20 + (5 + k) = size-le m (20 + (5 + k)) (omega arith) in
    let a : 2 ^ (size m - 24) ≤ 2 ^ suc k = pow_mono (omega arith) in
    omega (arith, a, pow-suc 2 k)

margin-is : (k : ℕ) → margin (5 + k) ≡ 2 ^ k
unfolding margin
margin-is k = let a : 2 ^ (5 + k) ≡ 32 * 2 ^ k = pow-add 2 5 k in omega arith

-- a number below 2^20 times 2^p moves by the margin at most
round-margin : (m p : ℕ) → m < 1048576 * 2 ^ p → (m ≤ round24 m + margin p) × (round24 m ≤ m + margin p)
round-margin m p h = go (dec_le p 4)
  where
    large : (k : ℕ) → p ≡ 5 + k → (m ≤ round24 m + margin p) × (round24 m ≤ m + margin p)
    large k e =
        let b : margin p ≡ 2 ^ k = ap margin e ∙ margin-is k in
        rw b (round-half m (2 ^ k) (unit-most m k (subst (λ (n : ℕ). m < 1048576 * 2 ^ n) e h)))

    go : Dec (p ≤ 4) → (m ≤ round24 m + margin p) × (round24 m ≤ m + margin p)
    go (yes l) = let a : 2 ^ p ≤ 16 = pow_mono l in let e = round_same m (omega arith) in (omega (arith, e), omega (arith, e))
    go (no l) = let a = lt_of_not-le l in large (p - 5) (omega arith)

-- with its sign as well
sign-near : (d : ℤ) (n m : ℕ) → nat_abs d ≤ n + m → n ≤ nat_abs d + m → nat_abs (with_sign d n -ℤ d) ≤ m
sign-near (pos k) n m a b = abs_diff (diff-sub (diff-pos n) (diff-pos k)) m (omega arith) (omega arith)
sign-near (negsuc k) n m a b = abs_diff (diff-sub (diff-neg (diff-pos n)) (diff-of (negsuc k))) m (omega arith) (omega arith)

-- ---- where the rounding cannot show

-- w is not within m of a multiple of s, and y is w less 8 s but for m: its quotient is w's less 8
near_same : (w y : ℤ) (s c m : ℕ) → 0 < s → c * s ≡ 2147483648 → under w ≤ over w + 2147483648 → 2 * m ≤ nat_abs (w +ℤ pos m +ℤ pos 2147483648) % s
    → over y + 8 * s + under w ≤ over w + under y + m → over w + under y ≤ over y + 8 * s + under w + m → shr_z y s ≡ shr_z w s -ℤ pos 8
near_same w y s c m p e l f g h =
    let z = w +ℤ pos m +ℤ pos 2147483648 in
    let a = nat_abs z in
    let zd : Diff z (over w + m + 2147483648) (under w + 0 + 0) = diff-add (diff-add (diff-of w) (diff-pos m)) (diff-pos 2147483648) in
    let nn : lt_z z (pos 0) ≡ false = le-diff zd (diff-pos 0) (omega arith) in
    let za : Diff z a 0 = subst (λ (v : ℤ). Diff v a 0) (sym (not-below-zero z nn)) (diff-pos a) in
    let k = diff-same zd za in
    let r : a % s < s = mod-lt a p in
    let q = div-add-mod' a s in
    let n = pos (a / s) -ℤ pos c in
    let nd : Diff n (a / s) c = diff-move (diff-sub (diff-pos (a / s)) (diff-pos c)) (omega arith) in
    let nt = diff-same (diff-times (diff-of n) s) (diff-times nd s) in
    let o = n -ℤ pos 8 in
    let od : Diff o (a / s) (c + 8) = diff-move (diff-sub nd (diff-pos 8)) (omega arith) in
    let ot = diff-same (diff-times (diff-of o) s) (diff-times od s) in
    let rest = (over y + 8 * s + under w + a % s) - (under y + over w + m) in
    floor-unique y s p o rest (omega arith) (diff-move (diff-of y) (omega arith))
    ∙ ap (λ (v : ℤ). v -ℤ pos 8) (sym (floor-unique w s p n (a % s - m) (omega arith) (diff-move (diff-of w) (omega arith))))

-- D plus half a step and eight, less k
abbrev RaisedBy : ℤ → ℕ → ℕ → Type 0
RaisedBy d p k = Diff (raised d p) (over d + 17408 * 2 ^ p) (under d + k)

-- v is d but for the margin, y is v plus half a step, less k
near-is : (d v y : ℤ) (p k : ℕ) → p ≤ 12 → nat_abs d ≤ 2147483648 → is_near (raised d p) p ≡ false → nat_abs (v -ℤ d) ≤ margin p
    → k ≤ 1 → RaisedBy d p k → Diff y (over v + 1024 * 2 ^ p) (under v + k) → shr_z y (scale p) ≡ steps_of (raised d p) p
unfolding is_near steps_of
near-is d v y p k h l e c b u t =
    let w = raised d p in
    let wd = diff-same (diff-of w) u in
    let yd = diff-same (diff-of y) t in
    let a = diff-abs (diff-of d) in
    let f = diff-abs (diff-sub (diff-of v) (diff-of d)) in
    near_same w y (scale p) (2 ^ (20 - p)) (margin p) (scale-pos p) (scale-divides p h) (omega (arith, pow_pos p)) (ltb-false _ _ e) (omega arith) (omega arith)

mag-within : (z : ℤ) → mag z < 256 → (over z ≤ 255) × (under z ≤ 256)
mag-within (pos n) h = (omega arith, omega arith)
mag-within (negsuc n) h = (omega arith, omega arith)

-- fewer than 256 steps are fewer than 2^20 times 2^p
steps-size : (d : ℤ) (p k : ℕ) → k ≤ 1 → RaisedBy d p k → mag (steps_of (raised d p) p) < 256 → nat_abs d < 1048576 * 2 ^ p
unfolding steps_of
steps-size d p k e u h =
    let s = scale p in
    let w = raised d p in
    let f = shr_z w s in
    let z = f -ℤ pos 8 in
    let b = mag-within z h in
    let x : over z * s ≤ 255 * s = mul-le-mul_right s b.0 in
    let y : under z * s ≤ 256 * s = mul-le-mul_right s b.1 in
    let wd = diff-same (floor-diff w s (scale-pos p)) u in
    let l = left_lt w s (scale-pos p) in
    let zt = diff-same (diff-times (diff-of z) s) (diff-times (diff-sub (diff-of f) (diff-pos 8)) s) in
    let a : nat_abs d ≤ 1048576 * 2 ^ p - 1 = abs_diff (diff-of d) (1048576 * 2 ^ p - 1) (omega (arith, pow_pos p)) (omega (arith, pow_pos p)) in
    omega (arith, pow_pos p)

-- above 0 it is less 1, else as it is
raised-pos : (d : ℤ) (p : ℕ) → lt_z (pos 0) d ≡ true → RaisedBy d p 1
unfolding raised
raised-pos d p e = rw e (diff-move (diff-sub (diff-add (diff-of d) (diff-pos (17408 * 2 ^ p))) (diff-pos 1)) (omega arith))

raised-neg : (d : ℤ) (p : ℕ) → lt_z (pos 0) d ≡ false → RaisedBy d p 0
unfolding raised
raised-neg d p e = rw e (diff-move (diff-add (diff-of d) (diff-pos (17408 * 2 ^ p))) (omega arith))

-- nothing above 0 is rounded to 0
round-above : (m : ℕ) → 0 < m → 0 < round24 m
unfolding round24 unit24
round-above m h = go (dec_le 16777216 m)
  where
    go : Dec (16777216 ≤ m) → 0 < round24 m
    go (yes l) =
        let s = size_above m 24 l in
        let u : 2 ^ (size m - 24) ≤ m = size_reaches m (size m - 24) (omega arith) in
        let c = closest-near m (unit24 m) (unit-pos m) in
        omega (arith, u, c.1)
    go (no l) = let a = lt_of_not-le l in omega (arith, round_same m (omega arith))

-- so the rounded number is above 0 where the number is
sign_above : (d : ℤ) → lt_z (pos 0) (with_sign d (round24 (nat_abs d))) ≡ lt_z (pos 0) d
sign_above (pos zero) = ap (ltb 0) (sym (round_same 0 (omega arith)))
sign_above (pos (suc k)) = lt-ltb 0 (round24 (suc k)) (round-above (suc k) (omega arith)) ∙ sym (lt-ltb 0 (suc k) (omega arith))
sign_above (negsuc k) = le-diff (diff-pos 0) (diff-neg (diff-pos (round24 (suc k)))) (omega arith)

-- what is quantised is the number of steps, where they are few and w is not near a multiple of one
sure-is : (d : ℤ) (p : ℕ) → p ≤ 12 → nat_abs d ≤ 2147483648 → is_near (raised d p) p ≡ false → mag (steps_of (raised d p) p) < 256 → quantise d p ≡ steps_of (raised d p) p
unfolding quantise
sure-is d p h l e f =
    sym (sign-twice d (round24 (nat_abs d)) (scale p) (scale-pos p))
    ∙ ap (λ (n : ℕ). with_sign v (nearest_down n (scale p))) (sym (sign-size d (round24 (nat_abs d))))
    ∙ go (lt_z (pos 0) d) refl
  where
    v : ℤ
    v = with_sign d (round24 (nat_abs d))

    half : 0 < 1024 * 2 ^ p
    half = omega (arith, pow_pos p)

    close : (k : ℕ) → k ≤ 1 → RaisedBy d p k → nat_abs (v -ℤ d) ≤ margin p
    close k m u = let b = round-margin (nat_abs d) p (steps-size d p k m u f) in sign-near d (round24 (nat_abs d)) (margin p) b.0 b.1

    same : (y : ℤ) (k : ℕ) → k ≤ 1 → RaisedBy d p k → Diff y (over v + 1024 * 2 ^ p) (under v + k) → shr_z y (scale p) ≡ steps_of (raised d p) p
    same y k m u t = near-is d v y p k h l e (close k m u) m u t

    go : (t : Bool) → lt_z (pos 0) d ≡ t → with_sign v (nearest_down (nat_abs v) (scale p)) ≡ steps_of (raised d p) p
    go true q =
        sym (down_pos v (scale p) (1024 * 2 ^ p) half (omega arith) (sign_above d ∙ q))
        ∙ same (v +ℤ pos (1024 * 2 ^ p) -ℤ pos 1) 1 (omega arith) (raised-pos d p q) (diff-move (diff-sub (diff-add (diff-of v) (diff-pos (1024 * 2 ^ p))) (diff-pos 1)) (omega arith))
    go false q =
        sym (down-neg v (scale p) (1024 * 2 ^ p) half (omega arith) (sign_above d ∙ q))
        ∙ same (v +ℤ pos (1024 * 2 ^ p)) 0 (omega arith) (raised-neg d p q) (diff-move (diff-add (diff-of v) (diff-pos (1024 * 2 ^ p))) (omega arith))

-- ---- one sample

-- the step of a sample that is sure
abbrev sure_step : Traced → ℕ → Step
sure_step t p = record { nibble = clamp4 (steps_of t.w p); sample = t.s; overflow = mag (steps_of t.w p) - 7 }

sample-is : (c0 c1 s0 s1 x : ℤ) (p : ℕ) → p ≤ 12 → Bounded c0 c1 → SFits w16 s0 → SFits w16 s1 → SFits w16 x → SFits w16 (trace c0 c1 s0 s1 x p).s
    → is_near (trace c0 c1 s0 s1 x p).w p ≡ false → mag (steps_of (trace c0 c1 s0 s1 x p).w p) < 256 → code_sample c0 c1 s0 s1 x p ≡ sure_step (trace c0 c1 s0 s1 x p) p
unfolding code_sample trace reconstruct
sample-is c0 c1 s0 s1 x p l b f0 f1 fx fs e m =
    let d = residual c0 c1 s0 s1 x in
    let z = steps_of (raised d p) p in
    let q : quantise d p ≡ z = sure-is d p l (omega (arith, residual-size c0 c1 s0 s1 x b f0 f1 fx)) e m in
    let y = floored (weigh c0 c1 s0 s1 +ℤ clamp4 z *ℤ pos (scale p) +ℤ pos 1024) 2048 in
    ap (λ (u : ℤ). made (clamp4 u) (clamp16 (floored (weigh c0 c1 s0 s1 +ℤ clamp4 u *ℤ pos (scale p) +ℤ pos 1024) 2048)) (nat_abs (u -ℤ clamp4 u))) q
    ∙ ap₂ (made (clamp4 z)) (clamp-same y fs) (excess-is z)
  where
    made : ℤ → ℤ → ℕ → Step
    made n s o = record { nibble = n; sample = s; overflow = o }

-- ---- the whole pass

most-at : (ws : List ℤ) (p k i : ℕ) → i < k → mag (steps_of (get_or ws i (pos 0)) p) ≤ most_of ws p k
unfolding most_of
most-at ws p zero i h = absurd (none_below i h)
most-at ws p (suc k) i h = below_more (λ (j : ℕ). mag (steps_of (get_or ws j (pos 0)) p) ≤ most_of ws p (suc k)) k (λ j l. let m = most-at ws p k j l in omega arith) (omega arith) i (omega arith)

pub seen-small : {fs ws ss : List ℤ} {p : ℕ} {r : Seen} → Shows fs ws ss p r → r.overflow ≤ 248
seen-small s = omega (arith, s.overflow-is, s.most-lt)

module _ (c0 c1 : ℤ) (h : History) (xs : List ℤ) (p : ℕ) (fs ws ss : List ℤ) (r : Seen) (l : p ≤ 12) (b : Roomy c0 c1) (f : FitHistory h) (x : Fit 14 xs)
    (t : Traces c0 c1 h xs p ws ss) (s : Shows fs ws ss p r) (s-length : length ss ≡ 16) (same : (i : ℕ) → i < 14 → get_or fs (i + 2) (pos 0) ≡ get_or xs i (pos 0)) where
  -- what the pass carries after i samples
  abbrev shown : ℕ → Carried
  shown i = carried (tracked c0 c1 h xs p i).newest (tracked c0 c1 h xs p i).older (take i r.nibbles) (take i ss) (most_of ws p i - 7) (distance_of fs ss i)

  -- the step of place i
  step_is : (i : ℕ) → i < 14 → upto c0 c1 h xs p i ≡ shown i
      → code_sample c0 c1 (tracked c0 c1 h xs p i).newest (tracked c0 c1 h xs p i).older (get_or xs i (pos 0)) p ≡ sure_step (trace_at c0 c1 h xs p i) p
  unfolding trace_at
  step_is i m e =
      let u = upto-fits c0 c1 h xs p f i in
      sample-is c0 c1 _ _ (get_or xs i (pos 0)) p l (roomy-bounded b)
      (subst (λ (z : ℤ). SFits w16 z) (ap (λ (v : Carried). v.s0) e) u.0)
      (subst (λ (z : ℤ). SFits w16 z) (ap (λ (v : Carried). v.s1) e) u.1)
      (x.at i m)
      (subst (λ (z : ℤ). SFits w16 z) (t.s-at i m) (t.fit.at i m))
      (subst (λ (z : ℤ). is_near z p ≡ false) (t.w_at i m) (s.clear i m))
      (subst (λ (z : ℤ). mag (steps_of z p) < 256) (t.w_at i m) (let a = most-at ws p 14 i m in omega (arith, s.most-lt)))

  -- place i more
  module _ (i : ℕ) (m : i < 14) where
    abbrev now : Traced
    now = trace_at c0 c1 h xs p i

    tracked-more : tracked c0 c1 h xs p (suc i) ≡ record { newest = now.s; older = (tracked c0 c1 h xs p i).newest }
    unfolding tracked trace_at
    tracked-more = refl

    nibbles-more : take i r.nibbles ++ (clamp4 (steps_of now.w p) ∷ []) ≡ take (suc i) r.nibbles
    nibbles-more =
        ap (λ (z : ℤ). take i r.nibbles ++ (z ∷ [])) (sym (s.nibble-at i m ∙ ap (λ (w : ℤ). clamp4 (steps_of w p)) (t.w_at i m)))
        ∙ sym (take-suc r.nibbles i (pos 0) (omega (arith, s.length-is)))

    samples-more : take i ss ++ (now.s ∷ []) ≡ take (suc i) ss
    samples-more = ap (λ (z : ℤ). take i ss ++ (z ∷ [])) (sym (t.s-at i m)) ∙ sym (take-suc ss i (pos 0) (omega (arith, s-length)))

    overflow-more : max (most_of ws p i - 7) (mag (steps_of now.w p) - 7) ≡ most_of ws p (suc i) - 7
    unfolding most_of
    overflow-more = ap (λ (w : ℤ). max (most_of ws p i - 7) (mag (steps_of w p) - 7)) (sym (t.w_at i m)) ∙ omega arith

    distance-more : distance_of fs ss i + squared_difference (get_or xs i (pos 0)) now.s ≡ distance_of fs ss (suc i)
    unfolding distance_of
    distance-more = ap₂ (λ (y z : ℤ). distance_of fs ss i + squared_difference y z) (sym (same i m)) (sym (t.s-at i m))

    -- what is carried after the step k
    after : Step → Carried
    after k =
        carried k.sample (tracked c0 c1 h xs p i).newest (take i r.nibbles ++ (k.nibble ∷ [])) (take i ss ++ (k.sample ∷ [])) (max (most_of ws p i - 7) k.overflow)
        (distance_of fs ss i + squared_difference (get_or xs i (pos 0)) k.sample)

    shown-more : upto c0 c1 h xs p i ≡ shown i → upto c0 c1 h xs p (suc i) ≡ shown (suc i)
    unfolding upto next after
    shown-more e =
        ap (λ (u : Carried). next c0 c1 p u (get_or xs i (pos 0))) e
        ∙ ap after (step_is i m e)
        ∙ rw (nibbles-more, samples-more, overflow-more, distance-more, tracked-more)

  upto_is : (i : ℕ) → i ≤ 14 → upto c0 c1 h xs p i ≡ shown i
  unfolding upto tracked most_of distance_of
  upto_is zero m = refl
  upto_is (suc i) m = shown-more i (omega arith) (upto_is i (omega arith))

  pub seen-is : pass_of r ss ≡ run_pass c0 c1 h xs p
  unfolding run_pass
  seen-is = rw (s.overflow-is, s.distance_is) (sym (ap (λ (u : Carried). passed u) (upto_is 14 (omega arith))))
    where
      passed : Carried → Pass
      passed u = record { nibbles = u.nibbles; samples = u.samples; overflow = u.overflow; distance = u.distance }
