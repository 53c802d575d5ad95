-- Laws of what the numbers of a quick pass show.
use mathlib.Core.Path.{◌≡◌, refl, sym, ap, ap₂, ◌∙◌, subst}
use mathlib.Core.Bool.{Bool, true, false, cond}
use mathlib.Core.List.{List}
use Prim.Native.Nat.{ℕ, suc, ◌+◌, ◌-◌, ◌*◌, ◌/◌, ◌%◌, ◌^◌, ◌≤◌, ◌<◌, max}
use native.Mathlib.Nat.{mod-lt, div-eq_of_lt, add-mul-mod_self_right}
use native.Mathlib.Omega.{arith}
use native.Mathlib.Numerals.{add-one}
use lib.Bits.{bit_and, and_mask}
use lib.Pow.{pow_pos}
use lib.IntN.{ℤ, pos, negsuc, nat_abs, ◌+ℤ◌, ◌-ℤ◌}
use lib.ListN.{get_or, set, length, length-set}
use lib.Signed.{lt_z, shr_z, mag}
use borrow.Author.Tests.{ltb-true, le-ltb}
use mir.Syntax.{w16, w32}
use mir.Val.{SFits, of_z}
use Rattle.whole.specs.Whole.{clamp16}
use Rattle.whole.proofs.Clamping.{clamp-low, clamp-high, clamp-mid, clamp-fits}
use Rattle.whole.proofs.SignedLocals.{Is, is-nat, not-below-zero}
use Rattle.whole.proofs.Differences.{Diff, diff-of, diff-pos, diff-add, diff-sub, diff-times, diff-move, diff-same}
use Rattle.whole.proofs.Differences.{diff-lt, lt-diff, le-diff, left}
use Rattle.frame.specs.Quantise.{scale, clamp4}
use Rattle.frame.specs.Estimate.{max_z}
use Rattle.frame.specs.Pass.{squared_difference}
use Rattle.frame.specs.inner.Places.{Padded}
use Rattle.frame.specs.inner.Quick.{Spare, steps_of}
use Rattle.frame.specs.inner.Seen.{Shows, is_near, most_of, distance_of}
use Rattle.frame.proofs.LawsOrder.{below_more}
use Rattle.frame.proofs.LawsFloor.{floor-unique, floor-diff, left_lt, mag-16}
use Rattle.frame.proofs.LawsQuantise.{scale-is, scale-le, scale-pos, scale-divides}
use Rattle.frame.proofs.LawsArrays.{stored_more}
use Rattle.frame.proofs.LawsEnds.{max-over}

-- ---- one number

-- eight steps less is 8 less when rounded down
pub steps-is : (w : ℤ) (p : ℕ) → shr_z (w -ℤ pos (16384 * 2 ^ p)) (scale p) ≡ steps_of w p
unfolding steps_of
steps-is w p =
    let s = scale p in
    let l = scale-pos p in
    let q = shr_z w s in
    let n = q -ℤ pos 8 in
    let d = diff-sub (floor-diff w s l) (diff-pos (16384 * 2 ^ p)) in
    let t = diff-same (diff-times (diff-of n) s) (diff-times (diff-sub (diff-of q) (diff-pos 8)) s) in
    floor-unique (w -ℤ pos (16384 * 2 ^ p)) s l n (left w s) (left_lt w s l) (diff-move d (omega arith))

-- the lower bits of a number of either sign are those of the number above zero
low_bits : (z : ℤ) (s c : ℕ) → c * s ≡ 2147483648 → SFits w32 z → of_z w32 z % s ≡ nat_abs (z +ℤ pos 2147483648) % s
low_bits (pos n) s c e f = sym (ap (λ (v : ℕ). (n + v) % s) (sym e) ∙ add-mul-mod_self_right n c s)
low_bits (negsuc n) s c e f =
    let z = negsuc n +ℤ pos 2147483648 in
    let l = f.sfits in
    let d : Diff z 2147483648 (suc n) = diff-move (diff-add (diff-of (negsuc n)) (diff-pos 2147483648)) (omega arith) in
    let g : Diff z (nat_abs z) 0 = subst (λ (v : ℤ). Diff v (nat_abs z) 0) (sym (not-below-zero z (le-diff d (diff-pos 0) (omega arith)))) (diff-pos (nat_abs z)) in
    let k : 4294967296 - suc n ≡ nat_abs z + 2147483648 = omega (arith, diff-same d g) in
    ap (λ (v : ℕ). v % s) (k ∙ ap (λ (v : ℕ). nat_abs z + v) (sym e)) ∙ add-mul-mod_self_right (nat_abs z) c s

-- what the mask leaves
pub masked : (z : ℤ) (p : ℕ) → p ≤ 12 → SFits w32 z → Is w32 (bit_and (of_z w32 z) (scale p - 1)) (pos (nat_abs (z +ℤ pos 2147483648) % scale p)) 8388608
masked z p h f =
    let s = scale p in
    let a : bit_and (of_z w32 z) (s - 1) ≡ of_z w32 z % s =
    ap (λ (v : ℕ). bit_and (of_z w32 z) (v - 1)) (sym (scale-is p)) ∙ and_mask (of_z w32 z) (p + 11) ∙ ap (λ (v : ℕ). of_z w32 z % v) (scale-is p) in
    let b = low_bits z s (2 ^ (20 - p)) (scale-divides p h) f in
    let l : nat_abs (z +ℤ pos 2147483648) % s < s = mod-lt (nat_abs (z +ℤ pos 2147483648)) (scale-pos p) in
    subst (λ (v : ℕ). Is w32 v (pos (nat_abs (z +ℤ pos 2147483648) % s)) 8388608) (sym (a ∙ b)) (is-nat w32 _ 8388608 (omega (arith, scale-le p h)) tt)

-- ---- the clamp to 16 bits

-- a nibble shows nothing of it
clamp-twice : (z : ℤ) → clamp4 (clamp16 z) ≡ clamp4 z
clamp-twice z = go (lt_z z (negsuc 32767)) (lt_z (pos 32767) z) refl refl
  where
    go : (a b : Bool) → lt_z z (negsuc 32767) ≡ a → lt_z (pos 32767) z ≡ b → clamp4 (clamp16 z) ≡ clamp4 z
    go true b e f =
        let l = diff-lt (diff-of z) (diff-of (negsuc 32767)) e in
        ap clamp4 (clamp-low 32767 z e) ∙ clamp-low 7 (negsuc 32767) refl ∙ sym (clamp-low 7 z (lt-diff (diff-of z) (diff-of (negsuc 7)) (omega arith)))
    go false true e f =
        let l = diff-lt (diff-pos 32767) (diff-of z) f in
        ap clamp4 (clamp-high 32767 z e f) ∙ clamp-high 7 (pos 32767) refl refl
        ∙ sym (clamp-high 7 z (le-diff (diff-of z) (diff-of (negsuc 7)) (omega arith)) (lt-diff (diff-pos 7) (diff-of z) (omega arith)))
    go false false e f = ap clamp4 (clamp-mid 32767 z e f)

-- a number of 16 bits is not clamped
pub clamp-same : (z : ℤ) → SFits w16 z → clamp16 z ≡ z
clamp-same (pos n) f = clamp-mid 32767 (pos n) refl (le-ltb 32767 n (let h = f.sfits in omega arith))
clamp-same (negsuc n) f = clamp-mid 32767 (negsuc n) (le-ltb 32767 n (let h = f.sfits in omega arith)) refl

-- nor is one that is small when clamped
clamp-same-small : (z : ℤ) → mag (clamp16 z) < 256 → clamp16 z ≡ z
clamp-same-small z h = go (lt_z z (negsuc 32767)) (lt_z (pos 32767) z) refl refl
  where
    go : (a b : Bool) → lt_z z (negsuc 32767) ≡ a → lt_z (pos 32767) z ≡ b → clamp16 z ≡ z
    go true b e f = let k : 32767 < 256 = subst (λ (v : ℤ). mag v < 256) (clamp-low 32767 z e) h in absurd (omega arith)
    go false true e f = let k : 32767 < 256 = subst (λ (v : ℤ). mag v < 256) (clamp-high 32767 z e f) h in absurd (omega arith)
    go false false e f = clamp-mid 32767 z e f

-- ---- place by place

-- 0 comes of 0 and of no nearness
near_none : (t : Bool) (n : ℕ) → cond {A = ℕ} t 1 n ≡ 0 → (t ≡ false) × (n ≡ 0)
near_none true n e = absurd (omega (arith, e))
near_none false n e = (refl, e)

most-next : (ws : List ℤ) (p i : ℕ) → most_of ws p (i + 1) ≡ max (most_of ws p i) (mag (steps_of (get_or ws i (pos 0)) p))
unfolding most_of
most-next ws p i = ap (most_of ws p) (add-one i)

distance_next : (fs ss : List ℤ) (i : ℕ) → distance_of fs ss (i + 1) ≡ distance_of fs ss i + squared_difference (get_or fs (i + 2) (pos 0)) (get_or ss i (pos 0))
unfolding distance_of
distance_next fs ss i = ap (distance_of fs ss) (add-one i)

module _ (fs ws ss : List ℤ) (p : ℕ) where
  -- after the first i places; `most` is of the numbers clamped to 16 bits
  pub record SeenTo (nibbles : List ℤ) (most : ℤ) (near high low i : ℕ) : Type 0 where
    pub length-is : length nibbles ≡ 16
    pub nibble-at : (j : ℕ) → j < i → get_or nibbles j (pos 0) ≡ clamp4 (steps_of (get_or ws j (pos 0)) p)
    pub top : ℕ
    pub most-is : most ≡ pos top
    pub top-le : top ≤ 32767
    pub top-is : top < 256 → most_of ws p i ≡ top
    pub clear : near ≡ 0 → (j : ℕ) → j < i → is_near (get_or ws j (pos 0)) p ≡ false
    pub high_le : high ≤ i * 65536
    pub low-le : low ≤ i * 65536
    pub distance_is : high * 65536 + low ≡ distance_of fs ss i

  -- one place more
  pub seen_more : (nibbles : List ℤ) (most : ℤ) (near high low i : ℕ) (n k f h : ℤ) (t e : ℕ) → i < 16
      → n ≡ clamp16 (steps_of (get_or ws i (pos 0)) p) → k ≡ clamp4 n → f ≡ pos (mag n) → h ≡ max_z most f → t ≡ cond (is_near (get_or ws i (pos 0)) p) 1 near
      → e ≡ squared_difference (get_or fs (i + 2) (pos 0)) (get_or ss i (pos 0)) → e < 4294967296
      → SeenTo nibbles most near high low i → SeenTo (set nibbles i k) h t (high + e / 65536) (low + e % 65536) (i + 1)
  seen_more nibbles most near high low i n k f h t e l en ek ef eh et ee el r =
      let z = steps_of (get_or ws i (pos 0)) p in
      let g : mag n ≤ 32767 = mag-16 n (subst (λ (v : ℤ). SFits w16 v) (sym en) (clamp-fits z)) in
      record {
        length-is = simp length-set r.length-is;
        nibble-at = stored_more (λ (j : ℕ). clamp4 (steps_of (get_or ws j (pos 0)) p)) nibbles i k (omega (arith, r.length-is)) (ek ∙ ap clamp4 en ∙ clamp-twice z) r.nibble-at;
        top = max r.top (mag n);
        most-is = eh ∙ ap₂ max_z r.most-is ef ∙ max-over r.top (pos (mag n));
        top-le = omega (arith, r.top-le);
        top-is = λ m. topped m;
        clear = λ q. cleared (near_none (is_near (get_or ws i (pos 0)) p) near (sym et ∙ q));
        high_le = omega (arith, r.high_le);
        low-le = omega (arith, r.low-le);
        distance_is = omega (arith, r.distance_is, distance_next fs ss i);
      }
    where
      topped : max r.top (mag n) < 256 → most_of ws p (i + 1) ≡ max r.top (mag n)
      topped m =
          let q : r.top < 256 = omega arith in
          let s : mag n < 256 = omega arith in
          let same : n ≡ steps_of (get_or ws i (pos 0)) p = en ∙ clamp-same-small (steps_of (get_or ws i (pos 0)) p) (subst (λ (v : ℤ). mag v < 256) en s) in
          most-next ws p i ∙ ap₂ max (r.top-is q) (ap mag (sym same))

      cleared : (is_near (get_or ws i (pos 0)) p ≡ false) × (near ≡ 0) → (j : ℕ) → j < i + 1 → is_near (get_or ws j (pos 0)) p ≡ false
      cleared (a, b) = below_more (λ (j : ℕ). is_near (get_or ws j (pos 0)) p ≡ false) i (r.clear b) a

  -- the last two places hold the middle of a step and no difference
  last-mag : Spare ws ss → (i : ℕ) → 14 ≤ i → i < 16 → mag (steps_of (get_or ws i (pos 0)) p) ≡ 7
  unfolding steps_of
  last-mag r i l m =
      let q : 1024 / scale p ≡ 0 = div-eq_of_lt (omega (arith, pow_pos p)) in
      ap (λ (v : ℤ). mag (shr_z v (scale p) -ℤ pos 8)) (r.w-after i l m) ∙ ap (λ (n : ℕ). mag (pos n -ℤ pos 8)) q

  last-square : Padded fs → Spare ws ss → (i : ℕ) → 14 ≤ i → i < 16 → squared_difference (get_or fs (i + 2) (pos 0)) (get_or ss i (pos 0)) ≡ 0
  unfolding squared_difference
  last-square d r i l m = ap₂ (λ (x y : ℤ). nat_abs (x -ℤ y) * nat_abs (x -ℤ y)) (d.after (i + 2) (omega arith)) (r.s-after i l m)

  -- all sixteen places show the pass's fourteen, where they are sure
  pub seen_all : (nibbles : List ℤ) (most : ℤ) (near high low o : ℕ) → Padded fs → Spare ws ss → near ≡ 0 → lt_z most (pos 256) ≡ true → o ≡ nat_abs most - 7
      → SeenTo nibbles most near high low 16 → Shows fs ws ss p (record { nibbles = nibbles; overflow = o; distance = high * 65536 + low })
  seen_all nibbles most near high low o d r en eb eo u =
      let l = ltb-true u.top 256 (subst (λ (v : ℤ). lt_z v (pos 256) ≡ true) u.most-is eb) in
      let t = u.top-is l in
      let m = ap nat_abs u.most-is in
      let a = most-next ws p 14 in
      let c = most-next ws p 15 in
      let e = last-mag r 14 (omega arith) (omega arith) in
      let f = last-mag r 15 (omega arith) (omega arith) in
      record {
        length-is = u.length-is;
        nibble-at = λ i k. u.nibble-at i (omega arith);
        clear = λ i k. u.clear en i (omega arith);
        most-lt = omega arith;
        overflow-is = eo ∙ ap (λ (n : ℕ). n - 7) m ∙ omega arith;
        distance_is = omega (arith, u.distance_is, distance_next fs ss 14, distance_next fs ss 15, last-square d r 14 (omega arith) (omega arith), last-square d r 15 (omega arith) (omega arith));
      }
