-- Laws of division rounded down, of the overflow, and of numbers that the code compares and takes apart.
use mathlib.Core.Path.{◌≡◌, refl, sym, ap, subst}
use mathlib.Core.Bool.{Bool, true, false}
use Prim.Native.Nat.{ℕ, suc, ◌+◌, ◌-◌, ◌*◌, ◌^◌, ◌≤◌, ◌<◌}
use native.Mathlib.Nat.{div-div-eq-div-mul, mul-le-mul_right, lt_of_not-le}
use native.Mathlib.Decide.{dec_le}
use native.Mathlib.Omega.{arith}
use lib.Dec.{T, ltb}
use lib.IntN.{ℤ, pos, negsuc, nat_abs, ◌-ℤ◌}
use lib.Signed.{lt_z, shr_z, mag}
use borrow.Author.Tests.{ltb-true, ltb-false}
use mir.Syntax.{Width, w16, w32}
use mir.Val.{SFits, hbits, to_z, of_z}
use Rattle.whole.proofs.SignedLocals.{Is, is-in, is-cast, sfits-abs}
use Rattle.whole.proofs.Differences.{Diff, diff-of, diff-pos, diff-add, diff-sub, diff-times, diff-move, diff-same, diff-eq}
use Rattle.whole.proofs.Differences.{abs_diff, over, under, left, floor-law}
use Rattle.frame.specs.Quantise.{clamp4}
use Rattle.frame.proofs.LawsQuantise.{excess-low, excess-high, excess-none}

-- ---- division rounded down

-- two quotients of one number are the same
same-quotient : (a b l r s : ℕ) → a * s + l ≡ b * s + r → l < s → r < s → a ≡ b
same-quotient a b l r s e p q = go (dec_le a b) (dec_le b a)
  where
    less : (x y m n : ℕ) → x * s + m ≡ y * s + n → m < s → x < y → ⊥
    less x y m n e p k = let g : suc x * s ≤ y * s = mul-le-mul_right s k in omega arith

    go : Dec (a ≤ b) → Dec (b ≤ a) → a ≡ b
    go (yes m) (yes n) = omega arith
    go (yes m) (no n) = absurd (less a b l r e p (lt_of_not-le n))
    go (no m) n = absurd (less b a r l (sym e) q (lt_of_not-le m))

module _ (z : ℤ) (s : ℕ) (p : 0 < s) where
  -- z is its quotient times s, and what is left
  pub floor-diff : Diff z (over (shr_z z s) * s + left z s) (under (shr_z z s) * s)
  floor-diff =
      let l = floor-law z s p in
      diff-move (subst (λ (v : ℤ). Diff v (over (shr_z z s) * s + left z s) (under (shr_z z s) * s + 0)) (sym l.0) (diff-add (diff-times (diff-of (shr_z z s)) s) (diff-pos (left z s)))) (omega arith)

  -- what is left is less than s
  pub left_lt : left z s < s
  left_lt = (floor-law z s p).1

  -- what is n times s and r is n when rounded down
  pub floor-unique : (n : ℤ) (r : ℕ) → r < s → Diff z (over n * s + r) (under n * s) → shr_z z s ≡ n
  floor-unique n r l d =
      let e = diff-same floor-diff d in
      let q : (over (shr_z z s) + under n) * s + left z s ≡ (over n + under (shr_z z s)) * s + r = omega arith in
      diff-eq (diff-of (shr_z z s)) (diff-of n) (same-quotient (over (shr_z z s) + under n) (over n + under (shr_z z s)) (left z s) r s q left_lt l)

pub shr-twice : (z : ℤ) (a b : ℕ) → shr_z (shr_z z a) b ≡ shr_z z (a * b)
shr-twice (pos n) a b = ap pos (div-div-eq-div-mul n a b)
shr-twice (negsuc n) a b = ap negsuc (div-div-eq-div-mul n a b)

-- ---- the overflow

-- the excess over a nibble is the magnitude's over 7
pub excess-is : (z : ℤ) → nat_abs (z -ℤ clamp4 z) ≡ mag z - 7
excess-is z = go z (lt_z z (negsuc 7)) (lt_z (pos 7) z) refl refl
  where
    go : (z : ℤ) (a b : Bool) → lt_z z (negsuc 7) ≡ a → lt_z (pos 7) z ≡ b → nat_abs (z -ℤ clamp4 z) ≡ mag z - 7
    go (pos n) true b e f = absurd (subst T (sym e) tt)
    go (pos n) false true e f =
        let l = ltb-true 7 n f in
        let d = excess-high (pos n) e f in
        omega (arith, diff-same (diff-sub (diff-pos n) (diff-pos 7)) (subst (λ (v : ℤ). Diff v (nat_abs (pos n -ℤ clamp4 (pos n))) 0) (sym d) (diff-pos _)))
    go (pos n) false false e f = omega (arith, ltb-false 7 n f, excess-none (pos n) e f)
    go (negsuc n) true b e f =
        let l = ltb-true 7 n e in
        let d = excess-low (negsuc n) e in
        omega (arith, diff-same (diff-sub (diff-of (negsuc 7)) (diff-of (negsuc n))) (subst (λ (v : ℤ). Diff v (nat_abs (negsuc n -ℤ clamp4 (negsuc n))) 0) (sym d) (diff-pos _)))
    go (negsuc n) false true e f = absurd (subst T (sym f) tt)
    go (negsuc n) false false e f = omega (arith, ltb-false 7 n e, excess-none (negsuc n) e f)

-- ---- what the code's own values are

-- a number of 16 bits in 32
pub wide : {z : ℤ} → SFits w16 z → Is w32 (of_z w32 (to_z w16 (of_z w16 z))) z 32768
wide f = is-cast (is-in f) tt

-- a result that is z, of size n at most, fits
pub fits-call : {w : Width} {r z : ℤ} {n : ℕ} → r ≡ z → nat_abs z ≤ n → T (ltb n (2 ^ hbits w)) → SFits w r
fits-call {w} e h t = subst (λ (v : ℤ). SFits w v) (sym e) (sfits-abs h t)

-- a number of 16 bits has a magnitude below 32768
pub mag-16 : (z : ℤ) → SFits w16 z → mag z ≤ 32767
mag-16 z f = let l = f.sfits in omega arith

-- two of them are less than 65536 apart
pub apart-16 : (x y : ℤ) → SFits w16 x → SFits w16 y → nat_abs (x -ℤ y) ≤ 65535
apart-16 x y f g =
    let a = limits x f in
    let b = limits y g in
    abs_diff (diff-sub (diff-of x) (diff-of y)) 65535 (omega arith) (omega arith)
  where
    limits : (z : ℤ) → SFits w16 z → (over z ≤ under z + 32767) × (under z ≤ over z + 32768)
    limits (pos m) f = let h = f.sfits in (omega arith, omega arith)
    limits (negsuc m) f = let h = f.sfits in (omega arith, omega arith)
