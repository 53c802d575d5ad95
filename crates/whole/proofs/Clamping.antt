-- Laws of clamping.
use mathlib.Core.Path.{◌≡◌, refl, sym, subst}
use mathlib.Core.Bool.{Bool, true, false, cond}
use Prim.Native.Nat.{ℕ, suc, ◌+◌, ◌≤◌}
use native.Mathlib.Omega.{arith}
use lib.IntN.{ℤ, pos, negsuc, nat_abs, ◌-ℤ◌}
use lib.Signed.{lt_z}
use Rattle.std.specs.Int.{int_max, int_min}
use borrow.Author.Tests.{ltb-false}
use mir.Syntax.{w16}
use mir.Val.{SFits}
use Rattle.whole.specs.Whole.{clamp, clamp16}
use Rattle.whole.proofs.Differences.{diff-of, diff-sub, diff-pos, diff-neg, diff-lt, diff-abs, abs_diff, over, under}

-- ---- the three cases

pub clamp-low : (n : ℕ) (z : ℤ) → lt_z z (negsuc n) ≡ true → clamp n z ≡ negsuc n
unfolding clamp
clamp-low n z e = rw e

pub clamp-high : (n : ℕ) (z : ℤ) → lt_z z (negsuc n) ≡ false → lt_z (pos n) z ≡ true → clamp n z ≡ pos n
unfolding clamp
clamp-high n z e f = rw (e, f)

pub clamp-mid : (n : ℕ) (z : ℤ) → lt_z z (negsuc n) ≡ false → lt_z (pos n) z ≡ false → clamp n z ≡ z
unfolding clamp
clamp-mid n z e f = rw (e, f)

mid-size : (n : ℕ) (z : ℤ) → lt_z z (negsuc n) ≡ false → lt_z (pos n) z ≡ false → nat_abs z ≤ suc n
mid-size n (pos m) e f = omega (arith, ltb-false n m f)
mid-size n (negsuc m) e f = omega (arith, ltb-false n m e)

-- the magnitude
pub clamp-size : (n : ℕ) (z : ℤ) → nat_abs (clamp n z) ≤ suc n
unfolding clamp
clamp-size n z = go (lt_z z (negsuc n)) (lt_z (pos n) z) (mid-size n z)
  where
    go : (a b : Bool) → (a ≡ false → b ≡ false → nat_abs z ≤ suc n) → nat_abs (cond a (negsuc n) (cond b (pos n) z)) ≤ suc n
    go true b h = omega arith
    go false true h = omega arith
    go false false h = h refl refl

pub mid-fits : (z : ℤ) → lt_z z (negsuc 32767) ≡ false → lt_z (pos 32767) z ≡ false → SFits w16 z
mid-fits (pos n) e f = record { sfits = omega (arith, ltb-false 32767 n f) }
mid-fits (negsuc n) e f = record { sfits = omega (arith, ltb-false 32767 n e) }

-- ---- 16 bits

pub clamp-fits : (z : ℤ) → SFits w16 (clamp16 z)
clamp-fits z = go (lt_z z (negsuc 32767)) refl
  where
    high : (t : Bool) → lt_z (pos 32767) z ≡ t → lt_z z (negsuc 32767) ≡ false → SFits w16 (clamp16 z)
    high true f e = subst (λ (v : ℤ). SFits w16 v) (sym (clamp-high 32767 z e f)) (record { sfits = omega arith })
    high false f e = subst (λ (v : ℤ). SFits w16 v) (sym (clamp-mid 32767 z e f)) (mid-fits z e f)

    go : (t : Bool) → lt_z z (negsuc 32767) ≡ t → SFits w16 (clamp16 z)
    go true e = subst (λ (v : ℤ). SFits w16 v) (sym (clamp-low 32767 z e)) (record { sfits = omega arith })
    go false e = high (lt_z (pos 32767) z) refl e

-- clamping brings z no farther from a number of 16 bits
pub clamp-nearer : (x z : ℤ) (n : ℕ) → SFits w16 x → nat_abs (z -ℤ x) ≤ n → nat_abs (clamp16 z -ℤ x) ≤ n
clamp-nearer x z n f h = go (lt_z z (negsuc 32767)) refl
  where
    top : (x : ℤ) → SFits w16 x → (over x ≤ under x + 32767) × (under x ≤ over x + 32768)
    top (pos m) f = let h = f.sfits in (omega arith, omega arith)
    top (negsuc m) f = let h = f.sfits in (omega arith, omega arith)

    high : (t : Bool) → lt_z (pos 32767) z ≡ t → lt_z z (negsuc 32767) ≡ false → nat_abs (clamp16 z -ℤ x) ≤ n
    high true g e =
        subst (λ (v : ℤ). nat_abs (v -ℤ x) ≤ n) (sym (clamp-high 32767 z e g))
        (let l = diff-lt (diff-pos 32767) (diff-of z) g in
        let d = diff-abs (diff-sub (diff-of z) (diff-of x)) in
        let t = top x f in
        abs_diff (diff-sub (diff-pos 32767) (diff-of x)) n (omega arith) (omega arith))
    high false g e = subst (λ (v : ℤ). nat_abs (v -ℤ x) ≤ n) (sym (clamp-mid 32767 z e g)) h

    go : (t : Bool) → lt_z z (negsuc 32767) ≡ t → nat_abs (clamp16 z -ℤ x) ≤ n
    go true e =
        subst (λ (v : ℤ). nat_abs (v -ℤ x) ≤ n) (sym (clamp-low 32767 z e))
        (let l = diff-lt (diff-of z) (diff-neg (diff-pos 32768)) e in
        let d = diff-abs (diff-sub (diff-of z) (diff-of x)) in
        let t = top x f in
        abs_diff (diff-sub (diff-neg (diff-pos 32768)) (diff-of x)) n (omega arith) (omega arith))
    go false e = high (lt_z (pos 32767) z) refl e

-- ---- the library's clamp

with-max : (n m : ℕ) (v : Bool) → cond (lt_z (cond v (pos n) (pos m)) (negsuc n)) (negsuc n) (cond v (pos n) (pos m)) ≡ cond v (pos n) (pos m)
with-max n m true = refl
with-max n m false = refl

pub clamp-library : (n : ℕ) (z : ℤ) → int_max (negsuc n) (int_min z (pos n)) ≡ clamp n z
unfolding clamp
clamp-library n (pos m) = with-max n m (lt_z (pos n) (pos m))
clamp-library n (negsuc m) = refl
