-- What the test of a clip's numbers says of numbers that pass it.
use mathlib.Core.Path.{◌≡◌, refl, sym, ap, subst}
use mathlib.Core.Bool.{Bool, true, false, not, cond, ◌&&◌}
use Prim.Native.Nat.{ℕ, ◌%◌, ◌≤◌, ◌<◌}
use borrow.Author.Tests.{leb-true, ltb-true, eqb-true, eqb-false}
use lib.Dec.{T, leb, ltb, eqb}
use Rattle.whole.specs.Frames.{most}
use Rattle.layout.specs.Limits.{total_ok, block_ok, numbers_ok, loop_ok, Limits}
use Rattle.layout.specs.declared.Loop.{Loop}
use Rattle.layout.specs.Sizes.{shape, no_loop, told_loop, loop_count}
use native.Mathlib.Omega.{arith}

pub both_true : (a b : Bool) → a && b ≡ true → (a ≡ true) × (b ≡ true)
both_true true b e = (refl, e)
both_true false b e = absurd (subst T (sym e) tt)

-- n samples fed of a clip within the limits
pub record Within (n total b : ℕ) : Type 0 where
  pub fed : n ≤ total
  pub limits : (x : ℕ) → x ≤ 1 → Limits (shape total b x)

pub numbers-sound : (n total b rate : ℕ) → numbers_ok n total b rate ≡ true → Within n total b
unfolding numbers_ok
numbers-sound n total b rate h =
    let a = both_true (leb n total) _ h in
    let t = both_true (total_ok total) _ a.1 in
    let u = both_true (leb 1 total) (leb total most) t.0 in
    let k = both_true (block_ok b) _ t.1 in
    let w = both_true (leb 8 b) (leb b 65536) k.0 in
    let m = both_true (eqb (b % 8) 0) _ k.1 in
    record {
      fed = leb-true n total a.0;
      limits = λ x few. record {
        some = leb-true 1 total u.0;
        few = leb-true total most u.1;
        wide = leb-true 8 b w.0;
        narrow = leb-true b 65536 w.1;
        eights = eqb-true (b % 8) 0 m.0;
        further = few;
      };
    }

not-true : (v : Bool) → not v ≡ true → v ≡ false
not-true true e = absurd (subst T (sym e) tt)
not-true false e = refl

pub rate-some : (n total b rate : ℕ) → numbers_ok n total b rate ≡ true → rate ≡ 0 → ⊥
unfolding numbers_ok
rate-some n total b rate h =
    let a = both_true (leb n total) _ h in
    let t = both_true (total_ok total) _ a.1 in
    let k = both_true (block_ok b) _ t.1 in
    let m = both_true (eqb (b % 8) 0) _ k.1 in
    eqb-false rate 0 (not-true (eqb rate 0) m.1)

-- a loop adds one entry at most
pub loop-few : (p : Loop) → loop_count p ≤ 1
loop-few p = go p.present
  where
    go : (t : Bool) → cond t 1 0 ≤ 1
    go true = omega arith
    go false = omega arith

-- what the test of a loop says of one that passes it
pub loop-right : (p : Loop) (n : ℕ) → p.present ≡ true → loop_ok p n ≡ true → (p.start < p.end) × (p.end ≤ n)
unfolding loop_ok
loop-right p n e q =
    let b = both_true (ltb p.start p.end) _ (rw e at q) in
    (ltb-true p.start p.end b.0, leb-true p.end n b.1)

none-ok : (n : ℕ) → loop_ok no_loop n ≡ true
unfolding loop_ok
none-ok n = refl

-- what is told of a loop counts and is tested as the loop itself
pub told-count : (p : Loop) → loop_count (told_loop p) ≡ loop_count p
told-count p = go p.present refl
  where
    go : (t : Bool) → p.present ≡ t → loop_count (cond t p no_loop) ≡ cond t 1 0
    go true e = ap (λ (t : Bool). cond t 1 0) e
    go false e = refl

pub told-ok : (p : Loop) (n : ℕ) → loop_ok p n ≡ true → loop_ok (told_loop p) n ≡ true
told-ok p n h = go p.present h
  where
    go : (t : Bool) → loop_ok p n ≡ true → loop_ok (cond t p no_loop) n ≡ true
    go true q = q
    go false q = none-ok n
