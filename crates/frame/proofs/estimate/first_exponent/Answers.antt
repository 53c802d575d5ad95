-- `first_exponent` meets its contract: the two ends, and where their magnitudes are the same the first of the two, have the largest difference.
use Rattle.std.proofs.Common.{◌≡◌, ℕ, refl, sym, ap, ◌∙◌, rules, w16}
use Rattle.std.proofs.Math.Facts.{to_z-of_z}
use lib.IntN.{ℤ, pos, nat_abs}
use mathlib.Core.List.{List}
use Rattle.std.specs.Cmp.{ranked}
use Rattle.std.specs.declared.cmp.Ordering.TheVariants.{Less, Equal, Greater}
use mir.Val.{SFits, to_z, of_z}
use Rattle.whole.proofs.SignedLocals.{abs_neg}
use Rattle.frame.specs.declared.estimate.Ends.{Ends}
use Rattle.frame.specs.inner.Ends.{ends_of}
use Rattle.frame.proofs.LawsEnds.{high_of, low_of, highest-is, lowest-is, first-same, first-higher, first-lower, first-up, first-down}
use Rattle.frame.proofs.estimate.first_exponent.Goals as goal

-- the magnitudes of the two ends
high-is : (c0 c1 : ℤ) (fs : List ℤ) (e : Ends) (n : ℕ) → e ≡ ends_of c0 c1 fs → SFits w16 e.high → n ≡ nat_abs (to_z w16 (of_z w16 e.high)) → n ≡ high_of c0 c1 fs
high-is c0 c1 fs e n q f k = k ∙ ap nat_abs (to_z-of_z f ∙ ap (λ (v : Ends). v.high) q ∙ highest-is c0 c1 fs)

low-is : (c0 c1 : ℤ) (fs : List ℤ) (e : Ends) (n : ℕ) → e ≡ ends_of c0 c1 fs → SFits w16 e.low → n ≡ nat_abs (to_z w16 (of_z w16 e.low)) → n ≡ low_of c0 c1 fs
low-is c0 c1 fs e n q f k = k ∙ ap nat_abs (to_z-of_z f ∙ ap (λ (v : Ends). v.low) q ∙ lowest-is c0 c1 fs) ∙ abs_neg (pos (low_of c0 c1 fs))

pub returns-then-up-down : goal.returns-then-up-down
returns-then-up-down c =
    let a = c.args.pair in
    let fs = c.args.frame.now.samples in
    let h = high-is a.c0 a.c1 fs _ _ c.ends_of-ends.ensures (search rules) c.unsigned_abs-high.ensures.value in
    let l = low-is a.c0 a.c1 fs _ _ c.ends_of-ends.ensures (search rules) c.unsigned_abs-low.ensures.value in
    let u = rw (c.from.ensures, h) at c.exponent-up.ensures in
    let d = rw (c.from-2.ensures, l) at c.exponent-down.ensures in
    first-same a.c0 a.c1 fs _ u (c.if-up-down.true ∙ d)

pub returns-in-Less : goal.returns-in-Less
returns-in-Less c =
    let a = c.args.pair in
    let fs = c.args.frame.now.samples in
    let h = high-is a.c0 a.c1 fs _ _ c.ends_of-ends.ensures (search rules) c.unsigned_abs-high.ensures.value in
    let l = low-is a.c0 a.c1 fs _ _ c.ends_of-ends.ensures (search rules) c.unsigned_abs-low.ensures.value in
    let d = rw (c.from-2.ensures, l) at c.exponent-down.ensures in
    let o = rw (h, l) at c.in-Less.ensures in
    d ∙ first-lower a.c0 a.c1 fs (ranked _ _ Less o)

pub returns-in-Greater : goal.returns-in-Greater
returns-in-Greater c =
    let a = c.args.pair in
    let fs = c.args.frame.now.samples in
    let h = high-is a.c0 a.c1 fs _ _ c.ends_of-ends.ensures (search rules) c.unsigned_abs-high.ensures.value in
    let l = low-is a.c0 a.c1 fs _ _ c.ends_of-ends.ensures (search rules) c.unsigned_abs-low.ensures.value in
    let u = rw (c.from.ensures, h) at c.exponent-up.ensures in
    let o = rw (h, l) at c.in-Greater.ensures in
    u ∙ first-higher a.c0 a.c1 fs (ranked _ _ Greater o)

pub returns-then-highest_first : goal.returns-then-highest_first
returns-then-highest_first c =
    let a = c.args.pair in
    let fs = c.args.frame.now.samples in
    let h = high-is a.c0 a.c1 fs _ _ c.ends_of-ends.ensures (search rules) c.unsigned_abs-high.ensures.value in
    let l = low-is a.c0 a.c1 fs _ _ c.ends_of-ends.ensures (search rules) c.unsigned_abs-low.ensures.value in
    let u = rw (c.from.ensures, h) at c.exponent-up.ensures in
    let o = rw (h, l) at c.in-Equal.ensures in
    let e = rw h at c.is_first-highest_first.ensures in
    u ∙ first-up a.c0 a.c1 fs _ refl (sym (ranked _ _ Equal o)) (sym e ∙ c.if-highest_first.true)

pub returns-else-highest_first : goal.returns-else-highest_first
returns-else-highest_first c =
    let a = c.args.pair in
    let fs = c.args.frame.now.samples in
    let h = high-is a.c0 a.c1 fs _ _ c.ends_of-ends.ensures (search rules) c.unsigned_abs-high.ensures.value in
    let l = low-is a.c0 a.c1 fs _ _ c.ends_of-ends.ensures (search rules) c.unsigned_abs-low.ensures.value in
    let d = rw (c.from-2.ensures, l) at c.exponent-down.ensures in
    let o = rw (h, l) at c.in-Equal.ensures in
    let e = rw h at c.is_first-highest_first.ensures in
    d ∙ first-down a.c0 a.c1 fs _ refl (sym (ranked _ _ Equal o)) (sym e ∙ c.if-highest_first.false)
