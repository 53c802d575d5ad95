-- What an accepted call tells.
use mathlib.Core.Path.{◌≡◌, refl}
use mathlib.Core.Bool.{Bool, true, false, not, cond}
use Prim.Native.Nat.{ℕ, ◌-◌, ◌*◌, ◌/◌, ◌≤◌}
use native.Mathlib.Omega.{arith}
use borrow.Author.Tests.{leb-true, ltb-false, eqb-false}
use lib.Dec.{leb, ltb, eqb}
use Rattle.frame.specs.Frame.{coefficients_ok}
use Rattle.whole.specs.Outcome.{Outcome, accepted, refused, if_accepted}
use Rattle.whole.proofs.Outcomes.{passed, failed}
use Rattle.clip.specs.declared.starting.Start.{Start}
use Rattle.clip.specs.Image.{cut, start_shape}
use Rattle.clip.specs.declared.Encoder.{Encoder}
use Rattle.layout.specs.Sizes.{told_loop, image_size, cut_down}
use Rattle.whole.specs.Frames.{most}
use Rattle.layout.specs.Limits.{total_ok, block_ok, numbers_ok, loop_ok}
use Rattle.clip.specs.Encoding.{encoder_shape, valid, going_answer, start_answer, feed_answer, close_answer}
use Rattle.layout.specs.Limits.{Limits}
use Rattle.clip.specs.inner.Asked.{Going, Whole}
use Rattle.layout.proofs.LimitLaws.{both_true, rate-some, loop-few}
use Rattle.clip.proofs.ValidState.{Sound, sound}

-- what starting was accepted with
pub record Started (g : Start) (len : ℕ) : Type 0 where
  pub some : g.rate ≡ 0 → ⊥
  pub limits : Limits (start_shape (cut g))
  pub within : coefficients_ok g.coefficients ≡ true
  pub looping : loop_ok g.looped g.total ≡ true
  pub size : image_size (start_shape (cut g)) ≤ len

-- the shape of a start that passes the tests of 4 and 6
pub start-limits : (g : Start) → 1 ≤ g.total → g.total ≤ most → 8 ≤ g.block → g.block ≤ 65536 → Limits (start_shape (cut g))
unfolding cut_down
start-limits g some few wide narrow = record { some = some; few = few; wide = omega arith; narrow = omega arith; eights = omega arith; further = loop-few (told_loop g.looped) }

pub start-accepted : (g : Start) (len : ℕ) → start_answer g len ≡ accepted tt → Started g len
unfolding start_answer
start-accepted g len p =
    let n = g.total in
    let size = g.block in
    let a = passed (total_ok n) 4 _ p in
    let u = both_true (leb 1 n) (leb n most) a.0 in
    let b = failed (eqb g.rate 0) 5 _ a.1 in
    let d = passed (block_ok size) 6 _ b.1 in
    let w = both_true (leb 8 size) (leb size 65536) d.0 in
    let e = passed (coefficients_ok g.coefficients) 7 _ d.1 in
    let h = passed (loop_ok g.looped n) 23 _ e.1 in
    let f = failed (ltb len (image_size (start_shape (cut g)))) 8 (accepted tt) h.1 in
    record {
      some = eqb-false g.rate 0 b.0;
      limits = start-limits g (leb-true 1 n u.0) (leb-true n most u.1) (leb-true 8 size w.0) (leb-true size 65536 w.1);
      within = e.0;
      looping = h.0;
      size = ltb-false len (image_size (start_shape (cut g))) f.0;
    }

pub feed-accepted : (e : Encoder) (m len : ℕ) → feed_answer e m len ≡ accepted tt → Going e 0 m len
unfolding feed_answer
feed-accepted e m len p =
    let a = passed (valid e) 1 _ p in
    let b = failed (ltb len (image_size (encoder_shape e))) 8 _ a.1 in
    let d = failed e.closed 9 _ b.1 in
    let f = failed (ltb (e.total - e.fed) m) 10 (accepted tt) d.1 in
    let s = sound e a.0 in
    let k : e.passes ≤ 104 * (e.fed / 14) = rw d.0 at s.count in
    let r = ltb-false (e.total - e.fed) m f.0 in
    let w = s.fed in
    record { limits = s.limits; within = s.within; looping = s.looping; rest = omega arith; count = k; size = ltb-false len (image_size (encoder_shape e)) b.0 }

-- the clip is open, its rate is not zero
pub feed-open : (e : Encoder) (m len : ℕ) → feed_answer e m len ≡ accepted tt → (e.closed ≡ false) × (e.rate ≡ 0 → ⊥)
unfolding feed_answer valid
feed-open e m len p =
    let a = passed (valid e) 1 _ p in
    let b = failed (ltb len (image_size (encoder_shape e))) 8 _ a.1 in
    let d = failed e.closed 9 _ b.1 in
    (d.0, rate-some e.fed e.total e.block e.rate (both_true (numbers_ok e.fed e.total e.block e.rate) _ a.0).0)

pub close-accepted : (e : Encoder) (len : ℕ) → close_answer e len ≡ accepted tt → Whole e len
unfolding close_answer
close-accepted e len p =
    let a = passed (valid e) 1 _ p in
    let b = failed (ltb len (image_size (encoder_shape e))) 8 _ a.1 in
    let d = failed e.closed 9 _ b.1 in
    let f = failed (ltb e.fed e.total) 11 (accepted tt) d.1 in
    let s = sound e a.0 in
    let k : e.passes ≤ 104 * (e.fed / 14) = rw d.0 at s.count in
    let r = ltb-false e.fed e.total f.0 in
    let w = s.fed in
    record { limits = s.limits; within = s.within; all = omega arith; count = k; size = ltb-false len (image_size (encoder_shape e)) b.0 }

-- the tests that feeding and closing share come before their own
pub going-then : (e : Encoder) (size : ℕ) (next : Outcome Unit) →
    going_answer e size next ≡ (let o = going_answer e size (accepted tt) in if_accepted o next o)
going-then e size next = go (valid e) (ltb size (image_size (encoder_shape e))) e.closed
  where
    go : (a b d : Bool) →
        cond (not a) (refused 1) (cond b (refused 8) (cond d (refused 9) next))
        ≡ (let o = cond (not a) (refused 1) (cond b (refused 8) (cond d (refused 9) (accepted tt))) in if_accepted o next o)
    go false b d = refl
    go true true d = refl
    go true false true = refl
    go true false false = refl

-- the state passed its test
pub going-sound : (e : Encoder) (size : ℕ) → going_answer e size (accepted tt) ≡ accepted tt → Sound e
going-sound e size p = sound e (passed (valid e) 1 _ p).0
