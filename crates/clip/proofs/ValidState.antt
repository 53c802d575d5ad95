-- What the state test says of a state that passes it.
use Rattle.layout.proofs.LimitLaws.{both_true, numbers-sound, loop-few}
use mathlib.Core.Path.{◌≡◌}
use mathlib.Core.Bool.{Bool, true, not, ◌&&◌}
use Prim.Native.Nat.{ℕ, ◌*◌, ◌≤◌}
use borrow.Author.Tests.{leb-true}
use lib.Dec.{ltb}
use Rattle.frame.specs.Frame.{coefficients_ok}
use Rattle.clip.specs.declared.Encoder.{Encoder}
use Rattle.layout.specs.Sizes.{loop_count}
use Rattle.layout.specs.Limits.{numbers_ok, loop_ok}
use Rattle.clip.specs.Encoding.{encoder_shape, counts_ok, valid, encoded_frames}
use Rattle.layout.specs.Limits.{Limits}

-- what the state test says of a state that passes it
pub record Sound (e : Encoder) : Type 0 where
  pub limits : Limits (encoder_shape e)
  pub within : coefficients_ok e.coefficients ≡ true
  pub looping : loop_ok e.looped e.total ≡ true
  pub fed : e.fed ≤ e.total
  pub count : e.passes ≤ 104 * encoded_frames e.fed e.total e.closed

counts-sound : (n total : ℕ) (closed : Bool) (passes : ℕ) → counts_ok n total closed passes ≡ true → passes ≤ 104 * encoded_frames n total closed
unfolding counts_ok
counts-sound n total closed passes h = leb-true passes (104 * encoded_frames n total closed) (both_true (not (closed && ltb n total)) _ h).1

pub sound : (e : Encoder) → valid e ≡ true → Sound e
unfolding valid
sound e h =
    let a = both_true (numbers_ok e.fed e.total e.block e.rate) _ h in
    let b = both_true (coefficients_ok e.coefficients) _ a.1 in
    let w = numbers-sound e.fed e.total e.block e.rate a.0 in
    let d = both_true (loop_ok e.looped e.total) _ b.1 in
    record {
      limits = w.limits (loop_count e.looped) (loop-few e.looped);
      within = b.0;
      looping = d.0;
      fed = w.fed;
      count = counts-sound e.fed e.total e.closed e.passes d.1;
    }
