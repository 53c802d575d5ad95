-- What playing the loop of an image gives.
use mathlib.Core.Bool.{true, false}
use mathlib.Core.List.{List, ◌++◌}
use mathlib.Core.Path.{◌≡◌, refl, sym, ap, ◌∙◌}
use Prim.Native.Nat.{ℕ, ◌-◌, ◌*◌, ◌≤◌}
use native.Mathlib.Nat.{mul-zero}
use native.Mathlib.Omega.{arith}
use lib.IntN.{ℤ}
use lib.ListN.{length, take, drop}
use lib.Seq.{sets}
use Rattle.block.specs.Refusals.{lowest_pair}
use Rattle.layout.specs.declared.Loop.{Loop}
use Rattle.whole.specs.Outcome.{Outcome, accepted, Effect, effect}
use Rattle.whole.proofs.Stores.{spread}
use Rattle.image.specs.Reading.{loops_in, coefficients_in, loop_in, loop_context_in}
use Rattle.image.specs.Opening.{open_answer}
use Rattle.image.specs.inner.Asked.{Opens}
use Rattle.image.specs.inner.Played.{play_loop_by}
use Rattle.image.specs.inner.Runs.{context_at_sample}
use Rattle.image.specs.Looping.{loop_length, loop_once, repeated, loop_answer, play_loop}
use Rattle.image.specs.Playing.{room_answer}
use Rattle.image.specs.Sameness.{samples_in}
use Rattle.image.proofs.LawsLoop.{loop-none, loop-zero, loop-run, once-length, repeated-length, none-played, loop-made}
use Rattle.image.proofs.LawsRun.{run-is-part}
use Rattle.image.proofs.OpenImages.{opened}

-- Where the stored context is what the samples before the start leave, a turn is that part of what playing the whole clip gives.
pub loop-part : (l : List ℕ) → Opens l → (loop_in l).present ≡ true → loop_context_in l ≡ context_at_sample l (loop_in l).start
    → loop_once l ≡ take (loop_length l) (drop (loop_in l).start (samples_in l))
unfolding loop_once
loop-part l o e c = simp (c, run-is-part l (loop_in l).start (loop_length l) (loop-run l o e))

module _ (l : List ℕ) (times : ℕ) (out : List ℤ) (o : open_answer l ≡ accepted tt) (c : lowest_pair (coefficients_in l) ≡ false) where
  loop-opened : play_loop l times out ≡ play_loop_by (room_answer (coefficients_in l) (times * loop_length l) (length out)) l times out
  unfolding play_loop loop_answer
  loop-opened = rw o

  -- Of an image that opens, with no pair that is −32,768 twice and with room for so many turns: as many samples, the turns one after the other, and what stood beyond them.
  pub plays-loop : times * loop_length l ≤ length out
      → ((play_loop l times out).outcome ≡ accepted (times * loop_length l)) × ((play_loop l times out).left ≡ repeated times (loop_once l) ++ drop (times * loop_length l) out)
  plays-loop h =
      let ys = repeated times (loop_once l) in
      let e = loop-opened ∙ sym (loop-made l times out c h (times * loop_length l) (sets out 0 ys) refl refl) in
      let n : length ys ≡ times * loop_length l = repeated-length times (loop_once l) ∙ ap (λ (k : ℕ). times * k) (once-length l (opened l o)) in (
        ap (λ (x : Effect (Outcome ℕ) (List ℤ)). x.outcome) e,
        ap (λ (x : Effect (Outcome ℕ) (List ℤ)). x.left) e ∙ spread ys out (omega (arith, n, h)) ∙ ap (λ (k : ℕ). ys ++ drop k out) n,
      )

  -- Without a loop, no samples, and the output as it was, whatever the number of turns and the room.
  pub plays-none : loops_in l ≡ 0 → play_loop l times out ≡ effect (accepted 0) out
  plays-none z =
      let e = loop-zero l z in
      let n : times * loop_length l ≡ 0 = ap (λ (p : Loop). times * (p.end - p.start)) (loop-none l e) ∙ mul-zero times in
      loop-opened ∙ sym (loop-made l times out c (omega (arith, n)) 0 out (sym n) (none-played l times out e))
