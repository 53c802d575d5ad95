-- Playing a whole image is playing its blocks in turn: one call of `play` for each, on the output from the end of the block before on.
use mathlib.Core.List.{List}
use mathlib.Core.Path.{◌≡◌, refl, sym, ap, ◌∙◌}
use Prim.Native.Nat.{ℕ, zero, suc, ◌≤◌, ◌<◌}
use native.Mathlib.Omega.{arith}
use lib.IntN.{ℤ}
use lib.ListN.{length, drop}
use Rattle.block.specs.Play.{play_into}
use Rattle.whole.specs.Outcome.{accepted, Effect, effect}
use Rattle.block.specs.Frame.{Playing, playing}
use Rattle.image.specs.BlocksInTurn.{after_call, turns}
use Rattle.image.specs.Reading.{total_in, blocks_in}
use Rattle.image.specs.inner.Asked.{AllPlayable}
use Rattle.image.specs.Playing.{play_answer, play}
use Rattle.image.specs.Sameness.{block_samples, samples_from, samples_in}
use Rattle.image.specs.WholeImage.{all_answer, context_after, play_all}
use Rattle.image.proofs.Joined.{samples-count}
use Rattle.image.proofs.LawsAll.{all-accepted, all_made, all-written, context_on, written, turn-playable, turn-written, turn-counted}
use Rattle.image.proofs.LawsBody.{play-accepts}
use Rattle.image.proofs.LawsPlayed.{play-leaves}

module _ (l : List ℕ) (out : List ℤ) (p : AllPlayable l (length out)) where
  -- what those calls leave
  abbrev stand : ℕ → Effect ℕ Playing
  stand k = effect (length (samples_from l 0 k)) (playing (context_on l k) (written l out p k))

  call : (k : ℕ) → k < blocks_in l → after_call (stand k) (play l k (drop (length (samples_from l 0 k)) (written l out p k))) ≡ stand (suc k)
  unfolding block_samples context_after play_into
  call k h =
      let n = length (samples_from l 0 k) in
      let t = written l out p k in
      let c = turn-counted l out p k h in
      let w = turn-written l out p k h in
      ap (after_call (stand k)) (sym (play-leaves l k (drop n t) (turn-playable l out p k h)))
      ∙ rw (c, w)

  calls : (k : ℕ) → k ≤ blocks_in l → turns l k out ≡ stand k
  unfolding turns samples_from
  calls zero h = refl
  calls (suc k) h =
      ap (λ (t : Effect ℕ Playing). after_call t (play l k (drop t.outcome t.left.samples))) (calls k (omega arith))
      ∙ call k (omega arith)

-- no call is refused
pub each-accepted : (l : List ℕ) (out : List ℤ) (k : ℕ) → all_answer l (length out) ≡ accepted tt → k < blocks_in l
    → (let t = turns l k out in play_answer l k (length (drop t.outcome t.left.samples)) ≡ accepted tt)
each-accepted l out k e h =
    let p = all-accepted l (length out) e in
    rw (calls l out p k (omega arith)) (play-accepts l k _ (turn-playable l out p k h))

-- blocks 0 to K−1 by a call of `play` each leave what playing the whole image leaves
pub all-in-turn : (l : List ℕ) (out : List ℤ) → all_answer l (length out) ≡ accepted tt
    → turns l (blocks_in l) out ≡ effect (total_in l) (play_all l out).left
unfolding samples_in
all-in-turn l out e =
    let p = all-accepted l (length out) e in
    let n : length (samples_from l 0 (blocks_in l)) ≡ total_in l = samples-count l p.opens in
    let m = all_made l out p (total_in l) _ refl (all-written l out p (blocks_in l) _ _ refl refl refl) in
    calls l out p (blocks_in l) (omega arith)
    ∙ rw (n, ← m)
