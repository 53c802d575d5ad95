-- The loop over the frames of two images.
use mathlib.Core.Bool.{Bool, true, false}
use mathlib.Core.List.{List, ◌++◌}
use mathlib.Core.Path.{◌≡◌, sym, ap, ap₂, ◌∙◌}
use Prim.Native.Nat.{ℕ, suc, ◌+◌, ◌-◌, ◌≤◌, ◌<◌}
use native.Mathlib.Numerals.{add-one}
use native.Mathlib.Omega.{arith}
use lib.IntN.{ℤ, pos}
use lib.ListN.{length, take, drop, replicate}
use lib.Seq.{sets, sets-eq, length-sets, take-append_seam, drop-append_seam}
use Rattle.block.specs.declared.FrameContext.{FrameContext}
use Rattle.block.specs.Frame.{Playing}
use Rattle.block.specs.Refusals.{equal_up_to}
use Rattle.whole.specs.Frames.{frame_count}
use Rattle.image.specs.declared.comparing.Frame.{Frame}
use Rattle.image.specs.Reading.{total_in}
use Rattle.image.specs.inner.Asked.{Opens}
use Rattle.image.specs.inner.ByFrames.{frame_samples, frames_in, played_frame, next_frame}
use Rattle.image.specs.Sameness.{equal_samples, samples_in}
use Rattle.image.proofs.FramePlaces.{count_most}
use Rattle.image.proofs.Joined.{frames-all, turn_of, frames-grow, turn-count, frames-more, frames-prefix}
use Rattle.image.proofs.LawsEqual.{equal-refl, differ, upto-refl, upto_take}

-- fourteen zeros with samples over them
abbrev over : List ℤ → List ℤ
over xs = sets (replicate 14 (pos 0)) 0 xs

-- the samples that were written over the zeros
over-take : (xs : List ℤ) (n : ℕ) → n ≡ length xs → length xs ≤ 14 → take n (over xs) ≡ xs
over-take xs n e h =
    let z : List ℤ = replicate 14 (pos 0) in
    ap (λ (k : ℕ). take k (over xs)) e
    ∙ ap (take (length xs)) (sets-eq xs z 0 (omega arith))
    ∙ take-append_seam xs (drop (0 + length xs) z)

over-length : (xs : List ℤ) → length (over xs) ≡ 14
over-length xs = length-sets (replicate 14 (pos 0)) 0 xs

-- ---- one image

module _ (l : List ℕ) (i : ℕ) (c : FrameContext) (e : c ≡ (frames_in l i).context) (x : Frame) (ex : x ≡ next_frame l i c) where
  pub next-context : x.context ≡ (frames_in l (i + 1)).context
  unfolding next_frame played_frame
  next-context = ap (λ (f : Frame). f.context) (rw e at ex) ∙ sym (ap (λ (k : ℕ). (frames_in l k).context) (add-one i) ∙ ap (λ (p : Playing). p.context) (frames-grow l i))

  pub next-samples : x.samples ≡ over (turn_of l i).samples
  unfolding next_frame played_frame
  next-samples = ap (λ (f : Frame). f.samples) (rw e at ex)

-- ---- two images

module _ (a b : List ℕ) (A : Opens a) (B : Opens b) (t : total_in a ≡ total_in b) where
  -- all frames compared
  pub all-equal : (frames_in a (frame_count (total_in a))).samples ≡ (frames_in b (frame_count (total_in a))).samples → true ≡ equal_samples (samples_in a) (samples_in b)
  all-equal e =
      let s : samples_in a ≡ samples_in b = sym (frames-all a A) ∙ e ∙ ap (λ (n : ℕ). (frames_in b (frame_count n)).samples) t ∙ frames-all b B in
      sym (ap (equal_samples (samples_in a)) (sym s) ∙ equal-refl (samples_in a))

  module _ (i count : ℕ) (lt : i < frame_count (total_in a)) (n : count ≡ frame_samples (total_in a) i)
      (s : (frames_in a i).samples ≡ (frames_in b i).samples) (xs ys : List ℤ) (ex : xs ≡ over (turn_of a i).samples) (ey : ys ≡ over (turn_of b i).samples) where
    few : count ≤ 14
    few = let m = count_most (total_in a) i A.head.limits.some lt in omega arith

    left : count ≡ length (turn_of a i).samples
    left = n ∙ sym (turn-count a i)

    right : count ≡ length (turn_of b i).samples
    right = n ∙ ap (λ (k : ℕ). frame_samples k i) t ∙ sym (turn-count b i)

    -- the frames are equal: so are the samples up to their end
    pub turn-equal : equal_up_to xs ys count ≡ true → (frames_in a (i + 1)).samples ≡ (frames_in b (i + 1)).samples
    turn-equal e =
        let p : length xs ≡ 14 = ap length ex ∙ over-length (turn_of a i).samples in
        let q : length ys ≡ 14 = ap length ey ∙ over-length (turn_of b i).samples in
        let f = few in
        let g : (turn_of a i).samples ≡ (turn_of b i).samples =
        sym (over-take (turn_of a i).samples count left (omega (arith, left, f)))
        ∙ ap (take count) (sym ex)
        ∙ upto_take xs ys count (omega arith) (omega arith) e
        ∙ ap (take count) ey
        ∙ over-take (turn_of b i).samples count right (omega (arith, right, f)) in
        ap (λ (k : ℕ). (frames_in a k).samples) (add-one i)
        ∙ ap (λ (k : Playing). k.samples) (frames-grow a i)
        ∙ ap₂ (λ (u v : List ℤ). u ++ v) s g
        ∙ sym (ap (λ (k : ℕ). (frames_in b k).samples) (add-one i) ∙ ap (λ (k : Playing). k.samples) (frames-grow b i))

    -- where all the samples are equal, those of this frame are
    same_turn : samples_in a ≡ samples_in b → (turn_of a i).samples ≡ (turn_of b i).samples
    same_turn e =
        let F : ℕ = frame_count (total_in a) in
        let d : ℕ = F - suc i in
        let w : d + suc i ≡ F = omega arith in
        let whole : (frames_in a (d + suc i)).samples ≡ (frames_in b (d + suc i)).samples =
        ap (λ (k : ℕ). (frames_in a k).samples) w ∙ frames-all a A ∙ e ∙ sym (frames-all b B) ∙ ap (λ (k : ℕ). (frames_in b (frame_count k)).samples) (sym t)
        ∙ ap (λ (k : ℕ). (frames_in b k).samples) (sym w) in
        let m : length (frames_in a (suc i)).samples ≡ length (frames_in b (suc i)).samples =
        frames-more a i ∙ ap₂ (λ (u v : ℕ). u + v) (ap length s) (ap (λ (k : ℕ). frame_samples k i) t) ∙ sym (frames-more b i) in
        let part : (frames_in a (suc i)).samples ≡ (frames_in b (suc i)).samples =
        sym (frames-prefix a (suc i) d).0 ∙ ap₂ take m whole ∙ (frames-prefix b (suc i) d).0 in
        let parts : (frames_in a i).samples ++ (turn_of a i).samples ≡ (frames_in b i).samples ++ (turn_of b i).samples =
        sym (ap (λ (k : Playing). k.samples) (frames-grow a i)) ∙ part ∙ ap (λ (k : Playing). k.samples) (frames-grow b i) in
        sym (drop-append_seam (frames_in a i).samples (turn_of a i).samples)
        ∙ ap₂ drop (ap length s) parts
        ∙ drop-append_seam (frames_in b i).samples (turn_of b i).samples

    -- the frames differ: so do the images' samples
    pub turn-differs : equal_up_to xs ys count ≡ false → false ≡ equal_samples (samples_in a) (samples_in b)
    turn-differs e = sym (differ (samples_in a) (samples_in b) (λ q. clash (same_turn q)))
      where
        clash : (turn_of a i).samples ≡ (turn_of b i).samples → ⊥
        clash q =
            let z : xs ≡ ys = ex ∙ ap over q ∙ sym ey in
            let r : ◌≡◌ {A = Bool} true false = sym (upto-refl xs count) ∙ ap (λ (l : List ℤ). equal_up_to xs l count) z ∙ e in
            let k : ◌≡◌ {A = ℕ} 0 1 = cc in
            omega arith
