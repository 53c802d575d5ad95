-- The loop of X's closed image: what it stores, and what playing it gives.
use mathlib.Core.Path.{◌≡◌, refl, sym, ap, ap₂, ◌∙◌}
use mathlib.Core.Bool.{Bool, true, false, cond}
use mathlib.Core.List.{List, ◌++◌}
use Prim.Native.Nat.{ℕ, zero, suc, ◌+◌, ◌-◌, ◌*◌, ◌/◌, ◌%◌, ◌≤◌, ◌<◌}
use native.Mathlib.Omega.{arith}
use lib.IntN.{ℤ, pos}
use lib.ListN.{length, get_or, take, drop}
use Rattle.whole.specs.declared.History.{History}
use Rattle.whole.specs.Outcome.{accepted, effect}
use Rattle.frame.specs.Frame.{history_after, preceded}
use Rattle.frame.proofs.LawsEncoded.{history-start}
use Rattle.block.specs.declared.FrameContext.{FrameContext}
use Rattle.block.specs.Address.{sample_to_address}
use Rattle.block.specs.Context.{history_with, context_with, new_context}
use Rattle.block.specs.Play as Block
use Rattle.layout.specs.declared.Loop.{Loop}
use Rattle.layout.specs.Sizes.{no_loop, told_loop, block_length, frame_place}
use Rattle.clip.specs.Image.{start_shape}
use Rattle.clip.specs.declared.starting.Start.{Start}
use Rattle.clip.specs.Runs.{history_at, encoded_at}
use Rattle.clip.proofs.ImageByFrames.{Fine}
use Rattle.image.specs.Reading.{coefficients_in, offset_in, length_in, context_in, loop_in, loop_context_in}
use Rattle.image.specs.Bodies.{body_in}
use Rattle.image.specs.Looping.{loop_length, loop_once, repeated, play_loop}
use Rattle.image.specs.Part.{samples_per_block}
use Rattle.image.specs.Sameness.{samples_in}
use Rattle.image.specs.inner.Runs.{context_at_sample}
use Rattle.image.proofs.LawsLoop.{loop-zero, loop-none}
use Rattle.image.proofs.LoopPlayed.{loop-part, plays-loop, plays-none}
use Rattle.image.proofs.Parts.{part_at}
use Rattle.round_trip.specs.ClosedClip.{played_before, stored_context}
use Rattle.round_trip.proofs.FramesPlayed.{Audible, context_within}
use Rattle.round_trip.proofs.BlocksOfX.{sound_of, sound-is, block-until, sample-block, sample-frame, sample-inside, frame-of}
use Rattle.round_trip.proofs.ImageOpens.{image, block-is, coefficients-are, entry-made, context-is, image-made, image-opens, none_is, rule, loop-is, stored_is}
use Rattle.round_trip.proofs.ImagePlayed.{all-heard, pairs-heard, header-heard}

-- ---- the two samples played before a sample

played-two : (h : History) (ys : List ℤ) (s : ℕ) → 2 ≤ s → played_before h ys s ≡ history_with (get_or ys (s - 1) (pos 0)) (get_or ys (s - 2) (pos 0))
unfolding played_before
played-two h ys zero l = absurd (omega arith)
played-two h ys (suc zero) l = absurd (omega arith)
played-two h ys (suc (suc s)) l =
    let a : suc s ≡ suc (suc s) - 1 = omega arith in
    let b : s ≡ suc (suc s) - 2 = omega arith in
    ap₂ (λ (i j : ℕ). history_with (get_or ys i (pos 0)) (get_or ys j (pos 0))) a b

module _ (g : Start) (F : Fine g) (xs : List ℤ) where
  abbrev frame : ℕ → List ℤ
  frame i = (encoded_at g xs i).samples

  abbrev after : ℕ → ℕ → History
  after i m = history_after (history_at g xs i) (encoded_at g xs i).samples m

  -- sample m of frame i, heard
  heard : (i m s : ℕ) → m < 14 → s < g.total → s ≡ 14 * i + m → get_or (frame i) m (pos 0) ≡ get_or (sound_of g xs) s (pos 0)
  heard i m s l lt e =
      let q : s / 14 ≡ i = omega arith in
      let r : s % 14 ≡ m = omega arith in
      sym (sound-is g F xs s lt ∙ ap₂ (λ (a b : ℕ). get_or (encoded_at g xs a).samples b (pos 0)) q r)

  -- the history after a whole frame: its last two samples
  whole-after : (i : ℕ) → history_at g xs (suc i) ≡ history_with (get_or (frame i) 13 (pos 0)) (get_or (frame i) 12 (pos 0))
  unfolding history_at encoded_at history_after preceded
  whole-after i = refl

  one-after : (i : ℕ) → after i 1 ≡ history_with (get_or (frame i) 0 (pos 0)) (history_at g xs i).newest
  unfolding history_after preceded
  one-after i = refl

  two-after : (i m : ℕ) → after i (suc (suc m)) ≡ history_with (get_or (frame i) (suc m) (pos 0)) (get_or (frame i) m (pos 0))
  unfolding history_after preceded
  two-after i m = refl

  first-history : history_at g xs 0 ≡ g.history
  unfolding history_at
  first-history = refl

  abbrev ys : List ℤ
  ys = sound_of g xs

  -- two samples in turn
  both : (s : ℕ) (a b : ℤ) → 2 ≤ s → a ≡ get_or (sound_of g xs) (s - 1) (pos 0) → b ≡ get_or (sound_of g xs) (s - 2) (pos 0) → history_with a b ≡ played_before g.history (sound_of g xs) s
  both s a b l p q = ap₂ history_with p q ∙ sym (played-two g.history ys s l)

  before : (i m s : ℕ) → m < 14 → s < g.total → s ≡ 14 * i + m → after i m ≡ played_before g.history (sound_of g xs) s
  unfolding played_before
  before zero zero zero l lt e = history-start (history_at g xs 0) (frame 0) ∙ first-history
  before zero zero (suc s) l lt e = absurd (omega arith)
  before zero (suc zero) zero l lt e = absurd (omega arith)
  before zero (suc zero) (suc zero) l lt e =
      one-after 0 ∙ ap₂ history_with (heard 0 0 0 (omega arith) (omega arith) refl) (ap (λ (h : History). h.newest) first-history)
  before zero (suc zero) (suc (suc s)) l lt e = absurd (omega arith)
  before zero (suc (suc m)) s l lt e =
      two-after 0 m ∙ both s _ _ (omega arith) (heard 0 (suc m) (s - 1) (omega arith) (omega arith) (omega arith)) (heard 0 m (s - 2) (omega arith) (omega arith) (omega arith))
  before (suc i) zero s l lt e =
      history-start (history_at g xs (suc i)) (frame (suc i)) ∙ whole-after i
      ∙ both s _ _ (omega arith) (heard i 13 (s - 1) (omega arith) (omega arith) (omega arith)) (heard i 12 (s - 2) (omega arith) (omega arith) (omega arith))
  before (suc i) (suc zero) s l lt e =
      one-after (suc i) ∙ ap (λ (h : History). history_with (get_or (frame (suc i)) 0 (pos 0)) h.newest) (whole-after i)
      ∙ both s _ _ (omega arith) (heard (suc i) 0 (s - 1) (omega arith) (omega arith) (omega arith)) (heard i 13 (s - 2) (omega arith) (omega arith) (omega arith))
  before (suc i) (suc (suc m)) s l lt e =
      two-after (suc i) m ∙ both s _ _ (omega arith) (heard (suc i) (suc m) (s - 1) (omega arith) (omega arith) (omega arith)) (heard (suc i) m (s - 2) (omega arith) (omega arith) (omega arith))

-- ---- the context at a sample

module _ (g : Start) (F : Fine g) (xs : List ℤ) (rest : List ℕ) (A : Audible g xs) where
  abbrev l : List ℕ
  l = image g F xs rest

  abbrev per : ℕ
  per = samples_per_block g.block

  -- what playing up to a sample of its block leaves
  until : (s : ℕ) → s < g.total
      → (Block.play (body_in l (s / per)) (coefficients_in l) (sample_to_address (s % per)) (context_in l (s / per))).context ≡ context_within g xs (s / 14) (s % 14)
  unfolding body_in sample_to_address
  until s lt =
      let n = g.total in
      let b = g.block in
      let x = (start_shape g).extra in
      let j = s / per in
      let few = sample-block n b x s F.limits lt in
      let e = entry-made g F xs rest j few in
      let bytes = take ((length_in l j + 1) / 2) (drop (offset_in l j) l) in
      let at : (i : ℕ) → i < (block_length (start_shape g) j + 1) / 2 → get_or bytes i 0
      ≡ get_or l (offset_in l j + i) 0 = λ i h. part_at l (offset_in l j) ((length_in l j + 1) / 2) i (omega (arith, e.nibbles)) in
      let r = s % per in
      let a : 16 * (r / 14) + 2 + r % 14 ≡ 16 * (r / 14) + (r % 14 + 2) = omega arith in
      let w = sample-frame n b x s F.limits lt in
      ap₂ (λ (cs : List ℤ) (k : ℕ). (Block.play bytes cs k (context_in l j)).context) (coefficients-are g F xs rest A.coefficients) a
      ∙ ap (λ (c : FrameContext). (Block.play bytes g.coefficients (16 * (r / 14) + (r % 14 + 2)) c).context) (context-is g F xs rest j few A)
      ∙ block-until g F xs rest j few bytes (λ i h. at i h ∙ ap (λ (o : ℕ). get_or l (o + i) 0) e.offset) A (r / 14) (r % 14) (omega arith) (sample-inside n b x s F.limits lt)
      ∙ ap₂ (context_within g xs) w.0 w.1

  sample-context : (s : ℕ) → s < g.total → context_at_sample l s ≡ context_within g xs (s / 14) (s % 14)
  unfolding context_at_sample
  sample-context s lt =
      ap (λ (b : ℕ). (Block.play (body_in l (s / samples_per_block b)) (coefficients_in l) (sample_to_address (s % samples_per_block b)) (context_in l (s / samples_per_block b))).context) (block-is g F xs rest)
      ∙ until s lt

  -- ---- the loop

  module _ (here : g.looped.present ≡ true) where
    abbrev start : ℕ
    start = g.looped.start

    start-below : start < g.total
    start-below = let r = rule g F xs rest here in let a = r.0 in let b = r.1 in omega arith

    -- the stored context in the document's words
    in_words : context_within g xs (start / 14) (start % 14)
        ≡ context_with (get_or l (frame_place (start_shape g) (start / 14)) 0) (played_before g.history (samples_in l) start)
    in_words =
        ap₂ context_with (sym (header-heard g F xs rest A (start / 14) (frame-of g.total start start-below)))
        (before g F xs (start / 14) (start % 14) start (omega arith) start-below (omega arith) ∙ ap (λ (zs : List ℤ). played_before g.history zs start) (sym (all-heard g F xs rest A)))

    part_of : loop_once l ≡ take (g.looped.end - start) (drop start (samples_in l))
    part_of =
        let i = loop-is g F xs rest here in
        let p : (loop_in l).present ≡ true = ap (λ (p : Loop). p.present) i ∙ here in
        let c : loop_context_in l ≡ context_at_sample l (loop_in l).start =
        stored_is g F xs rest here A ∙ sym (sample-context start start-below) ∙ ap (λ (p : Loop). context_at_sample l p.start) (sym i) in
        loop-part l (image-made g F xs rest) p c ∙ ap (λ (p : Loop). take (p.end - p.start) (drop p.start (samples_in l))) i

    pub loop-plays : (times : ℕ) (out : List ℤ)
        → (let n = g.looped.end - start in
        times * n ≤ length out → ((play_loop l times out).outcome ≡ accepted (times * n))
        × ((play_loop l times out).left ≡ repeated times (take n (drop start (samples_in l))) ++ drop (times * n) out))
    loop-plays times out room =
        let i = loop-is g F xs rest here in
        let e : loop_length l ≡ g.looped.end - start = ap (λ (p : Loop). p.end - p.start) i in
        let p = plays-loop l times out (image-opens g F xs rest) (pairs-heard g F xs rest A) (rw e room) in
        (p.0 ∙ ap (λ (n : ℕ). accepted (times * n)) e, p.1 ∙ ap₂ (λ (zs : List ℤ) (n : ℕ). repeated times zs ++ drop (times * n) out) part_of e)

    -- at a block's edge
    pub edge-context : start % per ≡ 0 → stored_context g l ≡ context_in l (start / per)
    edge-context z =
        let n = g.total in
        let b = g.block in
        let x = (start_shape g).extra in
        let w = sample-frame n b x start F.limits start-below in
        let few = sample-block n b x start F.limits start-below in
        let q : start / per * (b / 8) ≡ start / 14 = omega (arith, w.0, z) in
        let m : start % 14 ≡ 0 = omega (arith, w.1, z) in
        ap (λ (t : Bool). cond t (context_with (get_or l (frame_place (start_shape g) (start / 14)) 0) (played_before g.history (samples_in l) start)) new_context) here
        ∙ sym in_words
        ∙ ap₂ (context_within g xs) (sym q) m
        ∙ ap (context_with (get_or (encoded_at g xs (start / per * (b / 8))).bytes 0 0)) (history-start (history_at g xs (start / per * (b / 8))) (encoded_at g xs (start / per * (b / 8))).samples)
        ∙ sym (context-is g F xs rest (start / per) few A)

  -- without a loop the stored context is zeros
  pub no-context : (loop_in l).present ≡ false → loop_context_in l ≡ new_context
  unfolding loop_context_in
  no-context e = rw e

  -- what opening tells of it
  pub loop-told : loop_in l ≡ told_loop g.looped
  loop-told = go g.looped.present refl
    where
      go : (t : Bool) → g.looped.present ≡ t → loop_in l ≡ cond t g.looped no_loop
      go true e = loop-is g F xs rest e
      go false e = loop-none l (loop-zero l (none_is g F xs rest e))

  pub context-told : loop_context_in l ≡ stored_context g l
  context-told = go g.looped.present refl
    where
      go : (t : Bool) → g.looped.present ≡ t
          → loop_context_in l ≡ cond t (context_with (get_or l (frame_place (start_shape g) (g.looped.start / 14)) 0) (played_before g.history (samples_in l) g.looped.start)) new_context
      go true e = stored_is g F xs rest e A ∙ in_words e
      go false e = no-context (loop-zero l (none_is g F xs rest e))

  pub none-plays : g.looped.present ≡ false → (times : ℕ) (out : List ℤ) → play_loop l times out ≡ effect (accepted 0) out
  none-plays e times out = plays-none l times out (image-opens g F xs rest) (pairs-heard g F xs rest A) (none_is g F xs rest e)
