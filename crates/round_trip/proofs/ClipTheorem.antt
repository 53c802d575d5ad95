-- The clip theorem, and the theorem on closed images that it rests on.
use mathlib.Core.Path.{◌≡◌, refl, sym, ap, ap₂, ◌∙◌, subst}
use mathlib.Core.Bool.{true, false}
use mathlib.Core.List.{List, [], ◌∷◌, ◌++◌}
use Prim.Native.Nat.{ℕ, ◌+◌, ◌*◌, ◌/◌, ◌%◌, ◌^◌, ◌≤◌, ◌<◌}
use native.Mathlib.Numerals.{add-one}
use native.Mathlib.Omega.{arith}
use lib.Ieee.{Float}
use lib.IntN.{ℤ, pos, nat_abs, ◌-ℤ◌}
use lib.ListN.{length, get_or, drop, replicate}
use Rattle.whole.specs.declared.History.{History}
use Rattle.frame.specs.Fits.{FitHistory}
use Rattle.frame.proofs.LawsFrame.{limits-bounded}
use Rattle.coefficients.specs.Measure.{needed}
use Rattle.whole.specs.Outcome.{Outcome, accepted, if_accepted, effect}
use Rattle.coefficients.specs.Runs.{coefficients_of}
use Rattle.coefficients.proofs.WholeRuns.{measuring-runs}
use Rattle.block.specs.declared.FrameContext.{FrameContext}
use Rattle.block.specs.Context.{new_context}
use Rattle.layout.specs.declared.Loop.{Loop}
use Rattle.layout.specs.Sizes.{no_loop, told_loop, block_count, image_size}
use Rattle.whole.specs.Frames.{frame_count}
use Rattle.layout.specs.Fields.{mark}
use Rattle.clip.specs.Image.{cut, start_shape}
use Rattle.clip.specs.Encoding.{Left, start}
use Rattle.layout.specs.Sizes.{frame_place}
use Rattle.clip.specs.Runs as encoded
use Rattle.clip.specs.declared.starting.Start.{Start}
use Rattle.clip.specs.Runs.{loop_entry, image_after, left_after, Call, Plain, plain, plain_after, after}
use Rattle.clip.proofs.AcceptedCalls.{start-accepted}
use Rattle.clip.proofs.ImageByFrames.{Fine, built, image-built}
use Rattle.round_trip.proofs.FramesPlayed.{Audible}
use Rattle.round_trip.proofs.BlocksOfX.{sound-count, sound-near, frame-of}
use Rattle.clip.proofs.WholeRuns.{open-legal, legal-after, start-answered, start_fine, encoding-runs, encoding-states}
use Rattle.image.specs.declared.Head.{Head}
use Rattle.image.specs.Reading.{head_in, loop_in, loop_context_in}
use Rattle.image.specs.Opening.{no_head, told, open_image}
use Rattle.image.specs.Sameness.{samples_in, same}
use Rattle.round_trip.specs.Job.{Sampled, joined, measuring_calls, encoding_calls, last_coefficients, encoding_answers}
use Rattle.round_trip.specs.ClosedClip.{stored_context, ClosedClip, seen, given, started, Done}
use Rattle.round_trip.proofs.ImageOpens.{total-is, rate-is, block-is, gain-is, blocks-are, coefficients-are, image-opens}
use Rattle.round_trip.proofs.ImagePlayed.{all-heard, pairs-heard, block-plays, all-plays, part-plays, header-heard}
use Rattle.round_trip.proofs.SameAgain.{same-again}
use Rattle.round_trip.proofs.FileOfX.{exports, returns}
use Rattle.round_trip.proofs.LoopOfX.{loop-plays, none-plays, edge-context, loop-told, context-told}
use Rattle.round_trip.proofs.Pieces.{coefficients-length, coefficients-sampled, measured-answers, last-answer, encoded-after, encoded-answers}

-- ---- of X's closed image

module _ (g : Start) (F : Fine g) (xs : List ℤ) (l : List ℕ) (A : Audible g xs) (all : length xs ≡ g.total) where
  abbrev rest : List ℕ
  rest = drop (image_size (start_shape g)) l

  abbrev image : List ℕ
  image = built g mark (loop_entry g xs true) xs (frame_count g.total) ++ rest

  head-told : head_in image
      ≡ record { total = g.total; rate = g.rate; block = g.block; gain = g.gain; coefficients = g.coefficients; blocks = block_count (start_shape g) }
  unfolding head_in
  head-told = rw (total-is g F xs rest, rate-is g F xs rest, block-is g F xs rest, gain-is g F xs rest, coefficients-are g F xs rest A.coefficients, blocks-are g F xs rest)

  opened : open_image image
      ≡ effect (accepted tt)
      (told (record { total = g.total; rate = g.rate; block = g.block; gain = g.gain; coefficients = g.coefficients; blocks = block_count (start_shape g) }) (told_loop g.looped)
      (stored_context g image))
  unfolding open_image
  opened =
      ap (λ (o : Outcome Unit). effect o (if_accepted o (told (head_in image) (loop_in image) (loop_context_in image)) (told no_head no_loop new_context))) (image-opens g F xs rest)
      ∙ ap (λ (h : Head). effect (accepted tt) (told h (loop_in image) (loop_context_in image))) head-told
      ∙ ap₂ (λ (p : Loop) (c : FrameContext). effect (accepted tt)
      (told (record { total = g.total; rate = g.rate; block = g.block; gain = g.gain; coefficients = g.coefficients; blocks = block_count (start_shape g) }) p c))
      (loop-told g F xs rest A) (context-told g F xs rest A)

  near : (i : ℕ) → i < length xs
      → (let p = get_or image (frame_place (start_shape g) (i / 14)) 0 % 16 in p < 12 → nat_abs (get_or (samples_in image) i (pos 0) -ℤ get_or xs i (pos 0)) ≤ (3 * 2 ^ p + 1) / 2)
  near i h =
      let t : i < g.total = omega arith in
      rw (header-heard g F xs rest A (i / 14) (frame-of g.total i t), all-heard g F xs rest A) (sound-near g F xs A i t)

  outcome : ClosedClip g xs l (left_after g rest xs true)
  unfolding left_after encoded.state_after image_after encoded.passes_up_to encoded.context_at encoded.bodies encoded.encoded_at encoded.history_at
  outcome =
      let e : image_after g xs true ≡ built g mark (loop_entry g xs true) xs (frame_count g.total) = image-built g xs true in
      record {
        state = refl;
        image = refl;
        opens = rw e opened;
        plays = rw e (block-plays g F xs rest A);
        count = rw e (ap length (all-heard g F xs rest A) ∙ sound-count g F xs ∙ sym all);
        plays-all = rw (e, all) (all-plays g F xs rest A);
        plays-from = rw (e, all) (part-plays g F xs rest A);
        plays-loop = rw e (loop-plays g F xs rest A);
        plays-none = rw e (none-plays g F xs rest A);
        loop-edge = rw e (edge-context g F xs rest A);
        pairs = rw e (pairs-heard g F xs rest A);
        same-again = rw e (same-again g F xs rest A);
        exports = rw e (exports g F xs rest A);
        returns = rw e (returns g F xs rest A);
        near = rw e near;
      }

-- The theorem on closed images. From an accepted start, with any coefficients of 16 bits that starting accepts, with a loop or without, take any list of
-- feedings and closings on its buffer, refused ones included, after which the clip is closed. Then the image is that of the samples accepted; it opens and
-- tells its loop; its blocks play from their entries, exactly as many samples as were accepted, each within its distance of the original; its loop
-- plays as many times over as asked; and the file that it is exported to, imported at its own block size, is the image again.
pub closed-image : (g : Start) (l : List ℕ) → length g.coefficients ≡ 16 → Sampled g.coefficients → FitHistory g.history → (start g l).outcome ≡ accepted tt → (ks : List Call)
    → (let m = plain_after (cut g) (plain [] false) ks in m.closed ≡ true → Sampled m.samples → ClosedClip (cut g) m.samples l (after (start g l).left ks))
closed-image g l sixteen cf hf ok ks closed fits =
    let F = start_fine g l sixteen ok in
    let m = plain_after (cut g) (plain [] false) ks in
    let L = legal-after (cut g) [] false (open-legal (cut g) [] (omega arith)) ks in
    let few = L.few in
    let all = L.all closed in
    let rest = drop (image_size (start_shape (cut g))) l in
    let A : Audible (cut g) m.samples =
    record { bounded = limits-bounded g.coefficients F.within; coefficients = cf; history = hf; samples = fits } in
    let e : after (start g l).left ks ≡ left_after (cut g) rest m.samples true = encoding-states g l sixteen ok ks ∙ ap (left_after (cut g) rest m.samples) closed in
    subst (λ (s : Left). ClosedClip (cut g) m.samples l s) (sym e) (outcome (cut g) F m.samples l A (omega arith))

-- Two clips that were started alike, accepted the same samples and were closed, by whatever calls and on whatever buffers, leave images that are the same.
pub same-clips : (g : Start) (xs : List ℤ) (l m : List ℕ) (c d : Left) → ClosedClip g xs l c → ClosedClip g xs m d → same c.bytes d.bytes ≡ accepted true
same-clips g xs l m c d p q = ap (same c.bytes) q.image ∙ p.same-again (drop (image_size (start_shape g)) m)

-- The clip theorem. Take a recording X of 1 to 14,680,064 samples, cut in any way into pieces ps for measuring and in any way into
-- pieces qs for feeding, and a store with two numbers for each frame. Measure ps and ask for coefficients: all of it is accepted, and they are those of X.
-- If starting accepts them, with some rate, block size, gain, starting history, loop or none, and buffer, then feeding qs and closing is accepted and
-- leaves the image that documents 01 and 02 define; it opens; its blocks play from their entries, exactly as many samples as X has; and each
-- sample in a frame of exponent p below 12 is within ⌊(3 × 2^p + 1) / 2⌋ of its original.
pub clip-theorem : (ps qs : List (List ℤ)) → joined ps ≡ joined qs → Sampled (joined qs)
    → (store : List Float) → needed (length (joined qs)) ≤ length store
    → (rate size gain : ℕ) (h : History) → FitHistory h → (p : Loop) (l : List ℕ)
    → (started ps qs store rate size gain h p l).outcome ≡ accepted tt
    → Done ps qs store rate size gain h p l
unfolding frame_count
clip-theorem ps qs same fits store room rate size gain h hf p l ok =
    let xs = joined qs in
    let cs = last_coefficients (seen ps qs store rate size gain h p l) in
    let g = given ps qs store rate size gain h p l in
    let few = (start-accepted g (length l) (start-answered g l ok)).limits.few in
    let n : length (joined ps) ≡ length xs = ap length same in
    let all : seen ps qs store rate size gain h p l ≡ replicate (length ps) (accepted []) ++ (accepted (coefficients_of xs) ∷ []) =
    measuring-runs store (measuring_calls ps)
    ∙ measured-answers (length store) ps [] (omega arith) (omega arith)
    ∙ ap (λ (ys : List ℤ). replicate (length ps) (accepted []) ++ (accepted (coefficients_of ys) ∷ [])) same in
    let c : cs ≡ coefficients_of xs = ap last_coefficients all ∙ last-answer (length ps) (coefficients_of xs) in
    let sixteen : length cs ≡ 16 = ap length c ∙ coefficients-length xs in
    let cf : Sampled cs = subst Sampled (sym c) (coefficients-sampled xs) in
    let a : plain_after (cut g) (plain [] false) (encoding_calls qs) ≡ plain xs true = encoded-after (cut g) qs [] (omega arith) in
    let z : (plain_after (cut g) (plain [] false) (encoding_calls qs)).samples ≡ xs = ap (λ (m : Plain). m.samples) a in
    record {
      measured-answers = all;
      coefficients = c;
      encoded-answers = rw add-one (ap encoding_answers (encoding-runs g l sixteen ok (encoding_calls qs)) ∙ encoded-answers (cut g) qs [] (omega arith));
      closed =
          subst (λ (ys : List ℤ). ClosedClip (cut g) ys l (after (start g l).left (encoding_calls qs))) z
          (closed-image g l sixteen cf hf ok (encoding_calls qs) (ap (λ (m : Plain). m.closed) a) (subst Sampled (sym z) fits));
    }
