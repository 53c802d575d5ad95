-- The closed image of X opens, and says what it was started with.
use mathlib.Core.Path.{◌≡◌, refl, sym, ap, ap₂, ◌∙◌}
use mathlib.Core.Bool.{Bool, true, false, cond}
use mathlib.Core.List.{List, ◌++◌}
use Prim.Native.Nat.{ℕ, ◌+◌, ◌*◌, ◌/◌, ◌%◌, ◌≤◌, ◌<◌}
use native.Mathlib.Omega.{arith}
use lib.IntN.{ℤ}
use lib.ListN.{length, get_or, length-append}
use mir.Syntax.{w16}
use mir.Val.{of_z, to_z}
use mir.ValLaws.{to_z-of_z}
use Rattle.layout.specs.Fields.{at16, at32, mark}
use Rattle.clip.specs.Image.{start_shape, head_bytes, coefficient_bytes}
use Rattle.layout.specs.declared.Loop.{Loop}
use Rattle.block.specs.declared.FrameContext.{FrameContext}
use Rattle.block.specs.Context.{history_with, context_with, new_context}
use borrow.Author.Tests.{lt-ltb}
use Rattle.layout.specs.Sizes.{loop_count, entry_place, frame_place, bodies_place, block_count, image_size, block_offset, body_bytes, last_frame_samples}
use Rattle.whole.specs.Frames.{frame_count}
use Rattle.clip.specs.declared.starting.Start.{Start}
use Rattle.clip.specs.Runs.{history_at, encoded_at, loop_context_at, loop_entry}
use Rattle.layout.proofs.LimitLaws.{loop-few, loop-right}
use Rattle.layout.proofs.SizeLaws.{block-first, block-place}
use Rattle.clip.proofs.LaidOut as laid
use Rattle.clip.proofs.ImageByFrames.{Fine, listed, filled, built, built-length, entry-last}
use Rattle.dsp.proofs.FieldsAgain.{sample-back, coefficients-back}
use Rattle.round_trip.proofs.FieldsReadBack as read
use Rattle.round_trip.proofs.BlocksOfX.{block-parts, frame-place, frame-of}
use Rattle.round_trip.specs.Job.{Sampled}
use Rattle.round_trip.proofs.FramesPlayed.{Audible, context_before, context_within, history-sampled, within-sampled}
use Rattle.whole.specs.Outcome.{accepted}
use Rattle.image.specs.Reading.{shape_in, total_in, rate_in, block_in, gain_in, loops_in, blocks_in, signed_at, coefficients_in, offset_in, length_in, header_in, newest_in, older_in, entry_zero_in, context_in, loop_in, loop_context_in}
use Rattle.image.specs.Opening.{EntryFits, mark_ok, loop_fits, open_answer}
use Rattle.image.specs.inner.Asked.{Headed, Opens}
use Rattle.image.proofs.LawsLoop.{loop-stored, fits-right, fits-zero}
use Rattle.image.proofs.OpenImages.{opens}

abbrev between : ℕ → ℕ → Bool → Loop
between s e t = record { start = s; end = e; present = t }

-- ---- the fields of the closed image

module _ (g : Start) (F : Fine g) (xs : List ℤ) (rest : List ℕ) where
  abbrev pub image : List ℕ
  image = built g mark (loop_entry g xs true) xs (frame_count g.total) ++ rest

  abbrev tail : List ℕ
  tail = listed g (loop_entry g xs true) xs (frame_count g.total) ++ (filled g xs (frame_count g.total) ++ rest)

  parts : image ≡ head_bytes mark g ++ tail
  parts = read.parts g F xs (frame_count g.total) rest

  pub total-is : total_in image ≡ g.total
  unfolding total_in
  total-is = ap (λ (l : List ℕ). at32 l 4) parts ∙ laid.head-total g tail F.sixteen

  pub rate-is : rate_in image ≡ g.rate
  unfolding rate_in
  rate-is = ap (λ (l : List ℕ). at32 l 8) parts ∙ laid.head-rate g tail F.sixteen

  pub block-is : block_in image ≡ g.block
  unfolding block_in
  block-is = ap (λ (l : List ℕ). at32 l 12) parts ∙ laid.head-block g tail F.sixteen

  pub gain-is : gain_in image ≡ g.gain
  unfolding gain_in
  gain-is = ap (λ (l : List ℕ). at16 l 48) parts ∙ laid.head-gain g tail F.sixteen

  pub loops-are : loops_in image ≡ loop_count g.looped
  unfolding loops_in
  loops-are = ap (λ (l : List ℕ). at16 l 50) parts ∙ laid.head-loops g tail F.sixteen

  pub blocks-are : blocks_in image ≡ block_count (start_shape g)
  unfolding blocks_in
  blocks-are = ap (λ (l : List ℕ). at32 l 52) parts ∙ laid.head-blocks g tail F.sixteen

  marked : mark_ok image ≡ true
  unfolding mark_ok head_bytes coefficient_bytes block_count frame_count
  marked = ap mark_ok parts

  -- coefficients of 16 bits are read back
  pub coefficients-are : Sampled g.coefficients → coefficients_in image ≡ g.coefficients
  coefficients-are = coefficients-back image g.coefficients F.sixteen (λ i h. ap (λ (l : List ℕ). at16 l (16 + 2 * i)) parts ∙ laid.head-coefficient g tail F.sixteen i h)

  -- ---- head and entries

  long : image_size (start_shape g) ≤ length image
  long = omega (arith, length-append (built g mark (loop_entry g xs true) xs (frame_count g.total)) rest, built-length g F mark refl (loop_entry g xs true) (entry-last g xs true) xs (frame_count g.total))

  head-made : Headed image
  unfolding image_size block_count body_bytes frame_count last_frame_samples
  head-made =
      record {
        long = omega (arith, long);
        marked = marked;
        limits = rw (total-is, block-is, loops-are) F.limits;
        rate = rw rate-is (some g.rate F.some);
        blocks = rw (total-is, block-is) blocks-are;
        loops = rw loops-are (loop-few g.looped);
        size = rw (total-is, block-is, loops-are) long;
      }
    where
      some : (r : ℕ) → (r ≡ 0 → ⊥) → 1 ≤ r
      some r h = omega arith

  module _ (j : ℕ) (few : j < block_count (start_shape g)) where
    first_frame : j * (g.block / 8) < frame_count g.total
    first_frame = block-first (start_shape g) j F.limits few

    pub header_is : header_in image j ≡ get_or (encoded_at g xs (j * (g.block / 8))).bytes 0 0
    unfolding header_in
    header_is = read.entry-header g F xs (frame_count g.total) rest j few first_frame

    -- the body's first byte
    first_byte : get_or image (block_offset (start_shape g) j) 0 ≡ get_or (encoded_at g xs (j * (g.block / 8))).bytes 0 0
    unfolding block_offset block_count frame_count
    first_byte =
        let p = block-parts g.total g.block (start_shape g).extra j F.limits few in
        let e : bodies_place (start_shape g) + j * g.block ≡ bodies_place (start_shape g) + (8 * (j * (g.block / 8)) + 0) = omega (arith, block-place g.block j F.limits.eights) in
        ap (λ (k : ℕ). get_or image k 0) e
        ∙ read.body_at g F xs (frame_count g.total) rest (j * (g.block / 8)) 0 first_frame (omega arith) (omega (arith, p.2))

    pub entry-made : EntryFits image (start_shape g) j
    unfolding offset_in length_in entry_zero_in
    entry-made =
        record {
          offset = read.entry-offset g F xs (frame_count g.total) rest j few first_frame;
          nibbles = read.entry-nibbles g F xs (frame_count g.total) rest j few first_frame;
          zeros = read.entry-zeros g F xs (frame_count g.total) rest j few first_frame;
          header = header_is ∙ sym first_byte;
        }

    -- its context is that which its first frame is played from
    pub context-is : Audible g xs → context_in image j ≡ context_before g xs (j * (g.block / 8))
    unfolding context_in newest_in older_in
    context-is A =
        let h = history_at g xs (j * (g.block / 8)) in
        let f = history-sampled g xs A (j * (g.block / 8)) in
        let n = sample-back image (entry_place j + 10) h.newest (read.entry-newest g F xs (frame_count g.total) rest j few first_frame) f.newest-fits in
        let o = sample-back image (entry_place j + 12) h.older (read.entry-older g F xs (frame_count g.total) rest j few first_frame) f.older-fits in
        rw (header_is, n, o)

  -- ---- the loop

  pub frame-header : (q : ℕ) → q < frame_count g.total → get_or image (frame_place (start_shape g) q) 0 ≡ get_or (encoded_at g xs q).bytes 0 0
  frame-header q h =
      let e : frame_place (start_shape g) q ≡ bodies_place (start_shape g) + (8 * q + 0) = omega arith in
      ap (λ (i : ℕ). get_or image i 0) e ∙ read.body_at g F xs (frame_count g.total) rest q 0 h (omega arith) (frame-place g.total q h)

  pub none_is : g.looped.present ≡ false → loops_in image ≡ 0
  none_is e = loops-are ∙ ap (λ (t : Bool). cond t 1 0) e

  module _ (here : g.looped.present ≡ true) where
    abbrev start : ℕ
    start = g.looped.start

    one-is : loops_in image ≡ 1
    one-is = loops-are ∙ ap (λ (t : Bool). cond t 1 0) here

    -- the rule of 23
    pub rule : (start < g.looped.end) × (g.looped.end ≤ g.total)
    rule = loop-right g.looped g.total here F.looping

    pub loop-is : loop_in image ≡ g.looped
    loop-is =
        loop-stored image one-is
        ∙ ap (λ (k : ℕ). between (at32 image (entry_place k)) (at32 image (entry_place k + 4)) true) blocks-are
        ∙ ap₂ (λ (s e : ℕ). between s e true) (read.loop-start g F xs (frame_count g.total) rest here) (read.loop-end g F xs (frame_count g.total) rest here)
        ∙ ap (between g.looped.start g.looped.end) (sym here)

    start-frame : start / 14 < frame_count g.total
    start-frame = let r = rule in let a = r.0 in let b = r.1 in frame-of g.total start (omega arith)

    -- its frame is encoded
    pub known : loop_context_at g xs (frame_count g.total) ≡ context_within g xs (start / 14) (start % 14)
    unfolding loop_context_at
    known = rw (here, lt-ltb (start / 14) (frame_count g.total) start-frame)

    told-header : header_in image (blocks_in image) ≡ get_or (encoded_at g xs (start / 14)).bytes 0 0
    unfolding header_in
    told-header =
        ap (λ (k : ℕ). at16 image (entry_place k + 8)) blocks-are
        ∙ read.loop-header g F xs (frame_count g.total) rest here
        ∙ ap (λ (c : FrameContext). c.predictor_and_scale) known

    told-zeros : entry_zero_in image (blocks_in image) ≡ 0
    unfolding entry_zero_in
    told-zeros = ap (λ (k : ℕ). at16 image (entry_place k + 14)) blocks-are ∙ read.loop-zeros g F xs (frame_count g.total) rest here

    told-newest : Audible g xs → newest_in image (blocks_in image) ≡ (context_within g xs (start / 14) (start % 14)).last_samples.newest
    unfolding newest_in signed_at
    told-newest A =
        ap (λ (k : ℕ). to_z w16 (at16 image (entry_place k + 10))) blocks-are
        ∙ ap (to_z w16) (read.loop-newest g F xs (frame_count g.total) rest here)
        ∙ ap (λ (c : FrameContext). to_z w16 (of_z w16 c.last_samples.newest)) known
        ∙ to_z-of_z w16 _ (within-sampled g xs A (start / 14) (start % 14) (omega arith)).newest-fits

    told-older : Audible g xs → older_in image (blocks_in image) ≡ (context_within g xs (start / 14) (start % 14)).last_samples.older
    unfolding older_in signed_at
    told-older A =
        ap (λ (k : ℕ). to_z w16 (at16 image (entry_place k + 12))) blocks-are
        ∙ ap (to_z w16) (read.loop-older g F xs (frame_count g.total) rest here)
        ∙ ap (λ (c : FrameContext). to_z w16 (of_z w16 c.last_samples.older)) known
        ∙ to_z-of_z w16 _ (within-sampled g xs A (start / 14) (start % 14) (omega arith)).older-fits

    told-context : Audible g xs → context_in image (blocks_in image) ≡ context_within g xs (start / 14) (start % 14)
    unfolding context_in
    told-context A = λ i. context_with (told-header i) (history_with (told-newest A i) (told-older A i))

    -- the stored context is that of the start
    pub stored_is : Audible g xs → loop_context_in image ≡ context_within g xs (start / 14) (start % 14)
    unfolding loop_context_in
    stored_is A = ap (λ (p : Loop). cond p.present (context_in image (blocks_in image)) new_context) loop-is ∙ ap (λ (t : Bool). cond t (context_in image (blocks_in image)) new_context) here ∙ told-context A

    loop-fits : loop_fits image ≡ true
    loop-fits =
        let i = loop-is in
        let r = rule in
        let p : (loop_in image).present ≡ true = ap (λ (p : Loop). p.present) i ∙ here in
        let a : (loop_in image).start < (loop_in image).end = rw i r.0 in
        let b : (loop_in image).end ≤ total_in image = rw (i, total-is) r.1 in
        fits-right image p a b (told ∙ sym byte) zeros
      where
        told : header_in image (blocks_in image) ≡ get_or (encoded_at g xs (start / 14)).bytes 0 0
        told = told-header

        byte : get_or image (frame_place (shape_in image) ((loop_in image).start / 14)) 0 ≡ get_or (encoded_at g xs (start / 14)).bytes 0 0
        byte = rw (loop-is, total-is, block-is, loops-are) (frame-header (start / 14) start-frame)

        zeros : entry_zero_in image (blocks_in image) ≡ 0
        zeros = told-zeros

  pub loop-made : loop_fits image ≡ true
  loop-made = go g.looped.present refl
    where
      go : (t : Bool) → g.looped.present ≡ t → loop_fits image ≡ true
      go true e = loop-fits e
      go false e = fits-zero image (none_is e)

  pub image-made : Opens image
  image-made =
      record {
        head = head-made;
        entries = λ j lt. rw (total-is, block-is, loops-are) (entry-made j (here j lt));
        looping = loop-made;
      }
    where
      here : (j : ℕ) → j < block_count (shape_in image) → j < block_count (start_shape g)
      here j lt = rw (total-is, block-is, loops-are) at lt

  -- the closed image opens
  pub image-opens : open_answer image ≡ accepted tt
  image-opens = opens image image-made
