-- The image of a file that import accepts opens, and says what the file says.
use mathlib.Core.Bool.{Bool, true, false, cond}
use mathlib.Core.List.{List, ◌++◌}
use mathlib.Core.Path.{◌≡◌, refl, sym, ap, ◌∙◌, subst}
use Prim.Native.Nat.{ℕ, ◌+◌, ◌*◌, ◌/◌, ◌%◌, ◌≤◌, ◌<◌}
use native.Mathlib.Omega.{arith}
use borrow.Author.Tests.{le-leb, lt-ltb}
use lib.Dec.{T, eqb}
use lib.ListN.{length, get_or, take, drop, length-drop}
use lib.Seq.{length-take-le, get_or-take}
use Rattle.whole.specs.declared.History.{History}
use Rattle.whole.specs.Outcome.{accepted, effect}
use Rattle.block.specs.Address.{address_to_sample}
use Rattle.block.specs.Context.{context_with, new_context}
use Rattle.block.proofs.LawsAddress.{address-mono}
use Rattle.layout.specs.declared.Loop.{Loop}
use Rattle.layout.specs.Limits.{loop_ok}
use Rattle.layout.specs.Sizes.{no_loop, loop_count, bodies_place, block_count, body_bytes, cut_down}
use Rattle.clip.specs.declared.starting.Start.{Start}
use Rattle.clip.specs.Image.{start_shape}
use Rattle.image.specs.Reading.{total_in, rate_in, block_in, gain_in, loops_in, blocks_in, shape_in, head_in, coefficients_in, context_in, loop_in, loop_context_in}
use Rattle.image.specs.Opening.{told, open_image}
use Rattle.image.specs.Sameness.{compare_answer}
use Rattle.image.specs.inner.Asked.{Opens}
use Rattle.image.proofs.Coefficients.{coefficients-length}
use Rattle.image.proofs.LawsSame.{compare-accepts}
use Rattle.image.proofs.OpenImages as open-images
use Rattle.image.proofs.Places.{start-body}
use Rattle.dsp.specs.File.{total_of, rate_of, flag_of, start_address_of, last_address_of, loop_of, coefficients_of, gain_of, context_at, first_of, loop_context_of, bodies_of}
use Rattle.dsp.specs.Import.{clip_of, history_before, context_before, laid_out, imported, imported_bytes}
use Rattle.dsp.specs.Returns.{Bytes}
use Rattle.dsp.proofs.AcceptedFile.{FileFits, clip-limits}
use Rattle.dsp.proofs.BlockLengths.{frame-body}
use Rattle.dsp.proofs.Fitting.{play-fits, context-fits, coefficients-fit}
use Rattle.dsp.proofs.LaidOutHead as head
use Rattle.dsp.proofs.LaidOutOpens as laid

-- ---- the loop

-- the frame of an address is that of its sample
frame_same : (a : ℕ) → 2 ≤ a % 16 → address_to_sample a / 14 ≡ a / 16
unfolding address_to_sample
frame_same a h = omega arith

module _ (f : List ℕ) (size : ℕ) (F : FileFits f size) where
  -- the loop of the two addresses
  abbrev addressed : Loop
  addressed = record { start = address_to_sample (start_address_of f); end = address_to_sample (last_address_of f) + 1; present = true }

  -- a loop's start is below its end, which is within the clip
  loop_rule : loop_ok (loop_of f) (total_of f) ≡ true
  unfolding loop_of loop_ok
  loop_rule = go (eqb (flag_of f) 1) refl
    where
      go : (t : Bool) → eqb (flag_of f) 1 ≡ t
          → loop_ok (cond t addressed no_loop) (total_of f) ≡ true
      go true e =
          let L = F.looped e in
          let m = address-mono (start_address_of f) (last_address_of f) L.order in
          let w = L.within in
          rw (lt-ltb (address_to_sample (start_address_of f)) (address_to_sample (last_address_of f) + 1) (omega (arith, m)), le-leb (address_to_sample (last_address_of f) + 1) (total_of f) (omega (arith, w)))
      go false e = refl

  -- without a loop, zeros
  loop-none : (loop_of f).present ≡ false → loop_of f ≡ no_loop
  unfolding loop_of
  loop-none e = go (eqb (flag_of f) 1) e
    where
      go : (t : Bool) → (cond t addressed no_loop).present ≡ false
          → cond t addressed no_loop ≡ no_loop
      go true q = absurd (subst T q tt)
      go false q = refl

  -- a loop that is there is the flag's
  pub loop-flag : (loop_of f).present ≡ eqb (flag_of f) 1
  unfolding loop_of
  loop-flag = go (eqb (flag_of f) 1)
    where
      go : (t : Bool) → (cond t addressed no_loop).present ≡ t
      go true = refl
      go false = refl

  -- its first and last sample are those of the addresses
  pub loop-there : eqb (flag_of f) 1 ≡ true → loop_of f ≡ addressed
  unfolding loop_of
  loop-there e = rw e

  -- ---- the parts of which the image is laid out

  abbrev clip : Start
  clip = clip_of f size

  abbrev headers : ℕ → ℕ
  headers j = get_or (bodies_of f) (j * clip.block) 0

  abbrev histories : ℕ → History
  histories j = history_before f (j * (clip.block / 8))

  abbrev bodies : List ℕ
  bodies = take (body_bytes clip.total) (bodies_of f)

  -- the loop's header byte is that of the frame that holds its start
  loop-header : (loop_of f).present ≡ true → (loop_context_of f).predictor_and_scale ≡ get_or (take (body_bytes (total_of f)) (bodies_of f)) (8 * ((loop_of f).start / 14)) 0
  unfolding context_at
  loop-header e =
      let L = F.looped (sym loop-flag ∙ e) in
      let s = frame_same (start_address_of f) L.start in
      let w = frame-body (total_of f) (address_to_sample (start_address_of f)) L.first in
      rw (loop-there (sym loop-flag ∙ e), s) (L.header ∙ sym (get_or-take (body_bytes (total_of f)) (bodies_of f) (8 * (start_address_of f / 16)) 0 (omega (arith, s, w))))

  module _ (b : Bytes f) where
    -- they are fit to be laid out
    pub parts : head.Laid clip headers histories (loop_context_of f) bodies
    unfolding clip_of coefficients_of coefficients_in
    parts =
        record {
          limits = clip-limits f size F;
          sixteen = coefficients-length (drop 12 f) 16;
          sampled = coefficients-fit f b;
          rate = F.rate;
          count = length-take-le (body_bytes (total_of f)) (bodies_of f) (let n = F.bodies in let d = length-drop 96 f in omega (arith, n, d));
          heads = λ j few. sym (get_or-take (body_bytes (total_of f)) (bodies_of f) (j * clip.block) 0 (start-body (start_shape clip) j (clip-limits f size F) few));
          rule = loop_rule;
          unlooped = loop-none;
          looped = loop-header;
        }

    module _ (rest : List ℕ) where
      abbrev pub image : List ℕ
      image = imported f size ++ rest

      -- the image is laid out of them
      is-laid : image ≡ head.image clip headers histories (loop_context_of f) bodies parts rest
      unfolding laid_out context_before
      is-laid = refl

      -- so it opens
      pub image-made : Opens image
      image-made = rw is-laid (laid.image-made clip headers histories (loop_context_of f) bodies parts rest)

      -- ---- what it says

      pub total-is : total_in image ≡ total_of f
      unfolding clip_of
      total-is = ap total_in is-laid ∙ head.total-is clip headers histories (loop_context_of f) bodies parts rest

      pub rate-is : rate_in image ≡ rate_of f
      unfolding clip_of
      rate-is = ap rate_in is-laid ∙ head.rate-is clip headers histories (loop_context_of f) bodies parts rest

      pub block-is : block_in image ≡ clip.block
      block-is = ap block_in is-laid ∙ head.block-is clip headers histories (loop_context_of f) bodies parts rest

      pub gain-is : gain_in image ≡ gain_of f
      unfolding clip_of
      gain-is = ap gain_in is-laid ∙ head.gain-is clip headers histories (loop_context_of f) bodies parts rest

      pub loops-are : loops_in image ≡ loop_count (loop_of f)
      unfolding clip_of
      loops-are = ap loops_in is-laid ∙ head.loops-are clip headers histories (loop_context_of f) bodies parts rest

      blocks-are : blocks_in image ≡ block_count (start_shape clip)
      blocks-are = ap blocks_in is-laid ∙ head.blocks-are clip headers histories (loop_context_of f) bodies parts rest

      pub coefficients-are : coefficients_in image ≡ coefficients_of f
      unfolding clip_of
      coefficients-are = ap coefficients_in is-laid ∙ head.coefficients-are clip headers histories (loop_context_of f) bodies parts rest

      pub loop-is : loop_in image ≡ loop_of f
      unfolding clip_of
      loop-is = ap loop_in is-laid ∙ laid.loop-is clip headers histories (loop_context_of f) bodies parts rest

      pub loop-context : loop_context_in image ≡ cond (loop_of f).present (loop_context_of f) new_context
      unfolding clip_of
      loop-context =
          let h = context-fits f b 68 in
          ap loop_context_in is-laid ∙ laid.loop-context clip headers histories (loop_context_of f) bodies parts rest h.newest h.older

      -- its shape is the clip's
      pub shape_is : shape_in image ≡ start_shape clip
      unfolding clip_of
      shape_is = rw (total-is, block-is, loops-are)

      -- block j's context
      pub context-is : (j : ℕ) → j < block_count (start_shape clip) → context_in image j ≡ context_with (headers j) (histories j)
      unfolding history_before
      context-is j few =
          let h = play-fits (bodies_of f) (coefficients_of f) (16 * (j * (clip.block / 8))) (first_of f) (context-fits f b 62) in
          ap (λ (l : List ℕ). context_in l j) is-laid ∙ laid.context-is clip headers histories (loop_context_of f) bodies parts rest j few h.newest h.older

      -- its bodies are the file's
      pub bodies-on : drop (bodies_place (start_shape clip)) image ≡ bodies ++ rest
      bodies-on = ap (drop (bodies_place (start_shape clip))) is-laid ∙ head.bodies-on clip headers histories (loop_context_of f) bodies parts rest

      -- ---- the promises

      -- as many bytes as import answers
      pub count : length (imported f size) ≡ imported_bytes f size
      unfolding laid_out context_before
      count = head.laid-length clip headers histories (loop_context_of f) bodies parts rest

      -- it opens, and says what the file says
      pub opens : open_image image
          ≡ effect (accepted tt)
          (told
          (record { total = total_of f; rate = rate_of f; block = cut_down size; gain = gain_of f; coefficients = coefficients_of f; blocks = block_count (start_shape clip) })
          (loop_of f)
          (cond (loop_of f).present (loop_context_of f) new_context))
      unfolding open_image head_in clip_of
      opens = rw (open-images.opens image image-made, total-is, rate-is, block-is, gain-is, coefficients-are, blocks-are, loop-context, loop-is)

      -- 13 does not refuse it
      pub compares : compare_answer image ≡ accepted tt
      compares = compare-accepts image (record { opens = image-made; pairs = rw coefficients-are F.pairs })
