-- An image that is laid out from its parts opens, and says what it was laid out of.
use mathlib.Core.Path.{◌≡◌, refl, sym, ap, ap₂, ◌∙◌}
use mathlib.Core.Bool.{Bool, true, false, cond}
use mathlib.Core.List.{List, ◌++◌}
use Prim.Native.Nat.{ℕ, ◌+◌, ◌*◌, ◌/◌, ◌≤◌, ◌<◌}
use native.Mathlib.Omega.{arith}
use lib.ListN.{get_or}
use mir.Syntax.{w16}
use mir.Val.{SFits}
use Rattle.whole.specs.declared.History.{History}
use Rattle.block.specs.declared.FrameContext.{FrameContext}
use Rattle.block.specs.Context.{history_with, context_with, new_context}
use Rattle.layout.specs.declared.Loop.{Loop}
use Rattle.layout.specs.declared.Shape.{Shape}
use Rattle.layout.specs.Fields.{at16, at32, mark}
use Rattle.layout.specs.Sizes.{loop_count, entry_place, frame_place, bodies_place, block_count, body_bytes, block_offset}
use Rattle.layout.proofs.LimitLaws.{loop-right}
use Rattle.clip.specs.declared.starting.Start.{Start}
use Rattle.clip.specs.Image.{start_shape, head_bytes, context_bytes, table_bytes, loop_bytes}
use Rattle.clip.proofs.LaidOut as read
use Rattle.image.specs.Reading.{shape_in, total_in, block_in, loops_in, blocks_in, offset_in, length_in, header_in, newest_in, older_in, entry_zero_in, context_in, loop_in, loop_context_in}
use Rattle.image.specs.Opening.{EntryFits, loop_fits}
use Rattle.image.specs.inner.Asked.{Opens}
use Rattle.image.proofs.LawsLoop.{loop-stored, loop-zero, loop-none, fits-right, fits-zero}
use Rattle.image.proofs.Places.{start-body}
use Rattle.dsp.proofs.BlockLengths.{frame-body}
use Rattle.dsp.proofs.FieldsAgain.{sample-back}
use Rattle.dsp.proofs.LaidOutHead as head
use Rattle.dsp.proofs.LaidOutHead.{Laid}

abbrev between : ℕ → ℕ → Bool → Loop
between s e t = record { start = s; end = e; present = t }

module _ (g : Start) (header : ℕ → ℕ) (history : ℕ → History) (c : FrameContext) (bodies : List ℕ) (P : Laid g header history c bodies) (rest : List ℕ) where
  abbrev image : List ℕ
  image = head.image g header history c bodies P rest

  abbrev s : Shape
  s = start_shape g

  abbrev kk : ℕ
  kk = block_count s

  abbrev rule : ℕ → List ℕ
  rule j = context_bytes (header j) (history j)

  abbrev follows : List ℕ
  follows = loop_bytes g.looped c ++ (bodies ++ rest)

  abbrev tail : List ℕ
  tail = table_bytes rule s 0 kk ++ follows

  parts : image ≡ head_bytes mark g ++ tail
  parts = head.parts g header history c bodies P rest

  total-is : total_in image ≡ g.total
  total-is = head.total-is g header history c bodies P rest

  block-is : block_in image ≡ g.block
  block-is = head.block-is g header history c bodies P rest

  loops-are : loops_in image ≡ loop_count g.looped
  loops-are = head.loops-are g header history c bodies P rest

  blocks-are : blocks_in image ≡ kk
  blocks-are = head.blocks-are g header history c bodies P rest

  body_at : (i : ℕ) → i < body_bytes g.total → get_or image (bodies_place s + i) 0 ≡ get_or bodies i 0
  body_at = head.body_at g header history c bodies P rest

  -- ---- the entries

  module _ (j : ℕ) (few : j < kk) where
    header_is : header_in image j ≡ header j
    unfolding header_in
    header_is = ap (λ (l : List ℕ). at16 l (entry_place j + 8)) parts ∙ read.entry-header g P.sixteen rule (λ i. refl) follows j few (header j) (history j) refl

    first_byte : get_or image (block_offset s j) 0 ≡ header j
    unfolding block_offset
    first_byte = body_at (j * g.block) (start-body s j P.limits few) ∙ sym (P.heads j few)

    entry-made : EntryFits image s j
    unfolding offset_in length_in entry_zero_in
    entry-made =
        record {
          offset = ap (λ (l : List ℕ). at32 l (entry_place j)) parts ∙ read.entry-offset g P.sixteen rule (λ i. refl) follows j few (header j) (history j) refl;
          nibbles = ap (λ (l : List ℕ). at32 l (entry_place j + 4)) parts ∙ read.entry-nibbles g P.sixteen rule (λ i. refl) follows j few (header j) (history j) refl;
          zeros = ap (λ (l : List ℕ). at16 l (entry_place j + 14)) parts ∙ read.entry-zeros g P.sixteen rule (λ i. refl) follows j few (header j) (history j) refl;
          header = header_is ∙ sym first_byte;
        }

    -- its context is that of the rule
    pub context-is : SFits w16 (history j).newest → SFits w16 (history j).older → context_in image j ≡ context_with (header j) (history j)
    unfolding context_in newest_in older_in
    context-is p q =
        let h = history j in
        let n = sample-back image (entry_place j + 10) h.newest (ap (λ (l : List ℕ). at16 l (entry_place j + 10)) parts ∙ read.entry-newest g P.sixteen rule (λ i. refl) follows j few (header j) h refl) p in
        let o = sample-back image (entry_place j + 12) h.older (ap (λ (l : List ℕ). at16 l (entry_place j + 12)) parts ∙ read.entry-older g P.sixteen rule (λ i. refl) follows j few (header j) h refl) q in
        rw (header_is, n, o)

  -- ---- the loop

  none-are : g.looped.present ≡ false → loops_in image ≡ 0
  none-are e = loops-are ∙ ap (λ (t : Bool). cond t 1 0) e

  module _ (here : g.looped.present ≡ true) where
    one-is : loops_in image ≡ 1
    one-is = loops-are ∙ ap (λ (t : Bool). cond t 1 0) here

    stored_is : loop_in image ≡ g.looped
    stored_is =
        loop-stored image one-is
        ∙ ap (λ (k : ℕ). between (at32 image (entry_place k)) (at32 image (entry_place k + 4)) true) blocks-are
        ∙ ap (λ (l : List ℕ). between (at32 l (entry_place kk)) (at32 l (entry_place kk + 4)) true) parts
        ∙ ap₂ (λ (a b : ℕ). between a b true)
        (read.loop-start g P.sixteen rule (λ i. refl) follows g.looped here c (bodies ++ rest) refl)
        (read.loop-end g P.sixteen rule (λ i. refl) follows g.looped here c (bodies ++ rest) refl)
        ∙ ap (between g.looped.start g.looped.end) (sym here)

    field : (i : ℕ) → at16 image (entry_place (blocks_in image) + i) ≡ at16 (head_bytes mark g ++ tail) (entry_place kk + i)
    field i = ap (λ (k : ℕ). at16 image (entry_place k + i)) blocks-are ∙ ap (λ (l : List ℕ). at16 l (entry_place kk + i)) parts

    told-header : header_in image (blocks_in image) ≡ c.predictor_and_scale
    unfolding header_in
    told-header = field 8 ∙ read.loop-header g P.sixteen rule (λ i. refl) follows g.looped here c (bodies ++ rest) refl

    told-zeros : entry_zero_in image (blocks_in image) ≡ 0
    unfolding entry_zero_in
    told-zeros = field 14 ∙ read.loop-zeros g P.sixteen rule (λ i. refl) follows g.looped here c (bodies ++ rest) refl

    loop-fits : loop_fits image ≡ true
    loop-fits =
        let r = loop-right g.looped g.total here P.rule in
        let p : (loop_in image).present ≡ true = ap (λ (p : Loop). p.present) stored_is ∙ here in
        let a : (loop_in image).start < (loop_in image).end = rw stored_is r.0 in
        let b : (loop_in image).end ≤ total_in image = rw (stored_is, total-is) r.1 in
        fits-right image p a b (told-header ∙ sym byte) told-zeros
      where
        byte : get_or image (frame_place (shape_in image) ((loop_in image).start / 14)) 0 ≡ c.predictor_and_scale
        byte =
            let r = loop-right g.looped g.total here P.rule in
            let x = g.looped.start in
            rw (stored_is, total-is, block-is, loops-are) (body_at (8 * (x / 14)) (frame-body g.total x (omega (arith, r.0, r.1))) ∙ sym (P.looped here))

    -- the stored context
    stored-context : SFits w16 c.last_samples.newest → SFits w16 c.last_samples.older → context_in image (blocks_in image) ≡ c
    unfolding context_in newest_in older_in
    stored-context p q =
        let at = entry_place (blocks_in image) in
        let n = sample-back image (at + 10) c.last_samples.newest (field 10 ∙ read.loop-newest g P.sixteen rule (λ i. refl) follows g.looped here c (bodies ++ rest) refl) p in
        let o = sample-back image (at + 12) c.last_samples.older (field 12 ∙ read.loop-older g P.sixteen rule (λ i. refl) follows g.looped here c (bodies ++ rest) refl) q in
        λ i. context_with (told-header i) (history_with (n i) (o i))

  pub loop-is : loop_in image ≡ g.looped
  loop-is = go g.looped.present refl
    where
      go : (t : Bool) → g.looped.present ≡ t → loop_in image ≡ g.looped
      go true e = stored_is e
      go false e = loop-none image (loop-zero image (none-are e)) ∙ sym (P.unlooped e)

  loop-made : loop_fits image ≡ true
  loop-made = go g.looped.present refl
    where
      go : (t : Bool) → g.looped.present ≡ t → loop_fits image ≡ true
      go true e = loop-fits e
      go false e = fits-zero image (none-are e)

  -- what is told of the loop's context
  pub loop-context : SFits w16 c.last_samples.newest → SFits w16 c.last_samples.older → loop_context_in image ≡ cond g.looped.present c new_context
  unfolding loop_context_in
  loop-context p q = ap (λ (p : Loop). cond p.present (context_in image (blocks_in image)) new_context) loop-is ∙ go g.looped.present refl
    where
      go : (t : Bool) → g.looped.present ≡ t → cond t (context_in image (blocks_in image)) new_context ≡ cond t c new_context
      go true e = stored-context e p q
      go false e = refl

  -- the image opens
  pub image-made : Opens image
  image-made =
      record {
        head = head.head-made g header history c bodies P rest;
        entries = λ j lt. rw (total-is, block-is, loops-are) (entry-made j (here j lt));
        looping = loop-made;
      }
    where
      here : (j : ℕ) → j < block_count (shape_in image) → j < kk
      here j lt = rw (total-is, block-is, loops-are) at lt
