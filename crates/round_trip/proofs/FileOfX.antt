-- The file of X's closed image: export accepts the image, and import gives it again.
use mathlib.Core.Path.{◌≡◌, refl, sym, ap, ap₂, ◌∙◌, subst}
use mathlib.Core.Bool.{Bool, true, false, not, cond, ◌&&◌}
use mathlib.Core.List.{List, [], ◌++◌, append_assoc}
use Prim.Native.Nat.{ℕ, zero, suc, ◌+◌, ◌-◌, ◌*◌, ◌/◌, ◌%◌, ◌≤◌, ◌<◌}
use native.Mathlib.Nat.{suc-mul}
use native.Mathlib.Omega.{arith}
use borrow.Author.Tests.{le-leb, lt-ltb, le-ltb}
use lib.IntN.{ℤ, pos}
use lib.ListN.{length, get_or, take, drop, length-append}
use lib.Seq.{sets, take_at, drop_at}
use mir.Syntax.{w16}
use mir.Val.{SFits}
use Rattle.whole.specs.declared.History.{History}
use Rattle.whole.specs.Frames.{frame_count}
use Rattle.whole.specs.Outcome.{Outcome, accepted, refused_at, with_values, if_accepted, effect}
use Rattle.whole.proofs.Stores.{spread}
use Rattle.block.specs.declared.FrameContext.{FrameContext}
use Rattle.block.specs.Context.{new_context}
use Rattle.block.specs.Frame.{Playing}
use Rattle.block.proofs.LawsRefusals.{equal-self}
use Rattle.frame.specs.Fits.{FitHistory}
use Rattle.layout.specs.declared.Loop.{Loop}
use Rattle.layout.specs.declared.Shape.{Shape}
use Rattle.layout.specs.Fields.{be16, be32, mark}
use Rattle.layout.specs.Limits.{block_ok}
use Rattle.layout.specs.Sizes.{shape, loop_count, last_frame_samples, block_count, body_bytes, bodies_place, image_size}
use Rattle.layout.proofs.SizeLaws.{block-first}
use Rattle.clip.specs.declared.starting.Start.{Start}
use Rattle.clip.specs.Image.{start_shape, coefficient_bytes, head_bytes, context_bytes, no_context, table_bytes, loop_bytes}
use Rattle.clip.specs.Runs.{history_at, encoded_at, context_at, loop_context_at, loop_entry}
use Rattle.clip.proofs.Tables.{table_below}
use Rattle.clip.proofs.ImageByFrames.{Fine, headed, listed, filled, built, headed-length, listed-length, filled-length, entry-last, built-length}
use Rattle.image.specs.Reading.{total_in, blocks_in, shape_in, header_in, context_in, loop_in, loop_context_in}
use Rattle.image.specs.Sameness.{compare_answer}
use Rattle.image.specs.WholeImage.{context_after}
use Rattle.image.specs.inner.Asked.{Opens}
use Rattle.image.proofs.LawsLoop.{loop-zero}
use Rattle.image.proofs.TestsInTurn.{next-asked}
use Rattle.dsp.specs.File.{file_bytes}
use Rattle.dsp.specs.Export.{bodies_in, exported, equal_history, goes_on, histories_answer, export_answer, export_image}
use Rattle.dsp.specs.Import.{file_answer, imported, imported_bytes, import_answer, import_file}
use Rattle.dsp.specs.inner.Written.{start_in, written_again}
use Rattle.dsp.proofs.HeaderFields.{Sixteen}
use Rattle.dsp.proofs.Fitting.{Fitting}
use Rattle.dsp.proofs.BlockLengths.{blocks-some}
use Rattle.dsp.proofs.ExportedFields as field
use Rattle.dsp.proofs.ExportAccepts.{accepts}
use Rattle.dsp.proofs.ExportReturns.{room-is, written-again}
use Rattle.round_trip.proofs.FramesPlayed.{Audible, context_before, context_within, history-sampled, within-sampled, next-history}
use Rattle.round_trip.proofs.FieldsReadBack as read
use Rattle.round_trip.proofs.BlocksOfX.{wholes, ending}
use Rattle.round_trip.proofs.ImageOpens.{image, total-is, rate-is, block-is, gain-is, loops-are, blocks-are, coefficients-are, header_is, context-is, none_is, loop-is, known, stored_is, image-made}
use Rattle.round_trip.proofs.ImagePlayed.{entry-played}
use Rattle.round_trip.proofs.SameAgain.{compared}
use Rattle.round_trip.proofs.LoopOfX.{no-context}

-- a history is equal to itself
same-history : (h : History) → equal_history h h ≡ true
same-history h = ap₂ (λ (a b : Bool). a && b) (equal-self h.newest) (equal-self h.older)

-- no loop, no entry
no_bytes : (p : Loop) (c : FrameContext) → p.present ≡ false → loop_bytes p c ≡ []
unfolding loop_bytes
no_bytes p c e = rw e

-- a context of a history that fits
sixteen : (c : FrameContext) → FitHistory c.last_samples → Sixteen c
sixteen c f = record { newest = f.newest-fits; older = f.older-fits }

module _ (g : Start) (F : Fine g) (xs : List ℤ) (rest : List ℕ) (A : Audible g xs) where
  abbrev l : List ℕ
  l = image g F xs rest

  abbrev per : ℕ
  per = g.block / 8

  abbrev frames : ℕ
  frames = frame_count g.total

  open-image : Opens l
  open-image = image-made g F xs rest

  -- ---- 35: each block's history is what the block before leaves

  module _ (j : ℕ) (more : suc j < block_count (start_shape g)) where
    -- a block that another follows has whole frames only
    frames-after : j * per + per < frames
    frames-after = let f = block-first (start_shape g) (suc j) F.limits more in omega (arith, f, suc-mul j per)

    -- it leaves the history before the next block's first frame
    left-history : (context_after l j).last_samples ≡ history_at g xs (suc j * per)
    unfolding context_after wholes ending
    left-history =
        let t = lt-ltb (j * per + per) frames frames-after in
        let e : suc (j * per + (per - 1)) ≡ suc j * per = omega (arith, suc-mul j per, F.limits.wide) in
        ap (λ (p : Playing). p.context.last_samples) (entry-played g F xs rest A j (omega arith))
        ∙ ap (λ (b : Bool). (context_within g xs (j * per + cond b (per - 1) (frames - 1 - j * per)) (cond b 14 (last_frame_samples g.total))).last_samples) t
        ∙ next-history g xs (j * per + (per - 1))
        ∙ ap (history_at g xs) e

    -- the next entry's history
    next-entry : (context_in l (suc j)).last_samples ≡ history_at g xs (suc j * per)
    next-entry = ap (λ (c : FrameContext). c.last_samples) (context-is g F xs rest (suc j) more A)

    -- so 35 does not name it
    goes_on_lem : goes_on l j ≡ true
    unfolding goes_on
    goes_on_lem = ap₂ equal_history left-history next-entry ∙ same-history (history_at g xs (suc j * per))

  -- k blocks from block j + 1 on
  histories-from : (j k : ℕ) → j + k < block_count (start_shape g) → histories_answer l j k ≡ accepted tt
  unfolding histories_answer
  histories-from j zero h = refl
  histories-from j (suc k) h =
      ap (λ (t : Bool). cond (not t) (refused_at 35 (suc j)) (histories_answer l (suc j) k)) (goes_on_lem j (omega arith)) ∙ histories-from (suc j) k (omega arith)

  -- no block has another history
  histories : histories_answer l 0 (blocks_in l - 1) ≡ accepted tt
  histories =
      let b = blocks-are g F xs rest in
      let s = blocks-some (shape_in l) open-image.head.limits in
      let c = open-image.head.blocks in
      histories-from 0 (blocks_in l - 1) (omega (arith, b, s, c))

  -- ---- its numbers have 16 bits

  -- those of an entry
  context-fits : (j : ℕ) → j < blocks_in l → Sixteen (context_in l j)
  context-fits j h =
      let few : j < block_count (start_shape g) = omega (arith, h, blocks-are g F xs rest) in
      subst Sixteen (sym (context-is g F xs rest j few A)) (sixteen (context_before g xs (j * per)) (history-sampled g xs A (j * per)))

  -- zeros
  none-fits : Sixteen new_context
  none-fits = record { newest = record { sfits = omega arith }; older = record { sfits = omega arith } }

  -- those of the loop's entry
  loop-fits : Sixteen (loop_context_in l)
  loop-fits = go g.looped.present refl
    where
      go : (t : Bool) → g.looped.present ≡ t → Sixteen (loop_context_in l)
      go true e =
          let s = g.looped.start in
          subst Sixteen (sym (stored_is g F xs rest e A)) (sixteen (context_within g xs (s / 14) (s % 14)) (within-sampled g xs A (s / 14) (s % 14) (omega arith)))
      go false e = subst Sixteen (sym (no-context g F xs rest A (loop-zero l (none_is g F xs rest e)))) none-fits

  fitting : Fitting l
  fitting =
      record {
        coefficients = λ i. subst (λ (cs : List ℤ). SFits w16 (get_or cs i (pos 0))) (sym (coefficients-are g F xs rest A.coefficients)) (A.coefficients i);
        contexts = context-fits;
        looped = loop-fits;
      }

  -- ---- its fields, written again

  -- as many loops
  count-is : loop_count (loop_in l) ≡ loop_count g.looped
  count-is = field.loops-are l open-image ∙ loops-are g F xs rest

  -- the shape, of the image and of a clip started with what it says
  shape_is : shape_in l ≡ start_shape g
  shape_is = λ i. shape (total-is g F xs rest i) (block-is g F xs rest i) (loops-are g F xs rest i)

  started-is : start_shape (start_in l) ≡ start_shape g
  unfolding start_in
  started-is = λ i. shape (total-is g F xs rest i) (block-is g F xs rest i) (count-is i)

  -- the head
  head-again : head_bytes mark (start_in l) ≡ head_bytes mark g
  unfolding head_bytes start_in
  head-again =
      let n = total-is g F xs rest in
      let r = rate-is g F xs rest in
      let b = block-is g F xs rest in
      let c = coefficients-are g F xs rest A.coefficients in
      let v = gain-is g F xs rest in
      let k = count-is in
      λ i. mark ++ (be32 (n i) ++ (be32 (r i) ++ (be32 (b i) ++ (coefficient_bytes (c i) ++ (be16 (v i) ++ (be16 (k i) ++ be32 (block_count (shape (n i) (b i) (k i)))))))))

  -- an entry's context
  context-again : (j : ℕ) → j < block_count (start_shape g) → context_bytes (header_in l j) (context_in l j).last_samples ≡ context_at g xs frames j
  unfolding context_at
  context-again j few =
      let q = j * per in
      ap₂ context_bytes (header_is g F xs rest j few) (ap (λ (c : FrameContext). c.last_samples) (context-is g F xs rest j few A))
      ∙ ap (λ (t : Bool). cond t (context_bytes (get_or (encoded_at g xs q).bytes 0 0) (history_at g xs q)) no_context) (sym (lt-ltb q frames (block-first (start_shape g) j F.limits few)))

  -- the contents
  abbrev table : List ℕ
  table = table_bytes (context_at g xs frames) (start_shape g) 0 (block_count (start_shape g))

  table-again : table_bytes (λ j. context_bytes (header_in l j) (context_in l j).last_samples) (start_shape (start_in l)) 0 (block_count (start_shape (start_in l))) ≡ table
  table-again =
      let f : ℕ → List ℕ = λ j. context_bytes (header_in l j) (context_in l j).last_samples in
      ap (λ (s : Shape). table_bytes f s 0 (block_count s)) started-is
      ∙ table_below f (context_at g xs frames) (start_shape g) 0 (block_count (start_shape g)) (λ j p h. context-again j (omega arith))

  -- the entry of the loop
  loop-again : loop_bytes (loop_in l) (loop_context_in l) ≡ loop_entry g xs true
  unfolding loop_entry
  loop-again = go g.looped.present refl
    where
      go : (t : Bool) → g.looped.present ≡ t → loop_bytes (loop_in l) (loop_context_in l) ≡ loop_bytes g.looped (loop_context_at g xs (frame_count g.total))
      go true e = ap₂ loop_bytes (loop-is g F xs rest e) (stored_is g F xs rest e A ∙ sym (known g F xs rest e))
      go false e = no_bytes (loop_in l) (loop_context_in l) (loop-zero l (none_is g F xs rest e)) ∙ sym (no_bytes g.looped (loop_context_at g xs (frame_count g.total)) e)

  -- the bodies
  bodies-again : bodies_in l ≡ filled g xs frames
  bodies-again =
      let hd = headed g mark in
      let ls = listed g (loop_entry g xs true) xs frames in
      let bs = filled g xs frames in
      let n : length (hd ++ ls) ≡ bodies_place (start_shape g) =
      length-append hd ls ∙ omega (arith, headed-length g F mark refl, listed-length g (loop_entry g xs true) (entry-last g xs true) xs frames) in
      ap (λ (s : Shape). take (body_bytes s.total) (drop (bodies_place s) l)) shape_is
      ∙ ap (λ (m : List ℕ). take (body_bytes g.total) (drop (bodies_place (start_shape g)) m)) (read.parts g F xs frames rest ∙ sym (append_assoc hd ls (bs ++ rest)))
      ∙ ap (take (body_bytes g.total)) (drop_at (hd ++ ls) (bs ++ rest) (bodies_place (start_shape g)) n)
      ∙ take_at bs rest (body_bytes g.total) (filled-length g xs frames)

  -- all of it is the image
  all-again : written_again l ≡ built g mark (loop_entry g xs true) xs frames
  unfolding written_again built
  all-again =
      let h = head-again in
      let t = table-again in
      let p = loop-again in
      let b = bodies-again in
      (λ i. h i ++ (t i ++ (p i ++ b i))) ∙ ap (λ (m : List ℕ). head_bytes mark g ++ m) (sym (append_assoc table (loop_entry g xs true) (filled g xs frames)))

  -- ---- export

  module _ (out : List ℕ) (room : file_bytes g.total ≤ length out) where
    -- no test of export refuses
    answer : export_answer l (length out) ≡ accepted tt
    unfolding export_answer
    answer =
        next-asked (compare_answer l) _ (compared g F xs rest A)
        ∙ next-asked (histories_answer l 0 (blocks_in l - 1)) _ histories
        ∙ rw (total-is g F xs rest, le-ltb (length out) (file_bytes g.total) room)

    -- export accepts where there is room
    pub exports : (export_image l out).outcome ≡ accepted (file_bytes g.total)
    unfolding export_image
    exports = ap (λ (o : Outcome Unit). with_values o (file_bytes (total_in l))) answer ∙ ap (λ (n : ℕ). accepted (file_bytes n)) (total-is g F xs rest)

    -- the file, and what stood behind it
    leaves : (export_image l out).left ≡ exported l ++ drop (length (exported l)) out
    unfolding export_image
    leaves =
        let n = field.exported-length l rest open-image ∙ ap file_bytes (total-is g F xs rest) in
        ap (λ (o : Outcome Unit). if_accepted o (sets out 0 (exported l)) out) answer ∙ spread (exported l) out (omega (arith, n, room))

  -- ---- import

  -- its block size is within the limits of 6
  block-ok : block_ok g.block ≡ true
  block-ok = ap₂ (λ (a b : Bool). a && b) (le-leb 8 g.block F.limits.wide) (le-leb g.block 65536 F.limits.narrow)

  module _ (behind into : List ℕ) (room : image_size (start_shape g) ≤ length into) where
    abbrev file : List ℕ
    file = exported l ++ behind

    abbrev size : ℕ
    size = image_size (start_shape g)

    -- as many bytes as the image has
    needs : imported_bytes file g.block ≡ size
    needs =
        ap (imported_bytes file) (sym (block-is g F xs rest))
        ∙ room-is l behind open-image fitting
        ∙ ap image_size shape_is

    -- it writes the image
    imports : imported file g.block ≡ built g mark (loop_entry g xs true) xs frames
    imports = ap (imported file) (sym (block-is g F xs rest)) ∙ written-again l behind (compared g F xs rest A) histories fitting ∙ all-again

    -- no test of import refuses
    import-answer : import_answer file g.block (length into) ≡ accepted tt
    unfolding import_answer
    import-answer =
        next-asked (file_answer file g.block) _ (accepts l behind (compared g F xs rest A) fitting g.block block-ok)
        ∙ rw (needs, le-ltb (length into) size room)

    -- the file, with whatever stands behind it, imports as the image
    file-imports : import_file file g.block into ≡ effect (accepted size) (built g mark (loop_entry g xs true) xs frames ++ drop size into)
    unfolding import_file
    file-imports =
        let b = built g mark (loop_entry g xs true) xs frames in
        let n = built-length g F mark refl (loop_entry g xs true) (entry-last g xs true) xs frames in
        ap (λ (o : Outcome Unit). effect (with_values o (imported_bytes file g.block)) (if_accepted o (sets into 0 (imported file g.block)) into)) import-answer
        ∙ ap₂ (λ (k : ℕ) (m : List ℕ). effect (accepted k) (sets into 0 m)) needs imports
        ∙ ap (effect (accepted size)) (spread b into (omega (arith, n, room)) ∙ ap (λ (k : ℕ). b ++ drop k into) n)

  -- what export leaves imports as the image again
  pub returns : (out into : List ℕ) → file_bytes g.total ≤ length out → image_size (start_shape g) ≤ length into
      → import_file (export_image l out).left g.block into
      ≡ effect (accepted (image_size (start_shape g))) (built g mark (loop_entry g xs true) xs (frame_count g.total) ++ drop (image_size (start_shape g)) into)
  returns out into h k = ap (λ (f : List ℕ). import_file f g.block into) (leaves out h) ∙ file-imports (drop (length (exported l)) out) into k
