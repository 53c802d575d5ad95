-- Import of an exported image writes the image's own fields again.
use mathlib.Core.List.{List, ◌++◌}
use mathlib.Core.Path.{◌≡◌, sym, ap, ap₂, ◌∙◌, subst}
use Prim.Native.Nat.{ℕ, ◌-◌, ◌*◌, ◌/◌, ◌≤◌, ◌<◌}
use native.Mathlib.Omega.{arith}
use borrow.Author.Tests.{ltb-false, le-ltb}
use lib.Dec.{ltb}
use lib.ListN.{length, take, drop, length-append}
use lib.Seq.{take_at}
use Rattle.whole.specs.declared.History.{History}
use Rattle.whole.specs.Frames.{frame_count}
use Rattle.whole.specs.Outcome.{accepted, effect}
use Rattle.whole.proofs.Outcomes.{failed}
use Rattle.whole.proofs.Stores.{spread}
use Rattle.layout.specs.declared.Shape.{Shape}
use Rattle.layout.specs.Fields.{mark}
use Rattle.layout.specs.Limits.{Limits}
use Rattle.layout.specs.Sizes.{block_count, body_bytes, cut_down, image_size}
use Rattle.layout.proofs.SizeLaws.{block-first}
use Rattle.clip.specs.declared.starting.Start.{Start}
use Rattle.clip.specs.Image.{start_shape, head_bytes, context_bytes, table_bytes, loop_bytes}
use Rattle.clip.proofs.Tables.{table_below}
use Rattle.image.specs.Reading.{total_in, block_in, blocks_in, shape_in, header_in, context_in, loop_in}
use Rattle.image.specs.Sameness.{compare_answer}
use Rattle.image.specs.inner.Asked.{Opens}
use Rattle.image.proofs.LawsSame.{compare-accepted}
use Rattle.image.proofs.TestsInTurn.{and-then}
use Rattle.image.proofs.Places.{start-body}
use Rattle.dsp.specs.File.{file_bytes, bodies_of}
use Rattle.dsp.specs.Export.{bodies_in, exported, histories_answer, export_answer, export_image}
use Rattle.dsp.specs.Import.{clip_of, context_before, laid_out, imported, imported_bytes}
use Rattle.dsp.specs.Returns.{Bytes, ExportedImage}
use Rattle.dsp.specs.inner.Written.{start_in, written_again}
use Rattle.dsp.proofs.ExportedFields as field
use Rattle.dsp.proofs.FilePlays.{history-same}
use Rattle.dsp.proofs.Fitting.{Fitting, bytes_fit}
use Rattle.dsp.proofs.GoesOn.{bodies-length, header-first, histories-hold}
use Rattle.dsp.proofs.ExportAccepts.{byte-is, accepts}
use Rattle.dsp.proofs.WrittenAgain.{shape_is}

-- whole frames are within the bodies
frames-within : (n q : ℕ) → q < frame_count n → 16 * q ≤ 2 * body_bytes n
unfolding body_bytes
frames-within n q h = omega arith

module _ (l rest : List ℕ) (o : Opens l) where
  abbrev file : List ℕ
  file = exported l ++ rest

  abbrev n : ℕ
  n = total_in l

  abbrev per : ℕ
  per = block_in l / 8

  limits : Limits (shape_in l)
  limits = o.head.limits

  multiple : cut_down (block_in l) ≡ block_in l
  unfolding cut_down
  multiple = let e = limits.eights in omega (arith, e)

  module _ (F : Fitting l) where
    clip-is : clip_of file (block_in l) ≡ start_in l
    unfolding clip_of start_in
    clip-is =
        let c = field.first-is l rest o F in
        λ i. record {
          total = field.total-is l rest o i;
          rate = field.rate-is l rest o i;
          block = multiple i;
          gain = field.gain-is l rest o i;
          coefficients = field.coefficients-are l rest o F i;
          history = (c i).last_samples;
          looped = field.loop-is l rest o i;
        }

    pub room-is : imported_bytes file (block_in l) ≡ image_size (shape_in l)
    room-is = ap (λ (g : Start). image_size (start_shape g)) clip-is ∙ ap image_size (shape_is l o)

    -- the bodies of the file and of the image
    bodies-same : bodies_in l ≡ take (body_bytes n) (bodies_of file)
    bodies-same = sym (ap (take (body_bytes n)) (field.bodies-are l rest o) ∙ take_at (bodies_in l) rest (body_bytes n) (bodies-length l o.head))

    long : body_bytes n ≤ length (bodies_of file)
    long = let e = ap length (field.bodies-are l rest o) ∙ length-append (bodies_in l) rest in omega (arith, e, bodies-length l o.head)

    -- each block's context is worked out as its entry holds it
    context-is : histories_answer l 0 (blocks_in l - 1) ≡ accepted tt → (j : ℕ) → j < block_count (shape_in l)
        → context_before file (block_in l) j ≡ context_bytes (header_in l j) (context_in l j).last_samples
    unfolding context_before
    context-is a j h =
        let f = block-first (shape_in l) j limits h in
        let k : j < blocks_in l = omega (arith, h, o.head.blocks) in
        ap₂ (λ (v : ℕ) (g : History). context_bytes v g)
        (byte-is l rest o (j * block_in l) (start-body (shape_in l) j limits h) ∙ sym (header-first l o j h))
        (sym (history-same file l n long bodies-same (sym (field.coefficients-are l rest o F)) (sym (field.first-is l rest o F)) (j * per) (frames-within n (j * per) f)) ∙ sym (histories-hold l o a j k))

    laid_out_lem : histories_answer l 0 (blocks_in l - 1) ≡ accepted tt → laid_out file (start_in l) ≡ written_again l
    unfolding laid_out written_again start_in
    laid_out_lem a =
        let s = start_shape (start_in l) in
        let t : table_bytes (context_before file (block_in l)) s 0 (block_count s) ≡ table_bytes (λ (j : ℕ). context_bytes (header_in l j) (context_in l j).last_samples) s 0 (block_count s) =
        table_below (context_before file (block_in l)) (λ (j : ℕ). context_bytes (header_in l j) (context_in l j).last_samples) s 0 (block_count s)
        (λ j p q. context-is a j (subst (λ (x : Shape). j < block_count x) (shape_is l o) (omega arith))) in
        let c = field.loop-context-is l rest o F in
        let b = sym bodies-same in
        λ i. head_bytes mark (start_in l) ++ (t i ++ (loop_bytes (loop_in l) (c i) ++ b i))

    imports-again : histories_answer l 0 (blocks_in l - 1) ≡ accepted tt → imported file (block_in l) ≡ written_again l
    imports-again a = ap (laid_out file) clip-is ∙ laid_out_lem a

-- what import writes of an exported image, at the image's own block size
pub written-again : (l rest : List ℕ) → compare_answer l ≡ accepted tt → histories_answer l 0 (blocks_in l - 1) ≡ accepted tt → Fitting l
    → imported (exported l ++ rest) (block_in l) ≡ written_again l
written-again l rest c a F = imports-again l rest (compare-accepted l c).opens F a

-- the file as export leaves it
image-leaves : (l : List ℕ) → compare_answer l ≡ accepted tt → histories_answer l 0 (blocks_in l - 1) ≡ accepted tt → length (exported l) ≡ file_bytes (total_in l)
    → (out : List ℕ) → file_bytes (total_in l) ≤ length out → export_image l out ≡ effect (accepted (file_bytes (total_in l))) (exported l ++ drop (file_bytes (total_in l)) out)
unfolding export_image export_answer
image-leaves l c a n out h =
    rw (c, a, le-ltb (length out) (file_bytes (total_in l)) h)
    (ap (effect (accepted (file_bytes (total_in l)))) (spread (exported l) out (omega (arith, n, h)) ∙ ap (λ (k : ℕ). exported l ++ drop k out) n))

-- all of it, of an image that its own fields make again
exported-image : (l rest : List ℕ) → compare_answer l ≡ accepted tt → histories_answer l 0 (blocks_in l - 1) ≡ accepted tt → Fitting l
    → written_again l ≡ take (image_size (shape_in l)) l → ExportedImage l rest
exported-image l rest c a F e =
    let o = (compare-accepted l c).opens in
    record {
      count = field.exported-length l rest o;
      leaves = image-leaves l c a (field.exported-length l rest o);
      accepts = accepts l rest c F;
      room = room-is l rest o F;
      returns = written-again l rest c a F ∙ e;
    }

-- what an accepted export tells
pub export-accepted : (l : List ℕ) (room : ℕ) → export_answer l room ≡ accepted tt
    → (compare_answer l ≡ accepted tt) × (histories_answer l 0 (blocks_in l - 1) ≡ accepted tt) × (file_bytes (total_in l) ≤ room)
unfolding export_answer
export-accepted l room p =
    let a = and-then (compare_answer l) _ p in
    let b = and-then (histories_answer l 0 (blocks_in l - 1)) _ a.1 in
    let c = failed (ltb room (file_bytes (total_in l))) 14 (accepted tt) b.1 in
    (a.0, b.0, ltb-false room (file_bytes (total_in l)) c.0)

-- the same of an image of bytes that export accepts
pub accepted-image : (l rest : List ℕ) (room : ℕ) → Bytes l → export_answer l room ≡ accepted tt → written_again l ≡ take (image_size (shape_in l)) l → ExportedImage l rest
accepted-image l rest room b p e = let a = export-accepted l room p in exported-image l rest a.0 a.1 (bytes_fit l b) e
