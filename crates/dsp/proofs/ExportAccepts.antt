-- Import accepts an exported image.
use mathlib.Core.Bool.{Bool, true, false, cond}
use mathlib.Core.List.{List, ◌++◌}
use mathlib.Core.Path.{◌≡◌, refl, sym, ap, ◌∙◌, subst}
use Prim.Native.Nat.{ℕ, ◌-◌, ◌*◌, ◌/◌, ◌%◌, ◌≤◌, ◌<◌}
use native.Mathlib.Omega.{arith}
use borrow.Author.Tests.{leb-true}
use lib.Dec.{T, eqb, leb}
use lib.ListN.{get_or, get_or-append}
use Rattle.whole.specs.Outcome.{accepted}
use Rattle.block.specs.Address.{sample_to_address}
use Rattle.block.specs.Context.{new_context}
use Rattle.block.specs.Refusals.{lowest_pair}
use Rattle.block.proofs.LawsAddress.{back}
use Rattle.layout.specs.Fields.{at16}
use Rattle.layout.specs.Limits.{block_ok, Limits}
use Rattle.layout.specs.Sizes.{body_bytes}
use Rattle.layout.proofs.LimitLaws.{both_true}
use Rattle.image.specs.Reading.{total_in, blocks_in, shape_in, coefficients_in, context_in, loop_in, loop_context_in}
use Rattle.image.specs.Sameness.{compare_answer}
use Rattle.image.specs.inner.Asked.{Opens}
use Rattle.image.proofs.LawsLoop.{loop-one, loop-within, loop-told}
use Rattle.image.proofs.LawsSame.{compare-accepted}
use Rattle.dsp.specs.File.{nibble_count, file_bytes, flag_of, bodies_of}
use Rattle.dsp.specs.Export.{bodies_in, exported}
use Rattle.dsp.specs.Import.{file_answer}
use Rattle.dsp.proofs.AcceptedFile as tests
use Rattle.dsp.proofs.AcceptedFile.{LoopFields, NoLoopFields}
use Rattle.dsp.proofs.BlockLengths.{frame-body}
use Rattle.dsp.proofs.ExportedFields as field
use Rattle.dsp.proofs.Fitting.{Fitting}
use Rattle.dsp.proofs.GoesOn.{bodies-length, bodies-at, first-header}

bodies-some : (n : ℕ) → 0 < body_bytes n
unfolding body_bytes
bodies-some n = omega arith

-- where a sample's address stands
address-nibble : (s : ℕ) → 2 ≤ sample_to_address s % 16
unfolding sample_to_address
address-nibble s = omega arith

address-frame : (s : ℕ) → sample_to_address s / 16 ≡ s / 14
unfolding sample_to_address
address-frame s = omega arith

address-order : (s t : ℕ) → s ≤ t → sample_to_address s ≤ sample_to_address t
unfolding sample_to_address
address-order s t h = omega arith

module _ (l rest : List ℕ) (o : Opens l) where
  abbrev file : List ℕ
  file = exported l ++ rest

  abbrev n : ℕ
  n = total_in l

  limits : Limits (shape_in l)
  limits = o.head.limits

  -- a byte of the bodies, of the file and of the image
  pub byte-is : (i : ℕ) → i < body_bytes n → get_or (bodies_of file) i 0 ≡ get_or (bodies_in l) i 0
  byte-is i h =
      ap (λ (f : List ℕ). get_or f i 0) (field.bodies-are l rest o)
      ∙ get_or-append (bodies_in l) rest 0 i (omega (arith, h, bodies-length l o.head))

  module _ (here : (loop_in l).present ≡ true) where
    abbrev start : ℕ
    start = (loop_in l).start

    inside : start < n
    inside = let w = loop-within l o here in let a = w.0 in let b = w.1 in omega (arith, a, b)

    -- its header is that of the frame that holds its start
    loop-header : at16 file 68 ≡ get_or (bodies_of file) (8 * (sample_to_address start / 16)) 0
    unfolding loop_context_in context_in
    loop-header =
        field.loop-header-is l rest o
        ∙ ap (λ (t : Bool). (cond t (context_in l (blocks_in l)) new_context).predictor_and_scale) here
        ∙ (loop-told l o here).0
        ∙ sym (bodies-at l o (8 * (start / 14)) (frame-body n start inside))
        ∙ sym (byte-is (8 * (start / 14)) (frame-body n start inside))
        ∙ ap (λ (q : ℕ). get_or (bodies_of file) (8 * q) 0) (sym (address-frame start))

    loop-fields : LoopFields file
    loop-fields =
        let w = loop-within l o here in
        let a = w.0 in
        let b = w.1 in
        let e = field.start_is l rest o here in
        let d = field.last-is l rest o here in
        let t = field.total-is l rest o in
        let m = (loop_in l).end - 1 in
        record {
          start = rw e (address-nibble start);
          first = rw (e, t, back start) inside;
          last = rw d (address-nibble m);
          within = rw (d, t, back m) (omega (arith, a, b));
          order = rw (e, d) (address-order start m (omega (arith, a)));
          header = rw e loop-header;
        }

  -- the loop's fields, with a loop and without
  looped : eqb (flag_of file) 1 ≡ true → LoopFields file
  looped e = go (loop_in l).present refl
    where
      go : (t : Bool) → (loop_in l).present ≡ t → LoopFields file
      go true h = loop-fields h
      go false h = absurd (subst T (sym e ∙ ap (λ (k : ℕ). eqb k 1) (field.flag_is l rest o ∙ field.loops-none l o h)) tt)

  unlooped : eqb (flag_of file) 1 ≡ false → NoLoopFields file
  unlooped e = go (loop_in l).present refl
    where
      go : (t : Bool) → (loop_in l).present ≡ t → NoLoopFields file
      go true h = absurd (subst T (sym (ap (λ (k : ℕ). eqb k 1) (field.flag_is l rest o ∙ loop-one l h)) ∙ e) tt)
      go false h = record { addresses = field.no-addresses l rest o h; context = field.no-context l rest o h }

  -- import accepts the file at every block size that 6 allows
  file-accepts : lowest_pair (coefficients_in l) ≡ false → Fitting l → (size : ℕ) → block_ok size ≡ true → file_answer file size ≡ accepted tt
  unfolding file_bytes
  file-accepts pairs F size b =
      let e = field.file-length l rest o in
      let t = field.total-is l rest o in
      let w = both_true (leb 8 size) _ b in
      tests.file-accepts file size
      (record {
        long = omega (arith, e);
        some = rw t limits.some;
        few = rw t limits.few;
        bodies = rw t (omega (arith, e));
        rate = rw (field.rate-is l rest o) o.head.rate;
        wide = leb-true 8 size w.0;
        narrow = leb-true size 65536 w.1;
        nibbles = field.nibbles-are l rest o ∙ ap nibble_count (sym t);
        flag = rw (field.flag_is l rest o) o.head.loops;
        format = field.zeros-are l rest o;
        two = field.two_is l rest o;
        zeros = field.padding-is l rest o;
        header = field.first-header-is l rest o ∙ first-header l o ∙ sym (byte-is 0 (bodies-some n));
        looped = looped;
        unlooped = unlooped;
        pairs = ap lowest_pair (field.coefficients-are l rest o F) ∙ pairs;
      })

pub accepts : (l rest : List ℕ) → compare_answer l ≡ accepted tt → Fitting l → (size : ℕ) → block_ok size ≡ true → file_answer (exported l ++ rest) size ≡ accepted tt
accepts l rest c F size b = let p = compare-accepted l c in file-accepts l rest p.opens p.pairs F size b
