-- A file that is imported and exported again is the same file, without the bytes past its bodies.
use mathlib.Core.Bool.{Bool, true, false, cond}
use mathlib.Core.List.{List, ◌++◌}
use mathlib.Core.Path.{◌≡◌, refl, sym, ap, ap₂, ◌∙◌}
use Prim.Native.Nat.{ℕ, ◌+◌, ◌-◌, ◌%◌, ◌≤◌}
use native.Mathlib.Omega.{arith}
use borrow.Author.Tests.{eqb-true, eqb-false}
use lib.Dec.{eqb}
use lib.ListN.{length, take, drop, replicate, length-drop}
use lib.Seq.{take-add, drop-drop}
use Rattle.block.specs.declared.FrameContext.{FrameContext}
use Rattle.block.specs.Address.{address_to_sample, sample_to_address}
use Rattle.block.specs.Context.{new_context}
use Rattle.layout.specs.Fields.{be16, be32}
use Rattle.layout.specs.Sizes.{loop_count, body_bytes}
use Rattle.clip.specs.Image.{coefficient_bytes}
use Rattle.dsp.specs.File.{file_bytes, total_of, nibbles_of, rate_of, flag_of, start_address_of, last_address_of, loop_of, coefficients_of, gain_of, context_at, first_of, loop_context_of}
use Rattle.dsp.specs.Export.{address_bytes, context_fields, header_bytes, exported}
use Rattle.dsp.specs.Returns.{Bytes}
use Rattle.dsp.proofs.AcceptedFile.{FileFits}
use Rattle.dsp.proofs.BytesAgain.{parts_are, be16-part, be32-part, context-part, holds-part, coefficients-part}
use Rattle.dsp.proofs.Fitting.{bytes_drop}
use Rattle.dsp.proofs.ImportedBlocks.{first-again, bodies-again}
use Rattle.dsp.proofs.ImportedImage as imports

-- the address of an address's sample, where it has one
address-again : (a : ℕ) → 2 ≤ a % 16 → sample_to_address (address_to_sample a) ≡ a
unfolding sample_to_address address_to_sample
address-again a h = omega arith

module _ (f : List ℕ) (size : ℕ) (F : FileFits f size) (b : Bytes f) where
  long : 96 ≤ length f
  long = F.long

  -- ---- the loop's fields

  -- the loop's flag
  flag-again : loop_count (loop_of f) ≡ flag_of f
  flag-again = ap (λ (t : Bool). cond t 1 0) (imports.loop-flag f size F) ∙ go (eqb (flag_of f) 1) refl
    where
      go : (t : Bool) → eqb (flag_of f) 1 ≡ t → cond t 1 0 ≡ flag_of f
      go true e = sym (eqb-true (flag_of f) 1 e)
      go false e = let d = eqb-false (flag_of f) 1 e in let k = F.flag in omega (arith, d, k)

  -- its two addresses
  addresses-again : take 8 (drop 16 f) ≡ address_bytes (loop_of f)
  unfolding address_bytes
  addresses-again = go (eqb (flag_of f) 1) refl
    where
      go : (t : Bool) → eqb (flag_of f) 1 ≡ t → take 8 (drop 16 f) ≡ address_bytes (loop_of f)
      go true e =
          let L = F.looped e in
          let n : address_to_sample (last_address_of f) ≡ address_to_sample (last_address_of f) + 1 - 1 = omega arith in
          parts_are f (be32 (sample_to_address (address_to_sample (start_address_of f)))) (be32 (sample_to_address (address_to_sample (last_address_of f) + 1 - 1))) 16 4 20 4 8
          (be32-part f b 16 (omega (arith, long)) ∙ ap be32 (sym (address-again (start_address_of f) L.start)))
          (be32-part f b 20 (omega (arith, long)) ∙ ap be32 (sym (address-again (last_address_of f) L.last) ∙ ap sample_to_address n))
          refl refl
          ∙ ap address_bytes (sym (imports.loop-there f size F e))
      go false e =
          holds-part f (replicate 8 0) 16 (omega (arith, long)) (F.unlooped e).addresses
          ∙ ap (λ (t : Bool). cond t (be32 (sample_to_address (loop_of f).start) ++ be32 (sample_to_address ((loop_of f).end - 1))) (replicate 8 0)) (sym (imports.loop-flag f size F ∙ e))

  abbrev loop_context : FrameContext
  loop_context = cond (loop_of f).present (loop_context_of f) new_context

  three-again : (i : ℕ) → i + 6 ≤ length f → take 6 (drop i f) ≡ context_fields (context_at f i)
  unfolding context_at
  three-again i h = context-part f b i (i + 2) (i + 4) refl refl h

  -- its context
  loop-again : take 6 (drop 68 f) ≡ context_fields loop_context
  loop-again = go (eqb (flag_of f) 1) refl ∙ ap (λ (t : Bool). context_fields (cond t (loop_context_of f) new_context)) (sym (imports.loop-flag f size F))
    where
      go : (t : Bool) → eqb (flag_of f) 1 ≡ t → take 6 (drop 68 f) ≡ context_fields (cond t (loop_context_of f) new_context)
      go true e = three-again 68 (omega (arith, long))
      go false e = holds-part f (replicate 6 0) 68 (omega (arith, long)) (F.unlooped e).context

  -- ---- the header, from its end on

  coefficients-again : take 32 (drop 28 f) ≡ coefficient_bytes (coefficients_of f)
  unfolding coefficients_of
  coefficients-again = ap (take 32) (sym (drop-drop 16 12 f)) ∙ coefficients-part (drop 12 f) (bytes_drop 12 f b) (omega (arith, long, length-drop 12 f))

  fields-again : take 96 f
      ≡ be32 (total_of f) ++ (be32 (nibbles_of f) ++ (be32 (rate_of f) ++ (be16 (flag_of f) ++ (be16 0 ++ (address_bytes (loop_of f)
      ++ (be32 2 ++ (coefficient_bytes (coefficients_of f) ++ (be16 (gain_of f) ++ (context_fields (first_of f) ++ (context_fields loop_context ++ replicate 22 0))))))))))
  fields-again =
      let n = long in
      let p68 = parts_are f (context_fields loop_context) (replicate 22 0) 68 6 74 22 28 loop-again (holds-part f (replicate 22 0) 74 (omega arith) F.zeros) refl refl in
      let p62 = parts_are f (context_fields (first_of f)) _ 62 6 68 28 34 (three-again 62 (omega arith)) p68 refl refl in
      let p60 = parts_are f (be16 (gain_of f)) _ 60 2 62 34 36 (be16-part f b 60 (omega arith)) p62 refl refl in
      let p28 = parts_are f (coefficient_bytes (coefficients_of f)) _ 28 32 60 36 68 coefficients-again p60 refl refl in
      let p24 = parts_are f (be32 2) _ 24 4 28 68 72 (be32-part f b 24 (omega arith) ∙ ap be32 F.two) p28 refl refl in
      let p16 = parts_are f (address_bytes (loop_of f)) _ 16 8 24 72 80 addresses-again p24 refl refl in
      let p14 = parts_are f (be16 0) _ 14 2 16 80 82 (be16-part f b 14 (omega arith) ∙ ap be16 F.format) p16 refl refl in
      let p12 = parts_are f (be16 (flag_of f)) _ 12 2 14 82 84 (be16-part f b 12 (omega arith)) p14 refl refl in
      let p8 = parts_are f (be32 (rate_of f)) _ 8 4 12 84 88 (be32-part f b 8 (omega arith)) p12 refl refl in
      let p4 = parts_are f (be32 (nibbles_of f)) _ 4 4 8 88 92 (be32-part f b 4 (omega arith)) p8 refl refl in
      parts_are f (be32 (total_of f)) _ 0 4 4 92 96 (be32-part f b 0 (omega arith)) p4 refl refl

  -- ---- of the image

  module _ (rest : List ℕ) where
    abbrev l : List ℕ
    l = imports.image f size F b rest

    -- its header is the file's
    header-again : header_bytes l ≡ take 96 f
    unfolding header_bytes
    header-again =
        rw (
          imports.total-is f size F b rest,
          ← F.nibbles,
          imports.rate-is f size F b rest,
          imports.loops-are f size F b rest,
          flag-again,
          imports.loop-is f size F b rest,
          imports.coefficients-are f size F b rest,
          imports.gain-is f size F b rest,
          first-again f size F b rest,
          imports.loop-context f size F b rest,
        )
        (sym fields-again)

    -- export gives the file again
    pub returns : exported l ≡ take (file_bytes (total_of f)) f
    unfolding exported file_bytes
    returns = ap₂ (λ (h t : List ℕ). h ++ t) header-again (bodies-again f size F b rest) ∙ sym (take-add 96 (body_bytes (total_of f)) f)
