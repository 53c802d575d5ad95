-- What the fields of an exported image say.
use mathlib.Core.Bool.{Bool, true, false, cond}
use mathlib.Core.List.{List, ◌++◌, append_assoc}
use mathlib.Core.Path.{◌≡◌, refl, sym, ap, ap₂, ◌∙◌}
use Prim.Native.Nat.{ℕ, ◌+◌, ◌-◌}
use native.Mathlib.Omega.{arith}
use borrow.Author.Tests.{eqb-false}
use lib.Dec.{eqb}
use lib.ListN.{length, drop, replicate, length-append}
use Rattle.block.specs.Address.{address_to_sample, sample_to_address}
use Rattle.block.proofs.LawsAddress.{back}
use Rattle.layout.specs.declared.Loop.{Loop}
use Rattle.layout.specs.Fields.{be32, at16, at32}
use Rattle.layout.specs.Sizes.{no_loop, loop_count}
use Rattle.clip.proofs.FieldsAgain.{whole32}
use Rattle.image.specs.Reading.{total_in, rate_in, gain_in, loops_in, shape_in, coefficients_in, context_in, loop_in, loop_context_in}
use Rattle.image.specs.Opening.{holds}
use Rattle.image.specs.inner.Asked.{Opens}
use Rattle.image.proofs.Coefficients.{coefficients-length}
use Rattle.image.proofs.LawsLoop.{stored, loop-one, loop-none, loop-within}
use Rattle.dsp.specs.File.{nibble_count, file_bytes, total_of, nibbles_of, rate_of, flag_of, start_address_of, last_address_of, loop_of, coefficients_of, gain_of, context_at, first_of, loop_context_of, bodies_of}
use Rattle.dsp.specs.Export.{address_bytes, header_bytes, bodies_in, exported}
use Rattle.dsp.proofs.Fitting.{Fitting}
use Rattle.dsp.proofs.BlockLengths.{blocks-some}
use Rattle.dsp.proofs.GoesOn.{bodies-length}
use Rattle.dsp.proofs.HeaderFields as read

-- ---- the loop

-- an image without a loop says 0
pub loops-none : (l : List ℕ) → Opens l → (loop_in l).present ≡ false → loops_in l ≡ 0
unfolding loop_in
loops-none l o p = go (eqb (loops_in l) 1) refl p
  where
    go : (t : Bool) → eqb (loops_in l) 1 ≡ t → (cond t (stored l) no_loop).present ≡ false → loops_in l ≡ 0
    go true e q = absurd (let z : ◌≡◌ {A = ℕ} 0 1 = cc in omega arith)
    go false e q = let d = eqb-false (loops_in l) 1 e in let f = o.head.loops in omega (arith, d, f)

pub loops-are : (l : List ℕ) → Opens l → loop_count (loop_in l) ≡ loops_in l
loops-are l o = go (loop_in l).present refl
  where
    go : (t : Bool) → (loop_in l).present ≡ t → cond t 1 0 ≡ loops_in l
    go true e = sym (loop-one l e)
    go false e = sym (loops-none l o e)

-- eight bytes in either case
pub addresses-length : (p : Loop) → length (address_bytes p) ≡ 8
unfolding address_bytes
addresses-length p = go p.present
  where
    go : (t : Bool) → length (cond t (be32 (sample_to_address p.start) ++ be32 (sample_to_address (p.end - 1))) (replicate 8 0)) ≡ 8
    go true = refl
    go false = refl

address-here : (p : Loop) → p.present ≡ true → address_bytes p ≡ be32 (sample_to_address p.start) ++ be32 (sample_to_address (p.end - 1))
unfolding address_bytes
address-here p e = rw e

address-none : (p : Loop) → p.present ≡ false → address_bytes p ≡ replicate 8 0
unfolding address_bytes
address-none p e = rw e

abbrev between : ℕ → ℕ → Bool → Loop
between s e t = record { start = s; end = e; present = t }

-- ---- the header

module _ (l : List ℕ) where
  abbrev n : ℕ
  n = total_in l

  sixteen : length (coefficients_in l) ≡ 16
  unfolding coefficients_in
  sixteen = coefficients-length l 16

  abbrev addresses : List ℕ
  addresses = address_bytes (loop_in l)

  abbrev fields : read.Header
  fields =
      record {
        total = n;
        nibbles = nibble_count n;
        rate = rate_in l;
        loops = loops_in l;
        addresses = addresses;
        coefficients = coefficients_in l;
        gain = gain_in l;
        first = context_in l 0;
        looped = loop_context_in l;
      }

  header_is : header_bytes l ≡ read.header fields
  unfolding header_bytes
  header_is = refl

  eight : length addresses ≡ 8
  eight = addresses-length (loop_in l)

  pub header-length : length (header_bytes l) ≡ 96
  header-length = ap length header_is ∙ read.header-length fields eight sixteen

  -- ---- the file

  module _ (rest : List ℕ) (o : Opens l) where
    abbrev file : List ℕ
    file = exported l ++ rest

    -- the bodies and what stands behind the file
    abbrev tail : List ℕ
    tail = bodies_in l ++ rest

    parts : file ≡ read.header fields ++ tail
    unfolding exported
    parts = append_assoc (header_bytes l) (bodies_in l) rest ∙ ap (λ (h : List ℕ). h ++ tail) header_is

    pub exported-length : length (exported l) ≡ file_bytes n
    unfolding exported file_bytes
    exported-length = length-append (header_bytes l) (bodies_in l) ∙ ap₂ (λ (a b : ℕ). a + b) header-length (bodies-length l o.head)

    pub file-length : length file ≡ file_bytes n + length rest
    file-length = length-append (exported l) rest ∙ ap (λ (k : ℕ). k + length rest) exported-length

    pub total-is : total_of file ≡ n
    total-is = ap (λ (f : List ℕ). at32 f 0) parts ∙ read.file-total fields eight sixteen tail

    pub nibbles-are : nibbles_of file ≡ nibble_count n
    nibbles-are = ap (λ (f : List ℕ). at32 f 4) parts ∙ read.file-nibbles fields eight sixteen tail

    pub rate-is : rate_of file ≡ rate_in l
    rate-is = ap (λ (f : List ℕ). at32 f 8) parts ∙ read.file-rate fields eight sixteen tail

    pub flag_is : flag_of file ≡ loops_in l
    flag_is = ap (λ (f : List ℕ). at16 f 12) parts ∙ read.file-loops fields eight sixteen tail

    pub zeros-are : at16 file 14 ≡ 0
    zeros-are = ap (λ (f : List ℕ). at16 f 14) parts ∙ read.file-zeros fields eight sixteen tail

    pub two_is : at32 file 24 ≡ 2
    two_is = ap (λ (f : List ℕ). at32 f 24) parts ∙ read.file-two fields eight sixteen tail

    pub padding-is : holds file 74 (replicate 22 0) ≡ true
    padding-is = ap (λ (f : List ℕ). holds f 74 (replicate 22 0)) parts ∙ read.file-padding fields eight sixteen tail

    pub gain-is : gain_of file ≡ gain_in l
    gain-is = ap (λ (f : List ℕ). at16 f 60) parts ∙ read.file-gain fields eight sixteen tail

    pub first-header-is : at16 file 62 ≡ (context_in l 0).predictor_and_scale
    first-header-is = ap (λ (f : List ℕ). at16 f 62) parts ∙ read.file-first-header fields eight sixteen tail

    pub loop-header-is : at16 file 68 ≡ (loop_context_in l).predictor_and_scale
    loop-header-is = ap (λ (f : List ℕ). at16 f 68) parts ∙ read.file-loop-header fields eight sixteen tail

    pub bodies-are : bodies_of file ≡ tail
    bodies-are = ap (drop 96) parts ∙ read.file-rest fields eight sixteen tail

    -- ---- what has 16 bits

    module _ (F : Fitting l) where
      pub coefficients-are : coefficients_of file ≡ coefficients_in l
      coefficients-are = ap coefficients_of parts ∙ read.file-coefficients fields eight sixteen tail F.coefficients

      pub first-is : first_of file ≡ context_in l 0
      first-is = ap (λ (f : List ℕ). context_at f 62) parts ∙ read.file-first fields eight sixteen tail (F.contexts 0 (omega (arith, blocks-some (shape_in l) o.head.limits, o.head.blocks)))

      pub loop-context-is : loop_context_of file ≡ loop_context_in l
      loop-context-is = ap (λ (f : List ℕ). context_at f 68) parts ∙ read.file-looped fields eight sixteen tail F.looped

    -- ---- the loop

    module _ (here : (loop_in l).present ≡ true) where
      pub start_is : start_address_of file ≡ sample_to_address (loop_in l).start
      start_is =
          ap (λ (f : List ℕ). at32 f 16) parts
          ∙ read.file-start fields eight sixteen tail
          ∙ ap (λ (a : List ℕ). at32 (a ++ read.after-addresses fields eight sixteen tail) 0) (address-here (loop_in l) here)
          ∙ whole32 (sample_to_address (loop_in l).start)

      pub last-is : last_address_of file ≡ sample_to_address ((loop_in l).end - 1)
      last-is =
          ap (λ (f : List ℕ). at32 f 20) parts
          ∙ read.file-last fields eight sixteen tail
          ∙ ap (λ (a : List ℕ). at32 (a ++ read.after-addresses fields eight sixteen tail) 4) (address-here (loop_in l) here)
          ∙ whole32 (sample_to_address ((loop_in l).end - 1))

      loop-here : loop_of file ≡ loop_in l
      unfolding loop_of
      loop-here =
          let w = (loop-within l o here).0 in
          let one : flag_of file ≡ 1 = flag_is ∙ loop-one l here in
          let a : address_to_sample (start_address_of file) ≡ (loop_in l).start = ap address_to_sample start_is ∙ back (loop_in l).start in
          let e : (loop_in l).end - 1 + 1 ≡ (loop_in l).end = omega (arith, w) in
          let b : address_to_sample (last_address_of file) + 1 ≡ (loop_in l).end = ap (λ (k : ℕ). address_to_sample k + 1) last-is ∙ ap (λ (k : ℕ). k + 1) (back ((loop_in l).end - 1)) ∙ e in
          ap (λ (k : ℕ). cond (eqb k 1) (between (address_to_sample (start_address_of file)) (address_to_sample (last_address_of file) + 1) true) no_loop) one
          ∙ (λ i. between (a i) (b i) (sym here i))

    module _ (none : (loop_in l).present ≡ false) where
      -- "Loop fields are zero without a loop"
      pub no-addresses : holds file 16 (replicate 8 0) ≡ true
      no-addresses =
          ap (λ (f : List ℕ). holds f 16 (replicate 8 0)) parts
          ∙ read.file-none fields eight sixteen tail
          ∙ ap (λ (a : List ℕ). holds (a ++ read.after-addresses fields eight sixteen tail) 0 (replicate 8 0)) (address-none (loop_in l) none)

      pub no-context : holds file 68 (replicate 6 0) ≡ true
      unfolding loop_context_in
      no-context = ap (λ (f : List ℕ). holds f 68 (replicate 6 0)) parts ∙ read.file-no-context fields eight sixteen tail (rw none)

      loop-gone : loop_of file ≡ loop_in l
      unfolding loop_of
      loop-gone =
          ap (λ (k : ℕ). cond (eqb k 1) (between (address_to_sample (start_address_of file)) (address_to_sample (last_address_of file) + 1) true) no_loop) (flag_is ∙ loops-none l o none)
          ∙ sym (loop-none l none)

    pub loop-is : loop_of file ≡ loop_in l
    loop-is = go (loop_in l).present refl
      where
        go : (t : Bool) → (loop_in l).present ≡ t → loop_of file ≡ loop_in l
        go true e = loop-here e
        go false e = loop-gone e
