-- A file's header, read back from where it was written.
use mathlib.Core.Bool.{true}
use mathlib.Core.List.{List, ◌++◌, append_assoc}
use mathlib.Core.Path.{◌≡◌, refl, sym, ap, ◌∙◌}
use Prim.Native.Nat.{ℕ, ◌+◌, ◌*◌, ◌<◌}
use native.Mathlib.Omega.{arith}
use lib.IntN.{ℤ, pos}
use lib.ListN.{length, get_or, drop, replicate, length-append}
use lib.Seq.{drop_at}
use mir.Syntax.{w16}
use mir.Val.{of_z, SFits}
use Rattle.block.specs.declared.FrameContext.{FrameContext}
use Rattle.block.specs.Context.{history_with, context_with, new_context}
use Rattle.layout.specs.Fields.{be16, be32, at16, at32}
use Rattle.clip.specs.Image.{coefficient_bytes}
use Rattle.clip.proofs.FieldRuns.{coefficient-length}
use Rattle.clip.proofs.FieldsAgain.{shift16, shift32, whole16, whole32, coefficient-at}
use Rattle.image.specs.Opening.{holds}
use Rattle.dsp.specs.File.{coefficients_of, context_at}
use Rattle.dsp.specs.Export.{context_fields}
use Rattle.dsp.proofs.FieldsAgain.{shift-holds, sample-back, coefficients-back}

-- a context whose samples have 16 bits
pub record Sixteen (c : FrameContext) : Type 0 where
  pub newest : SFits w16 c.last_samples.newest
  pub older : SFits w16 c.last_samples.older

-- such a context, where its three fields were written
context-back : (l : List ℕ) (i : ℕ) (c : FrameContext) → Sixteen c → at16 l i ≡ c.predictor_and_scale → at16 l (i + 2) ≡ of_z w16 c.last_samples.newest
    → at16 l (i + 4) ≡ of_z w16 c.last_samples.older → context_at l i ≡ c
unfolding context_at
context-back l i c fit e p q =
    let n = sample-back l (i + 2) c.last_samples.newest p fit.newest in
    let o = sample-back l (i + 4) c.last_samples.older q fit.older in
    λ k. context_with (e k) (history_with (n k) (o k))

-- ---- a header, and what follows it

regroup : (a b c d e r : List ℕ) → (a ++ (b ++ (c ++ (d ++ e)))) ++ r ≡ a ++ (b ++ (c ++ (d ++ (e ++ r))))
regroup a b c d e r = simp append_assoc

regroup-front : (a b c d e r : List ℕ) → (a ++ (b ++ (c ++ (d ++ e)))) ++ r ≡ (a ++ (b ++ (c ++ d))) ++ (e ++ r)
regroup-front a b c d e r = simp append_assoc

-- what a header is written from
pub record Header : Type 0 where
  pub total : ℕ
  pub nibbles : ℕ
  pub rate : ℕ
  pub loops : ℕ
  pub addresses : List ℕ
  pub coefficients : List ℤ
  pub gain : ℕ
  pub first : FrameContext
  pub looped : FrameContext

module _ (h : Header) where
  abbrev addresses : List ℕ
  addresses = h.addresses

  abbrev cs : List ℤ
  cs = h.coefficients

  abbrev first : FrameContext
  first = h.first

  abbrev looped : FrameContext
  looped = h.looped

  -- the first sixteen bytes, and those after the coefficients
  abbrev leading : List ℕ
  leading = be32 h.total ++ (be32 h.nibbles ++ (be32 h.rate ++ (be16 h.loops ++ be16 0)))

  abbrev trailing : List ℕ
  trailing = be16 h.gain ++ (context_fields first ++ (context_fields looped ++ replicate 22 0))

  abbrev pub header : List ℕ
  header = leading ++ (addresses ++ (be32 2 ++ (coefficient_bytes cs ++ trailing)))

  module _ (eight : length addresses ≡ 8) (sixteen : length cs ≡ 16) where
    pub header-length : length header ≡ 96
    header-length =
        let a = length-append addresses (be32 2 ++ (coefficient_bytes cs ++ trailing)) in
        let b = length-append (coefficient_bytes cs) trailing in
        let c = coefficient-length cs in
        omega (arith, a, b, c, eight, sixteen)

    module _ (rest : List ℕ) where
      -- the header and what follows it
      abbrev file : List ℕ
      file = header ++ rest

      pub file-total : at32 file 0 ≡ h.total
      file-total = whole32 h.total

      pub file-nibbles : at32 file 4 ≡ h.nibbles
      file-nibbles = whole32 h.nibbles

      pub file-rate : at32 file 8 ≡ h.rate
      file-rate = whole32 h.rate

      pub file-loops : at16 file 12 ≡ h.loops
      file-loops = whole16 h.loops

      pub file-zeros : at16 file 14 ≡ 0
      file-zeros = refl

      pub file-rest : drop 96 file ≡ rest
      file-rest = drop_at header rest 96 header-length

      -- ---- the loop's addresses

      abbrev pub after-addresses : List ℕ
      after-addresses = be32 2 ++ (coefficient_bytes cs ++ (trailing ++ rest))

      at-addresses : file ≡ leading ++ (addresses ++ after-addresses)
      at-addresses = regroup leading addresses (be32 2) (coefficient_bytes cs) trailing rest

      pub file-start : at32 file 16 ≡ at32 (addresses ++ after-addresses) 0
      file-start = ap (λ (l : List ℕ). at32 l 16) at-addresses ∙ shift32 leading (addresses ++ after-addresses) 16 0 refl

      pub file-last : at32 file 20 ≡ at32 (addresses ++ after-addresses) 4
      file-last = ap (λ (l : List ℕ). at32 l 20) at-addresses ∙ shift32 leading (addresses ++ after-addresses) 20 4 refl

      pub file-none : holds file 16 (replicate 8 0) ≡ holds (addresses ++ after-addresses) 0 (replicate 8 0)
      file-none = ap (λ (l : List ℕ). holds l 16 (replicate 8 0)) at-addresses ∙ shift-holds leading (addresses ++ after-addresses) (replicate 8 0) 16 0 refl

      pub file-two : at32 file 24 ≡ 2
      file-two =
          let p = leading ++ addresses in
          ap (λ (l : List ℕ). at32 l 24) at-addresses
          ∙ ap (λ (l : List ℕ). at32 l 24) (sym (append_assoc leading addresses after-addresses))
          ∙ shift32 p after-addresses 24 0 (omega (arith, eight, length-append leading addresses))

      -- ---- coefficients

      abbrev before : List ℕ
      before = be16 h.loops ++ (be16 0 ++ (addresses ++ be32 2))

      at-coefficients : drop 12 file ≡ before ++ (coefficient_bytes cs ++ (trailing ++ rest))
      at-coefficients =
          ap (drop 12) at-addresses ∙ ap (λ (l : List ℕ). be16 h.loops ++ (be16 0 ++ l)) (sym (append_assoc addresses (be32 2) (coefficient_bytes cs ++ (trailing ++ rest))))

      coefficient-is : (k : ℕ) → k < 16 → at16 (drop 12 file) (16 + 2 * k) ≡ of_z w16 (get_or cs k (pos 0))
      coefficient-is k lt =
          ap (λ (l : List ℕ). at16 l (16 + 2 * k)) at-coefficients
          ∙ shift16 before (coefficient_bytes cs ++ (trailing ++ rest)) (16 + 2 * k) (2 * k) (omega (arith, eight, length-append addresses (be32 2)))
          ∙ coefficient-at cs (trailing ++ rest) k (omega (arith, lt, sixteen))

      -- coefficients of 16 bits are read back
      pub file-coefficients : ((i : ℕ) → SFits w16 (get_or cs i (pos 0))) → coefficients_of file ≡ cs
      unfolding coefficients_of
      file-coefficients fit = coefficients-back (drop 12 file) cs sixteen coefficient-is fit

      -- ---- gain and contexts

      abbrev front : List ℕ
      front = leading ++ (addresses ++ (be32 2 ++ coefficient_bytes cs))

      at-gain : file ≡ front ++ (trailing ++ rest)
      at-gain = regroup-front leading addresses (be32 2) (coefficient_bytes cs) trailing rest

      front_length : length front ≡ 60
      front_length =
          let a = length-append addresses (be32 2 ++ coefficient_bytes cs) in
          let c = coefficient-length cs in
          omega (arith, a, c, eight, sixteen)

      field : (k i : ℕ) → k ≡ 60 + i → at16 file k ≡ at16 (trailing ++ rest) i
      field k i e = ap (λ (l : List ℕ). at16 l k) at-gain ∙ shift16 front (trailing ++ rest) k i (omega (arith, e, front_length))

      pub file-gain : at16 file 60 ≡ h.gain
      file-gain = field 60 0 refl ∙ whole16 h.gain

      pub file-first-header : at16 file 62 ≡ first.predictor_and_scale
      file-first-header = field 62 2 refl ∙ whole16 first.predictor_and_scale

      pub file-loop-header : at16 file 68 ≡ looped.predictor_and_scale
      file-loop-header = field 68 8 refl ∙ whole16 looped.predictor_and_scale

      -- contexts of 16-bit samples are read back
      pub file-first : Sixteen first → context_at file 62 ≡ first
      file-first fit =
          let g = first.last_samples in
          context-back file 62 first fit file-first-header (field 64 4 refl ∙ whole16 (of_z w16 g.newest)) (field 66 6 refl ∙ whole16 (of_z w16 g.older))

      pub file-looped : Sixteen looped → context_at file 68 ≡ looped
      file-looped fit =
          let g = looped.last_samples in
          context-back file 68 looped fit file-loop-header (field 70 10 refl ∙ whole16 (of_z w16 g.newest)) (field 72 12 refl ∙ whole16 (of_z w16 g.older))

      pub file-padding : holds file 74 (replicate 22 0) ≡ true
      file-padding = ap (λ (l : List ℕ). holds l 74 (replicate 22 0)) at-gain ∙ shift-holds front (trailing ++ rest) (replicate 22 0) 74 14 (omega (arith, front_length))

      -- without a loop its context is zeros
      pub file-no-context : looped ≡ new_context → holds file 68 (replicate 6 0) ≡ true
      file-no-context e =
          ap (λ (l : List ℕ). holds l 68 (replicate 6 0)) at-gain
          ∙ shift-holds front (trailing ++ rest) (replicate 6 0) 68 8 (omega (arith, front_length))
          ∙ ap (λ (c : FrameContext). holds (be16 h.gain ++ (context_fields first ++ (context_fields c ++ (replicate 22 0 ++ rest)))) 8 (replicate 6 0)) e
