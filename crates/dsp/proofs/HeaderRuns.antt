-- The runs of fields that the header of a file is made of, and the bodies after it.
use mathlib.Core.List.{List, ◌++◌, append_assoc}
use mathlib.Core.Path.{◌≡◌, refl, ap, ap₂, ◌∙◌}
use Prim.Native.Nat.{ℕ, ◌+◌, ◌-◌}
use native.Mathlib.Omega.{arith}
use lib.IntN.{ℤ}
use lib.ListN.{length, take, drop, replicate, length-append}
use lib.Seq.{sets}
use Rattle.whole.proofs.Stores.{sets_then}
use Rattle.block.specs.declared.FrameContext.{FrameContext}
use Rattle.block.proofs.LawsStores.{stored-whole}
use Rattle.layout.specs.declared.Loop.{Loop}
use Rattle.layout.specs.Fields.{be16, be32}
use Rattle.layout.specs.Sizes.{bodies_place, body_bytes}
use Rattle.clip.specs.Image.{coefficient_bytes}
use Rattle.clip.proofs.FieldRuns.{runs4, coefficient-length}
use Rattle.image.specs.inner.Asked.{Opens}
use Rattle.image.specs.Reading.{total_in, rate_in, gain_in, loops_in, shape_in, coefficients_in, context_in, loop_in, loop_context_in}
use Rattle.image.proofs.Coefficients.{coefficients-length}
use Rattle.image.proofs.LawsLoop.{loop-within}
use Rattle.dsp.specs.File.{nibble_count}
use Rattle.dsp.specs.Export.{address_bytes, context_fields, header_bytes, bodies_in, exported}
use Rattle.dsp.specs.inner.Asked.{Looping}
use Rattle.dsp.proofs.ExportedFields.{addresses-length, header-length}

-- ---- the runs

-- bytes 0 to 11: the counts and the rate
abbrev counts_run : ℕ → ℕ → List ℕ
counts_run total rate = be32 total ++ (be32 (nibble_count total) ++ be32 rate)

-- bytes 12 to 27: flag, zero, addresses and the number 2
abbrev looped_run : ℕ → Loop → List ℕ
looped_run flag p = be16 flag ++ (be16 0 ++ (address_bytes p ++ be32 2))

-- bytes 60 to 95: gain, both contexts and zeros
abbrev contexts_run : ℕ → FrameContext → FrameContext → List ℕ
contexts_run gain first looped = be16 gain ++ (context_fields first ++ (context_fields looped ++ replicate 22 0))

-- the header is these, with the coefficients before the last
header-runs : (l : List ℕ) → counts_run (total_in l) (rate_in l)
    ++ (looped_run (loops_in l) (loop_in l) ++ (coefficient_bytes (coefficients_in l) ++ contexts_run (gain_in l) (context_in l 0) (loop_context_in l))) ≡ header_bytes l
unfolding header_bytes
header-runs l =
    let rest : List ℕ = coefficient_bytes (coefficients_in l) ++ contexts_run (gain_in l) (context_in l 0) (loop_context_in l) in
    ap (λ (x : List ℕ). counts_run (total_in l) (rate_in l) ++ (be16 (loops_in l) ++ (be16 0 ++ x))) (append_assoc (address_bytes (loop_in l)) (be32 2) rest)

-- ---- their lengths

looped-length : (flag : ℕ) (p : Loop) → length (looped_run flag p) ≡ 16
looped-length flag p = omega (arith, length-append (address_bytes p) (be32 2), addresses-length p)

coefficients-bytes : (l : List ℕ) → length (coefficient_bytes (coefficients_in l)) ≡ 32
unfolding coefficients_in
coefficients-bytes l = omega (arith, coefficient-length (coefficients_in l), coefficients-length l 16)

-- ---- the whole

-- the header's runs put one after the other, of what was read
pub header-put : (l o o₁ o₂ o₃ o₄ : List ℕ) (f g : ℕ) (p : Loop) (cs : List ℤ) (x y : FrameContext)
    → f ≡ loops_in l → p ≡ loop_in l → cs ≡ coefficients_in l → g ≡ gain_in l → x ≡ context_in l 0 → y ≡ loop_context_in l
    → o₁ ≡ sets o 0 (counts_run (total_in l) (rate_in l)) → o₂ ≡ sets o₁ 12 (looped_run f p) → o₃ ≡ sets o₂ 28 (coefficient_bytes cs) → o₄ ≡ sets o₃ 60 (contexts_run g x y)
    → length o ≡ 96 → o₄ ≡ header_bytes l
header-put l o o₁ o₂ o₃ o₄ f g p cs x y ef ep ec eg ex ey e₁ e₂ e₃ e₄ n =
    let k : length (coefficient_bytes cs) ≡ 32 = rw ec (coefficients-bytes l) in
    runs4 o o₁ o₂ o₃ o₄ (counts_run (total_in l) (rate_in l)) (looped_run f p) (coefficient_bytes cs) (contexts_run g x y) 0 12 28 60 e₁ e₂ e₃ e₄ refl (omega (arith, looped-length f p)) (omega (arith, k))
    ∙ rw (ef, ep, ec, eg, ex, ey) (ap (sets o 0) (header-runs l)) ∙ stored-whole o (header_bytes l) (omega (arith, n, header-length l))

-- ---- the bodies

-- the part of the image from where they begin to where they end
pub bodies-part : (l : List ℕ) (b t : ℕ) → b ≡ bodies_place (shape_in l) → t ≡ body_bytes (total_in l) → take (b + t - b) (drop b l) ≡ bodies_in l
bodies-part l b t e f =
    let z : b + t - b ≡ t = omega arith in
    ap₂ (λ (n i : ℕ). take n (drop i l)) (z ∙ f) e

-- the header and then the bodies are the file
pub file-put : (l o o₁ o₂ : List ℕ) → o₁ ≡ sets o 0 (header_bytes l) → o₂ ≡ sets o₁ 96 (bodies_in l) → o₂ ≡ sets o 0 (exported l)
unfolding exported
file-put l o o₁ o₂ e f = f ∙ ap (λ (m : List ℕ). sets m 96 (bodies_in l)) e ∙ sets_then o 0 96 (header_bytes l) (bodies_in l) (omega (arith, header-length l))

-- ---- the loop

-- that of an image that opens is within the most samples of a clip
pub looping : (l : List ℕ) → Opens l → Looping (loop_in l)
looping l o = record {
  below = λ e. (loop-within l o e).0;
  within = λ e. let w = (loop-within l o e).1 in let m = o.head.limits.few in omega (arith, w, m);
}
