-- A loop alters no frame, body, context or pass; a clip without one has the image that document 01 gives it.
use mathlib.Core.Path.{◌≡◌, refl, ap, ap₂, ◌∙◌}
use mathlib.Core.Bool.{Bool, true, false, cond}
use mathlib.Core.List.{List, [], ◌∷◌, ◌++◌, append_assoc}
use Prim.Native.Nat.{ℕ, zero, suc, ◌+◌, ◌*◌, ◌/◌}
use lib.Dec.{ltb}
use lib.IntN.{ℤ}
use lib.ListN.{get_or, take, replicate}
use Rattle.whole.specs.Frames.{frame_at}
use Rattle.whole.specs.declared.History.{History}
use Rattle.frame.specs.Frame.{encode_frame, history_after}
use Rattle.frame.specs.declared.EncodedFrame.{EncodedFrame}
use Rattle.layout.specs.declared.Loop.{Loop}
use Rattle.layout.specs.Fields.{be16, be32, mark, no_mark}
use Rattle.layout.specs.Sizes.{shape, loop_count, block_count, body_bytes}
use Rattle.clip.specs.declared.starting.Start.{Start}
use Rattle.clip.specs.Image.{context_bytes, no_context, coefficient_bytes, table_bytes, head_bytes, loop_bytes}
use Rattle.clip.specs.Loops.{with_loop, LoopApart, image_before}
use Rattle.clip.specs.Runs.{history_at, encoded_at, bodies, passes_up_to, context_at, loop_context_at, frames_done, loop_entry, image_after}

module _ (g : Start) (p : Loop) (xs : List ℤ) where
  history-apart : (k : ℕ) → history_at (with_loop g p) xs k ≡ history_at g xs k
  unfolding history_at
  history-apart zero = refl
  history-apart (suc k) = ap (λ (h : History). history_after h (encode_frame h (frame_at xs k) g.coefficients).samples 14) (history-apart k)

  frame_apart : (k : ℕ) → encoded_at (with_loop g p) xs k ≡ encoded_at g xs k
  unfolding encoded_at history_at
  frame_apart k = ap (λ (h : History). encode_frame h (frame_at xs k) g.coefficients) (history-apart k)

  bodies-apart : (k : ℕ) → bodies (with_loop g p) xs k ≡ bodies g xs k
  unfolding bodies encoded_at history_at
  bodies-apart zero = refl
  bodies-apart (suc k) = ap₂ (λ (l : List ℕ) (c : EncodedFrame). l ++ c.bytes) (bodies-apart k) (frame_apart k)

  passes-apart : (k : ℕ) → passes_up_to (with_loop g p) xs k ≡ passes_up_to g xs k
  unfolding passes_up_to encoded_at history_at
  passes-apart zero = refl
  passes-apart (suc k) = ap₂ (λ (n : ℕ) (c : EncodedFrame). n + c.passes) (passes-apart k) (frame_apart k)

  context-apart : (k j : ℕ) → context_at (with_loop g p) xs k j ≡ context_at g xs k j
  unfolding context_at encoded_at history_at
  context-apart k j =
      let i = j * (g.block / 8) in
      ap₂ (λ (c : EncodedFrame) (h : History). cond (ltb (j * (g.block / 8)) k) (context_bytes (get_or c.bytes 0 0) h) no_context) (frame_apart i) (history-apart i)

  -- A loop alters no frame, body, context or pass.
  pub loop-apart : (k : ℕ) → LoopApart g p xs k
  loop-apart k = record { history = history-apart k; frame = frame_apart k; bodies = bodies-apart k; passes = passes-apart k; contexts = context-apart k }

-- ---- without a loop

no-entry : (g : Start) (xs : List ℤ) (c : Bool) → g.looped.present ≡ false → loop_entry g xs c ≡ []
unfolding loop_entry loop_bytes
no-entry g xs true e =
    let p = g.looped in
    let k = loop_context_at g xs (frames_done g xs true) in
    ap (λ (t : Bool). cond t (be32 p.start ++ (be32 p.end ++ (context_bytes k.predictor_and_scale k.last_samples ++ (0 ∷ 0 ∷ [])))) []) e
no-entry g xs false e = ap (λ (t : Bool). replicate (16 * cond t 1 0) 0) e

-- fields one after the other, and what follows them
fields-then : (a n r b cs g k t : List ℕ) → (a ++ (n ++ (r ++ (b ++ (cs ++ (g ++ k)))))) ++ t ≡ a ++ (n ++ (r ++ (b ++ (cs ++ (g ++ (k ++ t))))))
fields-then a n r b cs g k t = simp append_assoc

-- "a clip without a loop has the image it had"
pub unlooped-image : (g : Start) (xs : List ℤ) (c : Bool) → g.looped.present ≡ false → image_after g xs c ≡ image_before g xs c
unfolding image_after image_before head_bytes
unlooped-image g xs c e =
    let n = g.total in
    let k = frames_done g xs c in
    let first = cond c mark no_mark in
    let bytes = take (body_bytes n) (bodies g xs k ++ replicate (body_bytes n) 0) in
    let none : loop_count g.looped ≡ 0 = ap (λ (t : Bool). cond t 1 0) e in
    ap₂ (λ (x : ℕ) (entry : List ℕ).
    (first ++ (be32 n ++ (be32 g.rate ++ (be32 g.block ++ (coefficient_bytes g.coefficients ++ (be16 g.gain ++ (be16 x ++ be32 (block_count (shape n g.block x)))))))))
    ++ (table_bytes (context_at g xs k) (shape n g.block x) 0 (block_count (shape n g.block x)) ++ (entry ++ bytes))) none (no-entry g xs c e)
    ∙ fields-then first (be32 n) (be32 g.rate) (be32 g.block) (coefficient_bytes g.coefficients) (be16 g.gain) (0 ∷ 0 ∷ be32 (block_count (shape n g.block 0)))
    (table_bytes (context_at g xs k) (shape n g.block 0) 0 (block_count (shape n g.block 0)) ++ bytes)
