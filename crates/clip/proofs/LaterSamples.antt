-- What samples that come later leave as it was; lengths and limits of X's frames.
use mathlib.Core.Path.{◌≡◌, refl, ap₂, ◌∙◌}
use mathlib.Core.List.{List, ◌++◌}
use mathlib.Core.Bool.{Bool, true, false, cond, ◌&&◌}
use Prim.Native.Nat.{ℕ, zero, suc, ◌+◌, ◌*◌, ◌/◌, ◌%◌, ◌≤◌, ◌<◌}
use native.Mathlib.Omega.{arith}
use borrow.Author.Tests.{ltb-true}
use lib.Dec.{ltb}
use lib.IntN.{ℤ}
use lib.ListN.{length, get_or, length-append}
use Rattle.whole.specs.Frames.{frame_at}
use Rattle.whole.proofs.CutIntoFrames.{frame-stable}
use Rattle.frame.specs.Frame.{encode_frame, history_after}
use Rattle.frame.specs.declared.EncodedFrame.{EncodedFrame}
use Rattle.whole.specs.declared.History.{History}
use Rattle.block.specs.declared.FrameContext.{FrameContext}
use Rattle.block.specs.Context.{new_context}
use Rattle.frame.proofs.LawsEncoded.{frame-lengths, frame-passes}
use Rattle.clip.specs.Image.{context_bytes, no_context}
use Rattle.clip.specs.declared.starting.Start.{Start}
use Rattle.clip.specs.Encoding.{context_within}
use Rattle.clip.specs.Runs.{history_at, encoded_at, bodies, passes_up_to, context_at, loop_context_at}

module _ (g : Start) (xs ys : List ℤ) where
  pub history-stable : (i : ℕ) → 14 * i ≤ length xs → history_at g (xs ++ ys) i ≡ history_at g xs i
  unfolding history_at
  history-stable zero k = refl
  history-stable (suc i) k =
      ap₂ (λ (h : History) (f : List ℤ). history_after h (encode_frame h f g.coefficients).samples 14) (history-stable i (omega arith)) (frame-stable xs ys i (omega arith))

  pub encoded-stable : (i : ℕ) → 14 * i + 14 ≤ length xs → encoded_at g (xs ++ ys) i ≡ encoded_at g xs i
  unfolding encoded_at history_at
  encoded-stable i k = ap₂ (λ (h : History) (f : List ℤ). encode_frame h f g.coefficients) (history-stable i (omega arith)) (frame-stable xs ys i k)

  pub bodies-stable : (i : ℕ) → 14 * i ≤ length xs → bodies g (xs ++ ys) i ≡ bodies g xs i
  unfolding bodies encoded_at history_at
  bodies-stable zero k = refl
  bodies-stable (suc i) k = ap₂ (λ (a : List ℕ) (c : EncodedFrame). a ++ c.bytes) (bodies-stable i (omega arith)) (encoded-stable i (omega arith))

  pub passes-stable : (i : ℕ) → 14 * i ≤ length xs → passes_up_to g (xs ++ ys) i ≡ passes_up_to g xs i
  unfolding passes_up_to encoded_at history_at
  passes-stable zero k = refl
  passes-stable (suc i) k = ap₂ (λ (a : ℕ) (c : EncodedFrame). a + c.passes) (passes-stable i (omega arith)) (encoded-stable i (omega arith))

  pub context-stable : (k j : ℕ) → 14 * k ≤ length xs → context_at g (xs ++ ys) k j ≡ context_at g xs k j
  unfolding context_at encoded_at history_at
  context-stable k j l = go (ltb (j * (g.block / 8)) k) refl
    where
      i : ℕ
      i = j * (g.block / 8)

      go : (t : Bool) → ltb (j * (g.block / 8)) k ≡ t
          → cond t (context_bytes (get_or (encoded_at g (xs ++ ys) i).bytes 0 0) (history_at g (xs ++ ys) i)) no_context
          ≡ cond t (context_bytes (get_or (encoded_at g xs i).bytes 0 0) (history_at g xs i)) no_context
      go true q =
          let lt : j * (g.block / 8) < k = ltb-true (j * (g.block / 8)) k q in
          ap₂ (λ (c : EncodedFrame) (h : History). context_bytes (get_or c.bytes 0 0) h) (encoded-stable i (omega arith)) (history-stable i (omega arith))
      go false q = refl

  pub loop-stable : (k : ℕ) → 14 * k ≤ length xs → loop_context_at g (xs ++ ys) k ≡ loop_context_at g xs k
  unfolding loop_context_at encoded_at history_at
  loop-stable k l = go g.looped.present (ltb (g.looped.start / 14) k) refl
    where
      i : ℕ
      i = g.looped.start / 14

      at : List ℤ → FrameContext
      at zs = context_within (history_at g zs i) (encoded_at g zs i) (g.looped.start % 14)

      go : (p t : Bool) → ltb (g.looped.start / 14) k ≡ t → cond (p && t) (at (xs ++ ys)) new_context ≡ cond (p && t) (at xs) new_context
      go false t q = refl
      go true false q = refl
      go true true q =
          let lt : g.looped.start / 14 < k = ltb-true (g.looped.start / 14) k q in
          ap₂ (λ (h : History) (c : EncodedFrame). context_within h c (g.looped.start % 14)) (history-stable i (omega arith)) (encoded-stable i (omega arith))

module _ (g : Start) (xs : List ℤ) where
  pub encoded-length : (i : ℕ) → length (encoded_at g xs i).bytes ≡ 8
  unfolding encoded_at history_at
  encoded-length i = (frame-lengths (history_at g xs i) (frame_at xs i) g.coefficients).0

  pub encoded-passes : (i : ℕ) → (encoded_at g xs i).passes ≤ 104
  unfolding encoded_at history_at
  encoded-passes i = frame-passes (history_at g xs i) (frame_at xs i) g.coefficients

  pub bodies-length : (i : ℕ) → length (bodies g xs i) ≡ 8 * i
  unfolding bodies encoded_at history_at
  bodies-length zero = refl
  bodies-length (suc i) = length-append (bodies g xs i) (encoded_at g xs i).bytes ∙ omega (arith, bodies-length i, encoded-length i)

  pub passes-most : (i : ℕ) → passes_up_to g xs i ≤ 104 * i
  unfolding passes_up_to encoded_at history_at
  passes-most zero = omega arith
  passes-most (suc i) = omega (arith, passes-most i, encoded-passes i)

  pub context-length : (k j : ℕ) → length (context_at g xs k j) ≡ 6
  unfolding context_at encoded_at history_at
  context-length k j = go (ltb (j * (g.block / 8)) k)
    where
      i : ℕ
      i = j * (g.block / 8)

      go : (t : Bool) → length (cond t (context_bytes (get_or (encoded_at g xs i).bytes 0 0) (history_at g xs i)) no_context) ≡ 6
      go true = refl
      go false = refl
