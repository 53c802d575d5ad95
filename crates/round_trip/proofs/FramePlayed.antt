-- An encoded frame, played from the history before it, is the encoder's reconstructed samples.
use mathlib.Core.Path.{◌≡◌, refl, sym, ap, ◌∙◌}
use mathlib.Core.List.{List, [], foldl, foldl-append}
use Prim.Native.Nat.{ℕ, zero, suc, ◌+◌, ◌/◌, ◌%◌, ◌^◌, ◌≤◌, ◌<◌}
use native.Mathlib.Numerals.{add-one}
use native.Mathlib.Omega.{arith}
use lib.IntN.{ℤ, pos, ◌+ℤ◌, ◌*ℤ◌}
use lib.ListN.{get_or, take}
use lib.Seq.{take-suc}
use Rattle.whole.specs.Whole.{clamp16, floored, signed_nibble}
use Rattle.frame.specs.Choice.{AllBounded, c0_at, c1_at}
use Rattle.frame.specs.Estimate.{weigh}
use Rattle.frame.specs.Frame as encoded
use Rattle.frame.specs.Frame.{encode_frame, history_after}
use Rattle.whole.specs.declared.History.{History}
use Rattle.frame.proofs.LawsEncoded.{history-step, frame-lengths, header-parts, index-le, frame-played}
use Rattle.frame.specs.Fits.{Fit, FitHistory}
use Rattle.block.specs.declared.FrameContext.{FrameContext}
use Rattle.block.specs.Context.{predictor, scale, context_with, push_sample}
use Rattle.block.specs.Frame as played
use Rattle.block.specs.Frame.{Playing, playing, next_sample, take_nibble}
use Rattle.block.specs.inner.Frames.{nibbles_from, play_frame}
use Rattle.block.specs.Sample as sample
use Rattle.block.proofs.LawsFrame.{nibbles-append}

nibble-same : (bytes : List ℕ) (i : ℕ) → played.nibble_at bytes (2 + i) ≡ encoded.nibble_at bytes i
unfolding played.nibble_at encoded.nibble_at
nibble-same bytes i =
    let e : (2 + i) % 2 ≡ i % 2 = omega arith in
    let f : (2 + i) / 2 ≡ suc (i / 2) = omega arith in
    rw (e, f)

module _ (cs : List ℤ) (header : ℕ) (h : History) (n : ℕ) where
  -- the sample that a header's pair and scale give
  named : header / 16 ≤ 7
      → next_sample cs (context_with header h) n
      ≡ clamp16 (floored (weigh (c0_at cs (header / 16)) (c1_at cs (header / 16)) h.newest h.older +ℤ pos 1024) 2048 +ℤ signed_nibble n *ℤ pos (2 ^ (header % 16)))
  unfolding next_sample sample.decode_sample predictor scale weigh
  named l =
      let e : header / 16 % 8 ≡ header / 16 = omega arith in
      rw e

-- where the coefficients are bounded and history and samples are of 16 bits
module _ (h : History) (xs : List ℤ) (cs : List ℤ) (b : AllBounded cs) (f : FitHistory h) (x : Fit 14 xs) where
  -- the context after m samples
  abbrev pub context_after : ℕ → FrameContext
  context_after m =
      let t = history_after h (encode_frame h xs cs).samples m in
      context_with (get_or (encode_frame h xs cs).bytes 0 0) t

  -- a sample more
  step : (m : ℕ) → m < 14
      → take_nibble cs (playing (context_after m) (take m (encode_frame h xs cs).samples)) (played.nibble_at (encode_frame h xs cs).bytes (2 + m))
      ≡ playing (context_after (suc m)) (take (suc m) (encode_frame h xs cs).samples)
  unfolding take_nibble push_sample
  step m l =
      let t = history_after h (encode_frame h xs cs).samples m in
      let e = (header-parts h xs cs).0 in
      let i = index-le h xs cs in
      let s = named cs (get_or (encode_frame h xs cs).bytes 0 0) t (encoded.nibble_at (encode_frame h xs cs).bytes m) (omega arith) ∙ sym (frame-played h xs cs b f x m l) in
      let n = (frame-lengths h xs cs).1 in
      rw (nibble-same (encode_frame h xs cs).bytes m, s, history-step h (encode_frame h xs cs).samples m, take-suc (encode_frame h xs cs).samples m (pos 0) (omega arith))

  -- playing m samples of the encoded frame from the history before it gives the encoder's first m, and its history after them
  pub frame-replayed : (m : ℕ) → m ≤ 14 → play_frame (encode_frame h xs cs).bytes 0 m cs (playing (context_after 0) []) ≡ playing (context_after m) (take m (encode_frame h xs cs).samples)
  unfolding play_frame nibbles_from
  frame-replayed zero l = refl
  frame-replayed (suc m) l =
      ap (λ (k : ℕ). foldl (take_nibble cs) (playing (context_after 0) []) (nibbles_from (encode_frame h xs cs).bytes 2 k)) (sym (add-one m))
      ∙ ap (foldl (take_nibble cs) (playing (context_after 0) [])) (nibbles-append (encode_frame h xs cs).bytes 2 m 1)
      ∙ foldl-append (take_nibble cs) (playing (context_after 0) []) (nibbles_from (encode_frame h xs cs).bytes 2 m) (nibbles_from (encode_frame h xs cs).bytes (2 + m) 1)
      ∙ ap (λ (p : Playing). take_nibble cs p (played.nibble_at (encode_frame h xs cs).bytes (2 + m))) (frame-replayed m (omega arith))
      ∙ step m (omega arith)
