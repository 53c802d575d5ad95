-- What holds of every encoded frame: for the layers above.
use mathlib.Core.Path.{◌≡◌, refl, sym, ap, ◌∙◌, subst}
use mathlib.Core.List.{List}
use mathlib.Core.Logic.{⊎_elim}
use Prim.Native.Nat.{ℕ, zero, suc, ◌+◌, ◌*◌, ◌/◌, ◌%◌, ◌^◌, ◌≤◌, ◌<◌}
use native.Mathlib.Omega.{arith}
use lib.IntN.{ℤ, pos, nat_abs, ◌+ℤ◌, ◌-ℤ◌, ◌*ℤ◌}
use lib.ListN.{get_or, length}
use mir.Syntax.{w16}
use mir.Val.{SFits}
use Rattle.whole.specs.Whole.{clamp16, floored, signed_nibble}
use Rattle.whole.specs.declared.History.{History}
use Rattle.frame.specs.declared.EncodedFrame.{EncodedFrame}
use Rattle.frame.specs.declared.search.Coded.{Coded}
use Rattle.frame.specs.declared.pass.Pass.{Pass}
use Rattle.frame.specs.Estimate.{weigh}
use Rattle.frame.specs.Pass.{reconstruct, upto, run_pass}
use Rattle.frame.specs.Search.{finished}
use Rattle.frame.specs.Choice.{c0_at, c1_at, AllBounded, candidate_at, winner, passes_up_to}
use Rattle.frame.specs.Frame.{header, low_four, nibble_at, pack_frame, preceded, history_after, encode_frame}
use Rattle.frame.specs.inner.Nibbles.{InNibble}
use Rattle.frame.specs.Fits.{Fit, FitHistory}
use Rattle.frame.proofs.LawsPass.{reconstruct-played, step_at, overflow-upto, upto-sample, pass-lengths, pass-sample, pass_fits}
use Rattle.frame.proofs.LawsSearch.{Found, try-found, ended}
use Rattle.frame.proofs.LawsChoice.{candidate-shape, candidate-nibble, winner-le, passes-le}
use Rattle.frame.proofs.LawsDistance.{step-distance}
use Rattle.frame.proofs.LawsNibbles.{signed_low, pack-length, pack-head, nibble-at}

-- ---- the history, place by place
pub history-step : (h : History) (xs : List ℤ) (i : ℕ) → history_after h xs (suc i) ≡ record { newest = get_or xs i (pos 0); older = (history_after h xs i).newest }
unfolding history_after preceded
history-step h xs i = refl

pub history-start : (h : History) (xs : List ℤ) → history_after h xs 0 ≡ h
unfolding history_after preceded
history-start h xs = refl

pub history-fits : (h : History) (xs : List ℤ) (m : ℕ) → m ≤ 14 → FitHistory h → Fit 14 xs → FitHistory (history_after h xs m)
unfolding history_after preceded
history-fits h xs zero l f x = f
history-fits h xs (suc zero) l f x = record { newest-fits = x.at 0 (omega arith); older-fits = f.newest-fits }
history-fits h xs (suc (suc m)) l f x = record { newest-fits = x.at (suc m) (omega arith); older-fits = x.at m (omega arith) }

-- ---- for any input
module _ (h : History) (xs : List ℤ) (cs : List ℤ) where
  -- the pair that was chosen
  unfoldable pub index : ℕ
  index = winner h xs cs 7

  -- what its search found
  unfoldable pub chosen : Coded
  chosen = candidate_at h xs cs index

  pub index-le : index ≤ 7
  unfolding index
  index-le = winner-le h xs cs 7

  pub exponent-le : chosen.exponent ≤ 12
  unfolding chosen
  exponent-le = (candidate-shape h xs cs index).exponent-le

  pub frame_is : encode_frame h xs cs ≡ record { bytes = pack_frame (header index chosen.exponent) chosen.nibbles 7; passes = passes_up_to h xs cs 8; samples = chosen.samples }
  unfolding encode_frame index chosen
  frame_is = refl

  pub chosen-nibble : (i : ℕ) → i < 14 → InNibble (get_or chosen.nibbles i (pos 0))
  unfolding chosen
  chosen-nibble i l = candidate-nibble h xs cs index i l

  -- eight bytes and fourteen samples
  pub frame-lengths : (length (encode_frame h xs cs).bytes ≡ 8) × (length (encode_frame h xs cs).samples ≡ 14)
  unfolding encode_frame finished
  frame-lengths =
      let c = winner h xs cs 7 in
      let s = candidate-shape h xs cs c in (
        pack-length (header c (candidate_at h xs cs c).exponent) (candidate_at h xs cs c).nibbles 7,
        ap (λ (d : Coded). length d.samples) s.is ∙ (pass-lengths (c0_at cs c) (c1_at cs c) h xs s.at).1,
      )

  -- at most 13 passes a candidate, 104 a frame
  pub frame-passes : (encode_frame h xs cs).passes ≤ 104
  unfolding encode_frame
  frame-passes = passes-le h xs cs 8

  -- the first byte is the header: index × 16 + p, with index at most 7 and p at most 12
  pub frame-header : get_or (encode_frame h xs cs).bytes 0 0 ≡ header index chosen.exponent
  frame-header = ap (λ (e : EncodedFrame). get_or e.bytes 0 0) frame_is ∙ pack-head (header index chosen.exponent) chosen.nibbles 7

  pub header-parts : (get_or (encode_frame h xs cs).bytes 0 0 / 16 ≡ index) × (get_or (encode_frame h xs cs).bytes 0 0 % 16 ≡ chosen.exponent)
  header-parts = let e = frame-header in let i = index-le in let p = exponent-le in (omega arith, omega arith)

  -- the bits at each place are the chosen candidate's nibble
  pub frame-nibble : (i : ℕ) → i < 14 → nibble_at (encode_frame h xs cs).bytes i ≡ low_four (get_or chosen.nibbles i (pos 0))
  frame-nibble i l = ap (λ (e : EncodedFrame). nibble_at e.bytes i) frame_is ∙ nibble-at chosen.nibbles chosen-nibble (header index chosen.exponent) i l

  pub frame-signed : (i : ℕ) → i < 14 → signed_nibble (nibble_at (encode_frame h xs cs).bytes i) ≡ get_or chosen.nibbles i (pos 0)
  frame-signed i l = ap signed_nibble (frame-nibble i l) ∙ signed_low (chosen-nibble i l)

  -- every sample is of 16 bits
  pub frame-fits : Fit 14 (encode_frame h xs cs).samples
  unfolding encode_frame finished
  frame-fits =
      let c = winner h xs cs 7 in
      let s = candidate-shape h xs cs c in
      record { at = λ i l. subst (λ (d : Coded). SFits w16 (get_or d.samples i (pos 0))) (sym s.is) (pass_fits (c0_at cs c) (c1_at cs c) h xs s.at i l) }

-- ---- where the coefficients are bounded and history and samples are of 16 bits
module _ (h : History) (xs : List ℤ) (cs : List ℤ) (b : AllBounded cs) (f : FitHistory h) (x : Fit 14 xs) where
  -- the chosen pair's first coefficient
  abbrev c0 : ℤ
  c0 = c0_at cs (index h xs cs)

  -- its second
  abbrev c1 : ℤ
  c1 = c1_at cs (index h xs cs)

  -- its exponent
  abbrev p : ℕ
  p = (chosen h xs cs).exponent

  -- its pass at that exponent
  abbrev pass : Pass
  pass = run_pass c0 c1 h xs p

  -- the chosen candidate is a pass that met the end test at its own exponent
  pub chosen-found : Found (c0_at cs (index h xs cs)) (c1_at cs (index h xs cs)) h xs (chosen h xs cs)
  unfolding chosen candidate_at
  chosen-found = try-found c0 c1 h xs (b.pair (index h xs cs) (omega (arith, index-le h xs cs))) f x

  samples-are : (encode_frame h xs cs).samples ≡ pass.samples
  unfolding finished
  samples-are = ap (λ (e : EncodedFrame). e.samples) (frame_is h xs cs) ∙ ap (λ (d : Coded). d.samples) chosen-found.is

  nibbles-are : (chosen h xs cs).nibbles ≡ pass.nibbles
  unfolding finished
  nibbles-are = ap (λ (d : Coded). d.nibbles) chosen-found.is

  -- what is reconstructed at place i from nibbles ns, after the samples ss
  abbrev rebuilt : List ℤ → List ℤ → ℕ → ℤ
  rebuilt ss ns i = reconstruct c0 c1 (get_or (preceded h ss) (suc i) (pos 0)) (get_or (preceded h ss) i (pos 0)) (get_or ns i (pos 0)) p

  -- each sample is reconstructed from its nibble and the two samples before it
  frame-sample : (i : ℕ) → i < 14 → get_or (encode_frame h xs cs).samples i (pos 0) ≡ rebuilt (encode_frame h xs cs).samples (chosen h xs cs).nibbles i
  frame-sample i l =
      subst (λ (ss : List ℤ). get_or ss i (pos 0) ≡ rebuilt ss (chosen h xs cs).nibbles i) (sym samples-are)
      (pass-sample c0 c1 h xs p i l ∙ ap (λ (ns : List ℤ). rebuilt pass.samples ns i) (sym nibbles-are))

  -- each sample is what the frame's bytes play: predictor and scale from the header, the nibble of its place, the two samples before it
  pub frame-played : (i : ℕ) → i < 14 →
      let e = encode_frame h xs cs in
      let top = get_or e.bytes 0 0 in
      let before = history_after h e.samples i in
      get_or e.samples i (pos 0)
      ≡ clamp16 (floored (weigh (c0_at cs (top / 16)) (c1_at cs (top / 16)) before.newest before.older +ℤ pos 1024) 2048 +ℤ signed_nibble (nibble_at e.bytes i) *ℤ pos (2 ^ (top % 16)))
  unfolding history_after
  frame-played i l =
      let parts = header-parts h xs cs in
      let ss = (encode_frame h xs cs).samples in
      rw (parts.0, parts.1, frame-signed h xs cs i l)
      (frame-sample i l ∙ reconstruct-played c0 c1 (get_or (preceded h ss) (suc i) (pos 0)) (get_or (preceded h ss) i (pos 0)) (get_or (chosen h xs cs).nibbles i (pos 0)) p)

  -- below exponent 12 the overflow is at most 1
  overflow-small : p < 12 → pass.overflow ≤ 1
  overflow-small l = ⊎_elim (λ e. absurd (not-both p l e)) (λ o. o) (ended p pass.overflow chosen-found.met)
    where
      not-both : (q : ℕ) → q < 12 → q ≡ 12 → ⊥
      not-both q l e = omega arith

  -- every sample of a frame with exponent p below 12 is within ⌊(3 × 2^p + 1) / 2⌋ of its original
  pub frame-distance : (i : ℕ) → i < 14 →
      let e = encode_frame h xs cs in
      let exponent = get_or e.bytes 0 0 % 16 in
      exponent < 12 → nat_abs (get_or e.samples i (pos 0) -ℤ get_or xs i (pos 0)) ≤ (3 * 2 ^ exponent + 1) / 2
  unfolding run_pass
  frame-distance i l below =
      let e = (header-parts h xs cs).1 in
      let low : p < 12 = omega arith in
      let o = overflow-small low in
      let here : get_or (encode_frame h xs cs).samples i (pos 0) ≡ (step_at c0 c1 h xs p i).sample = ap (λ (ss : List ℤ). get_or ss i (pos 0)) samples-are ∙ upto-sample c0 c1 h xs p 14 i l in
      let one : (step_at c0 c1 h xs p i).overflow ≤ 1 = omega (arith, overflow-upto c0 c1 h xs p 14 i l) in
      rw (e, here) (step-distance c0 c1 (upto c0 c1 h xs p i).s0 (upto c0 c1 h xs p i).s1 (get_or xs i (pos 0)) p (x.at i l) (omega arith) one)
