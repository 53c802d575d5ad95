-- X's frames, played from their bytes, are the encoder's reconstructed samples.
use mathlib.Core.Path.{◌≡◌, refl, sym, ap, ap₂, ◌∙◌, subst}
use mathlib.Core.List.{List, [], ◌∷◌, ◌++◌, append-nil, append_assoc, foldl}
use Prim.Native.Nat.{ℕ, zero, suc, ◌+◌, ◌-◌, ◌*◌, ◌/◌, ◌%◌, ◌^◌, ◌≤◌, ◌<◌}
use native.Mathlib.Nat.{add-zero, add-suc, add_assoc}
use native.Mathlib.Omega.{arith}
use lib.IntN.{ℤ, pos, nat_abs, ◌-ℤ◌}
use lib.ListN.{length, get_or, take, length-append}
use lib.Seq.{take_all}
use mir.Syntax.{w16}
use mir.Val.{SFits}
use Rattle.whole.specs.Frames.{frame_at}
use Rattle.whole.proofs.CutIntoFrames.{frame-at}
use Rattle.frame.specs.Choice.{AllBounded}
use Rattle.frame.specs.Frame.{encode_frame, history_after, preceded}
use Rattle.whole.specs.declared.History.{History}
use Rattle.frame.specs.Fits.{Fit, FitHistory}
use Rattle.frame.proofs.LawsEncoded.{history-fits, frame-lengths, frame-fits, frame-distance}
use Rattle.block.specs.declared.FrameContext.{FrameContext}
use Rattle.block.specs.Context.{context_with, with_header}
use Rattle.block.specs.Frame.{Playing, playing, nibble_at, take_nibble}
use Rattle.block.specs.inner.Frames.{nibbles_from, play_frame, play_frames}
use Rattle.block.specs.Play.{take_header, play}
use Rattle.block.proofs.LawsPlay.{onto, frame-onto, repeats}
use Rattle.clip.specs.declared.starting.Start.{Start}
use Rattle.clip.specs.Encoding as encoding
use Rattle.clip.specs.Runs.{history_at, encoded_at}
use Rattle.round_trip.specs.Job.{Sampled}
use Rattle.round_trip.proofs.EqualParts.{row, row_at}
use Rattle.round_trip.proofs.FramePlayed.{frame-replayed}

-- what a start and X's samples are: coefficients within the limit; coefficients, history and samples of 16 bits
pub record Audible (g : Start) (xs : List ℤ) : Type 0 where
  pub bounded : AllBounded g.coefficients
  pub coefficients : Sampled g.coefficients
  pub history : FitHistory g.history
  pub samples : Sampled xs

module _ (g : Start) (xs : List ℤ) (A : Audible g xs) where
  frame-sampled : (i : ℕ) → Fit 14 (frame_at xs i)
  frame-sampled i = record { at = λ j l. subst (SFits w16) (sym (frame-at xs i j l)) (A.samples (14 * i + j)) }

  pub history-sampled : (i : ℕ) → FitHistory (history_at g xs i)
  unfolding history_at
  history-sampled zero = A.history
  history-sampled (suc i) =
      history-fits (history_at g xs i) (encode_frame (history_at g xs i) (frame_at xs i) g.coefficients).samples 14 (omega arith) (history-sampled i)
      (frame-fits (history_at g xs i) (frame_at xs i) g.coefficients)

  -- and within a frame
  pub within-sampled : (i m : ℕ) → m ≤ 14 → FitHistory (history_after (history_at g xs i) (encoded_at g xs i).samples m)
  unfolding encoded_at history_at
  within-sampled i m l =
      history-fits (history_at g xs i) (encode_frame (history_at g xs i) (frame_at xs i) g.coefficients).samples m l (history-sampled i)
      (frame-fits (history_at g xs i) (frame_at xs i) g.coefficients)

-- ---- what is heard

-- the reconstructed samples of k frames from frame q on
unfoldable pub sound_from : Start → List ℤ → ℕ → ℕ → List ℤ
sound_from g xs q zero = []
sound_from g xs q (suc k) = sound_from g xs q k ++ (encoded_at g xs (q + k)).samples

-- the context that frame i is played from
abbrev pub context_before : Start → List ℤ → ℕ → FrameContext
context_before g xs i = context_with (get_or (encoded_at g xs i).bytes 0 0) (history_at g xs i)

-- and that after m of its samples
abbrev pub context_within : Start → List ℤ → ℕ → ℕ → FrameContext
context_within g xs i m = encoding.context_within (history_at g xs i) (encoded_at g xs i) m

module _ (g : Start) (xs : List ℤ) where
  pub samples-length : (i : ℕ) → length (encoded_at g xs i).samples ≡ 14
  unfolding encoded_at history_at
  samples-length i = (frame-lengths (history_at g xs i) (frame_at xs i) g.coefficients).1

  pub sound-length : (q k : ℕ) → length (sound_from g xs q k) ≡ 14 * k
  unfolding sound_from
  sound-length q zero = refl
  sound-length q (suc k) = length-append (sound_from g xs q k) (encoded_at g xs (q + k)).samples ∙ omega (arith, sound-length q k, samples-length (q + k))

  -- a frame from its own bytes
  alone : Audible g xs → (i m : ℕ) → m ≤ 14 → play_frame (encoded_at g xs i).bytes 0 m g.coefficients (playing (context_before g xs i) [])
      ≡ playing (context_within g xs i m) (take m (encoded_at g xs i).samples)
  unfolding encoded_at history_after preceded history_at
  alone A i m l = frame-replayed (history_at g xs i) (frame_at xs i) g.coefficients A.bounded (history-sampled g xs A i) (frame-sampled g xs A i) m l

  -- the history after a whole frame is that before the next
  pub next-history : (i : ℕ) → history_after (history_at g xs i) (encoded_at g xs i).samples 14 ≡ history_at g xs (suc i)
  unfolding history_at encoded_at
  next-history i = refl

-- ---- from bytes that hold X's frames from frame q on, as far as there are bytes

pub record Holding (g : Start) (xs : List ℤ) (bytes : List ℕ) (q size : ℕ) : Type 0 where
  pub at : (i r : ℕ) → r < 8 → 8 * i + r < size → get_or bytes (8 * i + r) 0 ≡ get_or (encoded_at g xs (q + i)).bytes r 0

module _ (g : Start) (xs : List ℤ) (bytes : List ℕ) (q size : ℕ) (H : Holding g xs bytes q size) where
  nibble-held : (i j : ℕ) → j < 14 → 8 * i + (j + 2) / 2 < size → nibble_at bytes (16 * i + 2 + j) ≡ nibble_at (encoded_at g xs (q + i)).bytes (2 + j)
  unfolding nibble_at
  nibble-held i j l h =
      let e : (16 * i + 2 + j) % 2 ≡ (2 + j) % 2 = omega arith in
      let f : (16 * i + 2 + j) / 2 ≡ 8 * i + (2 + j) / 2 = omega arith in
      let v : get_or bytes ((16 * i + 2 + j) / 2) 0 ≡ get_or (encoded_at g xs (q + i)).bytes ((2 + j) / 2) 0 = ap (λ (n : ℕ). get_or bytes n 0) f ∙ H.at i ((2 + j) / 2) (omega arith) (omega arith) in
      rw (e, v)

  nibbles-held : (i m j : ℕ) → j + m ≤ 14 → 8 * i + (j + m + 3) / 2 ≤ size → nibbles_from bytes (16 * i + 2 + j) m ≡ nibbles_from (encoded_at g xs (q + i)).bytes (2 + j) m
  unfolding nibbles_from
  nibbles-held i zero j l h = refl
  nibbles-held i (suc m) j l h =
      let e : suc (16 * i + 2 + j) ≡ 16 * i + 2 + suc j = omega arith in
      let f : suc (2 + j) ≡ 2 + suc j = omega arith in
      ap₂ (λ (n : ℕ) (ns : List ℕ). n ∷ ns) (nibble-held i j (omega arith) (omega arith))
      (ap (λ (a : ℕ). nibbles_from bytes a m) e ∙ nibbles-held i m (suc j) (omega arith) (omega arith) ∙ ap (λ (a : ℕ). nibbles_from (encoded_at g xs (q + i)).bytes a m) (sym f))

  frame-held : (i m : ℕ) (p : Playing) → m ≤ 14 → 8 * i + (m + 3) / 2 ≤ size → play_frame bytes (8 * i) m g.coefficients p ≡ play_frame (encoded_at g xs (q + i)).bytes 0 m g.coefficients p
  unfolding play_frame
  frame-held i m p l h =
      let e : 2 * (8 * i) + 2 ≡ 16 * i + 2 + 0 = omega arith in
      ap (λ (ns : List ℕ). foldl (take_nibble g.coefficients) p ns)
      (ap (λ (a : ℕ). nibbles_from bytes a m) e ∙ nibbles-held i m 0 (omega arith) (omega arith))

  module _ (A : Audible g xs) where
    -- m samples of frame q + i, after others
    one-held : (i m : ℕ) (ys : List ℤ) → m ≤ 14 → 8 * i + (m + 3) / 2 ≤ size
        → play_frame bytes (8 * i) m g.coefficients (playing (context_before g xs (q + i)) ys) ≡ playing (context_within g xs (q + i) m) (ys ++ take m (encoded_at g xs (q + i)).samples)
    one-held i m ys l h =
        frame-held i m (playing (context_before g xs (q + i)) ys) l h
        ∙ ap (λ (zs : List ℤ). play_frame (encoded_at g xs (q + i)).bytes 0 m g.coefficients (playing (context_before g xs (q + i)) zs)) (sym (append-nil ys))
        ∙ frame-onto (encoded_at g xs (q + i)).bytes 0 m g.coefficients ys (playing (context_before g xs (q + i)) [])
        ∙ ap (onto ys) (alone g xs A (q + i) m l)

    -- k whole frames, and the next one's header
    frames-held : (k : ℕ) → 8 * k < size → play_frames bytes g.coefficients k (playing (context_before g xs q) []) ≡ playing (context_before g xs (q + k)) (sound_from g xs q k)
    unfolding play_frames sound_from take_header with_header
    frames-held zero h = ap (λ (i : ℕ). playing (context_before g xs i) []) (sym (add-zero q))
    frames-held (suc k) h =
        let e : 16 * suc k / 2 ≡ 8 * suc k + 0 = omega arith in
        let v : get_or bytes (16 * suc k / 2) 0 ≡ get_or (encoded_at g xs (q + suc k)).bytes 0 0 = ap (λ (n : ℕ). get_or bytes n 0) e ∙ H.at (suc k) 0 (omega arith) (omega arith) in
        let w : suc (q + k) ≡ q + suc k = sym (add-suc q k) in
        let x = next-history g xs (q + k) ∙ ap (history_at g xs) w in
        let t : take 14 (encoded_at g xs (q + k)).samples ≡ (encoded_at g xs (q + k)).samples = take_all 14 (encoded_at g xs (q + k)).samples (omega (arith, samples-length g xs (q + k))) in
        ap (λ (p : Playing). take_header bytes (16 * suc k) (play_frame bytes (8 * k) 14 g.coefficients p)) (frames-held k (omega arith))
        ∙ ap (take_header bytes (16 * suc k)) (one-held k 14 (sound_from g xs q k) (omega arith) (omega arith))
        ∙ ap₂ (λ (n : ℕ) (h : History). playing (context_with n h) (sound_from g xs q k ++ take 14 (encoded_at g xs (q + k)).samples)) v x
        ∙ ap (λ (zs : List ℤ). playing (context_before g xs (q + suc k)) (sound_from g xs q k ++ zs)) t

    -- a block of k whole frames and m samples of the next: 16 nibbles for each, and m + 2
    pub block_held : (k m : ℕ) → m ≤ 14 → 8 * k + (m + 3) / 2 ≤ size
        → play bytes g.coefficients (16 * k + (m + 2)) (context_before g xs q) ≡ playing (context_within g xs (q + k) m) (sound_from g xs q k ++ take m (encoded_at g xs (q + k)).samples)
    block_held k m l h =
        let e : m + 2 - 2 ≡ m = omega arith in
        repeats bytes g.coefficients k (m + 2) (context_before g xs q) (omega arith) (omega arith)
        ∙ ap₂ (λ (n : ℕ) (p : Playing). play_frame bytes (8 * k) n g.coefficients p) e (frames-held k (omega arith))
        ∙ one-held k m (sound_from g xs q k) l h

-- ---- one sample

module _ (g : Start) (xs : List ℤ) where
  sound-row : (q k : ℕ) → sound_from g xs q k ≡ row (λ i. (encoded_at g xs (q + i)).samples) k
  unfolding sound_from row
  sound-row q zero = refl
  sound-row q (suc k) = ap (λ (l : List ℤ). l ++ (encoded_at g xs (q + k)).samples) (sound-row q k)

  pub sound-at : (q k i r : ℕ) → i < k → r < 14 → get_or (sound_from g xs q k) (14 * i + r) (pos 0) ≡ get_or (encoded_at g xs (q + i)).samples r (pos 0)
  sound-at q k i r h l =
      let e : 14 * i + r ≡ i * 14 + r = omega arith in
      ap₂ (λ (zs : List ℤ) (n : ℕ). get_or zs n (pos 0)) (sound-row q k) e ∙ row_at (pos 0) 14 (λ i. (encoded_at g xs (q + i)).samples) (λ i. samples-length g xs (q + i)) k i r h l

  -- two runs of frames, one after the other
  pub sound-then : (q k n : ℕ) → sound_from g xs q (k + n) ≡ sound_from g xs q k ++ sound_from g xs (q + k) n
  unfolding sound_from
  sound-then q k zero = ap (sound_from g xs q) (add-zero k) ∙ sym (append-nil (sound_from g xs q k))
  sound-then q k (suc n) =
      ap (sound_from g xs q) (add-suc k n)
      ∙ ap₂ (λ (ys : List ℤ) (i : ℕ). ys ++ (encoded_at g xs i).samples) (sound-then q k n) (sym (add_assoc q k n))
      ∙ append_assoc (sound_from g xs q k) (sound_from g xs (q + k) n) (encoded_at g xs (q + k + n)).samples

  -- a reconstructed sample is near its original
  pub sample-near : Audible g xs → (i r : ℕ) → r < 14 → get_or (encoded_at g xs i).bytes 0 0 % 16 < 12
      → nat_abs (get_or (encoded_at g xs i).samples r (pos 0) -ℤ get_or xs (14 * i + r) (pos 0)) ≤ (3 * 2 ^ (get_or (encoded_at g xs i).bytes 0 0 % 16) + 1) / 2
  unfolding encoded_at history_at
  sample-near A i r l p =
      subst (λ (x : ℤ). nat_abs (get_or (encoded_at g xs i).samples r (pos 0) -ℤ x) ≤ (3 * 2 ^ (get_or (encoded_at g xs i).bytes 0 0 % 16) + 1) / 2) (frame-at xs i r l)
      (frame-distance (history_at g xs i) (frame_at xs i) g.coefficients A.bounded (history-sampled g xs A i) (frame-sampled g xs A i) r l p)
