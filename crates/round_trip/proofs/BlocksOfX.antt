-- The blocks of X's image, played in turn from their entries, are X's reconstruction.
use mathlib.Core.Path.{◌≡◌, refl, sym, ap, ap₂, ◌∙◌, subst}
use mathlib.Core.List.{List, [], ◌++◌, append_assoc}
use mathlib.Core.Bool.{Bool, true, false, cond}
use Prim.Native.Nat.{ℕ, zero, suc, ◌+◌, ◌-◌, ◌*◌, ◌/◌, ◌%◌, ◌^◌, ◌≤◌, ◌<◌}
use native.Mathlib.Nat.{suc-mul, zero-mul, zero-add, mul_assoc, mul_comm, mul-le-mul, le_refl, div-add-mod', mod-lt}
use native.Mathlib.Decide.{dec_lt}
use native.Mathlib.Omega.{arith}
use borrow.Author.Tests.{ltb-true, ltb-false, lt-ltb, le-ltb}
use lib.Dec.{ltb}
use lib.IntN.{ℤ, pos, nat_abs, ◌-ℤ◌}
use lib.ListN.{length, get_or, take, length-append, get_or-append}
use lib.Seq.{take_all, get_or-append-add, length-take-le, get_or-take}
use Rattle.block.specs.Frame.{Playing, playing}
use Rattle.block.specs.Play.{play}
use Rattle.layout.specs.Sizes.{shape, bodies_place, last_frame_samples, block_count, body_bytes, block_offset, block_length}
use Rattle.whole.specs.Frames.{frame_count}
use Rattle.layout.specs.Fields.{mark}
use Rattle.layout.specs.Limits.{Limits}
use Rattle.clip.specs.Image.{start_shape}
use Rattle.clip.specs.declared.starting.Start.{Start}
use Rattle.clip.specs.Runs.{encoded_at, loop_entry}
use Rattle.layout.proofs.SizeLaws.{block-first, block-place, blocks-all, frames-some}
use Rattle.clip.proofs.ImageByFrames.{Fine, built}
use Rattle.round_trip.proofs.FieldsReadBack.{body_at}
use Rattle.round_trip.proofs.FramesPlayed.{Audible, Holding, sound_from, context_before, context_within, samples-length, sound-length, sound-at, sound-then, sample-near, block_held}

-- ---- the frames of a block

-- a frame's first byte is among the bodies
pub frame-place : (n q : ℕ) → q < frame_count n → 8 * q + 0 < body_bytes n
unfolding body_bytes frame_count last_frame_samples
frame-place n q h = omega arith

-- whole frames before the last one of block j, and the samples of that last one
unfoldable pub wholes : ℕ → ℕ → ℕ → ℕ
wholes n b j = cond (ltb (j * (b / 8) + b / 8) (frame_count n)) (b / 8 - 1) (frame_count n - 1 - j * (b / 8))

unfoldable pub ending : ℕ → ℕ → ℕ → ℕ
ending n b j = cond (ltb (j * (b / 8) + b / 8) (frame_count n)) 14 (last_frame_samples n)

last-few : (n : ℕ) → last_frame_samples n ≤ 14
unfolding last_frame_samples frame_count
last-few n = omega arith

body_is : (n : ℕ) → body_bytes n ≡ 8 * (frame_count n - 1) + (last_frame_samples n + 3) / 2
unfolding body_bytes frame_count last_frame_samples
body_is n = omega arith

module _ (n b x j : ℕ) (L : Limits (shape n b x)) (few : j < block_count (shape n b x)) where
  -- what block j is, where another comes after it and where it is the last
  pub block-parts : (block_length (shape n b x) j ≡ 16 * wholes n b j + (ending n b j + 2)) × (ending n b j ≤ 14) × (8 * (j * (b / 8)) + (8 * wholes n b j + (ending n b j + 3) / 2) ≤ body_bytes n)
      × (j * (b / 8) + wholes n b j < frame_count n)
  unfolding block_length wholes ending frame_count last_frame_samples
  block-parts = go (ltb (j * (b / 8) + b / 8) (frame_count n)) refl
    where
      go : (t : Bool) → ltb (j * (b / 8) + b / 8) (frame_count n) ≡ t
          → (cond t (16 * (b / 8)) (16 * (frame_count n - 1 - j * (b / 8)) + (last_frame_samples n + 2)) ≡ 16 * cond t (b / 8 - 1) (frame_count n - 1 - j * (b / 8)) + (cond t 14 (last_frame_samples n) + 2))
          × (cond t 14 (last_frame_samples n) ≤ 14)
          × (8 * (j * (b / 8)) + (8 * cond t (b / 8 - 1) (frame_count n - 1 - j * (b / 8)) + (cond t 14 (last_frame_samples n) + 3) / 2) ≤ body_bytes n)
          × (j * (b / 8) + cond t (b / 8 - 1) (frame_count n - 1 - j * (b / 8)) < frame_count n)
      go true e =
          let h = ltb-true (j * (b / 8) + b / 8) (frame_count n) e in
          let w = L.wide in
          let m = last-few n in
          (omega arith, omega arith, omega (arith, body_is n), omega arith)
      go false e =
          let f = block-first (shape n b x) j L few in
          let m = last-few n in
          (refl, m, omega (arith, body_is n), omega arith)

-- the frame of a sample
pub frame-of : (n i : ℕ) → i < n → i / 14 < frame_count n
unfolding frame_count
frame-of n i h = omega arith

-- a sample of the last frame
last-place : (n i : ℕ) → i < n → frame_count n - 1 ≤ i / 14 → (i / 14 ≡ frame_count n - 1) × (i % 14 < last_frame_samples n)
unfolding last_frame_samples frame_count
last-place n i h l = (omega arith, omega arith)

-- the block of a sample, and the frame and place in it
module _ (n b x s : ℕ) (L : Limits (shape n b x)) (lt : s < n) where
  abbrev c : ℕ
  c = b / 8

  abbrev at : ℕ
  at = s / (14 * (b / 8))

  abbrev r : ℕ
  r = s % (14 * (b / 8))

  counted : s ≡ 14 * (at * c) + r
  counted =
      let d = div-add-mod' s (14 * c) in
      let e : at * (14 * c) ≡ 14 * (at * c) = sym (mul_assoc at 14 c) ∙ ap (λ (k : ℕ). k * c) (mul_comm at 14) ∙ mul_assoc 14 at c in
      omega (arith, d, e)

  below : r < 14 * c
  below = mod-lt s (omega (arith, L.wide))

  pub sample-block : at < block_count (shape n b x)
  unfolding frame_count
  sample-block =
      let f = frame-of n s lt in
      let a = blocks-all (shape n b x) L in
      mul-lt-cancel at (block_count (shape n b x)) c (omega (arith, f, a, counted))
    where
      mul-lt-cancel : (i k d : ℕ) → i * d < k * d → i < k
      mul-lt-cancel i k d h = go (dec_lt i k)
        where
          go : Dec (i < k) → i < k
          go (yes q) = q
          go (no q) = absurd (let m : k * d ≤ i * d = mul-le-mul (omega arith) (le_refl d) in omega (arith, m, h))

  pub sample-frame : (at * c + r / 14 ≡ s / 14) × (r % 14 ≡ s % 14)
  sample-frame = (omega (arith, counted), omega (arith, counted))

  pub sample-inside : 8 * (r / 14) + (r % 14 + 3) / 2 ≤ 8 * wholes n b at + (ending n b at + 3) / 2
  unfolding wholes ending
  sample-inside = go (ltb (at * c + c) (frame_count n)) refl
    where
      go : (t : Bool) → ltb (s / (14 * (b / 8)) * (b / 8) + b / 8) (frame_count n) ≡ t
          → 8 * (r / 14) + (r % 14 + 3) / 2 ≤ 8 * cond t (b / 8 - 1) (frame_count n - 1 - s / (14 * (b / 8)) * (b / 8)) + (cond t 14 (last_frame_samples n) + 3) / 2
      go true e = omega (arith, below)
      go false e = rest (ltb (s / 14) (frame_count n - 1)) refl
        where
          rest : (u : Bool) → ltb (s / 14) (frame_count n - 1) ≡ u → 8 * (r / 14) + (r % 14 + 3) / 2 ≤ 8 * (frame_count n - 1 - at * c) + (last_frame_samples n + 3) / 2
          rest true u = let a = ltb-true (s / 14) (frame_count n - 1) u in omega (arith, a, counted)
          rest false u =
              let a = last-place n s lt (ltb-false (s / 14) (frame_count n - 1) u) in
              let p = a.0 in
              let m = a.1 in
              omega (arith, p, m, counted)

-- ---- a block

-- what block j sounds like
unfoldable pub block_sound : Start → List ℤ → ℕ → List ℤ
block_sound g xs j =
    let q = j * (g.block / 8) in
    let w = wholes g.total g.block j in
    sound_from g xs q w ++ take (ending g.total g.block j) (encoded_at g xs (q + w)).samples

module _ (g : Start) (F : Fine g) (xs : List ℤ) (rest : List ℕ) where
  abbrev n : ℕ
  n = g.total

  abbrev b : ℕ
  b = g.block

  abbrev image : List ℕ
  image = built g mark (loop_entry g xs true) xs (frame_count g.total) ++ rest

  module _ (j : ℕ) (few : j < block_count (start_shape g)) (bytes : List ℕ)
      (same : (i : ℕ) → i < (block_length (start_shape g) j + 1) / 2 → get_or bytes i 0 ≡ get_or (built g mark (loop_entry g xs true) xs (frame_count g.total) ++ rest) (block_offset (start_shape g) j + i) 0) where
    -- its bytes hold its frames
    holds : Holding g xs bytes (j * (g.block / 8)) (8 * wholes g.total g.block j + (ending g.total g.block j + 3) / 2)
    unfolding block_offset block_count frame_count
    holds =
        record {
          at = λ i r l h.
              let p = block-parts n b (start_shape g).extra j F.limits few in
              let q = j * (b / 8) in
              let e : bodies_place (start_shape g) + j * b + (8 * i + r) ≡ bodies_place (start_shape g) + (8 * (j * (b / 8) + i) + r) = omega (arith, block-place b j F.limits.eights) in
              same (8 * i + r) (omega (arith, p.0))
              ∙ ap (λ (k : ℕ). get_or image k 0) e
              ∙ body_at g F xs (frame_count n) rest (j * (b / 8) + i) r (omega (arith, p.1, p.3)) l (omega (arith, p.2));
        }

    -- it plays its frames
    pub block-played : Audible g xs
        → play bytes g.coefficients (block_length (start_shape g) j) (context_before g xs (j * (b / 8)))
        ≡ playing (context_within g xs (j * (b / 8) + wholes n b j) (ending n b j)) (block_sound g xs j)
    unfolding block_sound
    block-played A =
        let p = block-parts n b (start_shape g).extra j F.limits few in
        ap (λ (k : ℕ). play bytes g.coefficients k (context_before g xs (j * (b / 8)))) p.0
        ∙ block_held g xs bytes (j * (b / 8)) (8 * wholes n b j + (ending n b j + 3) / 2) holds A (wholes n b j) (ending n b j) p.1 (omega arith)

    -- up to sample m of its frame w it leaves the context there
    pub block-until : Audible g xs → (w m : ℕ) → m ≤ 14 → 8 * w + (m + 3) / 2 ≤ 8 * wholes n b j + (ending n b j + 3) / 2
        → (play bytes g.coefficients (16 * w + (m + 2)) (context_before g xs (j * (b / 8)))).context ≡ context_within g xs (j * (b / 8) + w) m
    block-until A w m l h =
        ap (λ (p : Playing). p.context) (block_held g xs bytes (j * (b / 8)) (8 * wholes n b j + (ending n b j + 3) / 2) holds A w m l h)

-- ---- all blocks

-- the sound of the first k blocks
unfoldable pub blocks_sound : Start → List ℤ → ℕ → List ℤ
blocks_sound g xs zero = []
blocks_sound g xs (suc j) = blocks_sound g xs j ++ block_sound g xs j

-- X's reconstruction: all whole frames and the samples of the last one
unfoldable pub sound_of : Start → List ℤ → List ℤ
sound_of g xs = sound_from g xs 0 (frame_count g.total - 1) ++ take (last_frame_samples g.total) (encoded_at g xs (frame_count g.total - 1)).samples

module _ (g : Start) (F : Fine g) (xs : List ℤ) where
  -- a block that another comes after
  block-whole : (j : ℕ) → j * (g.block / 8) + g.block / 8 < frame_count g.total → block_sound g xs j ≡ sound_from g xs (j * (g.block / 8)) (g.block / 8)
  unfolding block_sound wholes ending sound_from
  block-whole j h =
      let q = j * (g.block / 8) in
      let per = g.block / 8 in
      let e : suc (per - 1) ≡ per = omega (arith, F.limits.wide) in
      let t : take 14 (encoded_at g xs (q + (per - 1))).samples ≡ (encoded_at g xs (q + (per - 1))).samples =
      take_all 14 (encoded_at g xs (q + (per - 1))).samples (omega (arith, samples-length g xs (q + (per - 1)))) in
      rw (lt-ltb (q + per) (frame_count g.total) h, t) (ap (sound_from g xs q) e)

  -- the last block
  block_last : (j : ℕ) → j < block_count (start_shape g) → frame_count g.total ≤ j * (g.block / 8) + g.block / 8
      → sound_from g xs 0 (j * (g.block / 8)) ++ block_sound g xs j ≡ sound_of g xs
  unfolding block_sound wholes ending sound_of
  block_last j few h =
      let q = j * (g.block / 8) in
      let f = frame_count g.total in
      let first = block-first (start_shape g) j F.limits few in
      let e : q + (f - 1 - q) ≡ f - 1 = omega arith in
      let z : 0 + q ≡ q = zero-add q in
      let t = take (last_frame_samples g.total) (encoded_at g xs (f - 1)).samples in
      rw (le-ltb (q + g.block / 8) f h, e)
      (sym (append_assoc (sound_from g xs 0 q) (sound_from g xs q (f - 1 - q)) t)
      ∙ ap (λ (l : List ℤ). l ++ t) (ap (λ (a : ℕ). sound_from g xs 0 q ++ sound_from g xs a (f - 1 - q)) (sym z) ∙ sym (sound-then g xs 0 q (f - 1 - q)) ∙ ap (sound_from g xs 0) e))

  before_last : (j : ℕ) → j < block_count (start_shape g) → blocks_sound g xs j ≡ sound_from g xs 0 (j * (g.block / 8))
  unfolding blocks_sound sound_from
  before_last zero h = ap (sound_from g xs 0) (sym (zero-mul (g.block / 8)))
  before_last (suc j) h =
      let q = j * (g.block / 8) in
      let per = g.block / 8 in
      let s = suc-mul j per in
      let first = block-first (start_shape g) (suc j) F.limits h in
      ap₂ (λ (a c : List ℤ). a ++ c) (before_last j (omega arith)) (block-whole j (omega arith) ∙ ap (λ (a : ℕ). sound_from g xs a per) (sym (zero-add q)))
      ∙ sym (sound-then g xs 0 q per)
      ∙ ap (sound_from g xs 0) (sym s)

  -- blocks 0 to K-1, in turn
  pub all_blocks : blocks_sound g xs (block_count (start_shape g)) ≡ sound_of g xs
  unfolding blocks_sound
  all_blocks =
      let kk = block_count (start_shape g) in
      let all = blocks-all (start_shape g) F.limits in
      let some = (frames-some g.total F.limits.some).0 in
      let e : suc (kk - 1) ≡ kk = omega (arith, pos_of kk (g.block / 8) (frame_count g.total) some all) in
      let s = suc-mul (kk - 1) (g.block / 8) in
      let w = ap (λ (a : ℕ). a * (g.block / 8)) e in
      ap (blocks_sound g xs) (sym e)
      ∙ ap (λ (l : List ℤ). l ++ block_sound g xs (kk - 1)) (before_last (kk - 1) (omega arith))
      ∙ block_last (kk - 1) (omega arith) (omega (arith, s, w))
    where
      pos_of : (k per f : ℕ) → 1 ≤ f → f ≤ k * per → 1 ≤ k
      pos_of zero per f l h = omega (arith, zero-mul per)
      pos_of (suc k) per f l h = omega arith

  -- as many samples as X has
  pub sound-count : length (sound_of g xs) ≡ g.total
  unfolding sound_of last_frame_samples frame_count
  sound-count =
      let f = frame_count g.total - 1 in
      let t = length-take-le (last_frame_samples g.total) (encoded_at g xs f).samples (omega (arith, samples-length g xs f, last-few g.total)) in
      length-append (sound_from g xs 0 f) (take (last_frame_samples g.total) (encoded_at g xs f).samples) ∙ omega (arith, sound-length g xs 0 f, t, F.limits.some)

  -- each is one of its frame's
  pub sound-is : (i : ℕ) → i < g.total → get_or (sound_of g xs) i (pos 0) ≡ get_or (encoded_at g xs (i / 14)).samples (i % 14) (pos 0)
  unfolding sound_of
  sound-is i h = go (ltb (i / 14) f) refl
    where
      f : ℕ
      f = frame_count g.total - 1

      m : ℕ
      m = last_frame_samples g.total

      place : i ≡ 14 * (i / 14) + i % 14
      place = omega arith

      count : length (sound_from g xs 0 f) ≡ 14 * f
      count = sound-length g xs 0 f

      go : (t : Bool) → ltb (i / 14) f ≡ t → get_or (sound_from g xs 0 f ++ take m (encoded_at g xs f).samples) i (pos 0) ≡ get_or (encoded_at g xs (i / 14)).samples (i % 14) (pos 0)
      go true e =
          let l = ltb-true (i / 14) f e in
          get_or-append (sound_from g xs 0 f) (take m (encoded_at g xs f).samples) (pos 0) i (omega (arith, count))
          ∙ ap (λ (k : ℕ). get_or (sound_from g xs 0 f) k (pos 0)) place
          ∙ sound-at g xs 0 f (i / 14) (i % 14) l (omega arith)
          ∙ ap (λ (k : ℕ). get_or (encoded_at g xs k).samples (i % 14) (pos 0)) (zero-add (i / 14))
      go false e =
          let l = ltb-false (i / 14) f e in
          let p = last-place g.total i h l in
          ap (λ (k : ℕ). get_or (sound_from g xs 0 f ++ take m (encoded_at g xs f).samples) k (pos 0)) (omega (arith, count, p.0))
          ∙ get_or-append-add (sound_from g xs 0 f) (take m (encoded_at g xs f).samples) (i % 14) (pos 0)
          ∙ get_or-take m (encoded_at g xs f).samples (i % 14) (pos 0) p.1
          ∙ ap (λ (k : ℕ). get_or (encoded_at g xs k).samples (i % 14) (pos 0)) (sym p.0)

  -- and near its original, where its frame's exponent is below 12
  pub sound-near : Audible g xs → (i : ℕ) → i < g.total → get_or (encoded_at g xs (i / 14)).bytes 0 0 % 16 < 12
      → nat_abs (get_or (sound_of g xs) i (pos 0) -ℤ get_or xs i (pos 0)) ≤ (3 * 2 ^ (get_or (encoded_at g xs (i / 14)).bytes 0 0 % 16) + 1) / 2
  sound-near A i h p =
      let place : 14 * (i / 14) + i % 14 ≡ i = omega arith in
      let r : i % 14 < 14 = omega arith in
      rw (sound-is i h) (subst (λ (k : ℕ). nat_abs (get_or (encoded_at g xs (i / 14)).samples (i % 14) (pos 0) -ℤ get_or xs k (pos 0)) ≤
      (3 * 2 ^ (get_or (encoded_at g xs (i / 14)).bytes 0 0 % 16) + 1) / 2) place (sample-near g xs A (i / 14) (i % 14) r p))
