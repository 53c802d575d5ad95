-- Laws of playing on from a sample's address.
use mathlib.Core.Path.{◌≡◌, refl, sym, ap, ◌∙◌}
use mathlib.Core.List.{List, [], ◌∷◌, ◌++◌, append_assoc, append-nil}
use mathlib.Core.Logic.{⊎_elim}
use Prim.Native.Nat.{ℕ, zero, suc, ◌+◌, ◌-◌, ◌*◌, ◌/◌, ◌%◌, ◌≤◌, ◌<◌}
use native.Mathlib.Nat.{add-zero, add-suc, suc-add}
use native.Mathlib.Numerals.{add-one}
use native.Mathlib.Omega.{arith}
use borrow.Rule.Slice.PartMut.{put_mid}
use lib.IntN.{ℤ}
use lib.ListN.{length, get_or, set, take, drop, length-append, length-set}
use lib.Seq.{sets, take_at, drop_at}
use Rattle.whole.specs.declared.History.{History}
use Rattle.whole.proofs.Stores.{part-sets, part-all, part_end}
use Rattle.block.specs.declared.FrameContext.{FrameContext}
use Rattle.block.specs.Address.{address_to_sample, sample_to_address}
use Rattle.block.specs.Context.{scale, history_with, context_with, with_header}
use Rattle.block.specs.Frame.{nibble_at, Playing, playing, next_sample, take_nibble}
use Rattle.block.specs.Play.{take_header, play_from, play, play_into}
use Rattle.block.specs.Sample.{decode_sample}
use Rattle.block.specs.inner.Frames.{nibbles_from, play_frame, play_frames}
use Rattle.block.specs.inner.Nibbles.{Decoded, decoded, advanced, decode_nibble, decode_nibbles, play_nibbles}
use Rattle.block.specs.inner.Parts.{play_on}
use Rattle.block.proofs.LawsAddress.{back}
use Rattle.block.proofs.LawsFrame.{nibble-low, decoded_at, playing_of, first_of, second_of, nibbles-decoded, from-length, played-after}
use Rattle.block.proofs.LawsStores.{part-stored, stored-whole}
use Rattle.block.proofs.LawsParts.{none, starts, from-onto, from-after, from_more, play-begins}
use Rattle.block.proofs.LawsPlay.{onto, at-sample, at-header, in_frame, frame-onto, repeats, play-count}

-- ---- the samples of some addresses

next-sample : (a : ℕ) → 2 ≤ a % 16 → address_to_sample (suc a) ≡ suc (address_to_sample a)
unfolding address_to_sample
next-sample a h = omega arith

in-header : (a : ℕ) → a % 16 ≡ 0 → address_to_sample (a + 1) ≡ address_to_sample a
unfolding address_to_sample
in-header a h = omega arith

past-header : (a : ℕ) → a % 16 ≡ 0 → address_to_sample (2 + a) ≡ address_to_sample a
unfolding address_to_sample
past-header a h = omega arith

-- an output with room for the samples of a part has room for its nibbles in the first frame
pub room-rest : (a len n : ℕ) → 2 ≤ a % 16 → a ≤ len → len ≤ 16 * (a / 16) + 16 → address_to_sample len ≤ address_to_sample a + n → len ≤ a + n
unfolding address_to_sample
room-rest a len n h i j k = omega arith

pub room-frame : (a len n : ℕ) → 2 ≤ a % 16 → a + (16 - a % 16) ≤ len → address_to_sample len ≤ address_to_sample a + n → 16 - a % 16 ≤ n
unfolding address_to_sample
room-frame a len n h i k = omega arith

pub room-later : (a len n : ℕ) → 2 ≤ a % 16 → a + (16 - a % 16) < len → address_to_sample len ≤ address_to_sample a + n
    → address_to_sample (len - (a + (16 - a % 16))) ≤ n - (16 - a % 16)
unfolding address_to_sample
room-later a len n h i k = omega arith

module _ (bytes : List ℕ) (cs : List ℤ) where
  abbrev Counts : ℕ → ℕ → Playing → Type 0
  Counts a n p = length (play_from bytes cs a n p).samples + address_to_sample a ≡ length p.samples + address_to_sample (a + n)

  count-sample : (a n : ℕ) (p : Playing) → 2 ≤ a % 16 → Counts (suc a) n (take_nibble cs p (nibble_at bytes a)) → Counts a (suc n) p
  unfolding take_nibble
  count-sample a n p h i =
      let e = ap (λ (q : Playing). length q.samples) (at-sample bytes cs a n p h) in
      let l = length-append p.samples (next_sample cs p.context (nibble_at bytes a) ∷ []) in
      let f = next-sample a h in
      let g = ap address_to_sample (suc-add a n ∙ sym (add-suc a n)) in
      omega (arith, e, i, l, f, g)

  count-header : (a n : ℕ) (p : Playing) → a % 16 ≡ 0 → Counts (2 + a) n (take_header bytes a p) → Counts a (suc (suc n)) p
  unfolding take_header
  count-header a n p h i =
      let k : suc n - 1 ≡ n = omega arith in
      let e = ap (λ (q : Playing). length q.samples) (at-header bytes cs a (suc n) p h ∙ ap (λ (m : ℕ). play_from bytes cs (2 + a) m (take_header bytes a p)) k) in
      let f = past-header a h in
      let d : 2 + a + n ≡ a + suc (suc n) = omega arith in
      let g = ap address_to_sample d in
      omega (arith, e, i, f, g)

  count-alone : (a : ℕ) (p : Playing) → a % 16 ≡ 0 → Counts a 1 p
  unfolding take_header
  count-alone a p h =
      let e = ap (λ (q : Playing). length q.samples) (at-header bytes cs a zero p h ∙ none bytes cs (2 + a) (take_header bytes a p)) in
      let f = in-header a h in
      omega (arith, e, f)

  -- as many as the addresses' samples
  pub from-count : (a n : ℕ) (p : Playing) → (a % 16 ≡ 1 → ⊥) → Counts a n p
  from-count a zero p h = rw (none bytes cs a p, add-zero a)
  from-count a (suc zero) p h =
      ⊎_elim (count-alone a p) (λ e. count-sample a zero p e (from-count (suc a) zero (take_nibble cs p (nibble_at bytes a)) (λ i. omega arith))) (starts a h)
  from-count a (suc (suc n)) p h =
      ⊎_elim
      (λ e. count-header a n p e (from-count (2 + a) n (take_header bytes a p) (λ i. omega arith)))
      (λ e. count-sample a (suc n) p e (from-count (suc a) (suc n) (take_nibble cs p (nibble_at bytes a)) (λ i. omega arith)))
      (starts a h)

  -- played on with samples before
  from_then : (a n : ℕ) (p : Playing) → play_from bytes cs a n p ≡ onto p.samples (play_from bytes cs a n (playing p.context []))
  from_then a n p =
      ap (λ (xs : List ℤ). play_from bytes cs a n (playing p.context xs)) (sym (append-nil p.samples))
      ∙ from-onto bytes cs p.samples a n (playing p.context [])

-- ---- a part of a frame

module _ (c0 c1 : ℤ) (s : ℕ) where
  -- with samples before
  decode-onto : (h : History) (xs ys : List ℤ) (ns : List ℕ)
      → decode_nibbles c0 c1 s (decoded h (xs ++ ys)) ns ≡ (let d = decode_nibbles c0 c1 s (decoded h ys) ns in decoded d.history (xs ++ d.samples))
  unfolding decode_nibbles decode_nibble
  decode-onto h xs ys [] = refl
  decode-onto h xs ys (n ∷ ns) =
      let x = decode_sample c0 c1 h.newest h.older n s in
      rw append_assoc (decode-onto (history_with x h.newest) xs (ys ++ (x ∷ [])) ns)

  -- a byte's low nibble first
  low_first : (bytes : List ℕ) (k n : ℕ) (h low : History) → low ≡ advanced c0 c1 s h (get_or bytes k 0 % 16)
      → play_nibbles bytes (suc (2 * k)) (suc n) c0 c1 s h ≡ (let d = play_nibbles bytes (2 * (k + 1)) n c0 c1 s low in decoded d.history (low.newest ∷ d.samples))
  unfolding play_nibbles nibbles_from decode_nibbles decode_nibble
  low_first bytes k n h low e =
      let f : suc (suc (2 * k)) ≡ 2 * (k + 1) = omega arith in
      rw (nibble-low bytes k, e, f) (decode-onto (advanced c0 c1 s h (get_or bytes k 0 % 16)) ((advanced c0 c1 s h (get_or bytes k 0 % 16)).newest ∷ []) [] (nibbles_from bytes (2 * (k + 1)) n))

  module _ (bytes : List ℕ) (from : ℕ) (out : List ℤ) (h : History) where
    abbrev all : Decoded
    all = play_nibbles bytes from (length out) c0 c1 s h

    -- none
    pub none-on : length out ≡ 0 → (h ≡ all.history) × (out ≡ all.samples)
    unfolding play_nibbles nibbles_from decode_nibbles
    none-on z = rw z (refl, nothing out z)
      where
        nothing : (xs : List ℤ) → length xs ≡ 0 → xs ≡ []
        nothing [] e = refl
        nothing (x ∷ xs) e = absurd (omega arith)

    -- from a byte on
    pub even-on : (r : History) (ys : List ℤ) → from % 2 ≡ 0 → r ≡ (play_nibbles (drop (from / 2) bytes) 0 (length out) c0 c1 s h).history
        → ys ≡ (play_nibbles (drop (from / 2) bytes) 0 (length out) c0 c1 s h).samples → (r ≡ all.history) × (ys ≡ all.samples)
    even-on r ys z e f =
        let n : 2 * (from / 2) ≡ from = omega arith in
        let p : play_nibbles (drop (from / 2) bytes) 0 (length out) c0 c1 s h ≡ all = played-after bytes (from / 2) (length out) c0 c1 s h ∙ ap (λ (a : ℕ). play_nibbles bytes a (length out) c0 c1 s h) n in
        (e ∙ ap (λ (d : Decoded). d.history) p, f ∙ ap (λ (d : Decoded). d.samples) p)

    -- from a byte's low nibble on
    pub odd-on : (low r : History) (ys : List ℤ) → (from % 2 ≡ 0 → ⊥) → 0 < length out → low ≡ advanced c0 c1 s h (get_or bytes (from / 2) 0 % 16)
        → r ≡ (play_nibbles (drop (from / 2 + 1) bytes) 0 (length out - 1) c0 c1 s low).history
        → ys ≡ (play_nibbles (drop (from / 2 + 1) bytes) 0 (length out - 1) c0 c1 s low).samples
        → (r ≡ all.history) × (put_mid 1 (length (set out 0 low.newest) - 1) (set out 0 low.newest) ys ≡ all.samples)
    odd-on low r ys z l e f g =
        let k = from / 2 in
        let n : suc (2 * k) ≡ from = odd from z in
        let m : suc (length out - 1) ≡ length out = omega arith in
        let d = play_nibbles bytes (2 * (k + 1)) (length out - 1) c0 c1 s low in
        let p : play_nibbles (drop (k + 1) bytes) 0 (length out - 1) c0 c1 s low ≡ d = played-after bytes (k + 1) (length out - 1) c0 c1 s low in
        let q : all ≡ decoded d.history (low.newest ∷ d.samples) = ap (λ (a : ℕ). play_nibbles bytes a (length out) c0 c1 s h) (sym n)
        ∙ ap (λ (c : ℕ). play_nibbles bytes (suc (2 * k)) c c0 c1 s h) (sym m) ∙ low_first bytes k (length out - 1) h low e in
        let t : ys ≡ d.samples = g ∙ ap (λ (x : Decoded). x.samples) p in
        let j = from-length bytes (2 * (k + 1)) c0 c1 s low (length out - 1) in
        let y : length ys ≡ length out - 1 = ap length t ∙ j in
        let w = length-set out 0 low.newest in (
          f ∙ ap (λ (x : Decoded). x.history) p ∙ sym (ap (λ (x : Decoded). x.history) q),
          part-stored (set out 0 low.newest) ys 1 _ (omega (arith, y, w)) (omega (arith, w))
              ∙ stored-whole out (low.newest ∷ ys) (omega (arith, y))
              ∙ ap (λ (x : List ℤ). low.newest ∷ x) t ∙ sym (ap (λ (x : Decoded). x.samples) q),
        )
      where
        odd : (n : ℕ) → (n % 2 ≡ 0 → ⊥) → suc (2 * (n / 2)) ≡ n
        odd n z = omega arith

module _ (bytes : List ℕ) (cs : List ℤ) where
  -- what the step leaves, from what the nibbles' call answers
  pub rest-into : (a len : ℕ) (c : FrameContext) (out : List ℤ) (h : History) (ys : List ℤ) → 2 ≤ a % 16 → a ≤ len → len ≤ 16 * (a / 16) + 16 → len - a ≤ length out
      → h ≡ (decoded_at bytes a (len - a) cs c).history → ys ≡ (decoded_at bytes a (len - a) cs c).samples
      → playing (context_with c.predictor_and_scale h) (put_mid 0 (len - a) out ys) ≡ play_on bytes cs a len c out
  unfolding play_on play_nibbles
  rest-into a len c out h ys l m k i e f =
      let header = c.predictor_and_scale in
      let n = len - a in
      let g : play_from bytes cs a n (playing c []) ≡ playing_of header (decoded_at bytes a n cs c) =
      ap (λ (m : ℕ). play_from bytes cs a m (playing c [])) (sym (add-zero n))
      ∙ in_frame bytes cs a n 0 (playing c []) l (omega arith)
      ∙ none bytes cs (a + n) _
      ∙ nibbles-decoded cs header (decoded c.last_samples []) (nibbles_from bytes a n) in
      let j = ap length f ∙ from-length bytes a (first_of cs header) (second_of cs header) (scale header) c.last_samples n in
      rw (g, part-stored out ys 0 n j (omega arith), e, f)

  -- ---- the rest of a frame, and the frames after it

  module _ (a j len : ℕ) (c : FrameContext) (h : 2 ≤ a % 16) (e : j ≡ suc (a / 16)) (l : 16 * j < len) where
    abbrev ahead : Playing
    ahead = play_from bytes cs a (16 * j - a) (playing c [])

    abbrev later : Playing
    later = play (drop (8 * j) bytes) cs (len - 16 * j) (with_header ahead.context (get_or bytes (8 * j) 0))

    ahead-count : length ahead.samples ≡ 16 * j - a
    unfolding address_to_sample
    ahead-count =
        let k = from-count bytes cs a (16 * j - a) (playing c []) (λ i. omega arith) in
        omega (arith, k)

    later-count : length later.samples + (16 * j - a) + address_to_sample a ≡ address_to_sample len
    unfolding address_to_sample
    later-count =
        let k = play-count (drop (8 * j) bytes) cs (len - 16 * j) (with_header ahead.context (get_or bytes (8 * j) 0)) (omega arith) in
        omega (arith, k)

    on-played : play_from bytes cs a (len - a) (playing c []) ≡ onto ahead.samples later
    unfolding play take_header
    on-played =
        let m = 16 * j - a in
        let n = len - 16 * j in
        let q = take_header bytes (16 * j) ahead in
        let s : len - a ≡ m + n = omega arith in
        let t : a + m ≡ 16 * j = omega arith in
        let u : n ≡ suc (n - 1) = omega arith in
        let v : n - 1 - 1 ≡ n - 2 = omega arith in
        let w : 2 + 16 * j ≡ 16 * j + 2 = omega arith in
        let x : 16 * j / 2 ≡ 8 * j = omega arith in
        ap (λ (i : ℕ). play_from bytes cs a i (playing c [])) s
        ∙ from_more bytes cs n m a (playing c []) (λ i. omega arith) (λ i. omega arith)
        ∙ ap (λ (i : ℕ). play_from bytes cs i n ahead) t
        ∙ ap (λ (i : ℕ). play_from bytes cs (16 * j) i ahead) u
        ∙ at-header bytes cs (16 * j) (n - 1) ahead (omega arith)
        ∙ ap (λ (i : ℕ). play_from bytes cs (2 + 16 * j) i q) v
        ∙ ap (λ (i : ℕ). play_from bytes cs i (n - 2) q) w
        ∙ sym (from-after bytes j cs 2 (n - 2) q)
        ∙ from_then (drop (8 * j) bytes) cs 2 (n - 2) q
        ∙ rw x

    on-frames : (after r : FrameContext) (out o o' : List ℤ) → address_to_sample len ≤ address_to_sample a + length out
        → playing after o ≡ play_on bytes cs a (16 * j) c out
        → playing r o' ≡ play_into (drop (8 * j) bytes) cs (len - 16 * j) (with_header after (get_or bytes (8 * j) 0)) (drop (16 * j - a) o)
        → playing r (take (16 * j - a) o ++ o') ≡ play_on bytes cs a len c out
    unfolding play_on play_into
    on-frames after r out o o' room f g =
        let ef : after ≡ ahead.context = ap (λ (p : Playing). p.context) f in
        let eo : o ≡ sets out 0 ahead.samples = ap (λ (p : Playing). p.samples) f in
        let g' = rw ef at g in
        let er : r ≡ later.context = ap (λ (p : Playing). p.context) g' in
        let eo' : o' ≡ sets (drop (16 * j - a) o) 0 later.samples = ap (λ (p : Playing). p.samples) g' in
        let d = ahead-count in
        let w = later-count in
        let put = part-sets out ahead.samples later.samples (omega (arith, d, w, room)) in
        rw (on-played, er, eo', eo) (ap (λ (ys : List ℤ). playing later.context ys) (rw d at put))

  -- the same as the calls leave it: the rest of the frame, and the parts that the next call was lent
  pub on-made : (a len : ℕ) (c after next r : FrameContext) (out o ys : List ℤ) → 2 ≤ a % 16 → a + (16 - a % 16) < len → address_to_sample len ≤ address_to_sample a + length out
      → playing after o ≡ play_on bytes cs a (a + (16 - a % 16)) c out → next ≡ with_header after (get_or bytes ((a + (16 - a % 16)) / 2) 0)
      → playing r ys ≡ play_into (take (length bytes - (a + (16 - a % 16)) / 2) (drop ((a + (16 - a % 16)) / 2) bytes)) cs (len - (a + (16 - a % 16))) next (take (length o - (16 - a % 16)) (drop (16 - a % 16) o))
      → playing r (take (16 - a % 16) o ++ (ys ++ drop (length o - (16 - a % 16)) (drop (16 - a % 16) o))) ≡ play_on bytes cs a len c out
  on-made a len c after next r out o ys h l room f en g =
      let j = suc (a / 16) in
      let e : a + (16 - a % 16) ≡ 16 * j = omega arith in
      let d : 16 - a % 16 ≡ 16 * j - a = omega arith in
      let k : 16 * j / 2 ≡ 8 * j = omega arith in
      let lt : 16 * j < len = omega arith in
      let y = on-frames a j len c h refl lt after r out o ys room (rw e at f) (rw (en, part-all bytes ((a + (16 - a % 16)) / 2), part-all o (16 - a % 16), e, k, d) at g) in
      ap (λ (t : List ℤ). playing r (take (16 - a % 16) o ++ (ys ++ t))) (part_end o (16 - a % 16))
      ∙ ap (λ (t : List ℤ). playing r (take (16 - a % 16) o ++ t)) (append-nil ys)
      ∙ ap (λ (t : ℕ). playing r (take t o ++ ys)) d
      ∙ y

  -- ---- the context after some frames

  frame_then : (at n : ℕ) (p : Playing) → (play_frame bytes at n cs p).context ≡ (play_frame bytes at n cs (playing p.context [])).context
  frame_then at n p =
      ap (λ (xs : List ℤ). (play_frame bytes at n cs (playing p.context xs)).context) (sym (append-nil p.samples))
      ∙ ap (λ (q : Playing). q.context) (frame-onto bytes at n cs p.samples (playing p.context []))

  -- a turn of the loop over frames
  pub context-turn : (k : ℕ) (start : Playing) (now after : FrameContext) → (play_frames bytes cs k start).context ≡ now
      → after ≡ (play_frame bytes (8 * k) 14 cs (playing now [])).context → (play_frames bytes cs (k + 1) start).context ≡ with_header after (get_or bytes (8 * (k + 1)) 0)
  unfolding play_frames take_header
  context-turn k start now after e f =
      let i : 16 * suc k / 2 ≡ 8 * suc k = omega arith in
      rw (add-one k, i, f, ← e, frame_then (8 * k) 14 (play_frames bytes cs k start))

  -- the last frame after the loop
  pub context-end : (k left : ℕ) (c now after : FrameContext) → 0 < left → left ≤ 16 → (play_frames bytes cs k (playing c [])).context ≡ now
      → after ≡ (play_frame bytes (8 * k) (left - 2) cs (playing now [])).context → after ≡ (play bytes cs (16 * k + left) c).context
  context-end k left c now after z m e f =
      rw (f, ← e, repeats bytes cs k left c z m) (sym (frame_then (8 * k) (left - 2) (play_frames bytes cs k (playing c []))))

-- ---- a part of a block, by samples

-- the address of a sample is none of a header's
pub sample-place : (s : ℕ) → 2 ≤ sample_to_address s % 16
unfolding sample_to_address
sample-place s = omega arith

-- the samples up to one
pub sample-end : (s : ℕ) → address_to_sample (suc (sample_to_address s)) ≡ suc s
unfolding address_to_sample sample_to_address
sample-end s = omega arith

-- a sample that a length has begins before it
pub sample-before : (s len : ℕ) → s < address_to_sample len → sample_to_address s < len
unfolding address_to_sample sample_to_address
sample-before s len h = omega arith

pub sample-order : (s t : ℕ) → s ≤ t → sample_to_address s < suc (sample_to_address t)
unfolding sample_to_address
sample-order s t h = omega arith

module _ (bytes : List ℕ) (cs : List ℤ) (len s : ℕ) (h : s < address_to_sample len) where
  abbrev place : ℕ
  place = sample_to_address s

  -- the samples from one on, under a context
  abbrev pub rest_from : FrameContext → List ℤ
  rest_from c = (play_from bytes cs place (len - place) (playing c [])).samples

  pub rest-count : (c : FrameContext) → length (rest_from c) + s ≡ address_to_sample len
  rest-count c =
      let p = sample-place s in
      let k = from-count bytes cs place (len - place) (playing c []) (λ i. omega (arith, p, i)) in
      let b = back s in
      let l = sample-before s len h in
      let e : place + (len - place) ≡ len = omega arith in
      omega (arith, rw e at k, b)

  -- a shorter length plays the first of them
  pub rest-begins : (c : FrameContext) (n : ℕ) → 0 < n → s + n ≤ address_to_sample len
      → (play_from bytes cs place (suc (sample_to_address (s + n - 1)) - place) (playing c [])).samples ≡ take n (rest_from c)
  rest-begins c n z k =
      let t = s + n - 1 in
      let m = suc (sample_to_address t) in
      let u = sample-place s in
      let v = sample-place t in
      let w : t < address_to_sample len = omega arith in
      let x = sample-before t len w in
      let y : place < m = sample-order s t (omega arith) in
      let e : len - place ≡ m - place + (len - m) = omega arith in
      let f : place + (m - place) ≡ m = omega arith in
      let p = play_from bytes cs place (m - place) (playing c []) in
      let g = rw f at (from-count bytes cs place (m - place) (playing c []) (λ i. omega (arith, u, i))) in
      let l : length p.samples ≡ n = omega (arith, g, back s, sample-end t) in
      sym
      (ap (λ (i : ℕ). take n (play_from bytes cs place i (playing c [])).samples) e
      ∙ ap (λ (q : Playing). take n q.samples) (from_more bytes cs (len - m) (m - place) place (playing c []) (λ i. omega (arith, u, i)) (λ i. omega (arith, v, rw f at i)) ∙ from_then bytes cs (place + (m - place)) (len - m) p)
      ∙ take_at p.samples _ n l)

  -- under the context at that sample they are the rest of the block's
  pub rest-is : (c : FrameContext) → rest_from (play bytes cs place c).context ≡ drop s (play bytes cs len c).samples
  rest-is c =
      let u = sample-place s in
      let x = sample-before s len h in
      let e : place + (len - place) ≡ len = omega arith in
      let some : 2 ≤ place = omega (arith, u) in
      let b = rw e at (play-begins bytes cs place (len - place) c some (λ i. omega (arith, u, i))) in
      let l : length (play bytes cs place c).samples ≡ s = play-count bytes cs place c (omega arith) ∙ back s in
      sym (ap (drop s) b ∙ drop_at (play bytes cs place c).samples (rest_from (play bytes cs place c).context) s l)
