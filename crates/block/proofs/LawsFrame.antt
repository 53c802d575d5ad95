-- Laws of the samples of one frame.
use mathlib.Core.Path.{◌≡◌, refl, sym, ap, ◌∙◌}
use mathlib.Core.List.{List, [], ◌∷◌, ◌++◌, foldl, foldl-append, append_assoc, append-nil}
use Prim.Native.Nat.{ℕ, zero, suc, ◌+◌, ◌-◌, ◌*◌, ◌/◌, ◌%◌, ◌≤◌, ◌<◌}
use native.Mathlib.Nat.{add-zero, zero-add, add-suc, suc-add}
use native.Mathlib.Numerals.{add-one}
use native.Mathlib.Omega.{arith}
use borrow.Author.Tests.{eq-eqb, ne_eqb}
use borrow.Rule.Slice.PartMut.{put_mid}
use lib.IntN.{ℤ, pos}
use lib.ListN.{length, get_or, set, drop, take, length-append, drop_of_length-le}
use lib.Seq.{sets, get_or-drop, get_or-take, length-take-le}
use Rattle.whole.proofs.Stores.{sets_then, spread}
use Rattle.block.proofs.LawsStores.{part-stored, stored-whole}
use Rattle.whole.specs.declared.History.{History}
use Rattle.block.specs.declared.FrameContext.{FrameContext}
use Rattle.block.specs.Context.{predictor, scale, context_with, push_sample}
use Rattle.block.specs.Frame.{nibble_at, Playing, playing, next_sample, take_nibble, into}
use Rattle.block.specs.inner.Frames.{nibbles_from, play_frame}
use Rattle.block.specs.inner.Nibbles.{Decoded, decoded, advanced, decode_nibble, decode_nibbles, play_nibbles}

-- ---- nibbles

pub nibble-high : (bytes : List ℕ) (k : ℕ) → nibble_at bytes (2 * k) ≡ get_or bytes k 0 / 16
unfolding nibble_at
nibble-high bytes k =
    let e : 2 * k / 2 ≡ k = omega arith in
    rw (eq-eqb (2 * k % 2) 0 (omega arith), e)

pub nibble-low : (bytes : List ℕ) (k : ℕ) → nibble_at bytes (suc (2 * k)) ≡ get_or bytes k 0 % 16
unfolding nibble_at
nibble-low bytes k =
    let e : suc (2 * k) / 2 ≡ k = omega arith in
    rw (ne_eqb (suc (2 * k) % 2) 0 (λ h. omega arith), e)

pub nibbles-append : (bytes : List ℕ) (a m n : ℕ) → nibbles_from bytes a (m + n) ≡ nibbles_from bytes a m ++ nibbles_from bytes (a + m) n
unfolding nibbles_from
nibbles-append bytes a zero n = rw (add-zero, zero-add)
nibbles-append bytes a (suc m) n = rw (suc-add m n, nibbles-append bytes (suc a) m n, suc-add a m, add-suc a m)

pub nibbles-length : (bytes : List ℕ) (a n : ℕ) → length (nibbles_from bytes a n) ≡ n
unfolding nibbles_from
nibbles-length bytes a zero = refl
nibbles-length bytes a (suc n) = ap suc (nibbles-length bytes (suc a) n)

pub nibbles-pair : (bytes : List ℕ) (k : ℕ) → nibbles_from bytes (2 * k) 2 ≡ get_or bytes k 0 / 16 ∷ get_or bytes k 0 % 16 ∷ []
unfolding nibbles_from
nibbles-pair bytes k = rw (nibble-high, nibble-low)

-- ---- under one pair and one scale

module _ (c0 c1 : ℤ) (scale : ℕ) where
  pub decode-append : (r : Decoded) (m n : List ℕ) → decode_nibbles c0 c1 scale r (m ++ n) ≡ decode_nibbles c0 c1 scale (decode_nibbles c0 c1 scale r m) n
  unfolding decode_nibbles
  decode-append r m n = foldl-append (decode_nibble c0 c1 scale) r m n

  pub decode-length : (r : Decoded) (ns : List ℕ) → length (decode_nibbles c0 c1 scale r ns).samples ≡ length r.samples + length ns
  unfolding decode_nibbles decode_nibble
  decode-length r [] = sym (add-zero (length r.samples))
  decode-length r (n ∷ ns) = decode-length (decode_nibble c0 c1 scale r n) ns ∙ simp length-append (omega arith)

module _ (bytes : List ℕ) (a : ℕ) (c0 c1 : ℤ) (scale : ℕ) (h : History) where
  -- n nibbles more
  pub from_more : (m n : ℕ) → play_nibbles bytes a (m + n) c0 c1 scale h ≡ decode_nibbles c0 c1 scale (play_nibbles bytes a m c0 c1 scale h) (nibbles_from bytes (a + m) n)
  unfolding play_nibbles
  from_more m n = ap (decode_nibbles c0 c1 scale (decoded h [])) (nibbles-append bytes a m n) ∙ decode-append c0 c1 scale (decoded h []) (nibbles_from bytes a m) (nibbles_from bytes (a + m) n)

  pub from-length : (n : ℕ) → length (play_nibbles bytes a n c0 c1 scale h).samples ≡ n
  unfolding play_nibbles
  from-length n = decode-length c0 c1 scale (decoded h []) (nibbles_from bytes a n) ∙ zero-add (length (nibbles_from bytes a n)) ∙ nibbles-length bytes a n

module _ (bytes : List ℕ) (j : ℕ) (c0 c1 : ℤ) (scale : ℕ) (h now : History) (e : (play_nibbles bytes 0 (2 * j) c0 c1 scale h).history ≡ now) where
  -- two samples more, of one byte
  pub pair-more : (first second : History) → first ≡ advanced c0 c1 scale now (get_or bytes j 0 / 16) → second ≡ advanced c0 c1 scale first (get_or bytes j 0 % 16)
      → play_nibbles bytes 0 (2 * (j + 1)) c0 c1 scale h ≡ decoded second ((play_nibbles bytes 0 (2 * j) c0 c1 scale h).samples ++ (first.newest ∷ second.newest ∷ []))
  unfolding decode_nibbles decode_nibble
  pair-more first second f g =
      let d : 2 * (j + 1) ≡ 2 * j + 2 = omega arith in
      ap (λ (n : ℕ). play_nibbles bytes 0 n c0 c1 scale h) d
      ∙ from_more bytes 0 c0 c1 scale h (2 * j) 2
      ∙ ap (λ (n : ℕ). decode_nibbles c0 c1 scale (play_nibbles bytes 0 (2 * j) c0 c1 scale h) (nibbles_from bytes n 2)) (zero-add (2 * j))
      ∙ ap (decode_nibbles c0 c1 scale (play_nibbles bytes 0 (2 * j) c0 c1 scale h)) (nibbles-pair bytes j)
      ∙ rw (g, f, ← e, append_assoc)

  -- one sample more, of a byte's high nibble
  pub high-more : (last : History) → last ≡ advanced c0 c1 scale now (get_or bytes j 0 / 16)
      → play_nibbles bytes 0 (2 * j + 1) c0 c1 scale h ≡ decoded last ((play_nibbles bytes 0 (2 * j) c0 c1 scale h).samples ++ (last.newest ∷ []))
  unfolding decode_nibbles decode_nibble nibbles_from
  high-more last f =
      from_more bytes 0 c0 c1 scale h (2 * j) 1
      ∙ ap (λ (n : ℕ). decode_nibbles c0 c1 scale (play_nibbles bytes 0 (2 * j) c0 c1 scale h) (nibbles_from bytes n 1)) (zero-add (2 * j))
      ∙ rw (nibble-high, f, ← e)

-- the stores of a turn
pub pair-stored : (out xs : List ℤ) (j : ℕ) (x y : ℤ) → length xs ≡ 2 * j → set (set (sets out 0 xs) (2 * j) x) (2 * j + 1) y ≡ sets out 0 (xs ++ (x ∷ y ∷ []))
pair-stored out xs j x y e = rw add-one (sets_then out 0 (2 * j) xs (x ∷ y ∷ []) (sym e ∙ sym (zero-add (length xs))))

-- ---- the nibbles of a part of the bytes

nibble-drop : (bytes : List ℕ) (k a : ℕ) → nibble_at (drop k bytes) a ≡ nibble_at bytes (2 * k + a)
unfolding nibble_at
nibble-drop bytes k a =
    let e : (2 * k + a) % 2 ≡ a % 2 = omega arith in
    let f : (2 * k + a) / 2 ≡ k + a / 2 = omega arith in
    rw (e, f, get_or-drop k bytes (a / 2) 0)

nibbles-drop : (bytes : List ℕ) (k a n : ℕ) → nibbles_from (drop k bytes) a n ≡ nibbles_from bytes (2 * k + a) n
unfolding nibbles_from
nibbles-drop bytes k a zero = refl
nibbles-drop bytes k a (suc n) = rw (nibble-drop bytes k a, nibbles-drop bytes k (suc a) n, add-suc (2 * k) a)

nibble-take : (bytes : List ℕ) (p a : ℕ) → a < 2 * p → nibble_at (take p bytes) a ≡ nibble_at bytes a
unfolding nibble_at
nibble-take bytes p a h = let i : a / 2 < p = omega arith in rw (get_or-take p bytes (a / 2) 0 i)

nibbles-take : (bytes : List ℕ) (p a n : ℕ) → a + n ≤ 2 * p → nibbles_from (take p bytes) a n ≡ nibbles_from bytes a n
unfolding nibbles_from
nibbles-take bytes p a zero h = refl
nibbles-take bytes p a (suc n) h = rw (nibble-take bytes p a (omega arith), nibbles-take bytes p (suc a) n (omega arith))

module _ (bytes : List ℕ) (k n : ℕ) (c0 c1 : ℤ) (scale : ℕ) (h : History) where
  -- those from a byte on
  pub played-after : play_nibbles (drop k bytes) 0 n c0 c1 scale h ≡ play_nibbles bytes (2 * k) n c0 c1 scale h
  unfolding play_nibbles
  played-after = ap (decode_nibbles c0 c1 scale (decoded h [])) (nibbles-drop bytes k 0 n ∙ ap (λ (a : ℕ). nibbles_from bytes a n) (add-zero (2 * k)))

  -- those of the first bytes
  pub played-before : n ≤ 2 * k → play_nibbles (take k bytes) 0 n c0 c1 scale h ≡ play_nibbles bytes 0 n c0 c1 scale h
  unfolding play_nibbles
  played-before l = ap (decode_nibbles c0 c1 scale (decoded h [])) (nibbles-take bytes k 0 n (omega arith))

-- ---- as many nibbles as an output has room for

module _ (bytes : List ℕ) (out ys : List ℤ) (c0 c1 : ℤ) (scale : ℕ) (h after : History)
    (e : after ≡ (play_nibbles (take (length out / 2) bytes) 0 (length (take (2 * (length out / 2)) out)) c0 c1 scale h).history)
    (f : ys ≡ (play_nibbles (take (length out / 2) bytes) 0 (length (take (2 * (length out / 2)) out)) c0 c1 scale h).samples) where
  abbrev whole_bytes : Decoded
  whole_bytes = play_nibbles bytes 0 (2 * (length out / 2)) c0 c1 scale h

  abbrev all : Decoded
  all = play_nibbles bytes 0 (length out) c0 c1 scale h

  pairs-played : play_nibbles (take (length out / 2) bytes) 0 (length (take (2 * (length out / 2)) out)) c0 c1 scale h ≡ whole_bytes
  pairs-played =
      ap (λ (n : ℕ). play_nibbles (take (length out / 2) bytes) 0 n c0 c1 scale h) (length-take-le (2 * (length out / 2)) out (omega arith))
      ∙ played-before bytes (length out / 2) (2 * (length out / 2)) c0 c1 scale h (omega arith)

  pairs-count : length ys ≡ 2 * (length out / 2)
  pairs-count = ap length (f ∙ ap (λ (d : Decoded). d.samples) pairs-played) ∙ from-length bytes 0 c0 c1 scale h (2 * (length out / 2))

  -- where the last byte is whole
  pub even-played : length out % 2 ≡ 0 → (after ≡ all.history) × (ys ++ drop (2 * (length out / 2)) out ≡ all.samples)
  even-played z =
      let n : 2 * (length out / 2) ≡ length out = omega arith in
      let p : whole_bytes ≡ all = ap (λ (m : ℕ). play_nibbles bytes 0 m c0 c1 scale h) n in (
        e ∙ ap (λ (d : Decoded). d.history) (pairs-played ∙ p),
        rw (drop_of_length-le out {i = 2 * (length out / 2)} (omega arith)) (append-nil ys ∙ f ∙ ap (λ (d : Decoded). d.samples) (pairs-played ∙ p)),
      )

  -- where one nibble more is played
  pub odd-played : (length out % 2 ≡ 0 → ⊥) → (last : History) → last ≡ advanced c0 c1 scale after (get_or bytes (length out / 2) 0 / 16)
      → (last ≡ all.history) × (set (ys ++ drop (2 * (length out / 2)) out) (length out - 1) last.newest ≡ all.samples)
  odd-played z last g =
      let n : 2 * (length out / 2) + 1 ≡ length out = odd (length out) z in
      let k = pairs-count in
      let m = length-append ys (last.newest ∷ []) in
      let now : whole_bytes.history ≡ after = sym (e ∙ ap (λ (d : Decoded). d.history) pairs-played) in
      let p : all ≡ decoded last (whole_bytes.samples ++ (last.newest ∷ [])) = ap (λ (m : ℕ). play_nibbles bytes 0 m c0 c1 scale h) (sym n)
      ∙ high-more bytes (length out / 2) c0 c1 scale h after now last g in
      let q : whole_bytes.samples ≡ ys = sym (f ∙ ap (λ (d : Decoded). d.samples) pairs-played) in
      let j : length out - 1 ≡ length ys = omega arith in
      let i : drop (2 * (length out / 2)) out ≡ drop (length ys) out = ap (λ (m : ℕ). drop m out) (sym k) in (
        sym (ap (λ (d : Decoded). d.history) p),
        (
            rw (i, j, ← spread ys out (omega (arith, k, n)))
            (sets_then out 0 (length ys) ys (last.newest ∷ []) (sym (zero-add (length ys)))
            ∙ stored-whole out (ys ++ (last.newest ∷ [])) (omega (arith, k, n, m))
            ∙ ap (λ (xs : List ℤ). xs ++ (last.newest ∷ [])) (sym q) ∙ sym (ap (λ (d : Decoded). d.samples) p))
            ),
      )
    where
      odd : (n : ℕ) → (n % 2 ≡ 0 → ⊥) → 2 * (n / 2) + 1 ≡ n
      odd n z = omega arith

-- ---- a frame, by the pair and the scale that its header names

-- the two coefficients that a header names
abbrev pub first_of : List ℤ → ℕ → ℤ
first_of cs h = get_or cs (2 * predictor h) (pos 0)

abbrev pub second_of : List ℤ → ℕ → ℤ
second_of cs h = get_or cs (2 * predictor h + 1) (pos 0)

-- what is carried under a pair and a scale, with their header
abbrev pub playing_of : ℕ → Decoded → Playing
playing_of h r = playing (context_with h r.history) r.samples

pub nibbles-decoded : (cs : List ℤ) (h : ℕ) (r : Decoded) (ns : List ℕ) → foldl (take_nibble cs) (playing_of h r) ns ≡ playing_of h (decode_nibbles (first_of cs h) (second_of cs h) (scale h) r ns)
unfolding decode_nibbles decode_nibble take_nibble next_sample push_sample
nibbles-decoded cs h r [] = refl
nibbles-decoded cs h r (n ∷ ns) = nibbles-decoded cs h (decode_nibble (first_of cs h) (second_of cs h) (scale h) r n) ns

-- the same from a context
abbrev pub decoded_at : List ℕ → ℕ → ℕ → List ℤ → FrameContext → Decoded
decoded_at bytes a count cs c =
    let header = c.predictor_and_scale in
    play_nibbles bytes a count (first_of cs header) (second_of cs header) (scale header) c.last_samples

pub frame-decoded : (bytes : List ℕ) (at count : ℕ) (cs : List ℤ) (c : FrameContext)
    → play_frame bytes at count cs (playing c []) ≡ playing_of c.predictor_and_scale (decoded_at bytes (2 * at + 2) count cs c)
unfolding play_frame play_nibbles
frame-decoded bytes at count cs c = nibbles-decoded cs c.predictor_and_scale (decoded c.last_samples []) (nibbles_from bytes (2 * at + 2) count)

-- what the step leaves, from what the nibbles' call answers
pub frame-into : (bytes : List ℕ) (at count : ℕ) (cs : List ℤ) (c : FrameContext) (out : List ℤ) (to : ℕ) (h : History) (ys : List ℤ) → to + count ≤ length out
    → h ≡ (decoded_at bytes (2 * at + 2) count cs c).history → ys ≡ (decoded_at bytes (2 * at + 2) count cs c).samples
    → playing (context_with c.predictor_and_scale h) (put_mid to (to + count - to) out ys) ≡ into out to (play_frame bytes at count cs (playing c []))
frame-into bytes at count cs c out to h ys l e f =
    let header = c.predictor_and_scale in
    let k : to + count - to ≡ count = omega arith in
    let n = ap length f ∙ from-length bytes (2 * at + 2) (first_of cs header) (second_of cs header) (scale header) c.last_samples count in
    rw (frame-decoded bytes at count cs c, k, part-stored out ys to count n l, e, f)
