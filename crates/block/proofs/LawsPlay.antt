-- Laws of playing: by frames, by parts, lengths and ranges.
use mathlib.Core.Path.{◌≡◌, refl, sym, ap, ◌∙◌}
use mathlib.Core.List.{List, [], ◌∷◌, ◌++◌, foldl, append_assoc, append-nil}
use Prim.Native.Nat.{ℕ, zero, suc, ◌+◌, ◌-◌, ◌*◌, ◌/◌, ◌%◌, ◌≤◌, ◌<◌}
use native.Mathlib.Nat.{add-zero, zero-add, add-suc, suc-add}
use native.Mathlib.Omega.{arith}
use borrow.Author.Tests.{eq-eqb, ne_eqb}
use lib.IntN.{ℤ}
use lib.ListN.{length, get_or, length-append}
use lib.Seq.{sets}
use native.Mathlib.Numerals.{add-one}
use Rattle.block.specs.declared.FrameContext.{FrameContext}
use Rattle.block.specs.Address.{address_to_sample}
use Rattle.block.specs.Context.{with_header}
use Rattle.block.specs.Frame.{nibble_at, Playing, playing, take_nibble, into}
use Rattle.block.specs.inner.Frames.{nibbles_from, play_frame, play_frames}
use Rattle.block.specs.Play.{take_header, play_from, play, play_into}
use Rattle.whole.proofs.Stores.{sets_then}
use Rattle.block.proofs.LawsFrame.{nibbles-length}
use Rattle.block.proofs.LawsAddress.{frames-more, one-frame}

-- ---- one address

module _ (bytes : List ℕ) (cs : List ℤ) where
  pub at-sample : (a n : ℕ) (p : Playing) → 2 ≤ a % 16 → play_from bytes cs a (suc n) p ≡ play_from bytes cs (suc a) n (take_nibble cs p (nibble_at bytes a))
  unfolding play_from
  at-sample a zero p h = rw (ne_eqb (a % 16) 0 (λ e. omega arith))
  at-sample a (suc n) p h = rw (ne_eqb (a % 16) 0 (λ e. omega arith))

  pub at-header : (a n : ℕ) (p : Playing) → a % 16 ≡ 0 → play_from bytes cs a (suc n) p ≡ play_from bytes cs (2 + a) (n - 1) (take_header bytes a p)
  unfolding play_from
  at-header a zero p h = rw (eq-eqb (a % 16) 0 h)
  at-header a (suc n) p h = let e : suc n - 1 ≡ n = omega arith in rw (eq-eqb (a % 16) 0 h, e)

  -- ---- one frame

  -- m samples inside a frame
  pub in_frame : (a m n : ℕ) (p : Playing) → 2 ≤ a % 16 → a % 16 + m ≤ 16
      → play_from bytes cs a (m + n) p ≡ play_from bytes cs (a + m) n (foldl (take_nibble cs) p (nibbles_from bytes a m))
  unfolding nibbles_from
  in_frame a zero n p h k = rw (zero-add, add-zero)
  in_frame a (suc zero) n p h k = rw (suc-add, zero-add, at-sample a n p h, add-suc, add-zero)
  in_frame a (suc (suc m)) n p h k =
      rw suc-add (at-sample a (suc m + n) p h)
      ∙ in_frame (suc a) (suc m) n (take_nibble cs p (nibble_at bytes a)) (omega arith) (omega arith)
      ∙ rw (suc-add a (suc m), add-suc a (suc m))

  -- a whole frame and the next one's header
  pub turn : (at left : ℕ) (p : Playing) → at % 8 ≡ 0 → 16 < left
      → play_from bytes cs (2 * at + 2) (left - 2) p ≡ play_from bytes cs (2 * (at + 8) + 2) (left - 16 - 2) (take_header bytes (2 * (at + 8)) (play_frame bytes at 14 cs p))
  unfolding play_frame
  turn at left p h k =
      let e : left - 2 ≡ 14 + suc (left - 17) = omega arith in
      let f : 2 * at + 2 + 14 ≡ 2 * (at + 8) = omega arith in
      let g : left - 17 - 1 ≡ left - 16 - 2 = omega arith in
      let i : 2 + 2 * (at + 8) ≡ 2 * (at + 8) + 2 = omega arith in
      let q = foldl (take_nibble cs) p (nibbles_from bytes (2 * at + 2) 14) in
      ap (λ (n : ℕ). play_from bytes cs (2 * at + 2) n p) e
      ∙ in_frame (2 * at + 2) 14 (suc (left - 17)) p (omega arith) (omega arith)
      ∙ ap (λ (a : ℕ). play_from bytes cs a (suc (left - 17)) q) f
      ∙ at-header (2 * (at + 8)) (left - 17) q (omega arith)
      ∙ rw (g, i)

  -- the last frame
  pub last : (at left : ℕ) (p : Playing) → at % 8 ≡ 0 → left ≤ 16 → play_from bytes cs (2 * at + 2) (left - 2) p ≡ play_frame bytes at (left - 2) cs p
  unfolding play_frame play_from
  last at left p h k =
      ap (λ (n : ℕ). play_from bytes cs (2 * at + 2) n p) (sym (add-zero (left - 2)))
      ∙ in_frame (2 * at + 2) (left - 2) 0 p (omega arith) (omega arith)

  -- ---- playing is the repetition of the step

  -- k whole frames, each followed by the next one's header
  pub frames : (k n : ℕ) (p : Playing) → 0 < n
      → play_from bytes cs 2 (16 * k + n - 2) p ≡ play_from bytes cs (2 * (8 * k) + 2) (n - 2) (play_frames bytes cs k p)
  unfolding play_frames
  frames zero n p l =
      let e : 16 * 0 + n - 2 ≡ n - 2 = omega arith in
      rw e
  frames (suc k) n p l =
      let e : 16 * suc k + n - 2 ≡ 16 * k + (16 + n) - 2 = omega arith in
      let f : 16 + n - 16 - 2 ≡ n - 2 = omega arith in
      let g : 2 * (8 * k + 8) ≡ 16 * suc k = omega arith in
      let i : 2 * (8 * suc k) ≡ 16 * suc k = omega arith in
      ap (λ (m : ℕ). play_from bytes cs 2 m p) e
      ∙ frames k (16 + n) p (omega arith)
      ∙ turn (8 * k) (16 + n) (play_frames bytes cs k p) (omega arith) (omega arith)
      ∙ rw (f, g, i)

  -- a block of k frames and n nibbles more: k whole frames and the step for the rest
  pub repeats : (k n : ℕ) (c : FrameContext) → 0 < n → n ≤ 16
      → play bytes cs (16 * k + n) c ≡ play_frame bytes (8 * k) (n - 2) cs (play_frames bytes cs k (playing c []))
  unfolding play
  repeats k n c l m =
      frames k n (playing c []) l
      ∙ last (8 * k) n (play_frames bytes cs k (playing c [])) (omega arith) m

-- ---- the samples so far only grow

-- with samples before
abbrev pub onto : List ℤ → Playing → Playing
onto xs p = playing p.context (xs ++ p.samples)

pub nibbles-onto : (cs : List ℤ) (xs : List ℤ) (p : Playing) (ns : List ℕ) → foldl (take_nibble cs) (onto xs p) ns ≡ onto xs (foldl (take_nibble cs) p ns)
unfolding take_nibble
nibbles-onto cs xs p [] = refl
nibbles-onto cs xs p (n ∷ ns) = rw append_assoc (nibbles-onto cs xs (take_nibble cs p n) ns)

pub frame-onto : (bytes : List ℕ) (at n : ℕ) (cs : List ℤ) (xs : List ℤ) (p : Playing) → play_frame bytes at n cs (onto xs p) ≡ onto xs (play_frame bytes at n cs p)
unfolding play_frame
frame-onto bytes at n cs xs p = nibbles-onto cs xs p (nibbles_from bytes (2 * at + 2) n)

-- ---- lengths

pub nibbles-count : (cs : List ℤ) (p : Playing) (ns : List ℕ) → length (foldl (take_nibble cs) p ns).samples ≡ length p.samples + length ns
unfolding take_nibble
nibbles-count cs p [] = sym (add-zero (length p.samples))
nibbles-count cs p (n ∷ ns) = nibbles-count cs (take_nibble cs p n) ns ∙ simp length-append (omega arith)

pub frame-count : (bytes : List ℕ) (at n : ℕ) (cs : List ℤ) (p : Playing) → length (play_frame bytes at n cs p).samples ≡ length p.samples + n
unfolding play_frame
frame-count bytes at n cs p = nibbles-count cs p (nibbles_from bytes (2 * at + 2) n) ∙ ap (λ (k : ℕ). length p.samples + k) (nibbles-length bytes (2 * at + 2) n)

pub frames-count : (bytes : List ℕ) (cs : List ℤ) (k : ℕ) (p : Playing) → length (play_frames bytes cs k p).samples ≡ length p.samples + 14 * k
unfolding play_frames take_header
frames-count bytes cs zero p = omega arith
frames-count bytes cs (suc k) p =
    let e = frame-count bytes (8 * k) 14 cs (play_frames bytes cs k p) in
    let f = frames-count bytes cs k p in
    omega arith

-- a length is some whole frames and 1 to 16 nibbles more
module _ (len : ℕ) (h : 0 < len) where
  abbrev pub wholes : ℕ
  wholes = (len - 1) / 16

  abbrev pub rest : ℕ
  rest = suc ((len - 1) % 16)

  pub split : len ≡ 16 * wholes + rest
  split = omega arith

-- samples out = address_to_sample(length)
pub play-count : (bytes : List ℕ) (cs : List ℤ) (len : ℕ) (c : FrameContext) → 0 < len → length (play bytes cs len c).samples ≡ address_to_sample len
play-count bytes cs len c h =
    let k = wholes len h in
    let n = rest len h in
    let p = play_frames bytes cs k (playing c []) in
    let e = split len h in
    let f = frame-count bytes (8 * k) (n - 2) cs p in
    let g = frames-count bytes cs k (playing c []) in
    ap (λ (l : ℕ). length (play bytes cs l c).samples) e
    ∙ ap (λ (q : Playing). length q.samples) (repeats bytes cs k n c (omega arith) (omega arith))
    ∙ (let i : length (play_frame bytes (8 * k) (n - 2) cs p).samples ≡ 14 * k + (n - 2) = omega arith in i)
    ∙ sym (ap address_to_sample e ∙ frames-more k n ∙ ap (λ (x : ℕ). 14 * k + x) (one-frame n (omega arith)))

-- ---- the step writes on

-- the step after what was played so far: its samples are written after those
pub frame-after : (bytes : List ℕ) (at n : ℕ) (cs : List ℤ) (p : Playing) (out : List ℤ) (to : ℕ) → to ≡ length p.samples
    → into (sets out 0 p.samples) to (play_frame bytes at n cs (playing p.context [])) ≡ into out 0 (play_frame bytes at n cs p)
frame-after bytes at n cs p out to e =
    let f : play_frame bytes at n cs p ≡ onto p.samples (play_frame bytes at n cs (playing p.context [])) =
    ap (λ (xs : List ℤ). play_frame bytes at n cs (playing p.context xs)) (sym (append-nil p.samples)) ∙ frame-onto bytes at n cs p.samples (playing p.context []) in
    let q = play_frame bytes at n cs (playing p.context []) in
    rw f (ap (λ (o : List ℤ). playing q.context o) (sets_then out 0 to p.samples q.samples (e ∙ sym (zero-add (length p.samples)))))

-- a turn of the loop over frames
pub frame-turn : (bytes : List ℕ) (cs : List ℤ) (k : ℕ) (start : Playing) (now after : FrameContext) (out o o' : List ℤ) → length start.samples ≡ 0
    → (play_frames bytes cs k start).context ≡ now → o ≡ sets out 0 (play_frames bytes cs k start).samples → playing after o' ≡ into o (14 * k) (play_frame bytes (8 * k) 14 cs (playing now []))
    → ((play_frames bytes cs (k + 1) start).context ≡ with_header after (get_or bytes (8 * (k + 1)) 0)) × (o' ≡ sets out 0 (play_frames bytes cs (k + 1) start).samples)
unfolding play_frames take_header
frame-turn bytes cs k start now after out o o' z e f g =
    let p = play_frames bytes cs k start in
    let q = play_frame bytes (8 * k) 14 cs p in
    let l : 14 * k ≡ length p.samples = omega (arith, frames-count bytes cs k start) in
    let i : 16 * suc k / 2 ≡ 8 * suc k = omega arith in
    let h : playing after o' ≡ into out 0 q = (rw (← e, f) at g) ∙ frame-after bytes (8 * k) 14 cs p out (14 * k) l in
    (rw (add-one, i) (ap (λ (x : Playing). with_header x.context (get_or bytes (8 * suc k) 0)) (sym h)), rw add-one (ap (λ (x : Playing). x.samples) h))

-- the last frame after the loop
pub frame-end : (bytes : List ℕ) (cs : List ℤ) (k left : ℕ) (c now after : FrameContext) (out o o' : List ℤ) → 0 < left → left ≤ 16
    → (play_frames bytes cs k (playing c [])).context ≡ now → o ≡ sets out 0 (play_frames bytes cs k (playing c [])).samples
    → playing after o' ≡ into o (14 * k) (play_frame bytes (8 * k) (left - 2) cs (playing now []))
    → playing after o' ≡ play_into bytes cs (16 * k + left) c out
unfolding play_into
frame-end bytes cs k left c now after out o o' z m e f g =
    let p = play_frames bytes cs k (playing c []) in
    let l : 14 * k ≡ length p.samples = omega (arith, frames-count bytes cs k (playing c [])) in
    (rw (← e, f) at g) ∙ frame-after bytes (8 * k) (left - 2) cs p out (14 * k) l ∙ rw (repeats bytes cs k left c z m)
