-- Laws of playing a part: what is read, bytes before and after, a block cut at a frame's start.
use mathlib.Core.Path.{◌≡◌, refl, sym, ap, ◌∙◌, subst}
use mathlib.Core.Bool.{Bool, true, false, cond}
use mathlib.Core.List.{List, [], ◌++◌, append_assoc, append-nil}
use mathlib.Core.Logic.{◌⊎◌, inl, inr, ⊎_elim}
use Prim.Native.Nat.{ℕ, zero, suc, ◌+◌, ◌-◌, ◌*◌, ◌/◌, ◌%◌, ◌≤◌, ◌<◌}
use native.Mathlib.Nat.{add-zero, zero-add, add-suc, suc-add}
use native.Mathlib.Omega.{arith}
use lib.Dec.{eqb}
use borrow.Author.Tests.{eqb-true, eqb-false}
use lib.IntN.{ℤ}
use lib.ListN.{length, get_or, drop, get_or-append}
use lib.Seq.{get_or-drop, drop-append_seam, get_or-append-add}
use Rattle.block.specs.declared.FrameContext.{FrameContext}
use Rattle.block.specs.Context.{with_header}
use Rattle.block.specs.Frame.{nibble_at, Playing, playing, take_nibble}
use Rattle.block.specs.inner.Frames.{nibbles_from, play_frame, play_frames}
use Rattle.block.specs.Play.{take_header, play_from, play}
use Rattle.block.proofs.LawsPlay.{onto, at-sample, at-header, frames, repeats}

cond_both : {A : Type 0} (t : Bool) {x y u v : A} → x ≡ u → y ≡ v → cond t x y ≡ cond t u v
cond_both true p q = p
cond_both false p q = q

cond-ap : {A B : Type 0} (f : A → B) (t : Bool) (x y : A) → f (cond t x y) ≡ cond t (f x) (f y)
cond-ap f true x y = refl
cond-ap f false x y = refl

pub none : (bytes : List ℕ) (cs : List ℤ) (a : ℕ) (p : Playing) → play_from bytes cs a 0 p ≡ p
unfolding play_from
none bytes cs a p = refl

-- an address is a header's first nibble or a sample's, or a header's second
pub starts : (a : ℕ) → (a % 16 ≡ 1 → ⊥) → (a % 16 ≡ 0) ⊎ (2 ≤ a % 16)
starts a h = go (eqb (a % 16) 0) refl
  where
    two : (n : ℕ) → (n ≡ 0 → ⊥) → (n ≡ 1 → ⊥) → 2 ≤ n
    two n p q = omega arith

    go : (t : Bool) → eqb (a % 16) 0 ≡ t → (a % 16 ≡ 0) ⊎ (2 ≤ a % 16)
    go true e = inl (eqb-true (a % 16) 0 e)
    go false e = inr (two (a % 16) (eqb-false (a % 16) 0 e) h)

-- ---- samples before

pub from-onto : (bytes : List ℕ) (cs : List ℤ) (xs : List ℤ) (a n : ℕ) (p : Playing) → play_from bytes cs a n (onto xs p) ≡ onto xs (play_from bytes cs a n p)
unfolding play_from take_header take_nibble
from-onto bytes cs xs a zero p = refl
from-onto bytes cs xs a (suc zero) p =
    cond_both (eqb (a % 16) 0) refl (rw append_assoc)
    ∙ sym (cond-ap (onto xs) (eqb (a % 16) 0) (take_header bytes a p) (take_nibble cs p (nibble_at bytes a)))
from-onto bytes cs xs a (suc (suc n)) p =
    cond_both (eqb (a % 16) 0)
    (from-onto bytes cs xs (2 + a) n (take_header bytes a p))
    (rw append_assoc (from-onto bytes cs xs (suc a) (suc n) (take_nibble cs p (nibble_at bytes a))))
    ∙ sym (cond-ap (onto xs) (eqb (a % 16) 0) (play_from bytes cs (2 + a) n (take_header bytes a p)) (play_from bytes cs (suc a) (suc n) (take_nibble cs p (nibble_at bytes a))))

-- ---- bytes after are not read

module _ (xs ys : List ℕ) where
  at_before : (a : ℕ) → suc a ≤ 2 * length xs → get_or (xs ++ ys) (a / 2) 0 ≡ get_or xs (a / 2) 0
  at_before a h = get_or-append xs ys 0 (a / 2) (omega arith)

  nibble-before : (a : ℕ) → suc a ≤ 2 * length xs → nibble_at (xs ++ ys) a ≡ nibble_at xs a
  unfolding nibble_at
  nibble-before a h = rw (at_before a h)

  header-before : (a : ℕ) (p : Playing) → suc a ≤ 2 * length xs → take_header (xs ++ ys) a p ≡ take_header xs a p
  unfolding take_header
  header-before a p h = rw (at_before a h)

  pub from-before : (cs : List ℤ) (a n : ℕ) (p : Playing) → a + n ≤ 2 * length xs → play_from (xs ++ ys) cs a n p ≡ play_from xs cs a n p
  unfolding play_from
  from-before cs a zero p h = refl
  from-before cs a (suc zero) p h =
      let l : suc a ≤ 2 * length xs = omega arith in
      cond_both (eqb (a % 16) 0) (header-before a p l) (ap (take_nibble cs p) (nibble-before a l))
  from-before cs a (suc (suc n)) p h =
      let l : suc a ≤ 2 * length xs = omega arith in
      cond_both (eqb (a % 16) 0)
      (from-before cs (2 + a) n (take_header (xs ++ ys) a p) (omega arith) ∙ ap (play_from xs cs (2 + a) n) (header-before a p l))
      (from-before cs (suc a) (suc n) (take_nibble cs p (nibble_at (xs ++ ys) a)) (omega arith) ∙ ap (λ (b : ℕ). play_from xs cs (suc a) (suc n) (take_nibble cs p b)) (nibble-before a l))

  pub play-before : (cs : List ℤ) (len : ℕ) (c : FrameContext) → len ≤ 2 * length xs → play (xs ++ ys) cs len c ≡ play xs cs len c
  unfolding play play_from
  play-before cs len c h = go len h
    where
      go : (len : ℕ) → len ≤ 2 * length xs → play_from (xs ++ ys) cs 2 (len - 2) (playing c []) ≡ play_from xs cs 2 (len - 2) (playing c [])
      go zero h = refl
      go (suc zero) h = refl
      go (suc (suc n)) h = from-before cs 2 (suc (suc n) - 2) (playing c []) (omega arith)

-- ---- bytes before are not read

module _ (bytes : List ℕ) (j : ℕ) where
  at_after : (a : ℕ) → get_or (drop (8 * j) bytes) (a / 2) 0 ≡ get_or bytes ((16 * j + a) / 2) 0
  at_after a =
      let e : 8 * j + a / 2 ≡ (16 * j + a) / 2 = omega arith in
      get_or-drop (8 * j) bytes (a / 2) 0 ∙ ap (λ (i : ℕ). get_or bytes i 0) e

  nibble-after : (a : ℕ) → nibble_at (drop (8 * j) bytes) a ≡ nibble_at bytes (16 * j + a)
  unfolding nibble_at
  nibble-after a =
      let e : (16 * j + a) % 2 ≡ a % 2 = omega arith in
      rw (at_after a, e)

  header-after : (a : ℕ) (p : Playing) → take_header (drop (8 * j) bytes) a p ≡ take_header bytes (16 * j + a) p
  unfolding take_header
  header-after a p = rw (at_after a)

  pub from-after : (cs : List ℤ) (a n : ℕ) (p : Playing) → play_from (drop (8 * j) bytes) cs a n p ≡ play_from bytes cs (16 * j + a) n p
  unfolding play_from
  from-after cs a zero p = refl
  from-after cs a (suc zero) p =
      let e : (16 * j + a) % 16 ≡ a % 16 = omega arith in
      rw e (cond_both (eqb (a % 16) 0) (header-after a p) (ap (take_nibble cs p) (nibble-after a)))
  from-after cs a (suc (suc n)) p =
      let e : (16 * j + a) % 16 ≡ a % 16 = omega arith in
      let f : 16 * j + (2 + a) ≡ 2 + (16 * j + a) = omega arith in
      rw e (cond_both (eqb (a % 16) 0)
      (from-after cs (2 + a) n (take_header (drop (8 * j) bytes) a p)
      ∙ ap (play_from bytes cs (16 * j + (2 + a)) n) (header-after a p)
      ∙ ap (λ (b : ℕ). play_from bytes cs b n (take_header bytes (16 * j + a) p)) f)
      (from-after cs (suc a) (suc n) (take_nibble cs p (nibble_at (drop (8 * j) bytes) a))
      ∙ ap (λ (b : ℕ). play_from bytes cs (16 * j + suc a) (suc n) (take_nibble cs p b)) (nibble-after a)
      ∙ ap (λ (b : ℕ). play_from bytes cs b (suc n) (take_nibble cs p (nibble_at bytes (16 * j + a)))) (add-suc (16 * j) a)))

-- ---- a block cut at a frame's start

-- one part played, then another
abbrev pub followed : Playing → Playing → Playing
followed p q = playing q.context (p.samples ++ q.samples)

-- k whole frames and the next one's header are the block of k frames, and that header
pub frames-play : (bytes : List ℕ) (cs : List ℤ) (k : ℕ) (c : FrameContext) → 0 < k → play_frames bytes cs k (playing c []) ≡ take_header bytes (16 * k) (play bytes cs (16 * k) c)
unfolding play_frames
frames-play bytes cs zero c h = absurd (omega arith)
frames-play bytes cs (suc k) c h =
    let e : 16 * suc k ≡ 16 * k + 16 = omega arith in
    let f : play bytes cs (16 * suc k) c ≡ play_frame bytes (8 * k) 14 cs (play_frames bytes cs k (playing c [])) =
    ap (λ (n : ℕ). play bytes cs n c) e ∙ repeats bytes cs k 16 c (omega arith) (omega arith) in
    ap (take_header bytes (16 * suc k)) (sym f)

-- what is played after k whole frames is the rest of the bytes, played from the context then
pub frames-then : (bytes : List ℕ) (cs : List ℤ) (k n : ℕ) (c : FrameContext) → 0 < n
    → play bytes cs (16 * k + n) c ≡ (let r = play_frames bytes cs k (playing c []) in followed r (play (drop (8 * k) bytes) cs n r.context))
unfolding play
frames-then bytes cs k n c l =
    let r = play_frames bytes cs k (playing c []) in
    let f : 2 * (8 * k) + 2 ≡ 16 * k + 2 = omega arith in
    let g : r ≡ onto r.samples (playing r.context []) = ap (λ (xs : List ℤ). playing r.context xs) (sym (append-nil r.samples)) in
    frames bytes cs k n (playing c []) l
    ∙ ap (λ (a : ℕ). play_from bytes cs a (n - 2) r) f
    ∙ sym (from-after bytes k cs 2 (n - 2) r)
    ∙ ap (play_from (drop (8 * k) bytes) cs 2 (n - 2)) g
    ∙ from-onto (drop (8 * k) bytes) cs r.samples 2 (n - 2) (playing r.context [])

-- the second part starts from the first one's final context, with its own first header
pub cut : (bytes : List ℕ) (cs : List ℤ) (k n : ℕ) (c : FrameContext) → 0 < k → 0 < n
    → play bytes cs (16 * k + n) c ≡ (let p = play bytes cs (16 * k) c in followed p (play (drop (8 * k) bytes) cs n (with_header p.context (get_or bytes (8 * k) 0))))
unfolding take_header
cut bytes cs k n c h l =
    let e : 16 * k / 2 ≡ 8 * k = omega arith in
    frames-then bytes cs k n c l ∙ rw (frames-play bytes cs k c h, e)

-- exported: a header is taken even where no sample follows it
pub header-alone : (bytes : List ℕ) (cs : List ℤ) (k : ℕ) (c : FrameContext) → 0 < k → play bytes cs (16 * k + 1) c ≡ take_header bytes (16 * k) (play bytes cs (16 * k) c)
unfolding play_frame nibbles_from
header-alone bytes cs k c h = repeats bytes cs k 1 c (omega arith) (omega arith) ∙ frames-play bytes cs k c h

-- exported: two blocks' bytes joined, the first of whole frames, play as the first and then the second from where the first ends
pub join-plays : (first second : List ℕ) (cs : List ℤ) (k n : ℕ) (c : FrameContext) → length first ≡ 8 * k → 0 < k → 0 < n
    → play (first ++ second) cs (16 * k + n) c ≡ (let p = play first cs (16 * k) c in followed p (play second cs n (with_header p.context (get_or second 0 0))))
join-plays first second cs k n c e h l =
    let d : drop (8 * k) (first ++ second) ≡ second = rw (← e) (drop-append_seam first second) in
    let g : get_or (first ++ second) (8 * k) 0 ≡ get_or second 0 0 = rw (← e) (ap (λ (i : ℕ). get_or (first ++ second) i 0) (sym (add-zero (length first))) ∙ get_or-append-add first second 0 0) in
    cut (first ++ second) cs k n c h l ∙ rw (d, g, play-before first second cs (16 * k) c (omega arith))

-- ---- playing on

module _ (bytes : List ℕ) (cs : List ℤ) (n : ℕ) where
  abbrev Joins : ℕ → ℕ → Playing → Type 0
  Joins m a p = play_from bytes cs a (m + n) p ≡ play_from bytes cs (a + m) n (play_from bytes cs a m p)

  more-sample : (m a : ℕ) (p : Playing) → 2 ≤ a % 16 → Joins m (suc a) (take_nibble cs p (nibble_at bytes a)) → Joins (suc m) a p
  more-sample m a p h i =
      let q = take_nibble cs p (nibble_at bytes a) in
      ap (λ (j : ℕ). play_from bytes cs a j p) (suc-add m n)
      ∙ at-sample bytes cs a (m + n) p h
      ∙ i
      ∙ ap (λ (j : ℕ). play_from bytes cs j n (play_from bytes cs (suc a) m q)) (suc-add a m ∙ sym (add-suc a m))
      ∙ ap (play_from bytes cs (a + suc m) n) (sym (at-sample bytes cs a m p h))

  more-header : (m a : ℕ) (p : Playing) → a % 16 ≡ 0 → Joins m (2 + a) (take_header bytes a p) → Joins (suc (suc m)) a p
  more-header m a p h i =
      let e : suc m + n - 1 ≡ m + n = omega arith in
      let f : suc m - 1 ≡ m = omega arith in
      let g : 2 + a + m ≡ a + suc (suc m) = omega arith in
      let q = take_header bytes a p in
      ap (λ (j : ℕ). play_from bytes cs a j p) (suc-add (suc m) n)
      ∙ at-header bytes cs a (suc m + n) p h
      ∙ ap (λ (j : ℕ). play_from bytes cs (2 + a) j q) e
      ∙ i
      ∙ ap (λ (j : ℕ). play_from bytes cs j n (play_from bytes cs (2 + a) m q)) g
      ∙ ap (λ (j : ℕ). play_from bytes cs (a + suc (suc m)) n (play_from bytes cs (2 + a) j q)) (sym f)
      ∙ ap (play_from bytes cs (a + suc (suc m)) n) (sym (at-header bytes cs a (suc m) p h))

  -- n addresses more, where no stop is between the two nibbles of a header
  pub from_more : (m a : ℕ) (p : Playing) → (a % 16 ≡ 1 → ⊥) → ((a + m) % 16 ≡ 1 → ⊥) → Joins m a p
  from_more zero a p h k = rw (zero-add n, add-zero a, none bytes cs a p)
  from_more (suc zero) a p h k =
      ⊎_elim
      (λ e. absurd (k (omega arith)))
      (λ e. more-sample zero a p e (from_more zero (suc a) (take_nibble cs p (nibble_at bytes a)) (λ i. omega arith) (λ i. omega arith)))
      (starts a h)
  from_more (suc (suc m)) a p h k =
      let f : suc a + suc m ≡ a + suc (suc m) = omega arith in
      let g : 2 + a + m ≡ a + suc (suc m) = omega arith in
      ⊎_elim
      (λ e. more-header m a p e (from_more m (2 + a) (take_header bytes a p) (λ i. omega arith) (λ i. k (subst (λ (j : ℕ). j % 16 ≡ 1) g i))))
      (λ e. more-sample (suc m) a p e (from_more (suc m) (suc a) (take_nibble cs p (nibble_at bytes a)) (λ i. omega arith) (λ i. k (subst (λ (j : ℕ). j % 16 ≡ 1) f i))))
      (starts a h)

-- a longer length plays on from where a shorter one stops
pub play-on : (bytes : List ℕ) (cs : List ℤ) (m n : ℕ) (c : FrameContext) → 2 ≤ m → (m % 16 ≡ 1 → ⊥) → play bytes cs (m + n) c ≡ play_from bytes cs m n (play bytes cs m c)
unfolding play
play-on bytes cs m n c h k =
    let e : m + n - 2 ≡ m - 2 + n = omega arith in
    let f : 2 + (m - 2) ≡ m = omega arith in
    ap (λ (j : ℕ). play_from bytes cs 2 j (playing c [])) e
    ∙ from_more bytes cs n (m - 2) 2 (playing c []) (λ i. omega arith) (λ i. k (subst (λ (j : ℕ). j % 16 ≡ 1) f i))
    ∙ ap (λ (j : ℕ). play_from bytes cs j n (play_from bytes cs 2 (m - 2) (playing c []))) f

-- exported: what a shorter length plays is a beginning of what a longer one plays
pub play-begins : (bytes : List ℕ) (cs : List ℤ) (m n : ℕ) (c : FrameContext) → 2 ≤ m → (m % 16 ≡ 1 → ⊥)
    → (play bytes cs (m + n) c).samples ≡ (play bytes cs m c).samples ++ (play_from bytes cs m n (playing (play bytes cs m c).context [])).samples
play-begins bytes cs m n c h k =
    let p = play bytes cs m c in
    let g : p ≡ onto p.samples (playing p.context []) = ap (λ (xs : List ℤ). playing p.context xs) (sym (append-nil p.samples)) in
    ap (λ (q : Playing). q.samples) (play-on bytes cs m n c h k ∙ ap (play_from bytes cs m n) g ∙ from-onto bytes cs p.samples m n (playing p.context []))
