-- The bytes that are still to be written, and what storing a frame and the mark do to buffers that differ in these alone.
use mathlib.Core.Path.{◌≡◌, refl, sym, ap, ◌∙◌, subst}
use mathlib.Core.Logic.{◌≢◌, ◌⊎◌, inl, inr}
use mathlib.Core.Bool.{Bool, true, false, cond}
use mathlib.Core.List.{List, [], ◌∷◌}
use Prim.Native.Nat.{ℕ, suc, ◌+◌, ◌*◌, ◌/◌, ◌%◌, ◌≤◌, ◌<◌}
use native.Mathlib.Decide.{dec_lt, ℕ_discrete}
use native.Mathlib.Nat.{div-add-mod', mul-mod_left, mul-div_cancel}
use native.Mathlib.Omega.{arith}
use borrow.Author.Tests.{eqb-true, eqb-false}
use lib.Dec.{eqb}
use lib.ListN.{length, get_or, set, length-set, get_or-eq_default}
use lib.Seq.{sets, length-sets, get_or-set_same, get_or-set_other}
use Rattle.whole.specs.Frames.{frame_count}
use Rattle.whole.specs.declared.History.{History}
use Rattle.layout.specs.Sizes.{loop_count, last_frame_samples, block_count, body_bytes, image_size, entry_place, bodies_place}
use Rattle.layout.specs.Fields.{mark}
use Rattle.clip.specs.Image.{context_bytes, loop_bytes}
use Rattle.layout.specs.Sizes.{frame_place, context_place}
use Rattle.clip.specs.Encoding.{store, ended}
use Rattle.clip.specs.Undo.{Unwritten, marked, body, context, looping}
use Rattle.layout.specs.declared.Shape.{Shape}
use Rattle.layout.specs.declared.Loop.{Loop}
use Rattle.block.specs.declared.FrameContext.{FrameContext}
use Rattle.layout.specs.Limits.{Limits}
use Rattle.layout.proofs.SizeLaws.{block-first, first_block}
use Rattle.clip.proofs.FieldRuns.{loop-length}

pub unwritten-earlier : (s : Shape) (q r i : ℕ) → q ≤ r → Unwritten s r i → Unwritten s q i
unwritten-earlier s q r i h (marked l) = marked l
unwritten-earlier s q r i h (body lo hi) = body (omega arith) hi
unwritten-earlier s q r i h (context j lt le lo hi) = context j lt (omega arith) lo hi
unwritten-earlier s q r i h (looping lo hi) = looping lo hi

-- nothing is unwritten past the image
pub unwritten-within : (s : Shape) (q i : ℕ) → Unwritten s q i → i < image_size s
unfolding image_size block_count body_bytes frame_count last_frame_samples
unwritten-within s q i (marked l) = omega arith
unwritten-within s q i (body lo hi) = hi
unwritten-within s q i (context j lt le lo hi) = omega arith
unwritten-within s q i (looping lo hi) = omega arith

-- with all frames encoded only the mark and the entry of a loop are unwritten
body-most : (n : ℕ) → 1 ≤ n → body_bytes n ≤ 8 * frame_count n
unfolding body_bytes last_frame_samples frame_count
body-most n h = omega arith

unwritten-last : (s : Shape) (i : ℕ) → Limits s → Unwritten s (frame_count s.total) i → (i < 4) ⊎ ((entry_place (block_count s) ≤ i) × (i < bodies_place s))
unfolding image_size block_count body_bytes frame_count last_frame_samples
unwritten-last s i L (marked l) = inl l
unwritten-last s i L (body lo hi) = absurd (omega (arith, body-most s.total L.some))
unwritten-last s i L (context j lt le lo hi) = absurd (omega (arith, block-first s j L lt))
unwritten-last s i L (looping lo hi) = inr (lo, hi)

-- ---- the same bytes stored in two buffers of one length

both-set : (l m : List ℕ) (p i x : ℕ) → length l ≡ length m → (i ≢ p → get_or l i 0 ≡ get_or m i 0) → get_or (set l p x) i 0 ≡ get_or (set m p x) i 0
both-set l m p i x e h = go (ℕ_discrete i p)
  where
    here : Dec (p < length l) → get_or (set l p x) p 0 ≡ get_or (set m p x) p 0
    here (yes k) = get_or-set_same l p x 0 k ∙ sym (get_or-set_same m p x 0 (omega arith))
    here (no n) = get_or-eq_default (set l p x) 0 (omega (arith, length-set l p x)) ∙ sym (get_or-eq_default (set m p x) 0 (omega (arith, length-set m p x)))

    go : Dec (i ≡ p) → get_or (set l p x) i 0 ≡ get_or (set m p x) i 0
    go (yes q) = subst (λ (k : ℕ). get_or (set l p x) k 0 ≡ get_or (set m p x) k 0) (sym q) (here (dec_lt p (length l)))
    go (no n) = get_or-set_other l p i x 0 n ∙ h n ∙ sym (get_or-set_other m p i x 0 n)

-- they agree where they agreed, and where bytes were stored
pub both-sets : (v l m : List ℕ) (p i : ℕ) → length l ≡ length m → (get_or l i 0 ≡ get_or m i 0) ⊎ ((p ≤ i) × (i < p + length v)) → get_or (sets l p v) i 0 ≡ get_or (sets m p v) i 0
both-sets [] l m p i e (inl q) = q
both-sets [] l m p i e (inr w) = absurd (let a = w.0 in let b = w.1 in omega arith)
both-sets (x ∷ v) l m p i e c = both-sets v (set l p x) (set m p x) (suc p) i (length-set l p x ∙ e ∙ sym (length-set m p x)) (go c (ℕ_discrete i p))
  where
    go : (get_or l i 0 ≡ get_or m i 0) ⊎ ((p ≤ i) × (i < p + length (x ∷ v))) → Dec (i ≡ p) → (get_or (set l p x) i 0 ≡ get_or (set m p x) i 0) ⊎ ((suc p ≤ i) × (i < suc p + length v))
    go (inl q) d = inl (both-set l m p i x e (λ n. q))
    go (inr w) (yes q) = inl (both-set l m p i x e (λ n. absurd (n q)))
    go (inr w) (no n) = let a = w.0 in let b = w.1 in inr (omega arith, omega arith)

-- bytes are left as they were, but where some were stored
pub sets-leave : (v l : List ℕ) (p i : ℕ) → (get_or l i 0 ≡ get_or (sets l p v) i 0) ⊎ ((p ≤ i) × (i < p + length v))
sets-leave [] l p i = inl refl
sets-leave (x ∷ v) l p i = go (sets-leave v (set l p x) (suc p) i) (ℕ_discrete i p)
  where
    go : (get_or (set l p x) i 0 ≡ get_or (sets (set l p x) (suc p) v) i 0) ⊎ ((suc p ≤ i) × (i < suc p + length v)) → Dec (i ≡ p)
        → (get_or l i 0 ≡ get_or (sets (set l p x) (suc p) v) i 0) ⊎ ((p ≤ i) × (i < p + length (x ∷ v)))
    go c (yes q) = inr (omega arith, omega arith)
    go (inl q) (no n) = inl (sym (get_or-set_other l p i x 0 n) ∙ q)
    go (inr w) (no n) = let a = w.0 in let b = w.1 in inr (omega arith, omega arith)

-- ---- a frame is stored

module _ (s : Shape) (q : ℕ) (v : List ℕ) (h : History) where
  abbrev place : ℕ
  place = frame_place s q

  abbrev first : ℕ
  first = context_place (q / (s.block / 8))

  abbrev fields : List ℕ
  fields = context_bytes (get_or v 0 0) h

  abbrev stored : Bool → List ℕ → List ℕ
  stored t l = cond t (sets (sets l place v) first fields) (sets l place v)

  module _ (l m : List ℕ) (i : ℕ) (e : length l ≡ length m) where
    lengths : length (sets l place v) ≡ length (sets m place v)
    lengths = length-sets l place v ∙ e ∙ sym (length-sets m place v)

    pub store_same : (get_or l i 0 ≡ get_or m i 0) ⊎ ((place ≤ i) × (i < place + length v)) → get_or (store s q v h l) i 0 ≡ get_or (store s q v h m) i 0
    unfolding store
    store_same c = go (eqb (q % (s.block / 8)) 0)
      where
        go : (t : Bool) → get_or (stored t l) i 0 ≡ get_or (stored t m) i 0
        go true = both-sets fields (sets l place v) (sets m place v) first i lengths (inl (both-sets v l m place i e c))
        go false = both-sets v l m place i e c

    store-context : q % (s.block / 8) ≡ 0 → first ≤ i → i < first + 6 → get_or (store s q v h l) i 0 ≡ get_or (store s q v h m) i 0
    unfolding store
    store-context z lo hi = go (eqb (q % (s.block / 8)) 0) refl
      where
        go : (t : Bool) → eqb (q % (s.block / 8)) 0 ≡ t → get_or (stored t l) i 0 ≡ get_or (stored t m) i 0
        go true p = both-sets fields (sets l place v) (sets m place v) first i lengths (inr (lo, hi))
        go false p = absurd (eqb-false (q % (s.block / 8)) 0 p z)

    -- a frame's bytes, and the context of the block that it is the first of, are written then
    pub store-unwritten : 8 ≤ s.block → (length v ≡ 8) ⊎ (8 * q + length v ≡ body_bytes s.total) → Unwritten s q i → (get_or (store s q v h l) i 0 ≡ get_or (store s q v h m) i 0)
        ⊎ Unwritten s (suc q) i
    unfolding image_size block_count body_bytes frame_count last_frame_samples
    store-unwritten w k (marked lt) = inr (marked lt)
    store-unwritten w k (body lo hi) = go (dec_lt i (place + length v)) k
      where
        go : Dec (i < place + length v) → (length v ≡ 8) ⊎ (8 * q + length v ≡ body_bytes s.total) → (get_or (store s q v h l) i 0 ≡ get_or (store s q v h m) i 0) ⊎ Unwritten s (suc q) i
        go (yes lt) c = inl (store_same (inr (lo, lt)))
        go (no ge) (inl eight) = inr (body (omega arith) hi)
        go (no ge) (inr all) = absurd (omega arith)
    store-unwritten w k (context j lt le lo hi) = go (ℕ_discrete (j * (s.block / 8)) q)
      where
        some : 0 < s.block / 8
        some = omega arith

        at : j * (s.block / 8) ≡ q → q / (s.block / 8) ≡ j
        at p = ap (λ (a : ℕ). a / (s.block / 8)) (sym p) ∙ mul-div_cancel j some

        go : Dec (j * (s.block / 8) ≡ q) → (get_or (store s q v h l) i 0 ≡ get_or (store s q v h m) i 0) ⊎ Unwritten s (suc q) i
        go (yes p) =
            let a = at p in
            inl (store-context (ap (λ (a : ℕ). a % (s.block / 8)) (sym p)
            ∙ mul-mod_left j (s.block / 8)) (subst (λ (a : ℕ). context_place a ≤ i) (sym a) lo) (subst (λ (a : ℕ). i < context_place a + 6) (sym a) hi))
        go (no p) = inr (context j lt (omega arith) lo hi)
    store-unwritten w k (looping lo hi) = inr (looping lo hi)

  -- what storing writes was unwritten
  pub store-leaves : Limits s → q < frame_count s.total → 8 * q + length v ≤ body_bytes s.total → (l : List ℕ) (i : ℕ) → (get_or l i 0 ≡ get_or (store s q v h l) i 0) ⊎ Unwritten s q i
  unfolding store image_size block_count body_bytes frame_count last_frame_samples
  store-leaves L lt room l i = go (eqb (q % (s.block / 8)) 0) refl
    where
      within : i < place + length v → i < image_size s
      within k = omega arith

      frame : (get_or l i 0 ≡ get_or (sets l place v) i 0) ⊎ Unwritten s q i
      frame = elim (sets-leave v l place i) [ inl p ↦ inl p | inr w ↦ inr (body w.0 (within w.1)) ]

      go : (t : Bool) → eqb (q % (s.block / 8)) 0 ≡ t → (get_or l i 0 ≡ get_or (stored t l) i 0) ⊎ Unwritten s q i
      go true p =
          let z = eqb-true (q % (s.block / 8)) 0 p in
          let d : q ≤ q / (s.block / 8) * (s.block / 8) = omega (arith, div-add-mod' q (s.block / 8)) in
          elim (sets-leave fields (sets l place v) first i) [
            | inl e ↦ elim frame [ inl f ↦ inl (f ∙ e) | inr w ↦ inr w ]
            | inr w ↦ inr (context (q / (s.block / 8)) (first_block s q L lt z) d w.0 w.1)
          ]
      go false p = frame

-- ---- the entry of a loop and the mark are written

module _ (s : Shape) (p : Loop) (c : FrameContext) (x : s.extra ≡ loop_count p) where
  abbrev at : ℕ
  at = entry_place (block_count s)

  abbrev v : List ℕ
  v = loop_bytes p c

  pub ended-length : (l : List ℕ) → length (ended s p c l) ≡ length l
  unfolding ended
  ended-length l = length-sets (sets l at v) 0 mark ∙ length-sets l at v

  pub ended_same : Limits s → (l m : List ℕ) (i : ℕ) → length l ≡ length m → (get_or l i 0 ≡ get_or m i 0) ⊎ Unwritten s (frame_count s.total) i
      → get_or (ended s p c l) i 0 ≡ get_or (ended s p c m) i 0
  unfolding ended
  ended_same L l m i e d = both-sets mark (sets l at v) (sets m at v) 0 i (length-sets l at v ∙ e ∙ sym (length-sets m at v)) (go d)
    where
      go : (get_or l i 0 ≡ get_or m i 0) ⊎ Unwritten s (frame_count s.total) i → (get_or (sets l at v) i 0 ≡ get_or (sets m at v) i 0) ⊎ ((0 ≤ i) × (i < 0 + length mark))
      go (inl q) = inl (both-sets v l m at i e (inl q))
      go (inr w) = elim (unwritten-last s i L w) [ inl k ↦ inr (omega arith, k) | inr k ↦ inl (both-sets v l m at i e (inr (k.0, let h = k.1 in omega (arith, loop-length p c)))) ]

  pub ended-leaves : (q : ℕ) (l : List ℕ) (i : ℕ) → (get_or l i 0 ≡ get_or (ended s p c l) i 0) ⊎ Unwritten s q i
  unfolding ended
  ended-leaves q l i =
      elim (sets-leave mark (sets l at v) 0 i) [
        | inl e ↦ elim (sets-leave v l at i) [ inl f ↦ inl (f ∙ e) | inr w ↦ inr (looping w.0 (let h = w.1 in omega (arith, loop-length p c))) ]
        | inr w ↦ inr (marked w.1)
      ]
