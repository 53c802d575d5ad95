-- Two buffers that a state goes on with alike: what one sample, a piece and the end do to them.
use mathlib.Core.Path.{◌≡◌, refl, sym, ap, ◌∙◌, subst}
use mathlib.Core.Logic.{◌≢◌, ◌⊎◌, inl, inr}
use mathlib.Core.Bool.{Bool, true, false, cond}
use mathlib.Core.List.{List, [], ◌∷◌}
use Prim.Native.Nat.{ℕ, suc, ◌+◌, ◌-◌, ◌*◌, ◌/◌, ◌%◌, ◌≤◌, ◌<◌}
use native.Mathlib.Omega.{arith}
use borrow.Author.Tests.{eqb-true, eqb-false}
use lib.Dec.{eqb}
use lib.IntN.{ℤ, pos}
use lib.ListN.{length, get_or, take, drop, set, replicate, length-drop}
use lib.Seq.{sets, length-take-le, get_or-drop, ext_get_or}
use Rattle.std.proofs.lemmas.Bool.{false≢true}
use Rattle.whole.specs.Frames.{frame_count}
use Rattle.frame.specs.Frame.{encode_frame, history_after}
use Rattle.frame.specs.declared.EncodedFrame.{EncodedFrame}
use Rattle.frame.proofs.LawsEncoded.{frame-lengths}
use Rattle.clip.specs.declared.Encoder.{Encoder}
use Rattle.layout.specs.Sizes.{last_frame_samples, body_bytes, image_size}
use Rattle.block.specs.declared.FrameContext.{FrameContext}
use Rattle.clip.specs.Encoding.{encoder_shape, Left, left, store, loop_context, ended, moved, no_frame, push, feed_all, finish}
use Rattle.layout.specs.Limits.{Limits}
use Rattle.clip.specs.Undo.{Unwritten, ToWrite, SameSoFar}
use Rattle.clip.proofs.Storing.{full-frame}
use Rattle.clip.proofs.Pieces.{store_length}
use Rattle.clip.proofs.UnwrittenBytes.{unwritten-earlier, unwritten-within, store_same, store-unwritten, store-leaves, ended-length, ended_same, ended-leaves}

pub agree_refl : (e : Encoder) (l : List ℕ) → SameSoFar e l l
agree_refl e l = record { size = refl; bytes = λ i. inl refl }

pub agree_trans : (e : Encoder) (l m k : List ℕ) → SameSoFar e l m → SameSoFar e m k → SameSoFar e l k
agree_trans e l m k a b =
    record {
      size = a.size ∙ b.size;
      bytes = λ i. elim (a.bytes i) [ inl p ↦ elim (b.bytes i) [ inl q ↦ inl (p ∙ q) | inr o ↦ inr o ] | inr o ↦ inr o ];
    }

-- a closed clip has nothing to write
pub agree-closed : (e : Encoder) (l m : List ℕ) → e.closed ≡ true → SameSoFar e l m → l ≡ m
agree-closed e l m c a = ext_get_or 0 l m a.size (λ i k. elim (a.bytes i) [ inl p ↦ p | inr o ↦ absurd (false≢true (sym o.0 ∙ c)) ])

-- bytes past the image are the same
pub agree-past : (e : Encoder) (l m : List ℕ) → SameSoFar e l m → drop (image_size (encoder_shape e)) l ≡ drop (image_size (encoder_shape e)) m
agree-past e l m a =
    let s = image_size (encoder_shape e) in
    ext_get_or 0 (drop s l) (drop s m) (length-drop s l ∙ ap (λ (k : ℕ). k - s) a.size ∙ sym (length-drop s m))
    (λ i k. get_or-drop s l i 0 ∙ elim (a.bytes (s + i)) [ inl p ↦ p | inr o ↦ absurd (let w : s + i < s = unwritten-within (encoder_shape e) (e.fed / 14) (s + i) o.1 in omega arith) ]
    ∙ sym (get_or-drop s m i 0))

-- ---- one sample, a piece

-- the same state, and buffers that it goes on with alike
pub record Same (s t : Left) : Type 0 where
  pub state : s.encoder ≡ t.encoder
  pub bytes : SameSoFar s.encoder s.bytes t.bytes

-- what is unwritten later was unwritten before, and nothing else was written
pub record Later (s t : Left) : Type 0 where
  pub unwritten : (i : ℕ) → ToWrite t.encoder i → ToWrite s.encoder i
  pub bytes : SameSoFar s.encoder s.bytes t.bytes

pub later_refl : (s : Left) → Later s s
later_refl s = record { unwritten = λ i o. o; bytes = agree_refl s.encoder s.bytes }

pub later_trans : (s t u : Left) → Later s t → Later t u → Later s u
later_trans s t u a b =
    record {
      unwritten = λ i o. a.unwritten i (b.unwritten i o);
      bytes = agree_trans s.encoder s.bytes t.bytes u.bytes a.bytes
          (record { size = b.bytes.size; bytes = λ i. elim (b.bytes.bytes i) [ inl p ↦ inl p | inr o ↦ inr (a.unwritten i o) ] });
    }

-- so many samples can come
pub record Able (e : Encoder) (p : ℕ) : Type 0 where
  pub limits : Limits (encoder_shape e)
  pub rest : e.fed + p ≤ e.total
  pub unclosed : e.closed ≡ false

module _ (e : Encoder) (x : ℤ) where
  abbrev f : List ℤ
  f = set e.frame (e.fed % 14) x

  abbrev c : EncodedFrame
  c = encode_frame e.history (set e.frame (e.fed % 14) x) e.coefficients

  abbrev q : ℕ
  q = e.fed / 14

  abbrev full : List ℕ → Left
  full l = left (moved e (e.fed + 1) (history_after e.history c.samples 14) no_frame (e.passes + c.passes) e.closed (loop_context e.looped (e.fed / 14) e.history c e.context))
      (store (encoder_shape e) (e.fed / 14) c.bytes e.history l)

  abbrev part : List ℕ → Left
  part l = left (moved e (e.fed + 1) e.history f e.passes e.closed e.context) l

  eight : length c.bytes ≡ 8
  eight = (frame-lengths e.history f e.coefficients).0

  push-same : (l m : List ℕ) → 8 ≤ e.block → SameSoFar e l m → Same (push (left e l) x) (push (left e m) x)
  unfolding push store
  push-same l m w a = go (eqb (e.fed % 14) 13) refl
    where
      next : e.fed % 14 ≡ 13 → (i : ℕ) → (get_or l i 0 ≡ get_or m i 0) ⊎ ToWrite e i → (get_or (full l).bytes i 0 ≡ get_or (full m).bytes i 0) ⊎ ToWrite (full l).encoder i
      next r i (inl p) = inl (store_same (encoder_shape e) q c.bytes e.history l m i a.size (inl p))
      next r i (inr o) =
          let more : suc (e.fed / 14) ≡ (e.fed + 1) / 14 = omega arith in
          elim (store-unwritten (encoder_shape e) q c.bytes e.history l m i a.size w (inl eight) o.1) [
            | inl p ↦ inl p
            | inr d ↦ inr (o.0, subst (λ (k : ℕ). Unwritten (encoder_shape e) k i) more d)
          ]

      stays : e.fed % 14 ≢ 13 → (i : ℕ) → (get_or l i 0 ≡ get_or m i 0) ⊎ ToWrite e i → (get_or l i 0 ≡ get_or m i 0) ⊎ ToWrite (part l).encoder i
      stays r i (inl p) = inl p
      stays r i (inr o) = let same : e.fed / 14 ≡ (e.fed + 1) / 14 = omega arith in inr (o.0, subst (λ (k : ℕ). Unwritten (encoder_shape e) k i) same o.1)

      go : (t : Bool) → eqb (e.fed % 14) 13 ≡ t → Same (cond t (full l) (part l)) (cond t (full m) (part m))
      go true p =
          record {
            state = refl;
            bytes = record {
              size = store_length (encoder_shape e) q c.bytes e.history l ∙ a.size ∙ sym (store_length (encoder_shape e) q c.bytes e.history m);
              bytes = λ i. next (eqb-true (e.fed % 14) 13 p) i (a.bytes i);
            };
          }
      go false p = record { state = refl; bytes = record { size = a.size; bytes = λ i. stays (eqb-false (e.fed % 14) 13 p) i (a.bytes i) } }

  push-later : (l : List ℕ) (p : ℕ) → Able e (suc p) → Later (left e l) (push (left e l) x) × Able (push (left e l) x).encoder p
  unfolding push store
  push-later l p a = go (eqb (e.fed % 14) 13) refl
    where
      room : e.fed + suc p ≤ e.total
      room = a.rest

      before : (i : ℕ) → (e.closed ≡ false) × Unwritten (encoder_shape e) ((e.fed + 1) / 14) i → ToWrite e i
      before i o = (o.0, unwritten-earlier (encoder_shape e) (e.fed / 14) ((e.fed + 1) / 14) i (omega arith) o.1)

      go : (t : Bool) → eqb (e.fed % 14) 13 ≡ t → Later (left e l) (cond t (full l) (part l)) × Able (cond t (full l) (part l)).encoder p
      go true k =
          let w = full-frame e.total e.fed (omega arith) (eqb-true (e.fed % 14) 13 k) in (
            record {
              unwritten = before;
              bytes = record {
                size = sym (store_length (encoder_shape e) q c.bytes e.history l);
                bytes = λ i. elim (store-leaves (encoder_shape e) q c.bytes e.history a.limits w.0 (omega (arith, w.1, eight)) l i) [ inl r ↦ inl r | inr d ↦ inr (a.unclosed, d) ];
              };
            },
            record { limits = a.limits; rest = omega arith; unclosed = a.unclosed },
          )
      go false k = (record { unwritten = before; bytes = agree_refl e l }, record { limits = a.limits; rest = omega arith; unclosed = a.unclosed })

  push-block : (l : List ℕ) → (push (left e l) x).encoder.block ≡ e.block
  unfolding push store
  push-block l = go (eqb (e.fed % 14) 13)
    where
      go : (t : Bool) → (cond t (full l) (part l)).encoder.block ≡ e.block
      go true = refl
      go false = refl

pub piece-same : (xs : List ℤ) (s t : Left) → 8 ≤ s.encoder.block → Same s t → Same (feed_all s xs) (feed_all t xs)
piece-same [] s t w a = a
piece-same (x ∷ xs) s t w a =
    piece-same xs (push s x) (push t x) (omega (arith, push-block s.encoder x s.bytes))
    (subst (λ (d : Encoder). Same (push s x) (push (left d t.bytes) x)) a.state (push-same s.encoder x s.bytes t.bytes w a.bytes))

pub piece-later : (xs : List ℤ) (s : Left) → Able s.encoder (length xs) → Later s (feed_all s xs)
piece-later [] s a = later_refl s
piece-later (x ∷ xs) s a =
    let n = push-later s.encoder x s.bytes (length xs) a in
    later_trans s (push s x) (feed_all (push s x) xs) n.0 (piece-later xs (push s x) n.1)

-- ---- the end

module _ (e : Encoder) (L : Limits (encoder_shape e)) (all : e.fed ≡ e.total) where
  abbrev r : ℕ
  r = e.fed % 14

  abbrev z : EncodedFrame
  z = encode_frame e.history (sets e.frame (e.fed % 14) (replicate (14 - e.fed % 14) (pos 0))) e.coefficients

  abbrev v : List ℕ
  v = take (1 + (e.fed % 14 + 1) / 2) (encode_frame e.history (sets e.frame (e.fed % 14) (replicate (14 - e.fed % 14) (pos 0))) e.coefficients).bytes

  abbrev whole : List ℕ → Left
  whole l = left (moved e e.fed e.history no_frame e.passes true e.context) (ended (encoder_shape e) e.looped e.context l)

  abbrev known : FrameContext
  known = loop_context e.looped (e.fed / 14) e.history z e.context

  abbrev short : List ℕ → Left
  short l =
      left (moved e e.fed (history_after e.history z.samples (e.fed % 14)) no_frame (e.passes + z.passes) true known)
      (ended (encoder_shape e) e.looped known (store (encoder_shape e) (e.fed / 14) v e.history l))

  v-length : length v ≡ 1 + (e.fed % 14 + 1) / 2
  v-length =
      let n = (frame-lengths e.history (sets e.frame (e.fed % 14) (replicate (14 - e.fed % 14) (pos 0))) e.coefficients).0 in
      length-take-le (1 + (e.fed % 14 + 1) / 2) z.bytes (omega arith)

  -- a short last frame has its bytes to the end
  last-body : e.fed % 14 ≢ 0 → (8 * (e.fed / 14) + (1 + (e.fed % 14 + 1) / 2) ≡ body_bytes e.total) × (suc (e.fed / 14) ≡ frame_count e.total)
  unfolding body_bytes last_frame_samples frame_count
  last-body n = (omega arith, omega arith)

  last-whole : e.fed % 14 ≡ 0 → e.fed / 14 ≡ frame_count e.total
  unfolding frame_count
  last-whole n = omega arith

  pub end_same : (l m : List ℕ) → SameSoFar e l m → Same (finish (left e l)) (finish (left e m))
  unfolding finish store
  end_same l m a = go (eqb (e.fed % 14) 0) refl
    where
      stored : List ℕ → List ℕ
      stored k = store (encoder_shape e) (e.fed / 14) v e.history k

      sizes : length (stored l) ≡ length (stored m)
      sizes = store_length (encoder_shape e) (e.fed / 14) v e.history l ∙ a.size ∙ sym (store_length (encoder_shape e) (e.fed / 14) v e.history m)

      due : e.fed % 14 ≢ 0 → (i : ℕ) → (get_or l i 0 ≡ get_or m i 0) ⊎ ToWrite e i → (get_or (stored l) i 0 ≡ get_or (stored m) i 0) ⊎ Unwritten (encoder_shape e) (frame_count e.total) i
      due n i (inl p) = inl (store_same (encoder_shape e) (e.fed / 14) v e.history l m i a.size (inl p))
      due n i (inr o) =
          let w = last-body n in
          elim (store-unwritten (encoder_shape e) (e.fed / 14) v e.history l m i a.size L.wide (inr (omega (arith, w.0, v-length))) o.1) [
            | inl p ↦ inl p
            | inr d ↦ inr (subst (λ (k : ℕ). Unwritten (encoder_shape e) k i) w.1 d)
          ]

      none : e.fed % 14 ≡ 0 → (i : ℕ) → (get_or l i 0 ≡ get_or m i 0) ⊎ ToWrite e i → (get_or l i 0 ≡ get_or m i 0) ⊎ Unwritten (encoder_shape e) (frame_count e.total) i
      none n i (inl p) = inl p
      none n i (inr o) = inr (subst (λ (k : ℕ). Unwritten (encoder_shape e) k i) (last-whole n) o.1)

      lengths : (t : FrameContext) (k j : List ℕ) → length k ≡ length j → length (ended (encoder_shape e) e.looped t k) ≡ length (ended (encoder_shape e) e.looped t j)
      lengths t k j p = ended-length (encoder_shape e) e.looped t refl k ∙ p ∙ sym (ended-length (encoder_shape e) e.looped t refl j)

      go : (t : Bool) → eqb (e.fed % 14) 0 ≡ t → Same (cond t (whole l) (short l)) (cond t (whole m) (short m))
      go true p =
          let n = eqb-true (e.fed % 14) 0 p in
          record {
            state = refl;
            bytes = record {
              size = lengths e.context l m a.size;
              bytes = λ i. inl (ended_same (encoder_shape e) e.looped e.context refl L l m i a.size (none n i (a.bytes i)));
            };
          }
      go false p =
          let n = eqb-false (e.fed % 14) 0 p in
          record {
            state = refl;
            bytes = record {
              size = lengths known (stored l) (stored m) sizes;
              bytes = λ i. inl (ended_same (encoder_shape e) e.looped known refl L (stored l) (stored m) i sizes (due n i (a.bytes i)));
            };
          }

  pub end_later : (l : List ℕ) → e.closed ≡ false → Later (left e l) (finish (left e l))
  unfolding finish store
  end_later l o = go (eqb (e.fed % 14) 0) refl
    where
      stored : List ℕ
      stored = store (encoder_shape e) (e.fed / 14) v e.history l

      leaves : (t : FrameContext) (k : List ℕ) → SameSoFar e k (ended (encoder_shape e) e.looped t k)
      leaves t k =
          record {
            size = sym (ended-length (encoder_shape e) e.looped t refl k);
            bytes = λ i. elim (ended-leaves (encoder_shape e) e.looped t refl (e.fed / 14) k i) [ inl p ↦ inl p | inr d ↦ inr (o, d) ];
          }

      frame : e.fed % 14 ≢ 0 → SameSoFar e l stored
      frame n =
          let w = last-body n in
          record {
            size = sym (store_length (encoder_shape e) (e.fed / 14) v e.history l);
            bytes = λ i. elim (store-leaves (encoder_shape e) (e.fed / 14) v e.history L (omega (arith, w.1)) (omega (arith, w.0, v-length)) l i) [ inl p ↦ inl p | inr d ↦ inr (o, d) ];
          }

      go : (t : Bool) → eqb (e.fed % 14) 0 ≡ t → Later (left e l) (cond t (whole l) (short l))
      go true p = record { unwritten = λ i w. absurd (false≢true (sym w.0)); bytes = leaves e.context l }
      go false p =
          record {
            unwritten = λ i w. absurd (false≢true (sym w.0));
            bytes = agree_trans e l stored (ended (encoder_shape e) e.looped known stored) (frame (eqb-false (e.fed % 14) 0 p)) (leaves known stored);
          }
