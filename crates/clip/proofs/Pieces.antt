-- What the loop over a piece keeps.
use mathlib.Core.Path.{◌≡◌, refl, sym, ap, ◌∙◌, subst}
use mathlib.Core.List.{List, [], ◌∷◌, foldl, foldl-append}
use mathlib.Core.Bool.{Bool, true, false, cond}
use Prim.Native.Nat.{ℕ, ◌+◌, ◌/◌, ◌%◌, ◌<◌}
use native.Mathlib.Numerals.{add-one}
use native.Mathlib.Omega.{arith}
use borrow.Author.Tests.{eqb-true, eqb-false}
use lib.Dec.{eqb}
use lib.IntN.{ℤ, pos}
use lib.ListN.{length, take, get_or, set}
use lib.Seq.{sets, length-sets, take-suc}
use Rattle.frame.specs.Frame.{encode_frame, history_after}
use Rattle.frame.specs.declared.EncodedFrame.{EncodedFrame}
use Rattle.whole.specs.declared.History.{History}
use Rattle.frame.proofs.LawsEncoded.{frame-passes}
use Rattle.clip.specs.declared.Encoder.{Encoder}
use Rattle.layout.specs.declared.Shape.{Shape}
use Rattle.clip.specs.Image.{context_bytes}
use Rattle.clip.specs.Encoding.{encoder_shape, Left, left, store, loop_context, moved, no_frame, push, feed_all}
use Rattle.layout.specs.Sizes.{frame_place, context_place}
use Rattle.clip.specs.inner.Asked.{Going}

-- storing keeps the length
pub store_length : (s : Shape) (q : ℕ) (t : List ℕ) (h : History) (image : List ℕ) → length (store s q t h image) ≡ length image
unfolding store
store_length s q t h image = go (eqb (q % (s.block / 8)) 0)
  where
    go : (v : Bool) → length (cond v (sets (sets image (frame_place s q) t) (context_place (q / (s.block / 8))) (context_bytes (get_or t 0 0) h)) (sets image (frame_place s q) t)) ≡ length image
    go true = simp length-sets
    go false = simp length-sets

-- one sample more
module _ (e : Encoder) (image : List ℕ) (x : ℤ) (i m : ℕ) where
  frame : EncodedFrame
  frame = encode_frame e.history (set e.frame (e.fed % 14) x) e.coefficients

  pub going_next : i < m → Going e i m (length image) → Going (push (left e image) x).encoder (i + 1) m (length image) × (length (push (left e image) x).bytes ≡ length image)
  unfolding push frame store
  going_next l g = go (eqb (e.fed % 14) 13) refl
    where
      full : Left
      full = left (moved e (e.fed + 1) (history_after e.history frame.samples 14) no_frame (e.passes + frame.passes) e.closed (loop_context e.looped (e.fed / 14) e.history frame e.context))
          (store (encoder_shape e) (e.fed / 14) frame.bytes e.history image)

      part : Left
      part = left (moved e (e.fed + 1) e.history (set e.frame (e.fed % 14) x) e.passes e.closed e.context) image

      go : (v : Bool) → eqb (e.fed % 14) 13 ≡ v → Going (cond v full part).encoder (i + 1) m (length image) × (length (cond v full part).bytes ≡ length image)
      go true t =
          let r = eqb-true (e.fed % 14) 13 t in
          let p = frame-passes e.history (set e.frame (e.fed % 14) x) e.coefficients in
          let s = g.rest in
          let k = g.count in
          (record { limits = g.limits; within = g.within; looping = g.looping; rest = omega arith; count = omega arith; size = g.size }, store_length (encoder_shape e) (e.fed / 14) frame.bytes e.history image)
      go false t =
          let r = eqb-false (e.fed % 14) 13 t in
          let s = g.rest in
          let k = g.count in
          (record { limits = g.limits; within = g.within; looping = g.looping; rest = omega arith; count = omega arith; size = g.size }, refl)

-- the first i samples and one more are the first i + 1
pub piece-next : (s : Left) (xs : List ℤ) (i : ℕ) → i < length xs → push (feed_all s (take i xs)) (get_or xs i (pos 0)) ≡ feed_all s (take (i + 1) xs)
piece-next s xs i h =
    sym (foldl-append push s (take i xs) (get_or xs i (pos 0) ∷ []))
    ∙ ap (λ (l : List ℤ). foldl push s l) (sym (take-suc xs i (pos 0) h))
    ∙ ap (λ (k : ℕ). foldl push s (take k xs)) (sym (add-one i))

-- a turn of the loop: it may be taken, and what is kept
module _ (s : Left) (xs : List ℤ) (i : ℕ) (e : Encoder) (image : List ℕ) (lt : i < length xs) (g : Going e i (length xs) (length s.bytes)) (el : length image ≡ length s.bytes) where
  pub turn-going : Going e 0 1 (length image)
  turn-going =
      let r = g.rest in
      record { limits = g.limits; within = g.within; looping = g.looping; rest = omega arith; count = g.count; size = rw el g.size }

  pub turn : (r : Encoder) (out : List ℕ) → left e image ≡ feed_all s (take i xs) → left r out ≡ push (left e image) (get_or xs i (pos 0))
      → (left r out ≡ feed_all s (take (i + 1) xs)) × Going r (i + 1) (length xs) (length s.bytes)
  turn r out inv p =
      let g' = subst (λ (k : ℕ). Going e i (length xs) k) (sym el) g in
      let n = going_next e image (get_or xs i (pos 0)) i (length xs) lt g' in (
        p ∙ ap (λ (t : Left). push t (get_or xs i (pos 0))) inv ∙ piece-next s xs i lt,
        subst (λ (t : Left). Going t.encoder (i + 1) (length xs) (length s.bytes)) (sym p)
            (subst (λ (k : ℕ). Going (push (left e image) (get_or xs i (pos 0))).encoder (i + 1) (length xs) k) el n.0),
      )
