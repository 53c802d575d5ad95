-- A piece that is cut in two: feeding it is feeding its parts in turn.
use mathlib.Core.Path.{◌≡◌, refl, sym, ap, ◌∙◌, subst}
use mathlib.Core.Bool.{Bool, true, false, cond}
use mathlib.Core.List.{List, [], ◌∷◌, ◌++◌, foldl-append}
use Prim.Native.Nat.{ℕ, ◌+◌, ◌-◌, ◌*◌, ◌/◌, ◌%◌, ◌≤◌}
use native.Mathlib.Omega.{arith}
use borrow.Author.Tests.{le-leb, le-ltb, eq-eqb, ne_eqb}
use lib.Dec.{eqb}
use lib.IntN.{ℤ}
use lib.ListN.{length, set, length-append}
use Rattle.frame.specs.Frame.{encode_frame, history_after}
use Rattle.frame.specs.declared.EncodedFrame.{EncodedFrame}
use Rattle.whole.specs.Outcome.{Outcome, accepted, effect}
use Rattle.clip.specs.declared.Encoder.{Encoder}
use Rattle.layout.specs.Sizes.{image_size}
use Rattle.whole.specs.Frames.{most}
use Rattle.clip.specs.Encoding.{encoder_shape, Left, left, store, loop_context, moved, no_frame, push, feed_all, counts_ok, valid, feed_answer, feed}
use Rattle.layout.specs.Limits.{numbers_ok}
use Rattle.clip.specs.inner.Asked.{Going}
use Rattle.clip.proofs.ByOutcome.{CallEffect, feed_by}
use Rattle.clip.proofs.AcceptedCalls.{feed-accepted, feed-open}
use Rattle.clip.proofs.Pieces.{going_next}

-- what feeding n samples leaves as it was, and how many are fed then
pub record Kept (n : ℕ) (s t : Left) : Type 0 where
  pub closed : t.encoder.closed ≡ s.encoder.closed
  pub rate : t.encoder.rate ≡ s.encoder.rate
  pub total : t.encoder.total ≡ s.encoder.total
  pub fed : t.encoder.fed ≡ s.encoder.fed + n

push_kept : (s : Left) (x : ℤ) → Kept 1 s (push s x)
unfolding push store
push_kept s x = go (eqb (s.encoder.fed % 14) 13)
  where
    e : Encoder
    e = s.encoder

    f : List ℤ
    f = set s.encoder.frame (s.encoder.fed % 14) x

    c : EncodedFrame
    c = encode_frame s.encoder.history (set s.encoder.frame (s.encoder.fed % 14) x) s.encoder.coefficients

    go : (t : Bool)
        → Kept 1 s (cond t
        (left (moved e (e.fed + 1) (history_after e.history c.samples 14) no_frame (e.passes + c.passes) e.closed (loop_context e.looped (e.fed / 14) e.history c e.context))
        (store (encoder_shape e) (e.fed / 14) c.bytes e.history s.bytes))
        (left (moved e (e.fed + 1) e.history f e.passes e.closed e.context) s.bytes))
    go true = record { closed = refl; rate = refl; total = refl; fed = refl }
    go false = record { closed = refl; rate = refl; total = refl; fed = refl }

piece-kept : (xs : List ℤ) (s : Left) → Kept (length xs) s (feed_all s xs)
piece-kept [] s = record { closed = refl; rate = refl; total = refl; fed = omega arith }
piece-kept (x ∷ xs) s =
    let a = push_kept s x in
    let b = piece-kept xs (push s x) in
    record { closed = b.closed ∙ a.closed; rate = b.rate ∙ a.rate; total = b.total ∙ a.total; fed = omega (arith, b.fed, a.fed) }

-- the samples of a piece in turn
piece-going : (xs : List ℤ) (s : Left) (i m : ℕ) → i + length xs ≤ m → Going s.encoder i m (length s.bytes)
    → Going (feed_all s xs).encoder (i + length xs) m (length s.bytes) × (length (feed_all s xs).bytes ≡ length s.bytes)
piece-going [] s i m l g = (subst (λ (k : ℕ). Going s.encoder k m (length s.bytes)) (omega arith) g, refl)
piece-going (x ∷ xs) s i m l g =
    let n = going_next s.encoder s.bytes x i m (omega arith) g in
    let p = piece-going xs (push s x) (i + 1) m (omega arith) (subst (λ (k : ℕ). Going (push s x).encoder (i + 1) m k) (sym n.1) n.0) in
    let e : i + 1 + length xs ≡ i + length (x ∷ xs) = omega arith in
    (subst (λ (k : ℕ). Going (feed_all (push s x) xs).encoder k m (length s.bytes)) e (subst (λ (k : ℕ). Going (feed_all (push s x) xs).encoder (i + 1 + length xs) m k) n.1 p.0), p.1 ∙ n.1)

-- ---- the calls

-- a state that can go on is accepted
going-accepts : (e : Encoder) (m len : ℕ) → (e.rate ≡ 0 → ⊥) → e.closed ≡ false → Going e 0 m len → feed_answer e m len ≡ accepted tt
unfolding feed_answer valid numbers_ok counts_ok
going-accepts e m len some o g =
    let r = g.rest in
    let l = g.limits in
    rw (
      le-leb e.fed e.total (omega arith),
      le-leb 1 e.total l.some,
      le-leb e.total most l.few,
      le-leb 8 e.block l.wide,
      le-leb e.block 65536 l.narrow,
      eq-eqb (e.block % 8) 0 l.eights,
      ne_eqb e.rate 0 some,
      g.within,
      g.looping,
      o,
      le-leb e.passes (104 * (e.fed / 14)) g.count,
      le-ltb len (image_size (encoder_shape e)) g.size,
      le-ltb (e.total - e.fed) m (omega arith),
    )

accepted-by : (e : Encoder) (xs : List ℤ) (l : List ℕ) → feed_answer e (length xs) (length l) ≡ accepted tt → feed e xs l ≡ effect (accepted tt) (feed_all (left e l) xs)
unfolding feed
accepted-by e xs l a = ap (λ (v : Outcome Unit). feed_by v (left e l) xs) a

answered : (e : Encoder) (xs : List ℤ) (l : List ℕ) → (feed e xs l).outcome ≡ feed_answer e (length xs) (length l)
unfolding feed
answered e xs l = refl

-- ---- two parts

module _ (e : Encoder) (a b : List ℤ) (l : List ℕ) where
  -- the state and the image after the first part
  abbrev half : Left
  half = feed_all (left e l) a

  -- where the whole piece is accepted, the parts can be fed in turn
  parts : (feed e (a ++ b) l).outcome ≡ accepted tt → (feed_answer e (length a) (length l) ≡ accepted tt) × (feed_answer half.encoder (length b) (length half.bytes) ≡ accepted tt)
  parts ok =
      let w = sym (answered e (a ++ b) l) ∙ ok in
      let g = feed-accepted e (length (a ++ b)) (length l) w in
      let o = feed-open e (length (a ++ b)) (length l) w in
      let n = length-append a b in
      let r = g.rest in
      let first : Going e 0 (length a) (length l) = record { limits = g.limits; within = g.within; looping = g.looping; rest = omega arith; count = g.count; size = g.size } in
      let p = piece-going a (left e l) 0 (length (a ++ b)) (omega arith) g in
      let k = piece-kept a (left e l) in
      let q = p.0.rest in
      let second : Going half.encoder 0 (length b) (length half.bytes) =
      record { limits = p.0.limits; within = p.0.within; looping = p.0.looping; rest = omega arith; count = p.0.count; size = omega (arith, p.0.size, p.1) } in (
        going-accepts e (length a) (length l) o.1 o.0 first,
        going-accepts half.encoder (length b) (length half.bytes) (λ z. o.1 (sym k.rate ∙ z)) (k.closed ∙ o.0) second,
      )

  -- Where a piece is accepted, so are its parts in turn.
  pub cut-accepted : (feed e (a ++ b) l).outcome ≡ accepted tt → ((feed e a l).outcome ≡ accepted tt) × ((let o = feed e a l in feed o.left.encoder b o.left.bytes).outcome ≡ accepted tt)
  cut-accepted ok =
      let p = parts ok in (
        answered e a l ∙ p.0,
        ap (λ (v : CallEffect). (feed v.left.encoder b v.left.bytes).outcome) (accepted-by e a l p.0) ∙ answered half.encoder b half.bytes ∙ p.1,
      )

  -- Where two parts are accepted in turn, so is the piece.
  pub joined-accepted : (feed e a l).outcome ≡ accepted tt → (let o = feed e a l in feed o.left.encoder b o.left.bytes).outcome ≡ accepted tt → (feed e (a ++ b) l).outcome ≡ accepted tt
  joined-accepted p q =
      let w = sym (answered e a l) ∙ p in
      let g = feed-accepted e (length a) (length l) w in
      let o = feed-open e (length a) (length l) w in
      let v = sym (answered half.encoder b half.bytes) ∙ sym (ap (λ (z : CallEffect). (feed z.left.encoder b z.left.bytes).outcome) (accepted-by e a l w)) ∙ q in
      let r = (feed-accepted half.encoder (length b) (length half.bytes) v).rest in
      let k = piece-kept a (left e l) in
      let f = k.fed in
      let t = k.total in
      let n = length-append a b in
      let both : Going e 0 (length (a ++ b)) (length l) = record { limits = g.limits; within = g.within; looping = g.looping; rest = omega arith; count = g.count; size = g.size } in
      answered e (a ++ b) l ∙ going-accepts e (length (a ++ b)) (length l) o.1 o.0 both

  -- Feeding a piece cut in two is feeding its parts in turn.
  pub feed-cut : (feed e (a ++ b) l).outcome ≡ accepted tt → feed e (a ++ b) l ≡ (let o = feed e a l in feed o.left.encoder b o.left.bytes)
  feed-cut ok =
      let p = parts ok in
      accepted-by e (a ++ b) l (sym (answered e (a ++ b) l) ∙ ok)
      ∙ ap (effect (accepted tt)) (foldl-append push (left e l) a b)
      ∙ sym (ap (λ (v : CallEffect). feed v.left.encoder b v.left.bytes) (accepted-by e a l p.0) ∙ accepted-by half.encoder b half.bytes p.1)
