-- Places of the unfinished frame past the samples fed never reach the image.
use mathlib.Core.Path.{◌≡◌, refl, sym, ap, ap₂, ◌∙◌, subst}
use mathlib.Core.Bool.{Bool, true, false, cond}
use mathlib.Core.List.{List, [], ◌∷◌, ◌++◌, append-nil}
use Prim.Native.Nat.{ℕ, suc, ◌+◌, ◌-◌, ◌/◌, ◌%◌, ◌≤◌}
use native.Mathlib.Omega.{arith}
use borrow.Author.Tests.{eqb-true, eqb-false}
use lib.Dec.{eqb}
use lib.IntN.{ℤ, pos}
use lib.ListN.{length, take, set, replicate, length-set, length-replicate, drop_of_length-le}
use lib.Seq.{sets, sets-eq, take_all, take-suc-set}
use Rattle.block.specs.declared.FrameContext.{FrameContext}
use Rattle.frame.specs.declared.EncodedFrame.{EncodedFrame}
use Rattle.frame.specs.Frame.{encode_frame, history_after}
use Rattle.whole.specs.Outcome.{Outcome, accepted, refused_at}
use Rattle.clip.specs.declared.Encoder.{Encoder}
use Rattle.clip.specs.Runs.{Call, feeds, closes, seen, call_effect, run}
use Rattle.clip.specs.Unheard.{framed, Alike}
use Rattle.clip.specs.Encoding.{encoder_shape, Left, left, store, loop_context, ended, moved, no_frame, push, feed_all, finish, valid, feed_answer, feed, close_answer, close}
use Rattle.clip.proofs.ByOutcome.{CallEffect, feed_by, close_by}

-- ---- lists

-- the samples fed and one more
set-alike : (n : ℕ) (a b : List ℤ) (x : ℤ) → Alike n a b → take (suc (n % 14)) (set a (n % 14) x) ≡ take (suc (n % 14)) (set b (n % 14) x)
set-alike n a b x s =
    let p = s.first in
    let q = s.second in
    take-suc-set a (n % 14) x (omega arith) ∙ ap (λ (l : List ℤ). l ++ (x ∷ [])) s.same ∙ sym (take-suc-set b (n % 14) x (omega arith))

-- a frame that is full
set_full : (n : ℕ) (a b : List ℤ) (x : ℤ) → Alike n a b → n % 14 ≡ 13 → set a (n % 14) x ≡ set b (n % 14) x
set_full n a b x s e =
    let p = length-set a (n % 14) x ∙ s.first in
    let q = length-set b (n % 14) x ∙ s.second in
    sym (take_all (suc (n % 14)) (set a (n % 14) x) (omega arith)) ∙ set-alike n a b x s ∙ take_all (suc (n % 14)) (set b (n % 14) x) (omega arith)

-- a frame padded from the samples fed on
padded-is : (n : ℕ) (a : List ℤ) → length a ≡ 14 → sets a (n % 14) (replicate (14 - n % 14) (pos 0)) ≡ take (n % 14) a ++ replicate (14 - n % 14) (pos 0)
padded-is n a p =
    let z : List ℤ = replicate (14 - n % 14) (pos 0) in
    let l : length z ≡ 14 - n % 14 = length-replicate (14 - n % 14) (pos 0) in
    let d : length a ≤ n % 14 + length z = omega arith in
    sets-eq z a (n % 14) (omega arith)
    ∙ ap (λ (r : List ℤ). (take (n % 14) a ++ z) ++ r) (drop_of_length-le a d)
    ∙ append-nil (take (n % 14) a ++ z)

padded-same : (n : ℕ) (a b : List ℤ) → Alike n a b → sets a (n % 14) (replicate (14 - n % 14) (pos 0)) ≡ sets b (n % 14) (replicate (14 - n % 14) (pos 0))
padded-same n a b s =
    padded-is n a s.first ∙ ap (λ (l : List ℤ). l ++ replicate (14 - n % 14) (pos 0)) s.same ∙ sym (padded-is n b s.second)

-- ---- one sample, a piece, the end

-- the same image, and states that differ in such a frame at most
pub record Unheard (s t : Left) : Type 0 where
  pub bytes : s.bytes ≡ t.bytes
  pub frames : Alike s.encoder.fed s.encoder.frame t.encoder.frame
  pub state : framed s.encoder t.encoder.frame ≡ t.encoder

module _ (e : Encoder) (l : List ℕ) (f : List ℤ) (x : ℤ) (s : Alike e.fed e.frame f) where
  abbrev full : List ℤ → Left
  full g =
      let c = encode_frame e.history g e.coefficients in
      left (moved e (e.fed + 1) (history_after e.history c.samples 14) no_frame (e.passes + c.passes) e.closed (loop_context e.looped (e.fed / 14) e.history c e.context))
      (store (encoder_shape e) (e.fed / 14) c.bytes e.history l)

  abbrev part : List ℤ → Left
  part g = left (moved e (e.fed + 1) e.history g e.passes e.closed e.context) l

  push-unheard : Unheard (push (left e l) x) (push (left (framed e f) l) x)
  unfolding push store
  push-unheard = go (eqb (e.fed % 14) 13) refl
    where
      go : (t : Bool) → eqb (e.fed % 14) 13 ≡ t → Unheard (cond t (full (set e.frame (e.fed % 14) x)) (part (set e.frame (e.fed % 14) x)))
          (cond t (full (set f (e.fed % 14) x)) (part (set f (e.fed % 14) x)))
      go true q =
          let r = eqb-true (e.fed % 14) 13 q in
          subst (λ (g : List ℤ). Unheard (full (set e.frame (e.fed % 14) x)) (full g)) (set_full e.fed e.frame f x s r)
          (record { bytes = refl; frames = record { first = refl; second = refl; same = refl }; state = refl })
      go false q =
          let r = eqb-false (e.fed % 14) 13 q in
          let n : suc (e.fed % 14) ≡ (e.fed + 1) % 14 = omega arith in
          record {
            bytes = refl;
            frames = record {
              first = length-set e.frame (e.fed % 14) x ∙ s.first;
              second = length-set f (e.fed % 14) x ∙ s.second;
              same = subst (λ (k : ℕ). take k (set e.frame (e.fed % 14) x) ≡ take k (set f (e.fed % 14) x)) n (set-alike e.fed e.frame f x s);
            };
            state = refl;
          }

same-both : (s t : Left) → Unheard s t → left (framed s.encoder t.encoder.frame) s.bytes ≡ t
same-both s t u = ap₂ left u.state u.bytes

piece-unheard : (xs : List ℤ) (s t : Left) → Unheard s t → Unheard (feed_all s xs) (feed_all t xs)
piece-unheard [] s t u = u
piece-unheard (x ∷ xs) s t u =
    piece-unheard xs (push s x) (push t x)
    (subst (λ (v : Left). Unheard (push s x) (push v x)) (same-both s t u) (push-unheard s.encoder s.bytes t.encoder.frame x u.frames))

end-unheard : (e : Encoder) (l : List ℕ) (f : List ℤ) → Alike e.fed e.frame f → finish (left e l) ≡ finish (left (framed e f) l)
unfolding finish store
end-unheard e l f s = rw (padded-same e.fed e.frame f s)

-- ---- the calls

feed-by : (a : Outcome Unit) (xs : List ℤ) (s t : Left) → Unheard s t → (feed_by a s xs).left.bytes ≡ (feed_by a t xs).left.bytes
feed-by (accepted a) xs s t u = (piece-unheard xs s t u).bytes
feed-by (refused_at n j) xs s t u = u.bytes

-- what stands past the samples fed is never heard: feeding leaves the same image
pub feed-unheard : (e : Encoder) (f : List ℤ) (xs : List ℤ) (l : List ℕ) → Alike e.fed e.frame f → (feed e xs l).left.bytes ≡ (feed (framed e f) xs l).left.bytes
unfolding feed feed_answer valid
feed-unheard e f xs l s = feed-by (feed_answer e (length xs) (length l)) xs (left e l) (left (framed e f) l) (record { bytes = refl; frames = s; state = refl })

close-by : (a : Outcome Unit) (e : Encoder) (f : List ℤ) (l : List ℕ) → Alike e.fed e.frame f → (close_by a (left e l)).left.bytes ≡ (close_by a (left (framed e f) l)).left.bytes
close-by (accepted u) e f l s = ap (λ (t : Left). t.bytes) (end-unheard e l f s)
close-by (refused_at n j) e f l s = refl

-- and so does closing
pub close-unheard : (e : Encoder) (f : List ℤ) (l : List ℕ) → Alike e.fed e.frame f → (close e l).left.bytes ≡ (close (framed e f) l).left.bytes
unfolding close close_answer valid
close-unheard e f l s = close-by (close_answer e (length l)) e f l s

-- ---- lists of calls

-- the same outcome, and again states that differ in such a frame at most
record CallUnheard (o p : CallEffect) : Type 0 where
  outcome : o.outcome ≡ p.outcome
  left-alike : Unheard o.left p.left

feed-call-by : (a : Outcome Unit) (xs : List ℤ) (s t : Left) → Unheard s t → CallUnheard (feed_by a s xs) (feed_by a t xs)
feed-call-by (accepted a) xs s t u = record { outcome = refl; left-alike = piece-unheard xs s t u }
feed-call-by (refused_at n j) xs s t u = record { outcome = refl; left-alike = u }

feed-call : (e : Encoder) (l : List ℕ) (f : List ℤ) (xs : List ℤ) → Alike e.fed e.frame f → CallUnheard (feed e xs l) (feed (framed e f) xs l)
unfolding feed feed_answer valid
feed-call e l f xs s = feed-call-by (feed_answer e (length xs) (length l)) xs (left e l) (left (framed e f) l) (record { bytes = refl; frames = s; state = refl })

-- the end leaves no sample in the unfinished frame
end-alike : (e : Encoder) (l : List ℕ) → Unheard (finish (left e l)) (finish (left e l))
unfolding finish store
end-alike e l = go (eqb (e.fed % 14) 0)
  where
    z : EncodedFrame
    z = encode_frame e.history (sets e.frame (e.fed % 14) (replicate (14 - e.fed % 14) (pos 0))) e.coefficients

    whole : Left
    whole = left (moved e e.fed e.history no_frame e.passes true e.context) (ended (encoder_shape e) e.looped e.context l)

    known : FrameContext
    known = loop_context e.looped (e.fed / 14) e.history z e.context

    short : Left
    short =
        left (moved e e.fed (history_after e.history z.samples (e.fed % 14)) no_frame (e.passes + z.passes) true known)
        (ended (encoder_shape e) e.looped known (store (encoder_shape e) (e.fed / 14) (take (1 + (e.fed % 14 + 1) / 2) z.bytes) e.history l))

    go : (t : Bool) → Unheard (cond t whole short) (cond t whole short)
    go true = record { bytes = refl; frames = record { first = refl; second = refl; same = refl }; state = refl }
    go false = record { bytes = refl; frames = record { first = refl; second = refl; same = refl }; state = refl }

close-call-by : (a : Outcome Unit) (e : Encoder) (l : List ℕ) (f : List ℤ) → Alike e.fed e.frame f → CallUnheard (close_by a (left e l)) (close_by a (left (framed e f) l))
close-call-by (accepted u) e l f s =
    record { outcome = refl; left-alike = subst (λ (v : Left). Unheard (finish (left e l)) v) (end-unheard e l f s) (end-alike e l) }
close-call-by (refused_at n j) e l f s = record { outcome = refl; left-alike = record { bytes = refl; frames = s; state = refl } }

close-call : (e : Encoder) (l : List ℕ) (f : List ℤ) → Alike e.fed e.frame f → CallUnheard (close e l) (close (framed e f) l)
unfolding close close_answer valid
close-call e l f s = close-call-by (close_answer e (length l)) e l f s

call-unheard : (k : Call) (s t : Left) → Unheard s t → CallUnheard (call_effect s k) (call_effect t k)
call-unheard (feeds p) s t u =
    subst (λ (v : Left). CallUnheard (call_effect s (feeds p)) (call_effect v (feeds p))) (same-both s t u) (feed-call s.encoder s.bytes t.encoder.frame p u.frames)
call-unheard closes s t u =
    subst (λ (v : Left). CallUnheard (call_effect s closes) (call_effect v closes)) (same-both s t u) (close-call s.encoder s.bytes t.encoder.frame u.frames)

calls-unheard : (size : ℕ) (ks : List Call) (s t : Left) → Unheard s t → run size s ks ≡ run size t ks
unfolding run
calls-unheard size [] s t u = refl
calls-unheard size (k ∷ ks) s t u =
    let c = call-unheard k s t u in
    let n = ap (λ (e : Encoder). e.passes) c.left-alike.state in
    let r = calls-unheard size ks (call_effect s k).left (call_effect t k).left c.left-alike in
    λ i. seen (c.outcome i) (n i) (take size (c.left-alike.bytes i)) ∷ r i

-- What stands past the samples fed is never heard: for every list of calls, refused ones included, answers, passes and images are the same.
pub runs-unheard : (e : Encoder) (f : List ℤ) (l : List ℕ) → Alike e.fed e.frame f → (size : ℕ) (ks : List Call) → run size (left e l) ks ≡ run size (left (framed e f) l) ks
runs-unheard e f l s size ks = calls-unheard size ks (left e l) (left (framed e f) l) (record { bytes = refl; frames = s; state = refl })
