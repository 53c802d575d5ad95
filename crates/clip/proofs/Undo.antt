-- An older encoding state goes on with a later buffer as if nothing had come after it.
use mathlib.Core.Path.{◌≡◌, refl, sym, ap, ◌∙◌, subst}
use mathlib.Core.Bool.{Bool, false}
use mathlib.Core.List.{List, [], ◌∷◌, ◌++◌}
use Prim.Native.Nat.{ℕ}
use native.Mathlib.Omega.{arith}
use lib.Dec.{ltb}
use lib.IntN.{ℤ}
use lib.ListN.{length, drop}
use lib.Seq.{drop_at}
use Rattle.clip.specs.Image.{cut, start_shape}
use Rattle.whole.specs.Outcome.{Outcome, accepted, refused_at}
use Rattle.clip.specs.declared.Encoder.{Encoder}
use Rattle.layout.specs.Sizes.{image_size}
use Rattle.clip.specs.Encoding.{encoder_shape, Left, left, valid, feed_answer, feed, close_answer, close, start}
use Rattle.clip.specs.declared.starting.Start.{Start}
use Rattle.clip.specs.Runs.{image_after, state_after, left_after, Call, feeds, closes, plain, plain_after, call_effect, after, passes_up_to, context_at, bodies, encoded_at, history_at}
use Rattle.clip.specs.Undo.{SameSoFar, Steps, done, call, undone, reached, kept, Equivalent, AsPlain}
use Rattle.clip.proofs.ByOutcome.{CallEffect, feed_by, close_by}
use Rattle.whole.proofs.Outcomes.{passed, failed}
use Rattle.clip.proofs.AcceptedCalls.{feed-accepted, feed-open, close-accepted}
use Rattle.clip.proofs.ImageByFrames.{Fine}
use Rattle.clip.proofs.WholeRuns.{Legal, open-legal, legal-after, image-length, call-follows, start_fine, encoding-states}
use Rattle.clip.proofs.SameSoFar.{agree_refl, agree_trans, agree-closed, agree-past, Same, Later, later_refl, later_trans, piece-same, piece-later, end_same, end_later}

-- ---- the calls

-- the same answer and state, and buffers that it goes on with alike
pub record SameEffect (o p : CallEffect) : Type 0 where
  pub outcome : o.outcome ≡ p.outcome
  pub encoder : o.left.encoder ≡ p.left.encoder
  pub bytes : SameSoFar o.left.encoder o.left.bytes p.left.bytes

close-unclosed : (e : Encoder) (len : ℕ) → close_answer e len ≡ accepted tt → e.closed ≡ false
unfolding close_answer
close-unclosed e len p =
    let a = passed (valid e) 1 _ p in
    let b = failed (ltb len (image_size (encoder_shape e))) 8 _ a.1 in
    (failed e.closed 9 _ b.1).0

module _ (e : Encoder) (l m : List ℕ) (s : SameSoFar e l m) where
  feed-by : (xs : List ℤ) (a : Outcome Unit) → feed_answer e (length xs) (length l) ≡ a → SameEffect (feed_by a (left e l) xs) (feed_by a (left e m) xs)
  feed-by xs (accepted u) p =
      let g = piece-same xs (left e l) (left e m) (feed-accepted e (length xs) (length l) p).limits.wide (record { state = refl; bytes = s }) in
      record { outcome = refl; encoder = g.state; bytes = g.bytes }
  feed-by xs (refused_at n j) p = record { outcome = refl; encoder = refl; bytes = s }

  -- Feeding a piece to a state with two buffers that it goes on with alike.
  pub feed-same : (xs : List ℤ) → SameEffect (feed e xs l) (feed e xs m)
  unfolding feed
  feed-same xs =
      subst (λ (n : ℕ). SameEffect (feed_by (feed_answer e (length xs) (length l)) (left e l) xs) (feed_by (feed_answer e (length xs) n) (left e m) xs)) s.size
      (feed-by xs (feed_answer e (length xs) (length l)) refl)

  close-by : (a : Outcome Unit) → close_answer e (length l) ≡ a → SameEffect (close_by a (left e l)) (close_by a (left e m))
  close-by (accepted u) p =
      let w = close-accepted e (length l) p in
      let g = end_same e w.limits w.all l m s in
      record { outcome = refl; encoder = g.state; bytes = g.bytes }
  close-by (refused_at n j) p = record { outcome = refl; encoder = refl; bytes = s }

  -- And closing it.
  pub close-same : SameEffect (close e l) (close e m)
  unfolding close
  close-same =
      subst (λ (n : ℕ). SameEffect (close_by (close_answer e (length l)) (left e l)) (close_by (close_answer e n) (left e m))) s.size
      (close-by (close_answer e (length l)) refl)

module _ (e : Encoder) (l : List ℕ) where
  feed-by-later : (xs : List ℤ) (a : Outcome Unit) → feed_answer e (length xs) (length l) ≡ a → Later (left e l) (feed_by a (left e l) xs).left
  feed-by-later xs (accepted u) p =
      let g = feed-accepted e (length xs) (length l) p in
      let r = g.rest in
      piece-later xs (left e l) (record { limits = g.limits; rest = omega arith; unclosed = (feed-open e (length xs) (length l) p).0 })
  feed-by-later xs (refused_at n j) p = later_refl (left e l)

  -- Feeding writes bytes that were unwritten, and no others.
  pub feed-later : (xs : List ℤ) → Later (left e l) (feed e xs l).left
  unfolding feed
  feed-later xs = feed-by-later xs (feed_answer e (length xs) (length l)) refl

  close-by-later : (a : Outcome Unit) → close_answer e (length l) ≡ a → Later (left e l) (close_by a (left e l)).left
  close-by-later (accepted u) p = let w = close-accepted e (length l) p in end_later e w.limits w.all l (close-unclosed e (length l) p)
  close-by-later (refused_at n j) p = later_refl (left e l)

  -- So does closing.
  pub close-later : Later (left e l) (close e l).left
  unfolding close
  close-later = close-by-later (close_answer e (length l)) refl

-- ---- lists of calls

pub call_same : (k : Call) (s t : Left) → Same s t → SameEffect (call_effect s k) (call_effect t k)
call_same k s t a = subst (λ (d : Encoder). SameEffect (call_effect s k) (call_effect (left d t.bytes) k)) a.state (go k)
  where
    go : (k : Call) → SameEffect (call_effect s k) (call_effect (left s.encoder t.bytes) k)
    go (feeds p) = feed-same s.encoder s.bytes t.bytes a.bytes p
    go closes = close-same s.encoder s.bytes t.bytes a.bytes

left-same : (o p : CallEffect) → SameEffect o p → Same o.left p.left
left-same o p q = record { state = q.encoder; bytes = q.bytes }

call-later : (k : Call) (s : Left) → Later s (call_effect s k).left
call-later (feeds p) s = feed-later s.encoder s.bytes p
call-later closes s = close-later s.encoder s.bytes

-- Whatever is called from a state, the buffer that is left is one that it goes on with alike.
pub calls-later : (ks : List Call) (s : Left) → Later s (after s ks)
unfolding after
calls-later [] s = later_refl s
calls-later (k ∷ ks) s = later_trans s (call_effect s k).left (after (call_effect s k).left ks) (call-later k s) (calls-later ks (call_effect s k).left)

pub calls_same : (ks : List Call) (s t : Left) → Same s t → Same (after s ks) (after t ks)
unfolding after
calls_same [] s t a = a
calls_same (k ∷ ks) s t a = calls_same ks (call_effect s k).left (call_effect t k).left (left-same (call_effect s k) (call_effect t k) (call_same k s t a))

same-equivalent : (s t : Left) → Same s t → Equivalent s t
same-equivalent s t a =
    record {
      state = sym a.state;
      bytes = a.bytes;
      answers = λ k. sym (call_same k s t a).outcome;
      past = sym (agree-past s.encoder s.bytes t.bytes a.bytes);
      closed = λ c. sym (agree-closed s.encoder s.bytes t.bytes c a.bytes);
    }

-- An older encoding state with a later buffer: any calls lead where they would have led had those in between not been.
pub older-state : (s : Left) (between ks : List Call) → Equivalent (after s ks) (after (left s.encoder (after s between).bytes) ks)
older-state s between ks =
    let old = left s.encoder (after s between).bytes in
    same-equivalent (after s ks) (after old ks) (calls_same ks s old (record { state = refl; bytes = (calls-later between s).bytes }))

-- ---- steps, some of them taken back, in any nesting

steps-same : (t : Steps) (s r : Left) → Same s r → Same (after s (kept t)) (reached r t) × Later r (reached r t)
unfolding after kept reached
steps-same done s r a = (a, later_refl r)
steps-same (call k t) s r a =
    let n = steps-same t (call_effect s k).left (call_effect r k).left (left-same (call_effect s k) (call_effect r k) (call_same k s r a)) in
    (n.0, later_trans r (call_effect r k).left (reached (call_effect r k).left t) (call-later k r) n.1)
steps-same (undone u t) s r a =
    let b = (steps-same u s r a).1.bytes in
    let back = left r.encoder (reached r u).bytes in
    let w : SameSoFar s.encoder r.bytes (reached r u).bytes = subst (λ (d : Encoder). SameSoFar d r.bytes (reached r u).bytes) (sym a.state) b in
    let n = steps-same t s back (record { state = a.state; bytes = agree_trans s.encoder s.bytes r.bytes (reached r u).bytes a.bytes w }) in
    (n.0, later_trans r back (reached back t) (record { unwritten = λ i o. o; bytes = b }) n.1)

-- With steps taken back as often and as deep as one likes, one goes on as the calls that were not taken back lead.
pub steps-equivalent : (s : Left) (t : Steps) → Equivalent (after s (kept t)) (reached s t)
steps-equivalent s t = same-equivalent (after s (kept t)) (reached s t) (steps-same t s s (record { state = refl; bytes = agree_refl s.encoder s.bytes })).0

equivalent-plain : (g : Start) → Fine g → (rest : List ℕ) (xs : List ℤ) (c : Bool) → Legal g xs c → (s : Left) → Equivalent (left_after g rest xs c) s → AsPlain g rest (plain xs c) s
unfolding left_after state_after image_after passes_up_to context_at bodies encoded_at history_at
equivalent-plain g F rest xs c L s a =
    record {
      state = a.state;
      answers = λ k. a.answers k ∙ ap (λ (o : CallEffect). o.outcome) (call-follows g F rest xs c L k);
      past = a.past ∙ drop_at (image_after g xs c) rest (image_size (start_shape g)) (image-length g F xs c);
      closed = λ p. a.closed p ∙ ap (λ (b : Bool). image_after g xs b ++ rest) p;
    }

-- From an accepted start, with steps taken back as often and as deep as one likes: state, answers and closed image are those of X,
-- the pieces accepted of the calls that were not taken back. Bytes from S on are as they were.
pub encoding-steps : (g : Start) (l : List ℕ) → length g.coefficients ≡ 16 → (start g l).outcome ≡ accepted tt → (t : Steps)
    → AsPlain (cut g) (drop (image_size (start_shape (cut g))) l) (plain_after (cut g) (plain [] false) (kept t)) (reached (start g l).left t)
encoding-steps g l sixteen ok t =
    let rest = drop (image_size (start_shape (cut g))) l in
    let m = plain_after (cut g) (plain [] false) (kept t) in
    let s = reached (start g l).left t in
    let F = start_fine g l sixteen ok in
    equivalent-plain (cut g) F rest m.samples m.closed (legal-after (cut g) [] false (open-legal (cut g) [] (omega arith)) (kept t)) s
    (subst (λ (b : Left). Equivalent b s) (encoding-states g l sixteen ok (kept t)) (steps-equivalent (start g l).left t))
