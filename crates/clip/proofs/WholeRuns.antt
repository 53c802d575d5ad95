-- Whole runs: for every list of feedings and closings from an accepted start on its buffer, refused ones included, what is seen is the plain machine's.
use mathlib.Core.Path.{◌≡◌, refl, sym, ap, ap₂, ◌∙◌, fun_ext}
use mathlib.Core.List.{List, [], ◌∷◌, ◌++◌}
use mathlib.Core.Bool.{Bool, true, false, cond, ◌&&◌}
use Prim.Native.Nat.{ℕ, ◌+◌, ◌-◌, ◌*◌, ◌/◌, ◌%◌, ◌≤◌}
use native.Mathlib.Omega.{arith}
use borrow.Author.Tests.{ltb-false, le-leb, le-ltb, eq-eqb, ne_eqb}
use lib.Dec.{ltb}
use lib.IntN.{ℤ}
use lib.ListN.{length, take, drop, get_or, length-append}
use lib.Seq.{sets-eq, take_at}
use Rattle.std.proofs.lemmas.Bool.{false≢true}
use Rattle.whole.specs.Frames.{frame_at, most, frame_count}
use Rattle.whole.proofs.Stores.{take-replicate}
use Rattle.layout.specs.Sizes.{block_count, body_bytes, image_size}
use Rattle.layout.specs.Fields.{mark, no_mark}
use Rattle.whole.specs.Outcome.{Outcome, accepted, refused_at, effect}
use Rattle.clip.specs.Image.{cut, start_shape, head_bytes, context_bytes, no_context, table_bytes, no_loop_bytes, fresh_bytes, coefficient_bytes}
use Rattle.clip.specs.Encoding.{Left, left, context_within, moved, no_frame, counts_ok, valid, feed_answer, feed, close_answer, close, begun, start_answer, start}
use Rattle.layout.specs.Limits.{numbers_ok}
use Rattle.block.specs.declared.FrameContext.{FrameContext}
use Rattle.block.specs.Context.{new_context}
use Rattle.clip.specs.declared.starting.Start.{Start}
use Rattle.clip.specs.Runs.{history_at, encoded_at, bodies, passes_up_to, context_at, loop_context_at, frames_done, loop_entry, image_after, state_after, left_after, Call, feeds}
use Rattle.clip.specs.Runs.{closes, Seen, seen, plain, plain_answer, plain_next, plain_after, plain_run, call_effect, after, run}
use Rattle.clip.proofs.ByOutcome.{CallEffect, feed_by, close_by, start_by}
use Rattle.clip.proofs.AcceptedCalls.{start-accepted}
use Rattle.whole.proofs.Outcomes.{not-both, failed}
use Rattle.layout.proofs.LimitLaws.{told-ok}
use Rattle.clip.proofs.LaterSamples.{passes-most}
use Rattle.clip.proofs.ImageByFrames.{Fine, image-built, entry-last, built-length}
use Rattle.clip.proofs.StateOfSamples.{piece-follows, end-follows}

-- a machine that calls have led to
pub record Legal (g : Start) (xs : List ℤ) (c : Bool) : Type 0 where
  pub few : length xs ≤ g.total
  pub all : c ≡ true → g.total ≤ length xs

-- an open clip
pub open-legal : (g : Start) (xs : List ℤ) → length xs ≤ g.total → Legal g xs false
open-legal g xs h = record { few = h; all = λ z. absurd (false≢true z) }

pub image-length : (g : Start) → Fine g → (xs : List ℤ) (c : Bool) → length (image_after g xs c) ≡ image_size (start_shape g)
image-length g F xs true = ap length (image-built g xs true) ∙ built-length g F mark refl (loop_entry g xs true) (entry-last g xs true) xs (frame_count g.total)
image-length g F xs false = ap length (image-built g xs false) ∙ built-length g F no_mark refl (loop_entry g xs false) (entry-last g xs false) xs (length xs / 14)

-- ---- the state passes the test, the buffer is long enough

counts-fine : (g : Start) (xs : List ℤ) (c : Bool) → Legal g xs c → counts_ok (length xs) g.total c (passes_up_to g xs (frames_done g xs c)) ≡ true
unfolding counts_ok
counts-fine g xs true L = rw (le-ltb (length xs) g.total (L.all refl), le-leb (passes_up_to g xs (frame_count g.total)) (104 * frame_count g.total) (passes-most g xs (frame_count g.total)))
counts-fine g xs false L = le-leb (passes_up_to g xs (length xs / 14)) (104 * (length xs / 14)) (passes-most g xs (length xs / 14))

pub state-valid : (g : Start) → Fine g → (xs : List ℤ) (c : Bool) → Legal g xs c → valid (state_after g xs c) ≡ true
unfolding valid numbers_ok state_after passes_up_to encoded_at history_at
state-valid g F xs c L =
    let l = F.limits in
    rw (
      le-leb (length xs) g.total L.few,
      le-leb 1 g.total l.some,
      le-leb g.total most l.few,
      le-leb 8 g.block l.wide,
      le-leb g.block 65536 l.narrow,
      eq-eqb (g.block % 8) 0 l.eights,
      ne_eqb g.rate 0 F.some,
      F.within,
      F.looping,
      counts-fine g xs c L,
    )

long-enough : (g : Start) → Fine g → (rest : List ℕ) (xs : List ℤ) (c : Bool) → ltb (length (image_after g xs c ++ rest)) (image_size (start_shape g)) ≡ false
long-enough g F rest xs c =
    le-ltb (length (image_after g xs c ++ rest)) (image_size (start_shape g)) (omega (arith, length-append (image_after g xs c) rest, image-length g F xs c))

-- ---- each call

-- what a call leaves, by the plain machine
abbrev pub next : Start → List ℕ → List ℤ → Bool → Outcome Unit → Call → Left
next g rest xs c a k = let m = plain_next a (plain xs c) k in left_after g rest m.samples m.closed

module _ (g : Start) (xs : List ℤ) where
  feed-open : (c : Bool) (p : List ℤ) → Legal g xs c → plain_answer g (plain xs c) (feeds p) ≡ accepted tt → length xs + length p ≤ g.total
  feed-open c p L e =
      let b = failed (ltb (g.total - length xs) (length p)) 10 (accepted tt) (failed c 9 _ e).1 in
      let few = L.few in
      let l = ltb-false (g.total - length xs) (length p) b.0 in
      omega arith

  close_open : (c : Bool) → Legal g xs c → plain_answer g (plain xs c) closes ≡ accepted tt → length xs ≡ g.total
  close_open c L e =
      let b = failed (ltb (length xs) g.total) 11 (accepted tt) (failed c 9 _ e).1 in
      let few = L.few in
      let l = ltb-false (length xs) g.total b.0 in
      omega arith

  -- an accepted call leads on
  legal-next : (c : Bool) → Legal g xs c → (k : Call) (a : Outcome Unit) → plain_answer g (plain xs c) k ≡ a → (let m = plain_next a (plain xs c) k in Legal g m.samples m.closed)
  legal-next c L k (refused_at n j) e = L
  legal-next true L (feeds p) (accepted tt) e = absurd (not-both e)
  legal-next false L (feeds p) (accepted tt) e = record { few = omega (arith, length-append xs p, feed-open false p L e); all = λ z. absurd (false≢true z) }
  legal-next c L closes (accepted u) e = record { few = L.few; all = λ z. omega (arith, close_open c L e) }

pub legal-after : (g : Start) (xs : List ℤ) (c : Bool) → Legal g xs c → (ks : List Call) → (let m = plain_after g (plain xs c) ks in Legal g m.samples m.closed)
unfolding plain_after
legal-after g xs c L [] = L
legal-after g xs c L (k ∷ ks) =
    let a = plain_answer g (plain xs c) k in
    let m = plain_next a (plain xs c) k in
    legal-after g m.samples m.closed (legal-next g xs c L k a refl) ks

module _ (g : Start) (F : Fine g) (rest : List ℕ) (xs : List ℤ) where
  feed-answered : (c : Bool) → Legal g xs c → (p : List ℤ) → feed_answer (state_after g xs c) (length p) (length (image_after g xs c ++ rest)) ≡ plain_answer g (plain xs c) (feeds p)
  unfolding feed_answer state_after passes_up_to encoded_at history_at
  feed-answered c L p = rw (state-valid g F xs c L, long-enough g F rest xs c)

  close-answered : (c : Bool) → Legal g xs c → close_answer (state_after g xs c) (length (image_after g xs c ++ rest)) ≡ plain_answer g (plain xs c) closes
  unfolding close_answer state_after passes_up_to encoded_at history_at
  close-answered c L = rw (state-valid g F xs c L, long-enough g F rest xs c)

  feed-by : (c : Bool) → Legal g xs c → (p : List ℤ) (a : Outcome Unit) → plain_answer g (plain xs c) (feeds p) ≡ a → feed_by a (left_after g rest xs c) p ≡ effect a (next g rest xs c a (feeds p))
  feed-by c L p (refused_at n j) e = refl
  feed-by true L p (accepted u) e = absurd (not-both e)
  feed-by false L p (accepted u) e = ap (effect (accepted tt)) (piece-follows g F rest xs p (feed-open g xs false p L e))

  close-by : (c : Bool) → Legal g xs c → (a : Outcome Unit) → plain_answer g (plain xs c) closes ≡ a → close_by a (left_after g rest xs c) ≡ effect a (next g rest xs c a closes)
  close-by c L (refused_at n j) e = refl
  close-by true L (accepted u) e = absurd (not-both e)
  close-by false L (accepted u) e = ap (effect (accepted tt)) (end-follows g F rest xs (close_open g xs false L e))

  pub call-follows : (c : Bool) → Legal g xs c → (k : Call) → call_effect (left_after g rest xs c) k ≡ effect (plain_answer g (plain xs c) k) (next g rest xs c (plain_answer g (plain xs c) k) k)
  unfolding feed close left_after state_after image_after passes_up_to context_at bodies encoded_at history_at
  call-follows c L (feeds p) = ap (λ (a : Outcome Unit). feed_by a (left_after g rest xs c) p) (feed-answered c L p) ∙ feed-by c L p (plain_answer g (plain xs c) (feeds p)) refl
  call-follows c L closes = ap (λ (a : Outcome Unit). close_by a (left_after g rest xs c)) (close-answered c L) ∙ close-by c L (plain_answer g (plain xs c) closes) refl

-- ---- all calls

module _ (g : Start) (F : Fine g) (rest : List ℕ) where
  runs-follow : (xs : List ℤ) (c : Bool) → Legal g xs c → (ks : List Call) → run (image_size (start_shape g)) (left_after g rest xs c) ks ≡ plain_run g (plain xs c) ks
  unfolding run plain_run left_after state_after passes_up_to image_after encoded_at context_at bodies history_at
  runs-follow xs c L [] = refl
  runs-follow xs c L (k ∷ ks) =
      let size = image_size (start_shape g) in
      let a = plain_answer g (plain xs c) k in
      let m = plain_next a (plain xs c) k in
      ap (λ (o : CallEffect). seen o.outcome o.left.encoder.passes (take size o.left.bytes) ∷ run size o.left ks) (call-follows g F rest xs c L k)
      ∙ ap₂ (λ (l : List ℕ) (r : List Seen). seen a (passes_up_to g m.samples (frames_done g m.samples m.closed)) l ∷ r)
      (take_at (image_after g m.samples m.closed) rest size (image-length g F m.samples m.closed))
      (runs-follow m.samples m.closed (legal-next g xs c L k a refl) ks)

  states-follow : (xs : List ℤ) (c : Bool) → Legal g xs c → (ks : List Call) → after (left_after g rest xs c) ks ≡ (let m = plain_after g (plain xs c) ks in left_after g rest m.samples m.closed)
  unfolding after plain_after
  states-follow xs c L [] = refl
  states-follow xs c L (k ∷ ks) =
      let a = plain_answer g (plain xs c) k in
      let m = plain_next a (plain xs c) k in
      ap (λ (o : CallEffect). after o.left ks) (call-follows g F rest xs c L k) ∙ states-follow m.samples m.closed (legal-next g xs c L k a refl) ks

-- ---- the start

-- no frame is encoded yet
fresh-image : (g : Start) → fresh_bytes g ≡ image_after g [] false
unfolding fresh_bytes image_after loop_entry bodies context_at head_bytes table_bytes coefficient_bytes block_count frame_count encoded_at history_at
fresh-image g =
    let n = g.total in
    let per = g.block / 8 in
    ap₂ (λ (f : ℕ → List ℕ) (l : List ℕ). head_bytes no_mark g ++ (table_bytes f (start_shape g) 0 (block_count (start_shape g)) ++ (no_loop_bytes g.looped ++ l)))
    (fun_ext (λ j. ap (λ (t : Bool). cond t (context_bytes (get_or (encoded_at g [] (j * per)).bytes 0 0) (history_at g [] (j * per))) no_context) (sym (le-ltb (j * per) 0 (omega arith)))))
    (sym (take-replicate (body_bytes n) (body_bytes n) 0 (omega arith)))

fresh-loop : (g : Start) → new_context ≡ loop_context_at g [] 0
unfolding loop_context_at encoded_at history_at
fresh-loop g = go g.looped.present
  where
    go : (t : Bool)
        → new_context
        ≡ cond (t && ltb (g.looped.start / 14) 0) (context_within (history_at g [] (g.looped.start / 14)) (encoded_at g [] (g.looped.start / 14)) (g.looped.start % 14)) new_context
    go true =
        ap (λ (b : Bool). cond b (context_within (history_at g [] (g.looped.start / 14)) (encoded_at g [] (g.looped.start / 14)) (g.looped.start % 14)) new_context)
        (sym (le-ltb (g.looped.start / 14) 0 (omega arith)))
    go false = refl

module _ (g : Start) (l : List ℕ) where
  pub start-answered : (start g l).outcome ≡ accepted tt → start_answer g (length l) ≡ accepted tt
  unfolding start
  start-answered ok = ok

  pub start_fine : length g.coefficients ≡ 16 → (start g l).outcome ≡ accepted tt → Fine (cut g)
  start_fine sixteen ok =
      let s = start-accepted g (length l) (start-answered ok) in
      record { limits = s.limits; some = s.some; sixteen = sixteen; within = s.within; looping = told-ok g.looped g.total s.looping }

  -- an accepted start leaves the state and the image of no sample
  pub start-follows : length g.coefficients ≡ 16 → (start g l).outcome ≡ accepted tt → start g l ≡ effect (accepted tt) (left_after (cut g) (drop (image_size (start_shape (cut g))) l) [] false)
  unfolding start left_after state_after history_at passes_up_to frame_at image_after context_at bodies encoded_at
  start-follows sixteen ok =
      let size = image_size (start_shape (cut g)) in
      let s = start-accepted g (length l) (start-answered ok) in
      let F = start_fine sixteen ok in
      let fresh = fresh_bytes (cut g) in
      let e : length fresh ≡ size = ap length (fresh-image (cut g)) ∙ image-length (cut g) F [] false in
      let e0 : 0 + length fresh ≡ size = omega arith in
      ap (λ (a : Outcome Unit). start_by a (cut g) l) (start-answered ok)
      ∙ ap (λ (r : List ℕ). effect (accepted tt) (left (begun (cut g)) r))
      (sets-eq fresh l 0 (omega (arith, s.size)) ∙ ap (λ (k : ℕ). fresh ++ drop k l) e0 ∙ ap (λ (r : List ℕ). r ++ drop size l) (fresh-image (cut g)))
      ∙ ap (λ (c : FrameContext). effect (accepted tt) (left (moved (begun (cut g)) 0 g.history no_frame 0 false c) (image_after (cut g) [] false ++ drop size l))) (fresh-loop (cut g))

  -- Demand 3 for feeding and closing. From an accepted start, for every list of feedings and closings on its buffer, refused ones included:
  -- each answer, the state's passes and the buffer's first S bytes are the plain machine's.
  pub encoding-runs : length g.coefficients ≡ 16 → (start g l).outcome ≡ accepted tt → (ks : List Call)
      → run (image_size (start_shape (cut g))) (start g l).left ks ≡ plain_run (cut g) (plain [] false) ks
  encoding-runs sixteen ok ks =
      let size = image_size (start_shape (cut g)) in
      ap (λ (o : CallEffect). run size o.left ks) (start-follows sixteen ok)
      ∙ runs-follow (cut g) (start_fine sixteen ok) (drop size l) [] false (open-legal (cut g) [] (omega arith)) ks

  -- and after them the whole state and the whole buffer are functions of the start and of X; bytes from S on are as they were
  pub encoding-states : length g.coefficients ≡ 16 → (start g l).outcome ≡ accepted tt → (ks : List Call)
      → after (start g l).left ks ≡ (let m = plain_after (cut g) (plain [] false) ks in left_after (cut g) (drop (image_size (start_shape (cut g))) l) m.samples m.closed)
  encoding-states sixteen ok ks =
      ap (λ (o : CallEffect). after o.left ks) (start-follows sixteen ok)
      ∙ states-follow (cut g) (start_fine sixteen ok) (drop (image_size (start_shape (cut g))) l) [] false (open-legal (cut g) [] (omega arith)) ks
