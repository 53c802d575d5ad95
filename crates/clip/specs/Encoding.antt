-- Starting, feeding and closing: what each call does to the encoding state and to the image's bytes. Definitions only.
use Rattle.std.specs.Prelude.{Result, Bool, true, false, not, cond, ◌&&◌, ℕ, ◌+◌, ◌-◌, ◌*◌, ◌/◌, ◌%◌, eqb, leb, ltb, ℤ, pos, length, get_or, take, set, replicate}
use mathlib.Core.List.{List, foldl}
use Rattle.std.proofs.lemmas.List.Edits.{sets}
use Rattle.whole.specs.Frames.{frame_count}
use Rattle.whole.specs.Outcome.{Outcome, accepted, refused, answered, if_accepted, Effect, effect}
use Rattle.layout.specs.declared.Shape.{Shape}
use Rattle.layout.specs.declared.Loop.{Loop}
use Rattle.block.specs.declared.FrameContext.{FrameContext}
use Rattle.block.specs.Context.{context_with, new_context}
use Rattle.layout.specs.Fields.{mark}
use Rattle.layout.specs.Limits.{total_ok, block_ok, numbers_ok, loop_ok}
use Rattle.layout.specs.Sizes.{shape, no_loop, loop_count, block_count, image_size, entry_place, frame_place, context_place}
use Rattle.frame.specs.Frame.{encode_frame, history_after, coefficients_ok}
use Rattle.frame.specs.declared.EncodedFrame.{EncodedFrame}
use Rattle.whole.specs.declared.History.{History}
use Rattle.clip.specs.declared.Encoder.{Encoder}
use Rattle.clip.specs.declared.starting.Start.{Start}
use Rattle.clip.specs.declared.Refusal.{Refusal}
use Rattle.clip.specs.declared.Refusal.TheVariants.{InvalidState, BadSampleCount, RateZero, BadBlockSize, CoefficientOutside, LoopOutside, ImageTooShort, AlreadyClosed, PieceTooLong, Unfinished}
use Rattle.clip.specs.Image.{cut, start_shape, context_bytes, loop_bytes, fresh_bytes}

-- ---- answers

-- the number of each refusal in documents 01 and 02
abbrev pub code : Refusal → ℕ
code InvalidState = 1
code BadSampleCount = 4
code RateZero = 5
code BadBlockSize = 6
code CoefficientOutside = 7
code LoopOutside = 23
code ImageTooShort = 8
code AlreadyClosed = 9
code PieceTooLong = 10
code Unfinished = 11

-- what an answer says: its values, or the refusal's number; no block is named
abbrev pub outcome : {A : Type 0} → Result A Refusal → Outcome A
outcome r = answered code (λ _. 0) r

-- the state and the image's bytes that a call leaves
pub record Left : Type 0 where
  pub encoder : Encoder
  pub bytes : List ℕ

abbrev pub left : Encoder → List ℕ → Left
left e l = record { encoder = e; bytes = l }

-- ---- the state test, code 1

-- the shape of the clip that a state encodes
abbrev pub encoder_shape : Encoder → Shape
encoder_shape e = shape e.total e.block (loop_count e.looped)

-- "the frames encoded (⌊n/14⌋, F when closed)"
abbrev pub encoded_frames : ℕ → ℕ → Bool → ℕ
encoded_frames n total closed = cond closed (frame_count total) (n / 14)

-- "closed with n < N", "passes above 104 × the frames encoded"
unfoldable pub counts_ok : ℕ → ℕ → Bool → ℕ → Bool
counts_ok n total closed passes = not (closed && ltb n total) && leb passes (104 * encoded_frames n total closed)

-- a state with none of these, nor "a coefficient outside 7", nor "whose loop breaks the rule of 23"
unfoldable pub valid : Encoder → Bool
valid e =
    numbers_ok e.fed e.total e.block e.rate
    && (coefficients_ok e.coefficients && (loop_ok e.looped e.total && counts_ok e.fed e.total e.closed e.passes))

-- ---- a frame is stored

-- "Each full frame is encoded to its place; a block's first frame also fills its entry's context: the header byte, and the history before it"
unfoldable pub store : Shape → ℕ → List ℕ → History → List ℕ → List ℕ
store s q bytes h image =
    let per = s.block / 8 in
    let stored = sets image (frame_place s q) bytes in
    cond (eqb (q % per) 0) (sets stored (context_place (q / per)) (context_bytes (get_or bytes 0 0) h)) stored

-- the context at place m of an encoded frame: its header byte, and the history after its first m samples
abbrev pub context_within : History → EncodedFrame → ℕ → FrameContext
context_within h c m = context_with (get_or c.bytes 0 0) (history_after h c.samples m)

-- "with the context at the loop start once that is known": once frame q, which holds the start, is encoded after h
unfoldable pub loop_context : Loop → ℕ → History → EncodedFrame → FrameContext → FrameContext
loop_context p q h c before = cond (p.present && eqb (p.start / 14) q) (context_within h c (p.start % 14)) before

-- the state with other n, history, unfinished frame, passes, closed and context at the loop start
abbrev pub moved : Encoder → ℕ → History → List ℤ → ℕ → Bool → FrameContext → Encoder
moved e n h f passes closed context =
    record {
      total = e.total;
      rate = e.rate;
      block = e.block;
      gain = e.gain;
      coefficients = e.coefficients;
      fed = n;
      history = h;
      frame = f;
      passes = passes;
      closed = closed;
      looped = e.looped;
      context = context;
    }

-- an empty unfinished frame
abbrev pub no_frame : List ℤ
no_frame = replicate 14 (pos 0)

-- ---- a piece is fed

-- one sample
unfoldable pub push : Left → ℤ → Left
push s x =
    let e = s.encoder in
    let f = set e.frame (e.fed % 14) x in
    let c = encode_frame e.history f e.coefficients in
    let q = e.fed / 14 in
    cond (eqb (e.fed % 14) 13)
    (left (moved e (e.fed + 1) (history_after e.history c.samples 14) no_frame (e.passes + c.passes) e.closed (loop_context e.looped q e.history c e.context))
    (store (encoder_shape e) q c.bytes e.history s.bytes))
    (left (moved e (e.fed + 1) e.history f e.passes e.closed e.context) s.bytes)

-- the samples of a piece in turn
abbrev pub feed_all : Left → List ℤ → Left
feed_all s xs = foldl push s xs

-- codes 1, 8, 9, and then the call's own
abbrev pub going_answer : Encoder → ℕ → Outcome Unit → Outcome Unit
going_answer e size next =
    cond (not (valid e)) (refused 1)
    (cond (ltb size (image_size (encoder_shape e))) (refused 8)
    (cond e.closed (refused 9) next))

-- codes 1, 8, 9, 10
unfoldable pub feed_answer : Encoder → ℕ → ℕ → Outcome Unit
feed_answer e piece size = going_answer e size (cond (ltb (e.total - e.fed) piece) (refused 10) (accepted tt))

-- a piece is fed: outcome, state and image, which a refusal leaves as they were
unfoldable pub feed : Encoder → List ℤ → List ℕ → Effect (Outcome Unit) Left
feed e xs l = let o = feed_answer e (length xs) (length l) in effect o (if_accepted o (feed_all (left e l) xs) (left e l))

-- ---- the clip is closed

-- "one entry, written by closing, is added after the K others", and the mark is written
unfoldable pub ended : Shape → Loop → FrameContext → List ℕ → List ℕ
ended s p c l = sets (sets l (entry_place (block_count s)) (loop_bytes p c)) 0 mark

-- "Closing pads and encodes a short last frame, stores only its 1 + ⌈m/2⌉ bytes, and writes the mark"
unfoldable pub finish : Left → Left
finish s =
    let e = s.encoder in
    let m = e.fed % 14 in
    let q = e.fed / 14 in
    let f = sets e.frame m (replicate (14 - m) (pos 0)) in
    let c = encode_frame e.history f e.coefficients in
    let k = loop_context e.looped q e.history c e.context in
    cond (eqb m 0)
    (left (moved e e.fed e.history no_frame e.passes true e.context) (ended (encoder_shape e) e.looped e.context s.bytes))
    (left (moved e e.fed (history_after e.history c.samples m) no_frame (e.passes + c.passes) true k)
    (ended (encoder_shape e) e.looped k (store (encoder_shape e) q (take (1 + (m + 1) / 2) c.bytes) e.history s.bytes)))

-- codes 1, 8, 9, 11
unfoldable pub close_answer : Encoder → ℕ → Outcome Unit
close_answer e size = going_answer e size (cond (ltb e.fed e.total) (refused 11) (accepted tt))

-- the clip is closed: outcome, state and image, which a refusal leaves as they were
unfoldable pub close : Encoder → List ℕ → Effect (Outcome Unit) Left
close e l = let o = close_answer e (length l) in effect o (if_accepted o (finish (left e l)) (left e l))

-- ---- a clip is started

-- the state before the first sample
abbrev pub begun : Start → Encoder
begun g =
    record {
      total = g.total;
      rate = g.rate;
      block = g.block;
      gain = g.gain;
      coefficients = g.coefficients;
      fed = 0;
      history = g.history;
      frame = no_frame;
      passes = 0;
      closed = false;
      looped = g.looped;
      context = new_context;
    }

-- what a refused start gives: all zeros, which every call refuses
abbrev pub no_encoder : Encoder
no_encoder = begun (record { total = 0; rate = 0; block = 0; gain = 0; coefficients = replicate 16 (pos 0); history = record { newest = pos 0; older = pos 0 }; looped = no_loop })

-- codes 4, 5, 6, 7; "23 when the start is not below the end or the end is above N, after 7"; 8
unfoldable pub start_answer : Start → ℕ → Outcome Unit
start_answer g size =
    cond (not (total_ok g.total)) (refused 4)
    (cond (eqb g.rate 0) (refused 5)
    (cond (not (block_ok g.block)) (refused 6)
    (cond (not (coefficients_ok g.coefficients)) (refused 7)
    (cond (not (loop_ok g.looped g.total)) (refused 23)
    (cond (ltb size (image_size (start_shape (cut g)))) (refused 8)
    (accepted tt))))))

-- a clip is started: outcome, state and image; a refusal leaves the image as it was
unfoldable pub start : Start → List ℕ → Effect (Outcome Unit) Left
start g l = let o = start_answer g (length l) in effect o (if_accepted o (left (begun (cut g)) (sets l 0 (fresh_bytes (cut g)))) (left no_encoder l))
