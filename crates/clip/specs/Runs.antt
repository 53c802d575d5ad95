-- Whole runs of feeding and closing: a plain machine that sees only the start and the calls. Definitions only.
use Rattle.std.specs.Prelude.{Bool, true, cond, ◌&&◌, List, [], ◌∷◌, ◌++◌, ℕ, zero, suc, ◌+◌, ◌-◌, ◌*◌, ◌/◌, ◌%◌, ltb, ℤ, length, get_or, take, replicate}
use Rattle.whole.specs.Frames.{frame_at}
use Rattle.whole.specs.Outcome.{Outcome, accepted, refused_at, refused, Effect}
use Rattle.layout.specs.Fields.{mark, no_mark}
use Rattle.layout.specs.Sizes.{block_count, body_bytes}
use Rattle.frame.specs.Frame.{encode_frame, history_after}
use Rattle.frame.specs.declared.EncodedFrame.{EncodedFrame}
use Rattle.whole.specs.declared.History.{History}
use Rattle.block.specs.declared.FrameContext.{FrameContext}
use Rattle.block.specs.Context.{new_context}
use Rattle.clip.specs.declared.Encoder.{Encoder}
use Rattle.clip.specs.declared.starting.Start.{Start}
use Rattle.clip.specs.Image.{start_shape, head_bytes, context_bytes, no_context, table_bytes, loop_bytes, no_loop_bytes}
use Rattle.clip.specs.Encoding.{Left, left, encoded_frames, context_within, moved, no_frame, begun, feed, close}

-- ---- X's image; a start's block size is cut down

-- "each through `encode_frame` from the history that the frame before left, at first the starting one": that frame was full
unfoldable pub history_at : Start → List ℤ → ℕ → History
history_at g xs zero = g.history
history_at g xs (suc i) = let h = history_at g xs i in history_after h (encode_frame h (frame_at xs i) g.coefficients).samples 14

unfoldable pub encoded_at : Start → List ℤ → ℕ → EncodedFrame
encoded_at g xs i = encode_frame (history_at g xs i) (frame_at xs i) g.coefficients

-- "Its bodies are X's frames": the bytes of the first k of them
unfoldable pub bodies : Start → List ℤ → ℕ → List ℕ
bodies g xs zero = []
bodies g xs (suc k) = bodies g xs k ++ (encoded_at g xs k).bytes

-- "The passes are the sum over the frames encoded"
unfoldable pub passes_up_to : Start → List ℤ → ℕ → ℕ
passes_up_to g xs zero = 0
passes_up_to g xs (suc k) = passes_up_to g xs k + (encoded_at g xs k).passes

-- "a block's first frame also fills its entry's context: the header byte, and the history before it"; zeros while it is not among the k frames encoded
unfoldable pub context_at : Start → List ℤ → ℕ → ℕ → List ℕ
context_at g xs k j =
    let i = j * (g.block / 8) in
    cond (ltb i k) (context_bytes (get_or (encoded_at g xs i).bytes 0 0) (history_at g xs i)) no_context

-- "the context at the loop start once that is known": zeros while the frame that holds the start is not among the k frames encoded
unfoldable pub loop_context_at : Start → List ℤ → ℕ → FrameContext
loop_context_at g xs k =
    let p = g.looped in
    let i = p.start / 14 in
    cond (p.present && ltb i k) (context_within (history_at g xs i) (encoded_at g xs i) (p.start % 14)) new_context

-- "the frames encoded": the full ones, and all of them once the clip is closed
abbrev pub frames_done : Start → List ℤ → Bool → ℕ
frames_done g xs closed = encoded_frames (length xs) g.total closed

-- the entry that a loop adds: "that entry, like the mark, is zero until closing"
unfoldable pub loop_entry : Start → List ℤ → Bool → List ℕ
loop_entry g xs closed = cond closed (loop_bytes g.looped (loop_context_at g xs (frames_done g xs closed))) (no_loop_bytes g.looped)

-- "The first S bytes are X's image": head, contents and bodies; what is not encoded yet, and before closing the mark and the entry that a loop adds, are zero
unfoldable pub image_after : Start → List ℤ → Bool → List ℕ
image_after g xs closed =
    let k = frames_done g xs closed in
    head_bytes (cond closed mark no_mark) g
    ++ (table_bytes (context_at g xs k) (start_shape g) 0 (block_count (start_shape g))
    ++ (loop_entry g xs closed ++ take (body_bytes g.total) (bodies g xs k ++ replicate (body_bytes g.total) 0)))

-- ---- the state of X

-- the encoding state after X: its unfinished frame is X's tail, filled with zeros; after closing the history is that after the last real sample
unfoldable pub state_after : Start → List ℤ → Bool → Encoder
state_after g xs closed =
    let q = length xs / 14 in
    let h = history_at g xs q in
    let h' = cond closed (history_after h (encoded_at g xs q).samples (length xs % 14)) h in
    let k = frames_done g xs closed in
    moved (begun g) (length xs) h' (cond closed no_frame (frame_at xs q)) (passes_up_to g xs k) closed (loop_context_at g xs k)

-- state and buffer after X, where the buffer has some bytes past the image
unfoldable pub left_after : Start → List ℕ → List ℤ → Bool → Left
left_after g rest xs closed = left (state_after g xs closed) (image_after g xs closed ++ rest)

-- ---- the plain machine

pub data Call : Type 0 where
  feeds : List ℤ → Call
  closes : Call

-- what is seen of a call: its outcome, the state's passes, the buffer's first S bytes
pub record Seen : Type 0 where
  pub outcome : Outcome Unit
  pub passes : ℕ
  pub bytes : List ℕ

abbrev pub seen : Outcome Unit → ℕ → List ℕ → Seen
seen o p l = record { outcome = o; passes = p; bytes = l }

-- "It holds X, the pieces accepted so far, joined, at first none, and whether the clip is closed"
pub record Plain : Type 0 where
  pub samples : List ℤ
  pub closed : Bool

abbrev pub plain : List ℤ → Bool → Plain
plain xs c = record { samples = xs; closed = c }

-- "once closed, both are refused by code 9; before that, a piece is refused by code 10 or joins X, and closing is refused by code 11 or closes"
abbrev pub plain_answer : Start → Plain → Call → Outcome Unit
plain_answer g m (feeds p) = cond m.closed (refused 9) (cond (ltb (g.total - length m.samples) (length p)) (refused 10) (accepted tt))
plain_answer g m closes = cond m.closed (refused 9) (cond (ltb (length m.samples) g.total) (refused 11) (accepted tt))

-- "A refused call changes neither"
abbrev pub plain_next : Outcome Unit → Plain → Call → Plain
plain_next (accepted u) m (feeds p) = plain (m.samples ++ p) m.closed
plain_next (accepted u) m closes = plain m.samples true
plain_next (refused_at n j) m c = m

-- the machine after some calls
unfoldable pub plain_after : Start → Plain → List Call → Plain
plain_after g m [] = m
plain_after g m (c ∷ cs) = plain_after g (plain_next (plain_answer g m c) m c) cs

unfoldable pub plain_run : Start → Plain → List Call → List Seen
plain_run g m [] = []
plain_run g m (c ∷ cs) =
    let a = plain_answer g m c in
    let m' = plain_next a m c in
    seen a (passes_up_to g m'.samples (frames_done g m'.samples m'.closed)) (image_after g m'.samples m'.closed) ∷ plain_run g m' cs

-- ---- the calls' own definitions, one after the other

-- the effect of a call
abbrev pub call_effect : Left → Call → Effect (Outcome Unit) Left
call_effect s (feeds p) = feed s.encoder p s.bytes
call_effect s closes = close s.encoder s.bytes

-- state and buffer after some calls
unfoldable pub after : Left → List Call → Left
after s [] = s
after s (c ∷ cs) = after (call_effect s c).left cs

unfoldable pub run : ℕ → Left → List Call → List Seen
run size s [] = []
run size s (c ∷ cs) =
    let o = call_effect s c in
    seen o.outcome o.left.encoder.passes (take size o.left.bytes) ∷ run size o.left cs
