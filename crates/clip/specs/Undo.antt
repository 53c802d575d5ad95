-- Undo: calls some of which are taken back, by going on from the state before them with the buffer as they left it. Definitions only.
use Rattle.std.specs.Prelude.{true, false, List, [], ◌∷◌, ◌++◌, ◌⊎◌, ◌≡◌, ℕ, ◌+◌, ◌*◌, ◌/◌, ◌≤◌, ◌<◌, length, get_or, drop}
use Rattle.layout.specs.declared.Shape.{Shape}
use Rattle.layout.specs.Sizes.{block_count, image_size, entry_place, bodies_place, frame_place, context_place}
use Rattle.clip.specs.declared.Encoder.{Encoder}
use Rattle.clip.specs.declared.starting.Start.{Start}
use Rattle.clip.specs.Image.{start_shape}
use Rattle.clip.specs.Encoding.{Left, left, encoder_shape}
use Rattle.clip.specs.Runs.{image_after, state_after, Call, Plain, plain_answer, call_effect}

-- a call and the steps after it; or some steps that are taken back, and the steps after that
pub data Steps : Type 0 where
  done : Steps
  call : Call → Steps → Steps
  undone : Steps → Steps → Steps

-- state and buffer after some steps: the state is the one from before what was taken back, the buffer is not
unfoldable pub reached : Left → Steps → Left
reached s done = s
reached s (call c t) = reached (call_effect s c).left t
reached s (undone u t) = reached (left s.encoder (reached s u).bytes) t

-- the calls that were not taken back
unfoldable pub kept : Steps → List Call
kept done = []
kept (call c t) = c ∷ kept t
kept (undone u t) = kept t

-- ---- buffers that a state goes on with alike

-- with q frames encoded, byte i is still to be written: it is the mark's, a frame's, in the context of a block whose first frame is to come, or in the entry that a loop adds
pub data Unwritten (s : Shape) (q i : ℕ) : Type 0 where
  marked : i < 4 → Unwritten s q i
  body : frame_place s q ≤ i → i < image_size s → Unwritten s q i
  context : (j : ℕ) → j < block_count s → q ≤ j * (s.block / 8) → context_place j ≤ i → i < context_place j + 6 → Unwritten s q i
  looping : entry_place (block_count s) ≤ i → i < bodies_place s → Unwritten s q i

-- a byte that the state has still to write: none once it is closed
abbrev pub ToWrite : Encoder → ℕ → Type 0
ToWrite e i = (e.closed ≡ false) × Unwritten (encoder_shape e) (e.fed / 14) i

-- two buffers of one length, the same but for bytes that the state has still to write
pub record SameSoFar (e : Encoder) (l m : List ℕ) : Type 0 where
  pub size : length l ≡ length m
  pub bytes : (i : ℕ) → (get_or l i 0 ≡ get_or m i 0) ⊎ ToWrite e i

-- t goes on as s does: the same state and answers, the same bytes but for those still to be written; past the image, and once closed everywhere, all of them are the same
pub record Equivalent (s t : Left) : Type 0 where
  pub state : t.encoder ≡ s.encoder
  pub bytes : SameSoFar s.encoder s.bytes t.bytes
  pub answers : (k : Call) → (call_effect t k).outcome ≡ (call_effect s k).outcome
  pub past : drop (image_size (encoder_shape s.encoder)) t.bytes ≡ drop (image_size (encoder_shape s.encoder)) s.bytes
  pub closed : s.encoder.closed ≡ true → t.bytes ≡ s.bytes

-- s is a plain machine's: the state and the answers are X's, bytes past the image are as they were, and once closed the image is X's
pub record AsPlain (g : Start) (rest : List ℕ) (m : Plain) (s : Left) : Type 0 where
  pub state : s.encoder ≡ state_after g m.samples m.closed
  pub answers : (k : Call) → (call_effect s k).outcome ≡ plain_answer g m k
  pub past : drop (image_size (start_shape g)) s.bytes ≡ rest
  pub closed : m.closed ≡ true → s.bytes ≡ image_after g m.samples true ++ rest
