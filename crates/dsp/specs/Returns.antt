-- What is promised of files and images that go through import and export. Definitions only.
use Rattle.std.specs.Prelude.{Bool, true, not, cond, List, [], ◌++◌, ◌≡◌, ℕ, zero, suc, ◌+◌, ◌*◌, ◌/◌, ◌≤◌, ◌<◌, ℤ, length, get_or, take, drop}
use Rattle.whole.specs.declared.History.{History}
use Rattle.whole.specs.Outcome.{Outcome, accepted, refused_at, effect}
use Rattle.block.specs.Play.{play, play_bytes}
use Rattle.block.specs.Context.{new_context}
use Rattle.layout.specs.declared.Shape.{Shape}
use Rattle.layout.specs.Limits.{block_ok}
use Rattle.layout.specs.Sizes.{block_count, cut_down, block_length, image_size}
use Rattle.clip.specs.Image.{start_shape}
use Rattle.image.specs.Reading.{total_in, block_in, shape_in, coefficients_in, context_in}
use Rattle.image.specs.Opening.{told, open_image}
use Rattle.image.specs.Bodies.{body_in}
use Rattle.image.specs.Sameness.{samples_in, compare_answer}
use Rattle.image.specs.WholeImage.{play_all}
use Rattle.dsp.specs.File.{file_bytes, total_of, nibbles_of, rate_of, loop_of, coefficients_of, gain_of, first_of, loop_context_of, bodies_of}
use Rattle.dsp.specs.Export.{bodies_in, exported, equal_history, export_answer, export_image}
use Rattle.dsp.specs.Import.{clip_of, imported, imported_bytes, file_answer, import_file}

-- a list of bytes
abbrev pub Bytes : List ℕ → Type 0
Bytes l = (i : ℕ) → get_or l i 0 < 256

-- of a file that import accepts at a block size: its image, whatever stands behind it in the buffer
pub record ImportedFile (f : List ℕ) (size : ℕ) (rest : List ℕ) : Type 0 where
  -- as many bytes as import answers
  pub count : length (imported f size) ≡ imported_bytes f size
  -- import leaves it, and what stood beyond in the buffer
  pub leaves : (into : List ℕ) → imported_bytes f size ≤ length into → import_file f size into ≡ effect (accepted (imported_bytes f size)) (imported f size ++ drop (imported_bytes f size) into)
  -- "Import drops bytes past the last body": whatever stands there
  pub drops : (more into : List ℕ) → import_file (take (file_bytes (total_of f)) f ++ more) size into ≡ import_file f size into
  -- the image opens, and says what the file says
  pub opens : open_image (imported f size ++ rest)
      ≡ effect (accepted tt)
      (told
      (record { total = total_of f; rate = rate_of f; block = cut_down size; gain = gain_of f; coefficients = coefficients_of f; blocks = block_count (start_shape (clip_of f size)) })
      (loop_of f)
      (cond (loop_of f).present (loop_context_of f) new_context))
  -- 13 refuses it nowhere
  pub compares : compare_answer (imported f size ++ rest) ≡ accepted tt
  -- "an imported file plays as `Decoder` plays its bytes as one block": count, samples, final context and what stood beyond in the output
  pub plays : (out : List ℤ) → total_of f ≤ length out → play_all (imported f size ++ rest) out ≡ play_bytes (bodies_of f) (nibbles_of f) (coefficients_of f) (first_of f) out
  pub samples : samples_in (imported f size ++ rest) ≡ (play (bodies_of f) (coefficients_of f) (nibbles_of f) (first_of f)).samples
  -- export accepts it where there is room, and gives the file again, without the bytes that were dropped
  pub exports : (room : ℕ) → file_bytes (total_of f) ≤ room → export_answer (imported f size ++ rest) room ≡ accepted tt
  pub returns : exported (imported f size ++ rest) ≡ take (file_bytes (total_of f)) f

-- of an image that export accepts: its file, whatever stands behind it
pub record ExportedImage (l rest : List ℕ) : Type 0 where
  -- as many bytes as export answers
  pub count : length (exported l) ≡ file_bytes (total_in l)
  -- export leaves it, and what stood beyond in the output
  pub leaves : (out : List ℕ) → file_bytes (total_in l) ≤ length out → export_image l out ≡ effect (accepted (file_bytes (total_in l))) (exported l ++ drop (file_bytes (total_in l)) out)
  -- import accepts it at every block size that 6 allows
  pub accepts : (size : ℕ) → block_ok size ≡ true → file_answer (exported l ++ rest) size ≡ accepted tt
  -- "exported and imported at its own block size, returns byte for byte"
  pub room : imported_bytes (exported l ++ rest) (block_in l) ≡ image_size (shape_in l)
  pub returns : imported (exported l ++ rest) (block_in l) ≡ take (image_size (shape_in l)) l

-- ---- "4 nibble count (the sum of the block lengths)"

-- the lengths of the first k blocks
unfoldable pub lengths_up_to : Shape → ℕ → ℕ
lengths_up_to s zero = 0
lengths_up_to s (suc k) = lengths_up_to s k + block_length s k

-- ---- "The bodies follow joined"

-- the bodies of the first k blocks
unfoldable pub bodies_up_to : List ℕ → ℕ → List ℕ
bodies_up_to l zero = []
bodies_up_to l (suc k) = bodies_up_to l k ++ body_in l k

-- ---- 35 asked from the first block on

-- the history before frame q, where all bodies are played as one block from the first one's context
unfoldable pub history_from_first : List ℕ → ℕ → History
history_from_first l q = (play (bodies_in l) (coefficients_in l) (16 * q) (context_in l 0)).context.last_samples

-- block j + 1's history is what all blocks before it leave, played in turn from the first one's context
unfoldable pub goes_on_from_first : List ℕ → ℕ → Bool
goes_on_from_first l j = equal_history (history_from_first l (suc j * (block_in l / 8))) (context_in l (suc j)).last_samples

unfoldable pub histories_from_first : List ℕ → ℕ → ℕ → Outcome Unit
histories_from_first l j zero = accepted tt
histories_from_first l j (suc k) = cond (not (goes_on_from_first l j)) (refused_at 35 (suc j)) (histories_from_first l (suc j) k)
