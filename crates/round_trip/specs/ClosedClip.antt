-- What is promised of the state and the image that a closed clip leaves. Definitions only.
use Rattle.std.specs.Prelude.{◌≡◌, true, false, cond, List, [], ◌∷◌, ◌++◌, ℕ, zero, suc, ◌+◌, ◌-◌, ◌*◌, ◌/◌, ◌%◌, ◌^◌, ◌≤◌, ◌<◌, min, Float, ℤ, pos, nat_abs, ◌-ℤ◌, length, get_or, take, drop, replicate}
use Rattle.whole.specs.declared.History.{History}
use Rattle.block.specs.declared.FrameContext.{FrameContext}
use Rattle.block.specs.Context.{history_with, context_with, new_context}
use Rattle.block.specs.Address.{address_to_sample}
use Rattle.block.specs.Refusals.{lowest_pair}
use Rattle.whole.specs.Outcome.{Outcome, accepted, Effect, effect}
use Rattle.coefficients.specs.Measure.{measuring, fresh}
use Rattle.coefficients.specs.Runs as measured
use Rattle.coefficients.specs.Runs.{coefficients_of, asks}
use Rattle.coefficients.specs.StateOfSamples as MeasuredState
use Rattle.layout.specs.declared.Loop.{Loop}
use Rattle.layout.specs.Sizes.{told_loop, block_count, image_size, block_length, frame_place}
use Rattle.clip.specs.Image.{cut, start_shape}
use Rattle.clip.specs.Encoding.{Left, start}
use Rattle.clip.specs.Runs as encoded
use Rattle.clip.specs.declared.starting.Start.{Start}
use Rattle.clip.specs.Runs.{state_after, image_after, plain, after}
use Rattle.image.specs.Opening.{told, open_image}
use Rattle.image.specs.Reading.{coefficients_in, context_in}
use Rattle.image.specs.Looping.{repeated, play_loop}
use Rattle.image.specs.Part.{samples_per_block, touched, play_from}
use Rattle.image.specs.Playing.{play}
use Rattle.image.specs.Sameness.{block_samples, samples_in, same}
use Rattle.image.specs.WholeImage.{play_all}
use Rattle.dsp.specs.File.{file_bytes}
use Rattle.dsp.specs.Export.{export_image}
use Rattle.dsp.specs.Import.{import_file}
use Rattle.round_trip.specs.Job.{Sampled, joined, measuring_calls, encoding_calls, last_coefficients, encoding_answers}

-- "the two samples played before the start, newest first (from the starting history where too few)": before sample s of ys, after h
unfoldable pub played_before : History → List ℤ → ℕ → History
played_before h ys zero = h
played_before h ys (suc zero) = history_with (get_or ys 0 (pos 0)) h.newest
played_before h ys (suc (suc s)) = history_with (get_or ys (suc s) (pos 0)) (get_or ys s (pos 0))

-- the context that an image stores for a loop: "the header byte of the frame that holds the start", and those two samples; zeros without a loop
abbrev pub stored_context : Start → List ℕ → FrameContext
stored_context g l =
    let p = g.looped in
    cond p.present (context_with (get_or l (frame_place (start_shape g) (p.start / 14)) 0) (played_before g.history (samples_in l) p.start)) new_context

-- of a clip of the samples xs that was started as g says on a buffer that held l: the state and the buffer once it is closed
pub record ClosedClip (g : Start) (xs : List ℤ) (l : List ℕ) (closed : Left) : Type 0 where
  -- the state and the image are those that documents 01 and 02 define; bytes from S on are as they were
  pub state : closed.encoder ≡ state_after g xs true
  pub image : closed.bytes ≡ image_after g xs true ++ drop (image_size (start_shape g)) l
  -- "The closed image opens", and says what it was started with, its loop too, and the context at the loop's start
  pub opens : open_image closed.bytes
      ≡ effect (accepted tt)
      (told (record { total = g.total; rate = g.rate; block = g.block; gain = g.gain; coefficients = g.coefficients; blocks = block_count (start_shape g) }) (told_loop g.looped)
      (stored_context g closed.bytes))
  -- no call is refused by 13 for it: none of its pairs is −32,768 twice
  pub pairs : lowest_pair (coefficients_in closed.bytes) ≡ false
  -- "blocks 0 to K−1 are played in turn from their entries with enough room": block k's samples, as many as its length says, and what stood beyond them
  pub plays : (k : ℕ) (out : List ℤ) → k < block_count (start_shape g)
      → (let n = address_to_sample (block_length (start_shape g) k) in
      n ≤ length out → ((play closed.bytes k out).outcome ≡ accepted n) × (length (block_samples closed.bytes k) ≡ n)
      × ((play closed.bytes k out).left.samples ≡ block_samples closed.bytes k ++ drop n out))
  -- "and joined": exactly as many samples as were fed
  pub count : length (samples_in closed.bytes) ≡ length xs
  -- the same by one call
  pub plays-all : (out : List ℤ) → length xs ≤ length out
      → ((play_all closed.bytes out).outcome ≡ accepted (length xs)) × ((play_all closed.bytes out).left.samples ≡ samples_in closed.bytes ++ drop (length xs) out)
  -- from any sample on: as many as the output has room for or as follow, and what stood beyond them; and how many blocks these overlap
  pub plays-from : (first : ℕ) (out : List ℤ) → first < length xs
      → (let n = min (length out) (length xs - first) in
      ((play_from closed.bytes first out).outcome ≡ accepted (n, touched (samples_per_block g.block) first n (block_count (start_shape g))))
      × ((play_from closed.bytes first out).left ≡ take n (drop first (samples_in closed.bytes)) ++ drop n out))
  -- "playing the loop any stated number of times gives its samples that many times over", and what stood beyond them
  pub plays-loop : g.looped.present ≡ true → (times : ℕ) (out : List ℤ)
      → (let s = g.looped.start in let n = g.looped.end - s in
      times * n ≤ length out → ((play_loop closed.bytes times out).outcome ≡ accepted (times * n))
      × ((play_loop closed.bytes times out).left ≡ repeated times (take n (drop s (samples_in closed.bytes))) ++ drop (times * n) out))
  -- "a clip without a loop gives none"
  pub plays-none : g.looped.present ≡ false → (times : ℕ) (out : List ℤ) → play_loop closed.bytes times out ≡ effect (accepted 0) out
  -- a loop that starts at a block's edge has that block's context
  pub loop-edge : g.looped.present ≡ true
      → (let s = g.looped.start in let p = samples_per_block g.block in s % p ≡ 0 → stored_context g closed.bytes ≡ context_in closed.bytes (s / p))
  -- any image of the same start and the same samples is the same, whatever stands behind it
  pub same-again : (rest : List ℕ) → same closed.bytes (image_after g xs true ++ rest) ≡ accepted true
  -- export accepts it where there is room
  pub exports : (out : List ℕ) → file_bytes g.total ≤ length out → (export_image closed.bytes out).outcome ≡ accepted (file_bytes g.total)
  -- "exported and imported at its own block size, returns byte for byte": what export leaves, with whatever stands behind the file
  pub returns : (out into : List ℕ) → file_bytes g.total ≤ length out → image_size (start_shape g) ≤ length into
      → import_file (export_image closed.bytes out).left g.block into ≡ effect (accepted (image_size (start_shape g))) (image_after g xs true ++ drop (image_size (start_shape g)) into)
  -- each sample in a frame of exponent p below 12 is within ⌊(3 × 2^p + 1) / 2⌋ of its original; "p is its frame's header & 15"
  pub near : (i : ℕ) → i < length xs
      → (let p = get_or closed.bytes (frame_place (start_shape g) (i / 14)) 0 % 16 in
      p < 12 → nat_abs (get_or (samples_in closed.bytes) i (pos 0) -ℤ get_or xs i (pos 0)) ≤ (3 * 2 ^ p + 1) / 2)

-- of any calls, refused ones included: measurings and askings ms on a store, then an asking; a clip started as g says, with the coefficients that it answered,
-- on a buffer that held l; feedings and closings ks on that buffer
pub record AnyCalls (store : List Float) (ms : List measured.Call) (g : Start) (l : List ℕ) (ks : List encoded.Call) : Type 0 where
  -- each measuring and each asking answers what the plain machine does, and the coefficients are those of the pieces accepted so far, joined
  pub measured-answers : measured.run (measuring fresh store) (ms ++ (asks ∷ [])) ≡ measured.plain_run (length store) [] (ms ++ (asks ∷ []))
  pub coefficients : g.coefficients ≡ coefficients_of (MeasuredState.plain_after (length store) [] ms)
  -- so does each feeding and each closing; the passes and the buffer's first S bytes after it are the plain machine's too
  pub encoded-answers : encoded.run (image_size (start_shape (cut g))) (start g l).left ks ≡ encoded.plain_run (cut g) (plain [] false) ks
  -- and if they close the clip, the image is as promised, of the pieces accepted, joined
  pub closed : (let m = encoded.plain_after (cut g) (plain [] false) ks in
      m.closed ≡ true → Sampled m.samples → ClosedClip (cut g) m.samples l (after (start g l).left ks))

-- of the whole job: a recording measured in pieces ps on a store, started with what the asking answered, with a loop or without, fed in pieces qs and closed
module _ (ps qs : List (List ℤ)) (store : List Float) (rate size gain : ℕ) (h : History) (p : Loop) (l : List ℕ) where
  -- what the measurings and the asking answered
  abbrev pub seen : List (Outcome (List ℤ))
  seen = measured.run (measuring fresh store) (measuring_calls ps)

  -- what the clip is started with
  abbrev pub given : Start
  given = record { total = length (joined qs); rate = rate; block = size; gain = gain; coefficients = last_coefficients seen; history = h; looped = p }

  -- what starting answers and leaves
  abbrev pub started : Effect (Outcome Unit) Left
  started = start given l

  pub record Done : Type 0 where
    -- every measuring is accepted, and the asking; its coefficients are those of X
    pub measured-answers : seen ≡ replicate (length ps) (accepted []) ++ (accepted (coefficients_of (joined qs)) ∷ [])
    pub coefficients : last_coefficients seen ≡ coefficients_of (joined qs)
    -- every feeding is accepted, and the closing
    pub encoded-answers : encoding_answers (encoded.run (image_size (start_shape (cut given))) started.left (encoding_calls qs)) ≡ replicate (length qs + 1) (accepted tt)
    -- and the image is as promised
    pub closed : ClosedClip (cut given) (joined qs) l (after started.left (encoding_calls qs))
