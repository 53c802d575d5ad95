-- Import: a .dsp file as an image. Definitions only.
use Rattle.std.specs.Prelude.{Bool, not, cond, ◌&&◌, List, ◌++◌, ℕ, ◌+◌, ◌*◌, ◌/◌, ◌%◌, eqb, leb, ltb, length, get_or, take, replicate}
use Rattle.std.proofs.lemmas.List.Edits.{sets}
use Rattle.whole.specs.declared.History.{History}
use Rattle.whole.specs.Outcome.{Outcome, accepted, refused, with_values, if_accepted, Effect, effect}
use Rattle.block.specs.Address.{address_to_sample}
use Rattle.block.specs.Play.{play}
use Rattle.block.specs.Refusals.{lowest_pair}
use Rattle.layout.specs.Fields.{at16, at32, mark}
use Rattle.layout.specs.Limits.{total_ok, block_ok}
use Rattle.layout.specs.Sizes.{block_count, body_bytes, cut_down, image_size}
use Rattle.clip.specs.declared.starting.Start.{Start}
use Rattle.clip.specs.Image.{start_shape, head_bytes, context_bytes, table_bytes, loop_bytes}
use Rattle.image.specs.Opening.{and_then, holds}
use Rattle.dsp.specs.File.{nibble_count, total_of, nibbles_of, rate_of, flag_of, start_address_of, last_address_of, loop_of, coefficients_of, gain_of, first_of, loop_context_of, bodies_of}

-- ---- the tests

-- the body bytes that a count needs; "0 needs none"
unfoldable pub needed : ℕ → ℕ
needed n = cond (eqb n 0) 0 (body_bytes n)

-- not "25 for a file under 96 bytes or with fewer body bytes than its count needs"
unfoldable pub long_enough : List ℕ → Bool
long_enough f = leb 96 (length f) && leb (96 + needed (total_of f)) (length f)

-- an address of one of N samples; a header's two nibbles are no sample's
unfoldable pub of_sample : ℕ → ℕ → Bool
of_sample n a = leb 2 (a % 16) && ltb (address_to_sample a) n

-- with a loop, not "a header byte not its frame's or loop addresses not of the clip's samples or the last below the start": the addresses first, by which
-- there is a frame that holds the start
unfoldable pub loop_fields_ok : List ℕ → Bool
loop_fields_ok f =
    let n = total_of f in
    let a = start_address_of f in
    of_sample n a && (of_sample n (last_address_of f) && (leb a (last_address_of f) && eqb (at16 f 68) (get_or (bodies_of f) (8 * (a / 16)) 0)))

-- "Loop fields are zero without a loop": 16, 20; 68, 70, 72
unfoldable pub no_loop_fields : List ℕ → Bool
no_loop_fields f = holds f 16 (replicate 8 0) && holds f 68 (replicate 6 0)

-- not "26 for a field not as listed, a header byte not its frame's", or a loop's as above: 4; 12, 14; 24; "zeros to 96"; 62; the loop's
unfoldable pub fields_ok : List ℕ → Bool
fields_ok f =
    eqb (nibbles_of f) (nibble_count (total_of f))
    && (leb (flag_of f) 1
    && (eqb (at16 f 14) 0
    && (eqb (at32 f 24) 2
    && (holds f 74 (replicate 22 0)
    && (eqb (at16 f 62) (get_or (bodies_of f) 0 0)
    && cond (eqb (flag_of f) 1) (loop_fields_ok f) (no_loop_fields f))))))

-- "25 … before 4"; 4, 5, 6; "26 … after 6"; 13
unfoldable pub file_answer : List ℕ → ℕ → Outcome Unit
file_answer f size =
    cond (not (long_enough f)) (refused 25)
    (cond (not (total_ok (total_of f))) (refused 4)
    (cond (eqb (rate_of f) 0) (refused 5)
    (cond (not (block_ok size)) (refused 6)
    (cond (not (fields_ok f)) (refused 26)
    (cond (lowest_pair (coefficients_of f)) (refused 13)
    (accepted tt))))))

-- ---- the image

-- what the file says, at a block size that is cut down to a multiple of 8
unfoldable pub clip_of : List ℕ → ℕ → Start
clip_of f size =
    record {
      total = total_of f;
      rate = rate_of f;
      block = cut_down size;
      gain = gain_of f;
      coefficients = coefficients_of f;
      history = (first_of f).last_samples;
      looped = loop_of f;
    }

-- the history before frame q, "by playing": the bodies up to there, from the file's first context on
unfoldable pub history_before : List ℕ → ℕ → History
history_before f q = (play (bodies_of f) (coefficients_of f) (16 * q) (first_of f)).context.last_samples

-- "works out each block's context by playing": its first byte, and the history before it, in blocks of b bytes
unfoldable pub context_before : List ℕ → ℕ → ℕ → List ℕ
context_before f b j = context_bytes (get_or (bodies_of f) (j * b) 0) (history_before f (j * (b / 8)))

-- the image of a clip, "copies the loop's"
unfoldable pub laid_out : List ℕ → Start → List ℕ
laid_out f g =
    let s = start_shape g in
    head_bytes mark g
    ++ (table_bytes (context_before f g.block) s 0 (block_count s)
    ++ (loop_bytes g.looped (loop_context_of f) ++ take (body_bytes g.total) (bodies_of f)))

abbrev pub imported : List ℕ → ℕ → List ℕ
imported f size = laid_out f (clip_of f size)

-- ---- the calls

-- S of the image
abbrev pub imported_bytes : List ℕ → ℕ → ℕ
imported_bytes f size = image_size (start_shape (clip_of f size))

-- how much room import needs, or its refusal, 8 excepted
unfoldable pub room_for : List ℕ → ℕ → Outcome ℕ
room_for f size = with_values (file_answer f size) (imported_bytes f size)

-- codes 25, 4, 5, 6, 26, 13, 8
unfoldable pub import_answer : List ℕ → ℕ → ℕ → Outcome Unit
import_answer f size room = and_then (file_answer f size) (cond (ltb room (imported_bytes f size)) (refused 8) (accepted tt))

-- a file is imported: the image in the buffer from its start on, the rest of the buffer as it was; refused, all of it. "Import drops bytes past the last body"
unfoldable pub import_file : List ℕ → ℕ → List ℕ → Effect (Outcome ℕ) (List ℕ)
import_file f size l =
    let o = import_answer f size (length l) in
    effect (with_values o (imported_bytes f size)) (if_accepted o (sets l 0 (imported f size)) l)
