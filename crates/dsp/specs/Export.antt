-- Export: an image's clip as a .dsp file. Definitions only.
use Rattle.std.specs.Prelude.{Bool, not, cond, ◌&&◌, List, ◌++◌, ℕ, zero, suc, ◌-◌, ltb, length, take, drop, replicate}
use Rattle.std.proofs.lemmas.List.Edits.{sets}
use Rattle.whole.specs.declared.History.{History}
use Rattle.whole.specs.Outcome.{Outcome, accepted, refused_at, refused, with_values, if_accepted, Effect, effect}
use Rattle.block.specs.declared.FrameContext.{FrameContext}
use Rattle.block.specs.Address.{sample_to_address}
use Rattle.block.specs.Refusals.{equal}
use Rattle.layout.specs.declared.Loop.{Loop}
use Rattle.layout.specs.Fields.{be16, be32}
use Rattle.layout.specs.Sizes.{bodies_place, body_bytes}
use Rattle.clip.specs.Image.{coefficient_bytes, context_bytes}
use Rattle.image.specs.Reading.{total_in, rate_in, gain_in, loops_in, blocks_in, shape_in, coefficients_in, context_in, loop_in, loop_context_in}
use Rattle.image.specs.Opening.{and_then}
use Rattle.image.specs.Sameness.{compare_answer}
use Rattle.image.specs.WholeImage.{context_after}
use Rattle.dsp.specs.File.{nibble_count, file_bytes}

-- ---- the file

-- "16 loop start address, 20 address of the loop's last sample"; "Loop fields are zero without a loop"
unfoldable pub address_bytes : Loop → List ℕ
address_bytes p = cond p.present (be32 (sample_to_address p.start) ++ be32 (sample_to_address (p.end - 1))) (replicate 8 0)

-- a header byte and both samples of the history, two bytes each
abbrev pub context_fields : FrameContext → List ℕ
context_fields c = context_bytes c.predictor_and_scale c.last_samples

-- "The 96-byte header": 0, 4, 8; 12, 14; 16, 20, 24; 28; 60; 62, 64, 66; 68, 70, 72; "zeros to 96"
unfoldable pub header_bytes : List ℕ → List ℕ
header_bytes l =
    be32 (total_in l) ++ (be32 (nibble_count (total_in l)) ++ (be32 (rate_in l)
    ++ (be16 (loops_in l) ++ (be16 0
    ++ (address_bytes (loop_in l) ++ (be32 2
    ++ (coefficient_bytes (coefficients_in l) ++ (be16 (gain_in l)
    ++ (context_fields (context_in l 0) ++ (context_fields (loop_context_in l)
    ++ replicate 22 0))))))))))

-- the bodies, which stand back to back in an image
abbrev pub bodies_in : List ℕ → List ℕ
bodies_in l = take (body_bytes (total_in l)) (drop (bodies_place (shape_in l)) l)

-- "The bodies follow joined"
unfoldable pub exported : List ℕ → List ℕ
exported l = header_bytes l ++ bodies_in l

-- ---- the tests

abbrev pub equal_history : History → History → Bool
equal_history h g = equal h.newest g.newest && equal h.older g.older

-- block j + 1's history is what block j leaves
unfoldable pub goes_on : List ℕ → ℕ → Bool
goes_on l j = equal_history (context_after l j).last_samples (context_in l (suc j)).last_samples

-- "35 … when a later block's history isn't what the block before leaves": k blocks from block j + 1 on, in rising order; the block is named
unfoldable pub histories_answer : List ℕ → ℕ → ℕ → Outcome Unit
histories_answer l j zero = accepted tt
histories_answer l j (suc k) = cond (not (goes_on l j)) (refused_at 35 (suc j)) (histories_answer l (suc j) k)

-- codes 15; 20, 21, 22; 24; 13; "35 … between 13 and 14"; "too short an output is 14"
unfoldable pub export_answer : List ℕ → ℕ → Outcome Unit
export_answer l room =
    and_then (compare_answer l)
    (and_then (histories_answer l 0 (blocks_in l - 1))
    (cond (ltb room (file_bytes (total_in l))) (refused 14) (accepted tt)))

-- ---- the call

-- an image is exported: the file in the output from its start on, the rest of the output as it was; refused, all of it
unfoldable pub export_image : List ℕ → List ℕ → Effect (Outcome ℕ) (List ℕ)
export_image l out =
    let o = export_answer l (length out) in
    effect (with_values o (file_bytes (total_in l))) (if_accepted o (sets out 0 (exported l)) out)
