-- Sameness of two images. Definitions only.
use Rattle.std.specs.Prelude.{Bool, true, false, cond, ◌&&◌, List, [], ◌∷◌, ◌++◌, ℕ, zero, suc, ◌%◌, eqb, ℤ}
use Rattle.whole.specs.Outcome.{Outcome, accepted, refused, with_values}
use Rattle.block.specs.declared.FrameContext.{FrameContext}
use Rattle.block.specs.Play as Block
use Rattle.block.specs.Refusals as Tests
use Rattle.image.specs.declared.Head.{Head}
use Rattle.image.specs.Reading.{total_in, loops_in, blocks_in, coefficients_in, head_in, length_in, context_in, loop_in, loop_context_in}
use Rattle.image.specs.Opening.{and_then, open_answer}
use Rattle.image.specs.Bodies.{body_in}

-- block k's samples, played from its entry
unfoldable pub block_samples : List ℕ → ℕ → List ℤ
block_samples l k = (Block.play (body_in l k) (coefficients_in l) (length_in l k) (context_in l k)).samples

-- k blocks from block j on, played in turn and joined
unfoldable pub samples_from : List ℕ → ℕ → ℕ → List ℤ
samples_from l j zero = []
samples_from l j (suc k) = block_samples l j ++ samples_from l (suc j) k

-- "blocks 0 to K−1 are played in turn from their entries with enough room and joined"
unfoldable pub samples_in : List ℕ → List ℤ
samples_in l = samples_from l 0 (blocks_in l)

-- two lists of samples are equal
unfoldable pub equal_samples : List ℤ → List ℤ → Bool
equal_samples [] [] = true
equal_samples [] (y ∷ ys) = false
equal_samples (x ∷ xs) [] = false
equal_samples (x ∷ xs) (y ∷ ys) = Tests.equal x y && equal_samples xs ys

-- "N is equal and the played samples are equal"
unfoldable pub same_sound : List ℕ → List ℕ → Bool
same_sound a b = eqb (total_in a) (total_in b) && equal_samples (samples_in a) (samples_in b)

-- ---- what also agrees

-- two heads agree: N, "rate, gain, B, coefficients"
unfoldable pub same_head : Head → Head → Bool
same_head h g =
    eqb h.total g.total
    && (eqb h.rate g.rate && (eqb h.gain g.gain && (eqb h.block g.block && Tests.equal_coefficients h.coefficients g.coefficients)))

-- two contexts agree: the headers without "The unused top bit of a header, also where a context or the loop entry repeats it", and both samples
unfoldable pub same_context : FrameContext → FrameContext → Bool
same_context c d =
    let h = c.last_samples in
    let g = d.last_samples in
    eqb (c.predictor_and_scale % 128) (d.predictor_and_scale % 128) && (Tests.equal h.newest g.newest && Tests.equal h.older g.older)

-- "every context": those of the first k blocks
unfoldable pub same_contexts : List ℕ → List ℕ → ℕ → Bool
same_contexts a b zero = true
same_contexts a b (suc k) = same_contexts a b k && same_context (context_in a k) (context_in b k)

-- "the loop": neither image has one, or both have one with the same start and end and the same context there
unfoldable pub same_loop : List ℕ → List ℕ → Bool
same_loop a b =
    let p = loop_in a in
    let q = loop_in b in
    eqb (loops_in a) (loops_in b) && (eqb p.start q.start && (eqb p.end q.end && same_context (loop_context_in a) (loop_context_in b)))

-- "rate, gain, B, coefficients, every context and the loop also agree, besides the samples"
unfoldable pub agree : List ℕ → List ℕ → Bool
agree a b = same_head (head_in a) (head_in b) && (same_contexts a b (blocks_in a) && (same_loop a b && equal_samples (samples_in a) (samples_in b)))

-- ---- the calls

-- codes 15; 20, 21, 22; 24; 13
unfoldable pub compare_answer : List ℕ → Outcome Unit
compare_answer l = and_then (open_answer l) (cond (Tests.lowest_pair (coefficients_in l)) (refused 13) (accepted tt))

-- "of two images the first is tested through 13 before the second"
unfoldable pub both_answer : List ℕ → List ℕ → Outcome Unit
both_answer a b = and_then (compare_answer a) (compare_answer b)

-- "Two images count as the same exactly when" they agree
unfoldable pub same : List ℕ → List ℕ → Outcome Bool
same a b = with_values (both_answer a b) (agree a b)

-- "the earlier meaning": "Two images are the same when both open, N is equal and the played samples are equal"
unfoldable pub sounds_same : List ℕ → List ℕ → Outcome Bool
sounds_same a b = with_values (both_answer a b) (same_sound a b)
