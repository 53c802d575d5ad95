-- What is heard of X's closed image: each block, all of them, and their nearness to X.
use mathlib.Core.Path.{◌≡◌, refl, sym, ap, ap₂, ◌∙◌}
use mathlib.Core.Bool.{false}
use mathlib.Core.List.{List, ◌++◌}
use Prim.Native.Nat.{ℕ, zero, suc, ◌+◌, ◌-◌, ◌*◌, ◌/◌, ◌≤◌, ◌<◌, min}
use native.Mathlib.Omega.{arith}
use lib.IntN.{ℤ}
use lib.ListN.{length, get_or, take, drop}
use Rattle.block.specs.declared.FrameContext.{FrameContext}
use Rattle.block.specs.Address.{address_to_sample}
use Rattle.block.specs.Frame.{Playing, playing}
use Rattle.block.specs.Play as Block
use Rattle.block.specs.Refusals.{lowest_pair}
use Rattle.layout.specs.Sizes.{block_count, block_length}
use Rattle.whole.specs.Frames.{frame_count}
use Rattle.layout.specs.Sizes.{frame_place}
use Rattle.clip.specs.Image.{start_shape}
use Rattle.clip.specs.declared.starting.Start.{Start}
use Rattle.clip.specs.Runs.{encoded_at}
use Rattle.clip.proofs.ImageByFrames.{Fine}
use Rattle.round_trip.proofs.FramesPlayed.{Audible, context_within}
use Rattle.round_trip.proofs.BlocksOfX.{wholes, ending, block_sound, blocks_sound, sound_of, block-played, all_blocks}
use Rattle.whole.specs.Outcome.{Outcome, accepted, Effect}
use Rattle.image.specs.Reading.{coefficients_in, offset_in, length_in, context_in}
use Rattle.image.specs.Bodies.{body_in}
use Rattle.image.specs.inner.Asked.{Found, Playable, AllPlayable}
use Rattle.image.specs.Part.{touched, play_from}
use Rattle.image.specs.Playing.{play}
use Rattle.image.specs.Sameness.{block_samples, samples_from, samples_in}
use Rattle.image.specs.WholeImage.{play_all}
use Rattle.image.proofs.Joined.{samples-snoc}
use Rattle.image.proofs.LawsAll.{all-answered, all-output}
use Rattle.image.proofs.LawsPlayed.{play-leaves, play-output, block-count}
use Rattle.image.proofs.PartOfAll.{from-accepts, part-answered, part-output}
use Rattle.image.proofs.Parts.{part_at}
use Rattle.round_trip.proofs.LowestPair.{bounded-lowest}
use Rattle.round_trip.proofs.ImageOpens.{image, total-is, block-is, loops-are, frame-header, blocks-are, coefficients-are, entry-made, context-is, image-made}

-- ---- X's image

module _ (g : Start) (F : Fine g) (xs : List ℤ) (rest : List ℕ) (A : Audible g xs) where
  abbrev l : List ℕ
  l = image g F xs rest

  -- what playing block j from its entry leaves
  pub entry-played : (j : ℕ) → j < block_count (start_shape g)
      → Block.play (body_in l j) (coefficients_in l) (length_in l j) (context_in l j)
      ≡ playing (context_within g xs (j * (g.block / 8) + wholes g.total g.block j) (ending g.total g.block j)) (block_sound g xs j)
  unfolding body_in
  entry-played j few =
      let e = entry-made g F xs rest j few in
      let bytes = take ((length_in l j + 1) / 2) (drop (offset_in l j) l) in
      let at : (i : ℕ) → i < (block_length (start_shape g) j + 1) / 2 → get_or bytes i 0
      ≡ get_or l (offset_in l j + i) 0 = λ i h. part_at l (offset_in l j) ((length_in l j + 1) / 2) i (omega (arith, e.nibbles)) in
      ap₂ (λ (cs : List ℤ) (n : ℕ). Block.play bytes cs n (context_in l j)) (coefficients-are g F xs rest A.coefficients) e.nibbles
      ∙ ap (λ (c : FrameContext). Block.play bytes g.coefficients (block_length (start_shape g) j) c) (context-is g F xs rest j few A)
      ∙ block-played g F xs rest j few bytes (λ i h. at i h ∙ ap (λ (o : ℕ). get_or l (o + i) 0) e.offset) A

  pub block-heard : (j : ℕ) → j < block_count (start_shape g) → block_samples l j ≡ block_sound g xs j
  unfolding block_samples
  block-heard j few = ap (λ (p : Playing). p.samples) (entry-played j few)

  blocks-heard : (k : ℕ) → k ≤ block_count (start_shape g) → samples_from l 0 k ≡ blocks_sound g xs k
  unfolding blocks_sound samples_from
  blocks-heard zero h = refl
  blocks-heard (suc k) h =
      samples-snoc l 0 k k (omega arith)
      ∙ ap₂ (λ (a b : List ℤ). a ++ b) (blocks-heard k (omega arith)) (block-heard k (omega arith))

  -- all that is heard is X's reconstruction
  pub all-heard : samples_in l ≡ sound_of g xs
  unfolding samples_in
  all-heard = ap (samples_from l 0) (blocks-are g F xs rest) ∙ blocks-heard (block_count (start_shape g)) (omega arith) ∙ all_blocks g F xs

  -- code 13 is not given
  pub pairs-heard : lowest_pair (coefficients_in l) ≡ false
  pairs-heard = rw (coefficients-are g F xs rest A.coefficients) (bounded-lowest g.coefficients A.bounded)

  -- a block plays to an output with enough room
  pub block-plays : (k : ℕ) (out : List ℤ) → k < block_count (start_shape g)
      → (let n = address_to_sample (block_length (start_shape g) k) in
      n ≤ length out → ((play l k out).outcome ≡ accepted n) × (length (block_samples l k) ≡ n) × ((play l k out).left.samples ≡ block_samples l k ++ drop n out))
  block-plays k out few room =
      let e = entry-made g F xs rest k few in
      let f : Found l k = record { opens = image-made g F xs rest; block = rw (total-is g F xs rest, block-is g F xs rest, loops-are g F xs rest) few } in
      let p : Playable l k (length out) =
      record { found = f; pairs = pairs-heard; enough = rw e.nibbles room } in (
        ap (λ (v : Effect (Outcome ℕ) Playing). v.outcome) (sym (play-leaves l k out p)) ∙ ap (λ (n : ℕ). accepted (address_to_sample n)) e.nibbles,
        block-count l k f ∙ ap address_to_sample e.nibbles,
        play-output l k out p ∙ ap (λ (n : ℕ). block_samples l k ++ drop (address_to_sample n) out) e.nibbles,
      )

  -- the whole image plays to an output with enough room
  pub all-plays : (out : List ℤ) → g.total ≤ length out → ((play_all l out).outcome ≡ accepted g.total) × ((play_all l out).left.samples ≡ samples_in l ++ drop g.total out)
  all-plays out room =
      let n = total-is g F xs rest in
      let p : AllPlayable l (length out) = record { opens = image-made g F xs rest; pairs = pairs-heard; enough = rw n room } in
      (all-answered l out p ∙ ap accepted n, all-output l out p ∙ ap (λ (k : ℕ). samples_in l ++ drop k out) n)

  -- it plays from any of its samples on
  pub part-plays : (first : ℕ) (out : List ℤ) → first < g.total
      → (let n = min (length out) (g.total - first) in
      ((play_from l first out).outcome ≡ accepted (n, touched (14 * (g.block / 8)) first n (block_count (start_shape g))))
      × ((play_from l first out).left ≡ take n (drop first (samples_in l)) ++ drop n out))
  part-plays first out h =
      let n = total-is g F xs rest in
      let b = block-is g F xs rest in
      let k = blocks-are g F xs rest in
      let e = from-accepts l first (record { opens = image-made g F xs rest; pairs = pairs-heard }) (rw n h) in
      (part-answered l first e out ∙ rw (n, b, k), part-output l first e out ∙ rw n)

  -- a frame's header byte in the image
  pub header-heard : (q : ℕ) → q < frame_count g.total → get_or l (frame_place (start_shape g) q) 0 ≡ get_or (encoded_at g xs q).bytes 0 0
  header-heard q h = frame-header g F xs rest q h
