-- The blocks of an imported file play as its bytes played as one block; each goes on where the one before ends.
use mathlib.Core.List.{List, ◌++◌}
use mathlib.Core.Path.{◌≡◌, sym, ap, ap₂, ◌∙◌}
use Prim.Native.Nat.{ℕ, zero, suc, ◌+◌, ◌-◌, ◌*◌, ◌/◌, ◌≤◌, ◌<◌}
use native.Mathlib.Nat.{zero-mul}
use native.Mathlib.Omega.{arith}
use borrow.Author.Tests.{le-ltb, ne_eqb}
use lib.IntN.{ℤ}
use lib.ListN.{length, get_or, take, drop, length-drop}
use lib.Seq.{sets, take_at}
use Rattle.whole.specs.Outcome.{accepted, effect}
use Rattle.block.specs.declared.FrameContext.{FrameContext}
use Rattle.block.specs.Address.{address_to_sample, sample_to_address}
use Rattle.block.specs.Context.{context_with}
use Rattle.block.specs.Frame.{Playing, playing}
use Rattle.block.specs.Play.{play_from, play, play_into, play_bytes}
use Rattle.block.specs.Refusals.{bad_length}
use Rattle.layout.specs.declared.Shape.{Shape}
use Rattle.layout.specs.Sizes.{bodies_place, block_count, body_bytes}
use Rattle.layout.proofs.SizeLaws.{block-place}
use Rattle.clip.specs.Image.{start_shape}
use Rattle.image.specs.Reading.{total_in, block_in, shape_in, blocks_in, coefficients_in, length_in, context_in}
use Rattle.image.specs.Sameness.{block_samples, samples_from, samples_in}
use Rattle.image.specs.WholeImage.{context_after, all_into, play_all}
use Rattle.image.specs.inner.Asked.{Opens, AllPlayable}
use Rattle.image.proofs.Joined.{samples-snoc}
use Rattle.image.proofs.LawsAll.{all_made}
use Rattle.image.proofs.Places.{start-body}
use Rattle.dsp.specs.File.{nibble_count, file_bytes, total_of, nibbles_of, coefficients_of, context_at, first_of, bodies_of}
use Rattle.dsp.specs.Export.{bodies_in, export_answer}
use Rattle.dsp.specs.Import.{clip_of, history_before}
use Rattle.dsp.specs.Returns.{Bytes, history_from_first}
use Rattle.dsp.proofs.AcceptedFile.{FileFits, clip-limits}
use Rattle.dsp.proofs.BlockLengths.{nibble-bytes, last-length, blocks-some}
use Rattle.dsp.proofs.FilePlays.{heard-same, history-same}
use Rattle.dsp.proofs.GoesOn.{block-plays, next-block, histories-pass}
use Rattle.dsp.proofs.ImportedImage as imports

-- ---- an image whose entries all hold what the blocks before them leave

module _ (l : List ℕ) (o : Opens l) (holds : (j : ℕ) → j < block_count (shape_in l) → (context_in l j).last_samples ≡ history_from_first l (j * (block_in l / 8))) where
  abbrev per : ℕ
  per = block_in l / 8

  -- its bodies, played as one block up to an address
  abbrev up_to : ℕ → Playing
  up_to n = play (bodies_in l) (coefficients_in l) n (context_in l 0)

  -- one block more
  block_more : (j n : ℕ) → j < block_count (shape_in l) → 16 * (j * per) + length_in l j ≡ n → samples_from l 0 j ≡ (up_to (16 * (j * per))).samples → samples_from l 0 (suc j) ≡ (up_to n).samples
  unfolding block_samples
  block_more j n h e s =
      samples-snoc l 0 j j (omega arith)
      ∙ ap (λ (xs : List ℤ). xs ++ block_samples l j) s
      ∙ sym (ap (λ (p : Playing). p.samples) (block-plays l o j h (holds j h)))
      ∙ ap (λ (m : ℕ). (up_to m).samples) e

  -- the first k blocks are heard as the bodies up to where the next one begins
  blocks-heard : (k : ℕ) → k < block_count (shape_in l) → samples_from l 0 k ≡ (up_to (16 * (k * per))).samples
  unfolding samples_from play play_from
  blocks-heard zero h = let e : 16 * (0 * per) ≡ 0 = rw (zero-mul per) in ap (λ (n : ℕ). (up_to n).samples) (sym e)
  blocks-heard (suc k) h = block_more k (16 * (suc k * per)) (omega arith) (next-block l o k h) (blocks-heard k (omega arith))

  -- there is a last block, and it ends at the nibble count
  abbrev k : ℕ
  k = blocks_in l - 1

  last_one : suc k ≡ block_count (shape_in l)
  last_one = let b = o.head.blocks in omega (arith, b, blocks-some (shape_in l) o.head.limits)

  last-there : k < block_count (shape_in l)
  last-there = omega (arith, last_one)

  last_end : 16 * (k * per) + length_in l k ≡ nibble_count (total_in l)
  last_end = ap (λ (n : ℕ). 16 * (k * per) + n) (o.entries k last-there).nibbles ∙ last-length (shape_in l) o.head.limits k last_one

  -- all blocks, as the bodies up to the nibble count
  all-heard : samples_in l ≡ (up_to (nibble_count (total_in l))).samples
  unfolding samples_in
  all-heard = ap (samples_from l 0) (o.head.blocks ∙ sym last_one) ∙ block_more k (nibble_count (total_in l)) last-there last_end (blocks-heard k last-there)

  -- the last one leaves what they leave
  all-leave : context_after l (blocks_in l - 1) ≡ (up_to (nibble_count (total_in l))).context
  unfolding context_after
  all-leave = sym (ap (λ (p : Playing). p.context) (block-plays l o k last-there (holds k last-there))) ∙ ap (λ (m : ℕ). (up_to m).context) last_end

-- the samples before the nibble count's address
nibble-samples : (n : ℕ) → 1 ≤ n → address_to_sample (nibble_count n) ≡ n
unfolding address_to_sample nibble_count sample_to_address
nibble-samples n h = omega arith

-- ---- the image of a file

module _ (f : List ℕ) (size : ℕ) (F : FileFits f size) (b : Bytes f) (rest : List ℕ) where
  abbrev l : List ℕ
  l = imports.image f size F b rest

  abbrev s : Shape
  s = start_shape (clip_of f size)

  opens : Opens l
  opens = imports.image-made f size F b rest

  -- the first block's context is the file's
  pub first-again : context_in l 0 ≡ first_of f
  unfolding history_before play play_from context_at
  first-again =
      imports.context-is f size F b rest 0 (blocks-some s (clip-limits f size F))
      ∙ ap₂ (λ (i q : ℕ). context_with (get_or (bodies_of f) i 0) (history_before f q)) (zero-mul s.block) (zero-mul (s.block / 8))
      ∙ ap (λ (h : ℕ). context_with h (first_of f).last_samples) (sym F.header)

  -- its bodies are the file's
  pub bodies-again : bodies_in l ≡ take (body_bytes (total_of f)) (bodies_of f)
  unfolding clip_of
  bodies-again =
      ap (λ (s : Shape). take (body_bytes s.total) (drop (bodies_place s) l)) (imports.shape_is f size F b rest)
      ∙ ap (take (body_bytes (total_of f))) (imports.bodies-on f size F b rest)
      ∙ take_at (take (body_bytes (total_of f)) (bodies_of f)) rest (body_bytes (total_of f)) (imports.parts f size F b).count

  long : body_bytes (total_of f) ≤ length (bodies_of f)
  long = let n = F.bodies in let d = length-drop 96 f in omega (arith, n, d)

  -- each entry holds what the blocks before it leave
  holds : (j : ℕ) → j < block_count (shape_in l) → (context_in l j).last_samples ≡ history_from_first l (j * (block_in l / 8))
  unfolding clip_of
  holds j h =
      let L = clip-limits f size F in
      let k : j < block_count s = rw (imports.shape_is f size F b rest) at h in
      let w = start-body s j L k in
      let p = block-place s.block j L.eights in
      ap (λ (c : FrameContext). c.last_samples) (imports.context-is f size F b rest j k)
      ∙ sym (history-same f l (total_of f) long bodies-again (imports.coefficients-are f size F b rest) first-again (j * (s.block / 8)) (omega (arith, w, p)))
      ∙ ap (λ (n : ℕ). history_from_first l (j * (n / 8))) (sym (imports.block-is f size F b rest))

  -- its bodies up to the nibble count, and the file's
  all_same : play (bodies_in l) (coefficients_in l) (nibble_count (total_in l)) (context_in l 0) ≡ play (bodies_of f) (coefficients_of f) (nibbles_of f) (first_of f)
  all_same =
      let h = nibble-bytes (total_of f) F.some in
      let e : nibble_count (total_in l) ≡ nibbles_of f = ap nibble_count (imports.total-is f size F b rest) ∙ sym F.nibbles in
      ap (λ (n : ℕ). play (bodies_in l) (coefficients_in l) n (context_in l 0)) e
      ∙ heard-same f l (total_of f) long bodies-again (imports.coefficients-are f size F b rest) first-again (nibbles_of f) (omega (arith, h, F.nibbles))

  -- the image is heard as the file's bytes as one block
  pub samples : samples_in l ≡ (play (bodies_of f) (coefficients_of f) (nibbles_of f) (first_of f)).samples
  samples = all-heard l opens holds ∙ ap (λ (p : Playing). p.samples) all_same

  count : address_to_sample (nibbles_of f) ≡ total_of f
  count = ap address_to_sample F.nibbles ∙ nibble-samples (total_of f) F.some

  module _ (out : List ℤ) (room : total_of f ≤ length out) where
    abbrev left : Playing
    left = play_into (bodies_of f) (coefficients_of f) (nibbles_of f) (first_of f) out

    -- what playing all blocks leaves
    all_left : left ≡ all_into l out
    unfolding all_into play_into
    all_left =
        let c = sym (all-leave l opens holds ∙ ap (λ (p : Playing). p.context) all_same) in
        let s = sym samples in
        λ i. playing (c i) (sets out 0 (s i))

    -- no test of playing refuses the bytes
    bytes-play : play_bytes (bodies_of f) (nibbles_of f) (coefficients_of f) (first_of f) out ≡ effect (accepted (address_to_sample (nibbles_of f))) left
    unfolding play_bytes bad_length nibble_count
    bytes-play =
        let n = F.nibbles in
        let h = nibble-bytes (total_of f) F.some in
        rw (
          ne_eqb (nibbles_of f) 0 (λ z. omega (arith, z, n)),
          le-ltb (2 * length (bodies_of f)) (nibbles_of f) (omega (arith, h, n, long)),
          F.pairs,
          le-ltb (length out) (address_to_sample (nibbles_of f)) (omega (arith, count, room)),
        )

    -- the image plays as they do
    pub plays : play_all l out ≡ play_bytes (bodies_of f) (nibbles_of f) (coefficients_of f) (first_of f) out
    plays =
        let t = imports.total-is f size F b rest in
        let p : AllPlayable l (length out) = record { opens = opens; pairs = rw (imports.coefficients-are f size F b rest) F.pairs; enough = omega (arith, t, room) } in
        sym (all_made l out p (address_to_sample (nibbles_of f)) left (count ∙ sym t) all_left) ∙ sym bytes-play

  -- export accepts the image where there is room
  pub exports : (room : ℕ) → file_bytes (total_of f) ≤ room → export_answer l room ≡ accepted tt
  unfolding export_answer
  exports room h =
      let p = blocks-some (shape_in l) opens.head.limits in
      let k = opens.head.blocks in
      rw (
        imports.compares f size F b rest,
        histories-pass l opens holds 0 (blocks_in l - 1) (omega (arith, k, p)),
        imports.total-is f size F b rest,
        le-ltb room (file_bytes (total_of f)) h,
      )
