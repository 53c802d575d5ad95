-- The blocks of an image as parts of its bodies: 35 asked of neighbours is 35 asked from the first block on.
use mathlib.Core.Bool.{Bool, true, false, not, cond}
use mathlib.Core.List.{List}
use mathlib.Core.Path.{◌≡◌, refl, sym, ap, ◌∙◌}
use Prim.Native.Nat.{ℕ, zero, suc, ◌+◌, ◌-◌, ◌*◌, ◌/◌, ◌≤◌, ◌<◌}
use native.Mathlib.Nat.{zero-mul}
use native.Mathlib.Omega.{arith}
use borrow.Author.Tests.{eqb-true, eqb-false}
use lib.Dec.{eqb}
use lib.ListN.{length, get_or, take, drop, length-drop}
use lib.Seq.{length-take-le, drop-drop}
use Rattle.whole.specs.declared.History.{History}
use Rattle.whole.specs.Outcome.{accepted, refused_at}
use Rattle.whole.proofs.Outcomes.{passed-at}
use Rattle.block.specs.Context.{history_with, context_with, with_header}
use Rattle.block.specs.Frame.{Playing}
use Rattle.block.specs.Play.{play, play_from}
use Rattle.block.specs.Refusals.{equal}
use Rattle.block.proofs.LawsParts.{followed}
use Rattle.block.proofs.LawsRefusals.{equal-true, equal-self}
use Rattle.layout.specs.Limits.{Limits}
use Rattle.layout.specs.Sizes.{block_count, body_bytes, bodies_place, image_size, block_offset}
use Rattle.layout.proofs.LimitLaws.{both_true}
use Rattle.layout.proofs.SizeLaws.{block-place}
use Rattle.image.specs.Reading.{total_in, block_in, shape_in, blocks_in, coefficients_in, length_in, header_in, context_in}
use Rattle.image.specs.Opening.{open_answer}
use Rattle.image.specs.Bodies.{body_in}
use Rattle.image.specs.WholeImage.{context_after}
use Rattle.image.specs.inner.Asked.{Headed, Opens}
use Rattle.image.proofs.LawsBody.{body_end, length_some}
use Rattle.image.proofs.OpenImages.{opened}
use Rattle.image.proofs.Parts.{part_at}
use Rattle.image.proofs.Places.{start-body}
use Rattle.dsp.specs.Export.{bodies_in, equal_history, goes_on, histories_answer}
use Rattle.dsp.specs.Returns.{history_from_first, goes_on_from_first, histories_from_first}
use Rattle.dsp.proofs.BlockLengths.{whole_length, blocks-some}
use Rattle.dsp.proofs.BytesAgain.{part-within}
use Rattle.dsp.proofs.PlayedInParts.{context_at_frame, play-part, from-frame}

equal-history : (h g : History) → equal_history h g ≡ true → h ≡ g
equal-history h g e =
    let b = both_true (equal h.newest g.newest) _ e in
    let p = equal-true h.newest g.newest b.0 in
    let q = equal-true h.older g.older b.1 in
    λ i. history_with (p i) (q i)

pub bodies-length : (l : List ℕ) → Headed l → length (bodies_in l) ≡ body_bytes (total_in l)
unfolding image_size
bodies-length l h =
    let p = bodies_place (shape_in l) in
    let s = h.size in
    let d = length-drop p l in
    length-take-le (body_bytes (total_in l)) (drop p l) (omega (arith, s, d))

module _ (l : List ℕ) (o : Opens l) where
  abbrev per : ℕ
  per = block_in l / 8

  abbrev kk : ℕ
  kk = block_count (shape_in l)

  limits : Limits (shape_in l)
  limits = o.head.limits

  -- where the bodies begin
  abbrev place : ℕ
  place = bodies_place (shape_in l)

  -- a byte of the bodies
  pub bodies-at : (i : ℕ) → i < body_bytes (total_in l) → get_or (bodies_in l) i 0 ≡ get_or l (bodies_place (shape_in l) + i) 0
  bodies-at i h = part_at l (bodies_place (shape_in l)) (body_bytes (total_in l)) i h

  -- a block's header is its first byte among the bodies
  pub header-first : (j : ℕ) → j < kk → header_in l j ≡ get_or (bodies_in l) (j * block_in l) 0
  unfolding block_offset
  header-first j h = (o.entries j h).header ∙ sym (bodies-at (j * block_in l) (start-body (shape_in l) j limits h))

  pub first-header : (context_in l 0).predictor_and_scale ≡ get_or (bodies_in l) 0 0
  unfolding context_in
  first-header = let z = zero-mul (block_in l) in header-first 0 (blocks-some (shape_in l) limits) ∙ ap (λ (i : ℕ). get_or (bodies_in l) i 0) z

  -- block j's entry holds what all blocks before it leave
  abbrev Holds : ℕ → Type 0
  Holds j = (context_in l j).last_samples ≡ history_from_first l (j * per)

  -- before the first block is its own history
  first-history : (context_in l 0).last_samples ≡ history_from_first l (0 * per)
  unfolding history_from_first play play_from
  first-history = rw (zero-mul per)

  module _ (j : ℕ) (lt : j < kk) where
    -- a block's body is a part of the bodies
    body_is : body_in l j ≡ take ((length_in l j + 1) / 2) (drop (8 * (j * per)) (bodies_in l))
    unfolding body_in block_offset image_size
    body_is =
        let half = (length_in l j + 1) / 2 in
        let f = o.entries j lt in
        let n = f.nibbles in
        let e = body_end (shape_in l) j limits lt in
        ap (λ (i : ℕ). take half (drop i l)) f.offset
        ∙ ap (take half) (sym (drop-drop (j * block_in l) place l))
        ∙ sym (part-within (drop place l) (body_bytes (total_in l)) (j * block_in l) half (omega (arith, e, n)))
        ∙ ap (λ (i : ℕ). take half (drop i (bodies_in l))) (block-place (block_in l) j limits.eights)

    -- where its entry holds the history so far, it is played as that part of the bodies
    pub block-plays : Holds j → play (bodies_in l) (coefficients_in l) (16 * (j * per) + length_in l j) (context_in l 0)
        ≡ followed (play (bodies_in l) (coefficients_in l) (16 * (j * per)) (context_in l 0)) (play (body_in l j) (coefficients_in l) (length_in l j) (context_in l j))
    unfolding context_in with_header history_from_first block_offset image_size
    block-plays e =
        let cs = coefficients_in l in
        let n = length_in l j in
        let c = context_at_frame (bodies_in l) cs (context_in l 0) first-header (j * per) in
        let p = block-place (block_in l) j limits.eights in
        let h : header_in l j ≡ get_or (bodies_in l) (8 * (j * per)) 0 = header-first j lt ∙ ap (λ (i : ℕ). get_or (bodies_in l) i 0) p in
        let d : context_in l j ≡ c = λ i. context_with (h i) (e i) in
        let x = (o.entries j lt).nibbles in
        let y = length_some (shape_in l) j limits lt in
        let z = body_end (shape_in l) j limits lt in
        let t = length-drop (8 * (j * per)) (bodies_in l) in
        let u = bodies-length l o.head in
        from-frame (bodies_in l) cs (context_in l 0) first-header (j * per) n (omega (arith, x, y))
        ∙ ap (followed (play (bodies_in l) cs (16 * (j * per)) (context_in l 0)))
        (sym ((λ i. play (body_is i) cs n (d i)) ∙ play-part (drop (8 * (j * per)) (bodies_in l)) cs ((n + 1) / 2) n c (omega (arith, x, z, t, u, p)) (omega arith)))

  module _ (j : ℕ) (lt : suc j < kk) where
    -- the next block begins where this one ends
    pub next-block : 16 * (j * per) + length_in l j ≡ 16 * (suc j * per)
    next-block = ap (λ (n : ℕ). 16 * (j * per) + n) (o.entries j (omega arith)).nibbles ∙ whole_length (shape_in l) limits j lt

    -- it leaves the history before the next one
    leaves : (context_in l j).last_samples ≡ history_from_first l (j * per) → (context_after l j).last_samples ≡ history_from_first l (suc j * per)
    unfolding context_after history_from_first
    leaves e =
        sym (ap (λ (p : Playing). p.context.last_samples) (block-plays j (omega arith) e))
        ∙ ap (λ (n : ℕ). (play (bodies_in l) (coefficients_in l) n (context_in l 0)).context.last_samples) next-block

    same_test : Holds j → goes_on l j ≡ goes_on_from_first l j
    unfolding goes_on goes_on_from_first
    same_test e = ap (λ (h : History). equal_history h (context_in l (suc j)).last_samples) (leaves e)

    -- the next entry holds it too, where the test holds
    next-holds : goes_on l j ≡ true → Holds j → Holds (suc j)
    unfolding goes_on
    next-holds t e = sym (equal-history (context_after l j).last_samples (context_in l (suc j)).last_samples t) ∙ leaves e

  -- k tests from block j on, whose entry holds the history so far
  same_answer : (j k : ℕ) → j + k < kk → Holds j → histories_answer l j k ≡ histories_from_first l j k
  unfolding histories_answer histories_from_first
  same_answer j zero h e = refl
  same_answer j (suc k) h e =
      ap (λ (t : Bool). cond (not t) (refused_at 35 (suc j)) (histories_answer l (suc j) k)) (same_test j (omega arith) e)
      ∙ go (goes_on_from_first l j) refl (λ t. same_answer (suc j) k (omega arith) (next-holds j (omega arith) (same_test j (omega arith) e ∙ t) e))
    where
      go : (t : Bool) → goes_on_from_first l j ≡ t → (goes_on_from_first l j ≡ true → histories_answer l (suc j) k ≡ histories_from_first l (suc j) k)
          → cond (not t) (refused_at 35 (suc j)) (histories_answer l (suc j) k) ≡ cond (not t) (refused_at 35 (suc j)) (histories_from_first l (suc j) k)
      go true e r = r e
      go false e r = refl

  -- what the accepted tests tell of each entry
  holds-from : (j k : ℕ) → j + k < kk → Holds j → histories_answer l j k ≡ accepted tt
      → (i : ℕ) → j ≤ i → i ≤ j + k → Holds i
  unfolding histories_answer
  holds-from j zero h e a i p q = let z : j ≡ i = omega arith in rw z at e
  holds-from j (suc k) h e a i p q =
      let b = passed-at (goes_on l j) 35 (suc j) (histories_answer l (suc j) k) a in
      go (λ p. holds-from (suc j) k (omega arith) (next-holds j (omega arith) b.0 e) b.1 i p (omega arith)) (eqb i j) refl
    where
      go : (suc j ≤ i → Holds i) → (t : Bool) → eqb i j ≡ t → Holds i
      go r true z = rw (eqb-true i j z) e
      go r false z = let d = eqb-false i j z in r (omega (arith, p, d))

  -- every entry holds what all blocks before it leave
  pub histories-hold : histories_answer l 0 (blocks_in l - 1) ≡ accepted tt → (j : ℕ) → j < blocks_in l → (context_in l j).last_samples ≡ history_from_first l (j * (block_in l / 8))
  histories-hold a j h =
      let b = o.head.blocks in
      holds-from 0 (blocks_in l - 1) (omega (arith, b, blocks-some (shape_in l) limits)) first-history a j (omega arith) (omega (arith, h))

  -- entries that all hold it pass the tests
  pub histories-pass : ((j : ℕ) → j < kk → Holds j) → (j k : ℕ) → j + k < kk → histories_answer l j k ≡ accepted tt
  unfolding histories_answer goes_on
  histories-pass all j zero h = refl
  histories-pass all j (suc k) h =
      let g = (context_in l (suc j)).last_samples in
      let e : (context_after l j).last_samples ≡ g = leaves j (omega arith) (all j (omega arith)) ∙ sym (all (suc j) (omega arith)) in
      rw (e, equal-self g.newest, equal-self g.older) (histories-pass all (suc j) k (omega arith))

-- the two ways to ask give one answer
pub goes-on-first : (l : List ℕ) → open_answer l ≡ accepted tt → histories_answer l 0 (blocks_in l - 1) ≡ histories_from_first l 0 (blocks_in l - 1)
goes-on-first l a =
    let o = opened l a in
    let b = o.head.blocks in
    same_answer l o 0 (blocks_in l - 1) (omega (arith, b, blocks-some (shape_in l) o.head.limits)) (first-history l o)
