-- The blocks of an image, written to an output one after the other.
use mathlib.Core.List.{List, ◌++◌, append-nil}
use mathlib.Core.Path.{◌≡◌, refl, sym, ap, ◌∙◌, subst}
use Prim.Native.Nat.{ℕ, zero, suc, ◌+◌, ◌-◌, ◌≤◌, ◌<◌}
use native.Mathlib.Numerals.{add-one}
use native.Mathlib.Omega.{arith}
use lib.IntN.{ℤ}
use lib.ListN.{length, take, drop, length-append, length-drop}
use lib.Seq.{sets, length-sets}
use Rattle.block.specs.declared.FrameContext.{FrameContext}
use Rattle.block.specs.Address.{address_to_sample}
use Rattle.block.specs.Context.{new_context}
use Rattle.block.specs.Frame.{Playing, playing}
use Rattle.block.specs.Play.{play_into}
use Rattle.layout.proofs.SizeLaws.{blocks_some}
use Rattle.whole.specs.Outcome.{Outcome, accepted, Effect, effect}
use Rattle.whole.proofs.Stores.{spread, part-sets, part-all, part_end}
use Rattle.image.specs.Opening.{open_answer}
use Rattle.image.specs.Reading.{shape_in, total_in, blocks_in, coefficients_in, length_in, context_in}
use Rattle.image.specs.inner.Asked.{Opens, Found, Playable, AllPlayable}
use Rattle.image.specs.Bodies.{body_in}
use Rattle.image.specs.Playing.{room_answer}
use Rattle.image.specs.inner.Played.{play_all_by}
use Rattle.image.specs.Sameness.{block_samples, samples_from, samples_in}
use Rattle.image.specs.WholeImage.{all_answer, context_after, all_into, play_all}
use Rattle.image.proofs.OpenImages.{opened, opens}
use Rattle.image.proofs.Joined.{samples-snoc, samples-count}
use Rattle.image.proofs.LawsBody.{room-accepted, room-accepts}
use Rattle.image.proofs.TestsInTurn.{and-then}
use Rattle.image.proofs.LawsPlayed.{block-count}

-- ---- what an accepted call tells

pub all-accepted : (l : List ℕ) (room : ℕ) → all_answer l room ≡ accepted tt → AllPlayable l room
unfolding all_answer room_answer
all-accepted l room p =
    let a = and-then (open_answer l) _ p in
    let r = room-accepted (coefficients_in l) (total_in l) room a.1 in
    record { opens = opened l a.0; pairs = r.0; enough = r.1 }

pub all-accepts : (l : List ℕ) (room : ℕ) → AllPlayable l room → all_answer l room ≡ accepted tt
unfolding all_answer room_answer
all-accepts l room p = rw (opens l p.opens, room-accepts (coefficients_in l) (total_in l) room p.pairs p.enough)

-- ---- the samples of the first blocks

samples-grow : (l : List ℕ) (k d : ℕ) → length (samples_from l 0 k) ≤ length (samples_from l 0 (d + k))
samples-grow l k zero = let z : 0 + k ≡ k = omega arith in rw z (omega arith)
samples-grow l k (suc d) =
    let z : suc d + k ≡ suc (d + k) = omega arith in
    let s = ap length (samples-snoc l 0 (d + k) (d + k) (omega arith)) ∙ length-append (samples_from l 0 (d + k)) (block_samples l (d + k)) in
    rw z (omega (arith, s, samples-grow l k d))

module _ (l : List ℕ) (o : Opens l) where
  pub block-there : (k : ℕ) → k < blocks_in l → Found l k
  block-there k h = record { opens = o; block = subst (λ (x : ℕ). k < x) o.head.blocks h }

  pub blocks-some : 1 ≤ blocks_in l
  blocks-some = let s = blocks_some (shape_in l) o.head.limits in omega (arith, s, o.head.blocks)

  -- a block ends within N samples
  pub block_room : (k : ℕ) → k < blocks_in l → length (samples_from l 0 k) + address_to_sample (length_in l k) ≤ total_in l
  unfolding samples_in
  block_room k h =
      let d : ℕ = blocks_in l - suc k in
      let z : d + suc k ≡ blocks_in l = omega arith in
      let g : length (samples_from l 0 (suc k)) ≤ length (samples_from l 0 (blocks_in l)) = rw z at (samples-grow l (suc k) d) in
      let s = ap length (samples-snoc l 0 k k (omega arith)) ∙ length-append (samples_from l 0 k) (block_samples l k) in
      let c = block-count l k (block-there k h) in
      let n : length (samples_from l 0 (blocks_in l)) ≡ total_in l = samples-count l o in
      omega (arith, g, s, c, n)

-- ---- block by block

-- the context after the first k blocks
abbrev pub context_on : List ℕ → ℕ → FrameContext
context_on l zero = new_context
context_on l (suc k) = context_after l k

module _ (l : List ℕ) (out : List ℤ) (p : AllPlayable l (length out)) where
  -- the output with the first k blocks' samples
  abbrev pub written : ℕ → List ℤ
  written k = sets out 0 (samples_from l 0 k)

  module _ (k : ℕ) (h : k < blocks_in l) where
    abbrev before : ℕ
    before = length (samples_from l 0 k)

    room : before + address_to_sample (length_in l k) ≤ length out
    room = let r = block_room l p.opens k h in let e = p.enough in omega (arith, r, e)

    -- block k has room after them
    pub turn-playable : Playable l k (length (drop before (written k)))
    turn-playable =
        let r = room in
        let d = length-drop before (written k) in
        let s = length-sets out 0 (samples_from l 0 k) in
        record { found = block-there l p.opens k h; pairs = p.pairs; enough = omega (arith, r, d, s) }

    -- its samples after theirs
    pub turn-written : take before (written k) ++ sets (drop before (written k)) 0 (block_samples l k) ≡ written (suc k)
    turn-written =
        let r = room in
        let c = block-count l k (block-there l p.opens k h) in
        part-sets out (samples_from l 0 k) (block_samples l k) (omega (arith, r, c))
        ∙ ap (sets out 0) (sym (samples-snoc l 0 k k (omega arith)))

    pub turn-counted : before + address_to_sample (length_in l k) ≡ length (samples_from l 0 (suc k))
    turn-counted =
        let s = ap length (samples-snoc l 0 k k (omega arith)) ∙ length-append (samples_from l 0 k) (block_samples l k) in
        let c = block-count l k (block-there l p.opens k h) in
        omega (arith, s, c)

    -- the same of an output and a place that are known to be these
    module _ (at : ℕ) (cur : List ℤ) (ea : at ≡ before) (ec : cur ≡ written k) where
      pub place-within : at + address_to_sample (length_in l k) ≤ length cur
      place-within =
          let r = room in
          let s = ap length ec ∙ length-sets out 0 (samples_from l 0 k) in
          omega (arith, r, s)

      pub place-small : at + address_to_sample (length_in l k) ≤ 14680064
      place-small = let r = block_room l p.opens k h in let f = p.opens.head.limits.few in omega (arith, r, f)

      pub place-playable : Playable l k (length (take (length cur - at) (drop at cur)))
      place-playable = rw (part-all cur at, ea, ec) turn-playable

      pub place-counted : (s n : ℕ) → s ≡ address_to_sample n → n ≡ length_in l k → at + s ≡ length (samples_from l 0 (k + 1))
      place-counted s n es en = rw (ea, es, en, add-one k) turn-counted

      module _ (after : FrameContext) (ys : List ℤ) (e : playing after ys ≡ play_into (body_in l k) (coefficients_in l) (length_in l k) (context_in l k) (take (length cur - at) (drop at cur))) where
        pub place-context : after ≡ context_on l (k + 1)
        unfolding context_after play_into
        place-context = ap (λ (x : Playing). x.context) e ∙ ap (context_on l) (sym (add-one k))

        pub place-written : take at cur ++ (ys ++ drop (length cur - at) (drop at cur)) ≡ written (k + 1)
        unfolding block_samples play_into
        place-written =
            let w : ys ≡ sets (drop at cur) 0 (block_samples l k) = rw (part-all cur at) at (ap (λ (x : Playing). x.samples) e) in
            ap (λ (x : List ℤ). take at cur ++ (ys ++ x)) (part_end cur at)
            ∙ ap (λ (x : List ℤ). take at cur ++ x) (append-nil ys ∙ w)
            ∙ rw (ea, ec) turn-written
            ∙ ap written (sym (add-one k))

  -- all of them
  pub all-written : (k : ℕ) (c : FrameContext) (left : List ℤ) → k ≡ blocks_in l → c ≡ context_on l k → left ≡ written k → playing c left ≡ all_into l out
  unfolding all_into samples_in
  all-written zero c left e f g = let s = blocks-some l p.opens in absurd (omega (arith, s, e))
  all-written (suc k) c left e f g =
      let z : blocks_in l - 1 ≡ k = omega arith in
      rw (f, g, z, ← e)

  -- an accepted call's effect, with N as it was read
  pub all_made : (n : ℕ) (x : Playing) → n ≡ total_in l → x ≡ all_into l out → effect (accepted n) x ≡ play_all l out
  unfolding play_all
  all_made n x en e = rw (all-accepts l (length out) p, en, e)

  -- the same of an image that opens
  pub opened-made : (n : ℕ) (x : Playing) → n ≡ total_in l → x ≡ all_into l out
      → effect (accepted n) x ≡ play_all_by (room_answer (coefficients_in l) (total_in l) (length out)) l out
  opened-made n x en e = rw (en, e, room-accepts (coefficients_in l) (total_in l) (length out) p.pairs p.enough)

  -- its answer, and the output after it: the samples, and what stood beyond them
  pub all-answered : (play_all l out).outcome ≡ accepted (total_in l)
  all-answered = ap (λ (e : Effect (Outcome ℕ) Playing). e.outcome) (sym (all_made (total_in l) (all_into l out) refl refl))

  pub all-output : (play_all l out).left.samples ≡ samples_in l ++ drop (total_in l) out
  unfolding all_into
  all-output =
      let n = samples-count l p.opens in
      let e = p.enough in
      ap (λ (x : Effect (Outcome ℕ) Playing). x.left.samples) (sym (all_made (total_in l) (all_into l out) refl refl))
      ∙ spread (samples_in l) out (omega (arith, n, e))
      ∙ ap (λ (k : ℕ). samples_in l ++ drop k out) n
