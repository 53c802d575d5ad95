-- The loop of an image.
use mathlib.Core.Bool.{Bool, true, false, cond, ◌&&◌}
use mathlib.Core.List.{List, [], ◌++◌, append_assoc, append-nil}
use mathlib.Core.Path.{◌≡◌, refl, sym, ap, ◌∙◌, subst}
use Prim.Native.Nat.{ℕ, zero, suc, ◌+◌, ◌-◌, ◌*◌, ◌/◌, ◌≤◌, ◌<◌}
use native.Mathlib.Nat.{zero-mul, suc-mul, mul-le-mul, le_refl}
use native.Mathlib.Numerals.{add-one}
use native.Mathlib.Omega.{arith}
use borrow.Author.Tests.{eqb-true, eq-eqb, le-leb, lt-ltb}
use lib.Dec.{T, eqb}
use lib.IntN.{ℤ}
use lib.ListN.{length, take, drop, get_or, length-append}
use lib.Seq.{sets, length-take-le}
use Rattle.block.specs.declared.FrameContext.{FrameContext}
use Rattle.layout.specs.declared.Loop.{Loop}
use Rattle.layout.specs.Fields.{at32}
use Rattle.layout.specs.Limits.{loop_ok}
use Rattle.layout.specs.Sizes.{no_loop, entry_place, frame_place, last_frame_samples, body_bytes, image_size}
use Rattle.layout.proofs.LimitLaws.{both_true, loop-right}
use Rattle.layout.proofs.SizeLaws.{blocks-most}
use Rattle.whole.specs.Frames.{frame_count}
use Rattle.whole.specs.Outcome.{accepted, effect}
use Rattle.whole.proofs.Stores.{part_then}
use Rattle.block.specs.Refusals.{lowest_pair}
use Rattle.image.specs.Reading.{shape_in, total_in, loops_in, blocks_in, coefficients_in, header_in, entry_zero_in, loop_in}
use Rattle.image.specs.Opening.{LoopRight, loop_fits}
use Rattle.image.specs.inner.Asked.{Headed, Opens, Run, Turns}
use Rattle.image.specs.inner.Played.{play_loop_by}
use Rattle.image.specs.Looping.{samples_on, loop_length, loop_once, repeated}
use Rattle.image.specs.Playing.{room_answer}
use Rattle.image.proofs.LawsBody.{room-accepts}
use Rattle.image.proofs.LawsRun.{on-length}

-- ---- what the bytes say of it

-- the loop of the entry after the K others
abbrev pub stored : List ℕ → Loop
stored l = record { start = at32 l (entry_place (blocks_in l)); end = at32 l (entry_place (blocks_in l) + 4); present = true }

pub loop-one : (l : List ℕ) → (loop_in l).present ≡ true → loops_in l ≡ 1
unfolding loop_in
loop-one l p = go (eqb (loops_in l) 1) refl p
  where
    go : (t : Bool) → eqb (loops_in l) 1 ≡ t → (cond t (stored l) no_loop).present ≡ true → loops_in l ≡ 1
    go true e q = eqb-true (loops_in l) 1 e
    go false e q = absurd (subst T (sym q) tt)

pub loop-none : (l : List ℕ) → (loop_in l).present ≡ false → loop_in l ≡ no_loop
unfolding loop_in
loop-none l p = go (eqb (loops_in l) 1) p
  where
    go : (t : Bool) → (cond t (stored l) no_loop).present ≡ false → cond t (stored l) no_loop ≡ no_loop
    go true q = absurd (subst T q tt)
    go false q = refl

pub loop-zero : (l : List ℕ) → loops_in l ≡ 0 → (loop_in l).present ≡ false
unfolding loop_in
loop-zero l z = rw z

pub loop-stored : (l : List ℕ) → loops_in l ≡ 1 → loop_in l ≡ stored l
unfolding loop_in
loop-stored l e = rw e

-- ---- where it stands in the image

module _ (l : List ℕ) (h : Headed l) where
  pub blocks-small : blocks_in l ≤ 1048576
  blocks-small = subst (λ (k : ℕ). k ≤ 1048576) (sym h.blocks) (blocks-most (shape_in l) h.limits)

  -- its entry is within the image
  pub loop-entry : loops_in l ≡ 1 → entry_place (blocks_in l) + 16 ≤ length l
  unfolding image_size
  loop-entry e = let z = h.size in let b = h.blocks in omega (arith, z, b, e)

  -- and so is the frame that holds its start
  pub loop-frame : (s : ℕ) → s < total_in l → frame_place (shape_in l) (s / 14) < length l
  unfolding image_size body_bytes frame_count last_frame_samples
  loop-frame s lt = let z = h.size in omega (arith, z, lt)

  pub frame_small : (s : ℕ) → s < total_in l → frame_place (shape_in l) (s / 14) < 67108864
  frame_small s lt =
      let k = blocks-most (shape_in l) h.limits in
      let x = h.loops in
      let m = h.limits.few in
      omega (arith, lt, k, x, m)

-- ---- the rule of its start and end

pub loop_rule : (l : List ℕ) → (loop_in l).present ≡ true → loop_ok (loop_in l) (total_in l) ≡ true → ((loop_in l).start < (loop_in l).end) × ((loop_in l).end ≤ total_in l)
loop_rule l e q = loop-right (loop_in l) (total_in l) e q

pub loop-within : (l : List ℕ) → Opens l → (loop_in l).present ≡ true → ((loop_in l).start < (loop_in l).end) × ((loop_in l).end ≤ total_in l)
unfolding loop_fits
loop-within l o e = loop_rule l e (both_true (loop_ok (loop_in l) (total_in l)) _ o.looping).0

-- ---- its test

module _ (l : List ℕ) where
  pub fits_not : loop_ok (loop_in l) (total_in l) ≡ false → false ≡ loop_fits l
  unfolding loop_fits
  fits_not e = rw e

  pub fits-none : (loop_in l).present ≡ false → true ≡ loop_fits l
  unfolding loop_fits loop_ok
  fits-none e = rw e

  pub fits_told : (loop_in l).present ≡ true → loop_ok (loop_in l) (total_in l) ≡ true
      → eqb (header_in l (blocks_in l)) (get_or l (frame_place (shape_in l) ((loop_in l).start / 14)) 0) && eqb (entry_zero_in l (blocks_in l)) 0 ≡ loop_fits l
  unfolding loop_fits
  fits_told e q = rw (q, e)

  pub fits-zero : loops_in l ≡ 0 → loop_fits l ≡ true
  fits-zero z = sym (fits-none (loop-zero l z))

  pub fits-right : (loop_in l).present ≡ true → (loop_in l).start < (loop_in l).end → (loop_in l).end ≤ total_in l
      → header_in l (blocks_in l) ≡ get_or l (frame_place (shape_in l) ((loop_in l).start / 14)) 0 → entry_zero_in l (blocks_in l) ≡ 0 → loop_fits l ≡ true
  unfolding loop_fits loop_ok
  fits-right e a b h z = rw (e, lt-ltb (loop_in l).start (loop_in l).end a, le-leb (loop_in l).end (total_in l) b, ← h, z, eq-eqb (header_in l (blocks_in l)) (header_in l (blocks_in l)) refl)

never : {t : Bool} → t ≡ true → t ≡ false → ⊥
never p q = subst T (sym p ∙ q) tt

-- the test, both ways
pub loop-right-says : (l : List ℕ) → (loop_in l).present ≡ true → loop_fits l ≡ true → LoopRight l
unfolding loop_fits
loop-right-says l e f =
    let r = (both_true (loop_ok (loop_in l) (total_in l)) _ f).0 in
    let w = loop_rule l e r in
    let b = both_true (eqb (header_in l (blocks_in l)) (get_or l (frame_place (shape_in l) ((loop_in l).start / 14)) 0)) _ (fits_told l e r ∙ f) in
    record {
      below = w.0;
      within = w.1;
      header = eqb-true (header_in l (blocks_in l)) (get_or l (frame_place (shape_in l) ((loop_in l).start / 14)) 0) b.0;
      zeros = eqb-true (entry_zero_in l (blocks_in l)) 0 b.1;
    }

pub loop-refused : (l : List ℕ) → loop_fits l ≡ false → ((loop_in l).present ≡ true) × (LoopRight l → ⊥)
loop-refused l f = go (loop_in l).present refl
  where
    go : (t : Bool) → (loop_in l).present ≡ t → ((loop_in l).present ≡ true) × (LoopRight l → ⊥)
    go true e = (e, λ r. never (fits-right l e r.below r.within r.header r.zeros) f)
    go false e = absurd (never (sym (fits-none l e)) f)

pub loop-wrong : (l : List ℕ) → (loop_in l).present ≡ true → (LoopRight l → ⊥) → loop_fits l ≡ false
loop-wrong l e w = go (loop_fits l) refl
  where
    go : (t : Bool) → loop_fits l ≡ t → loop_fits l ≡ false
    go true f = absurd (w (loop-right-says l e f))
    go false f = f

-- its entry tells the frame's header byte and ends in zeros
pub loop-told : (l : List ℕ) → Opens l → (loop_in l).present ≡ true
    → (header_in l (blocks_in l) ≡ get_or l (frame_place (shape_in l) ((loop_in l).start / 14)) 0) × (entry_zero_in l (blocks_in l) ≡ 0)
loop-told l o e = let r = loop-right-says l e o.looping in (r.header, r.zeros)

-- the samples of a turn are in the clip
pub loop-run : (l : List ℕ) → Opens l → (loop_in l).present ≡ true → Run l (loop_in l).start (loop_length l)
loop-run l o e = let w = loop-within l o e in let a = w.0 in let b = w.1 in record { opens = o; some = omega (arith, a); inside = omega (arith, a, b) }

-- ---- its length

module _ (l : List ℕ) (o : Opens l) where
  pub loop-order : (loop_in l).start ≤ (loop_in l).end
  loop-order = go (loop_in l).present refl
    where
      go : (t : Bool) → (loop_in l).present ≡ t → (loop_in l).start ≤ (loop_in l).end
      go true e = let w = (loop-within l o e).0 in omega (arith, w)
      go false e = rw (loop-none l e) (omega arith)

  loop-few : loop_length l ≤ 14680064
  loop-few = go (loop_in l).present refl
    where
      go : (t : Bool) → (loop_in l).present ≡ t → loop_length l ≤ 14680064
      go true e = let w = (loop-within l o e).1 in let m = o.head.limits.few in omega (arith, w, m)
      go false e = rw (loop-none l e) (omega arith)

  -- the samples of a number of turns that fits 32 bits are below 2^56
  pub turns-small : (t : ℕ) → t ≤ 4294967296 → t * loop_length l < 72057594037927936
  turns-small t h = let m : t * loop_length l ≤ 4294967296 * 14680064 = mul-le-mul h loop-few in omega (arith, m)

-- ---- one turn

-- under any context it has the samples from the start to the end
from_start : (l : List ℕ) → Opens l → (c : FrameContext) → length (take (loop_length l) (samples_on l (loop_in l).start c)) ≡ loop_length l
from_start l o c = go (loop_in l).present refl
  where
    go : (t : Bool) → (loop_in l).present ≡ t → length (take (loop_length l) (samples_on l (loop_in l).start c)) ≡ loop_length l
    go true e =
        let w = loop-within l o e in
        let n = on-length l (loop_in l).start (loop_length l) (loop-run l o e) c in
        let b = w.1 in
        length-take-le (loop_length l) (samples_on l (loop_in l).start c) (omega (arith, n, b))
    go false e = rw (loop-none l e)

pub once-length : (l : List ℕ) → Opens l → length (loop_once l) ≡ loop_length l
unfolding loop_once
once-length l o = from_start l o _

pub once-none : (l : List ℕ) → (loop_in l).present ≡ false → loop_once l ≡ []
unfolding loop_once
once-none l e = rw (loop-none l e)

-- ---- many turns

pub repeated-length : (t : ℕ) (ys : List ℤ) → length (repeated t ys) ≡ t * length ys
unfolding repeated
repeated-length zero ys = sym (zero-mul (length ys))
repeated-length (suc t) ys = let a = length-append ys (repeated t ys) in let b = repeated-length t ys in let m = suc-mul t (length ys) in omega (arith, a, b, m)

-- a turn more, after the others
pub repeated-snoc : (t : ℕ) (ys : List ℤ) → repeated (suc t) ys ≡ repeated t ys ++ ys
unfolding repeated
repeated-snoc zero ys = append-nil ys
repeated-snoc (suc t) ys = ap (λ (xs : List ℤ). ys ++ xs) (repeated-snoc t ys) ∙ sym (append_assoc ys (repeated t ys) ys)

-- many turns of nothing
pub repeated-none : (t : ℕ) → repeated t [] ≡ []
unfolding repeated
repeated-none zero = refl
repeated-none (suc t) = repeated-none t

module _ (l : List ℕ) (times room : ℕ) (p : Turns l times room) (turn done : ℕ) (e : done ≡ turn * loop_length l) (t : turn < times) where
  -- there is room for a turn more
  pub turn-room : done + loop_length l ≤ room
  turn-room =
      let m : suc turn * loop_length l ≤ times * loop_length l = mul-le-mul t (le_refl (loop_length l)) in
      let s = suc-mul turn (loop_length l) in
      let r = p.enough in
      omega (arith, m, s, r, e)

  pub turn_small : times < 4294967296 → done + loop_length l < 72057594037927936
  turn_small h =
      let m = turns-small l p.opens (suc turn) (omega (arith, h, t)) in
      let s = suc-mul turn (loop_length l) in
      omega (arith, m, s, e)

  -- a turn more, as the call leaves it
  pub turn-again : (out cur ys : List ℤ) → room ≡ length out → cur ≡ sets out 0 (repeated turn (loop_once l))
      → ys ≡ sets (take (length cur - done) (drop done cur)) 0 (loop_once l)
      → take done cur ++ (ys ++ drop (length cur - done) (drop done cur)) ≡ sets out 0 (repeated (turn + 1) (loop_once l))
  turn-again out cur ys r c y =
      let n = once-length l p.opens in
      let m : length (repeated turn (loop_once l)) ≡ done = repeated-length turn (loop_once l) ∙ ap (λ (k : ℕ). turn * k) n ∙ sym e in
      let h = turn-room in
      part_then out cur (repeated turn (loop_once l)) (loop_once l) ys done c m (omega (arith, h, n, r)) y
      ∙ ap (sets out 0) (sym (ap (λ (k : ℕ). repeated k (loop_once l)) (add-one turn) ∙ repeated-snoc turn (loop_once l)))

-- ---- what an accepted call leaves

module _ (l : List ℕ) (times : ℕ) (out : List ℤ) where
  -- without a loop, the output as it was
  pub none-played : (loop_in l).present ≡ false → out ≡ sets out 0 (repeated times (loop_once l))
  none-played e = sym (ap (λ (ys : List ℤ). sets out 0 (repeated times ys)) (once-none l e) ∙ ap (sets out 0) (repeated-none times))

  module _ (c : lowest_pair (coefficients_in l) ≡ false) (h : times * loop_length l ≤ length out) where
    pub loop-made : (n : ℕ) (left : List ℤ) → n ≡ times * loop_length l → left ≡ sets out 0 (repeated times (loop_once l))
        → effect (accepted n) left ≡ play_loop_by (room_answer (coefficients_in l) (times * loop_length l) (length out)) l times out
    loop-made n left en e = rw (en, e, room-accepts (coefficients_in l) (times * loop_length l) (length out) c h)
