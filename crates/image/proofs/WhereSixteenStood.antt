-- 20, 21 and 22 are given where 16 stood and nowhere else; what opens is what opens with 16 in their place; 16 is never given.
use mathlib.Core.Bool.{Bool, true, false, not, cond, ◌&&◌}
use mathlib.Core.List.{List}
use mathlib.Core.Logic.{◌≢◌}
use mathlib.Core.Path.{◌≡◌, refl, sym, ap, ap₂, ◌∙◌}
use Prim.Native.Nat.{ℕ, zero, suc}
use borrow.Author.Tests.{eqb-false}
use lib.Dec.{eqb, leb, ltb}
use lib.IntN.{ℤ}
use lib.ListN.{length, get_or}
use Rattle.whole.specs.Outcome.{Outcome, accepted, refused_at, refused, with_values, if_accepted}
use Rattle.whole.proofs.Outcomes.{not-both, same_number}
use Rattle.block.specs.Refusals.{lowest_pair}
use Rattle.layout.specs.declared.Shape.{Shape}
use Rattle.layout.specs.Sizes.{block_count, block_offset, block_length}
use Rattle.image.specs.Reading.{shape_in, blocks_in, total_in, coefficients_in, offset_in, length_in, header_in, entry_zero_in}
use Rattle.image.specs.Opening.{and_then, head_ok, entry_answer, entries_answer, loop_fits, open_answer, open_image}
use Rattle.image.specs.Bodies.{block_answer}
use Rattle.image.specs.Looping.{loop_answer, play_loop}
use Rattle.image.specs.Part.{from_answer, play_from}
use Rattle.image.specs.Playing.{room_answer, play_answer, play}
use Rattle.image.specs.WholeImage.{all_answer, play_all}
use Rattle.image.specs.Sameness.{compare_answer, both_answer, same_sound, agree, same, sounds_same}
use Rattle.image.specs.CodeSixteen.{entry_ok, entries_ok, open_answer16, block_answer16, compare_answer16, as16, Where16Stood, Never16}

-- ---- where 16 stood

-- 16 where a test fails
abbrev or16 : Bool → Outcome Unit
or16 t = cond (not t) (refused 16) (accepted tt)

as16-then : (a b : Outcome Unit) → as16 (and_then a b) ≡ and_then (as16 a) (as16 b)
as16-then (accepted u) b = refl
as16-then (refused_at n j) b = go (leb 20 n && leb n 22)
  where
    go : (t : Bool) → cond t (refused 16) (refused_at n j) ≡ and_then (cond t (refused 16) (refused_at n j)) (as16 b)
    go true = refl
    go false = refl

or16-then : (a b : Bool) → and_then (or16 a) (or16 b) ≡ or16 (a && b)
or16-then true b = refl
or16-then false b = refl

entry-16 : (l : List ℕ) (s : Shape) (j : ℕ) → as16 (entry_answer l s j) ≡ or16 (entry_ok l s j)
unfolding entry_answer entry_ok
entry-16 l s j = go (eqb (offset_in l j) (block_offset s j)) (eqb (length_in l j) (block_length s j)) (eqb (entry_zero_in l j) 0) (eqb (header_in l j) (get_or l (block_offset s j) 0))
  where
    go : (o k z h : Bool) → as16 (cond (not o) (refused_at 20 j) (cond (not (k && z)) (refused_at 21 j) (cond (not h) (refused_at 22 j) (accepted tt)))) ≡ or16 (o && (k && (z && h)))
    go false k z h = refl
    go true false z h = refl
    go true true false h = refl
    go true true true false = refl
    go true true true true = refl

entries-16 : (l : List ℕ) (s : Shape) (j k : ℕ) → as16 (entries_answer l s j k) ≡ or16 (entries_ok l s j k)
unfolding entries_answer entries_ok
entries-16 l s j zero = refl
entries-16 l s j (suc k) =
    as16-then (entry_answer l s j) (entries_answer l s (suc j) k)
    ∙ ap₂ and_then (entry-16 l s j) (entries-16 l s (suc j) k)
    ∙ or16-then (entry_ok l s j) (entries_ok l s (suc j) k)

-- tests in turn
then-16 : (a b : Outcome Unit) {c d : Outcome Unit} → as16 a ≡ c → as16 b ≡ d → as16 (and_then a b) ≡ and_then c d
then-16 a b p q = as16-then a b ∙ ap₂ and_then p q

-- an answer with values
with-16 : {A : Type 0} (o : Outcome Unit) (v : A) {c : Outcome Unit} → as16 o ≡ c → as16 (with_values o v) ≡ with_values c v
with-16 (accepted u) v p = ap (λ (o : Outcome Unit). with_values o v) p
with-16 (refused_at n j) v p = go (leb 20 n && leb n 22) ∙ ap (λ (o : Outcome Unit). with_values o v) p
  where
    go : (t : Bool) → cond t (refused 16) (refused_at n j) ≡ with_values (cond t (refused 16) (refused_at n j)) v
    go true = refl
    go false = refl

-- a test by codes that are none of 20, 21 and 22
cond-16 : (t : Bool) (a b : Outcome Unit) → as16 a ≡ a → as16 b ≡ b → as16 (cond t a b) ≡ cond t a b
cond-16 true a b p q = p
cond-16 false a b p q = q

-- the tests after 16
or16-next : (t : Bool) (b : Outcome Unit) → and_then (or16 t) b ≡ cond (not t) (refused 16) b
or16-next true b = refl
or16-next false b = refl

open-16 : (l : List ℕ) → as16 (open_answer l) ≡ open_answer16 l
unfolding open_answer open_answer16
open-16 l = go (head_ok l)
  where
    looped : Outcome Unit
    looped = cond (not (loop_fits l)) (refused 24) (accepted tt)

    go : (t : Bool) → as16 (cond (not t) (refused 15) (and_then (entries_answer l (shape_in l) 0 (block_count (shape_in l))) looped))
        ≡ cond (not t) (refused 15) (cond (not (entries_ok l (shape_in l) 0 (block_count (shape_in l)))) (refused 16) looped)
    go true =
        then-16 (entries_answer l (shape_in l) 0 (block_count (shape_in l))) looped (entries-16 l (shape_in l) 0 (block_count (shape_in l))) (cond-16 (not (loop_fits l)) _ _ refl refl)
        ∙ or16-next (entries_ok l (shape_in l) 0 (block_count (shape_in l))) looped
    go false = refl

module _ (l : List ℕ) where
  block-16 : (k : ℕ) → as16 (block_answer l k) ≡ block_answer16 l k
  unfolding block_answer block_answer16
  block-16 k = then-16 (open_answer l) _ (open-16 l) (cond-16 (leb (blocks_in l) k) _ _ refl refl)

  compare-16 : as16 (compare_answer l) ≡ compare_answer16 l
  unfolding compare_answer compare_answer16
  compare-16 = then-16 (open_answer l) _ (open-16 l) (cond-16 (lowest_pair (coefficients_in l)) _ _ refl refl)

  room-16 : (n room : ℕ) → as16 (room_answer (coefficients_in l) n room) ≡ room_answer (coefficients_in l) n room
  unfolding room_answer
  room-16 n room = cond-16 (lowest_pair (coefficients_in l)) _ _ refl (cond-16 (ltb room n) _ _ refl refl)

-- With 16 for 20, 21 and 22 every call of document 01 answers as document 01 has it, with 15, S, offsets and 24 as change 5/13 has them: 20, 21 and 22 stand where 16 stood
-- and nowhere else, and beside every other code no block is named.
pub where-16-stood : (l m : List ℕ) (k : ℕ) (out : List ℤ) → Where16Stood l m k out
unfolding open_image play play_answer play_all all_answer same sounds_same both_answer
where-16-stood l m k out =
    record {
      opening = open-16 l;
      finding = block-16 l k;
      playing = with-16 (play_answer l k (length out)) _ (then-16 (block_answer l k) _ (block-16 l k) (room-16 l _ (length out)));
      playing-all = with-16 (all_answer l (length out)) _ (then-16 (open_answer l) _ (open-16 l) (room-16 l (total_in l) (length out)));
      comparing = with-16 (both_answer l m) (agree l m) (then-16 (compare_answer l) (compare_answer m) (compare-16 l) (compare-16 m));
      comparing-sound = with-16 (both_answer l m) (same_sound l m) (then-16 (compare_answer l) (compare_answer m) (compare-16 l) (compare-16 m));
    }

accepted-16 : (o : Outcome Unit) → if_accepted (as16 o) true false ≡ if_accepted o true false
accepted-16 (accepted u) = refl
accepted-16 (refused_at n j) = go (leb 20 n && leb n 22)
  where
    go : (t : Bool) → if_accepted {A = Unit} (cond t (refused 16) (refused_at n j)) true false ≡ false
    go true = refl
    go false = refl

-- What opens is what opens with 16 in their place.
pub opens-as-before : (l : List ℕ) → if_accepted (open_image l).outcome true false ≡ if_accepted (open_answer16 l) true false
unfolding open_image
opens-as-before l = sym (accepted-16 (open_answer l)) ∙ ap (λ (o : Outcome Unit). if_accepted o true false) (open-16 l)

-- ---- 16 is never given

-- an answer is a refusal by 16
abbrev by16 : {A : Type 0} → Outcome A → Bool
by16 (accepted a) = false
by16 (refused_at n j) = eqb n 16

not-by16 : {A : Type 0} (o : Outcome A) → by16 o ≡ false → (j : ℕ) → o ≢ refused_at 16 j
not-by16 (accepted a) p j e = absurd (not-both (sym e))
not-by16 (refused_at n i) p j e = eqb-false n 16 p (same_number e)

never-cond : (t : Bool) (a b : Outcome Unit) → by16 a ≡ false → by16 b ≡ false → by16 (cond t a b) ≡ false
never-cond true a b p q = p
never-cond false a b p q = q

never-then : (a b : Outcome Unit) → by16 a ≡ false → by16 b ≡ false → by16 (and_then a b) ≡ false
never-then (accepted u) b p q = q
never-then (refused_at n j) b p q = p

never-with : {A : Type 0} (o : Outcome Unit) (v : A) → by16 o ≡ false → by16 (with_values o v) ≡ false
never-with (accepted u) v p = refl
never-with (refused_at n j) v p = p

never-entries : (l : List ℕ) (s : Shape) (j k : ℕ) → by16 (entries_answer l s j k) ≡ false
unfolding entries_answer entry_answer
never-entries l s j zero = refl
never-entries l s j (suc k) =
    never-then (entry_answer l s j) _
    (never-cond (not (eqb (offset_in l j) (block_offset s j))) _ _ refl
    (never-cond (not (eqb (length_in l j) (block_length s j) && eqb (entry_zero_in l j) 0)) _ _ refl
    (never-cond (not (eqb (header_in l j) (get_or l (block_offset s j) 0))) _ _ refl refl)))
    (never-entries l s (suc j) k)

module _ (l : List ℕ) where
  never-opening : by16 (open_answer l) ≡ false
  unfolding open_answer
  never-opening = never-cond (not (head_ok l)) _ _ refl
      (never-then (entries_answer l (shape_in l) 0 (block_count (shape_in l))) _ (never-entries l (shape_in l) 0 (block_count (shape_in l))) (never-cond (not (loop_fits l)) _ _ refl refl))

  never-room : (n room : ℕ) → by16 (room_answer (coefficients_in l) n room) ≡ false
  unfolding room_answer
  never-room n room = never-cond (lowest_pair (coefficients_in l)) _ _ refl (never-cond (ltb room n) _ _ refl refl)

  never-block : (k : ℕ) → by16 (block_answer l k) ≡ false
  unfolding block_answer
  never-block k = never-then (open_answer l) _ never-opening (never-cond (leb (blocks_in l) k) _ _ refl refl)

  never-compare : by16 (compare_answer l) ≡ false
  unfolding compare_answer
  never-compare = never-then (open_answer l) _ never-opening (never-cond (lowest_pair (coefficients_in l)) _ _ refl refl)

-- No call on an image is refused by 16.
pub never-16 : (l m : List ℕ) (k : ℕ) (out : List ℤ) → Never16 l m k out
unfolding open_image play play_answer play_all all_answer play_from from_answer play_loop loop_answer same sounds_same both_answer
never-16 l m k out =
    record {
      opening = not-by16 (open_answer l) (never-opening l);
      finding = not-by16 (block_answer l k) (never-block l k);
      playing = not-by16 _ (never-with (play_answer l k (length out)) _ (never-then (block_answer l k) _ (never-block l k) (never-room l _ (length out))));
      playing-all = not-by16 _ (never-with (all_answer l (length out)) _ (never-then (open_answer l) _ (never-opening l) (never-room l (total_in l) (length out))));
      playing-from = λ first. not-by16 _ (never-with (from_answer l first) _ (never-then (compare_answer l) _ (never-compare l) (never-cond (leb (total_in l) first) _ _ refl refl)));
      playing-loop = λ times. not-by16 _ (never-with (loop_answer l times (length out)) _ (never-then (open_answer l) _ (never-opening l) (never-room l _ (length out))));
      comparing = not-by16 _ (never-with (both_answer l m) (agree l m) (never-then (compare_answer l) _ (never-compare l) (never-compare m)));
      comparing-sound = not-by16 _ (never-with (both_answer l m) (same_sound l m) (never-then (compare_answer l) _ (never-compare l) (never-compare m)));
    }
