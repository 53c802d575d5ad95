-- What an image that opens satisfies, and that an image which satisfies it opens.
use mathlib.Core.Bool.{Bool, true, false, not, ◌&&◌}
use mathlib.Core.List.{List}
use mathlib.Core.Path.{◌≡◌, refl, ap, ◌∙◌}
use Prim.Native.Nat.{ℕ, zero, suc, ◌+◌, ◌%◌, ◌≤◌, ◌<◌}
use native.Mathlib.Omega.{arith}
use borrow.Author.Tests.{leb-true, eqb-true, eqb-false, le-leb, eq-eqb, ne_eqb}
use lib.Dec.{eqb, leb}
use lib.ListN.{length, get_or}
use Rattle.layout.specs.Limits.{numbers_ok, total_ok, block_ok}
use Rattle.layout.specs.Limits.{Limits}
use Rattle.layout.specs.declared.Shape.{Shape}
use Rattle.whole.proofs.Outcomes.{passed, passed-at}
use Rattle.layout.specs.Sizes.{shape, block_count, image_size, block_offset, block_length}
use Rattle.whole.specs.Frames.{most}
use Rattle.layout.proofs.LimitLaws.{both_true, numbers-sound}
use Rattle.whole.specs.Outcome.{accepted}
use Rattle.image.specs.Reading.{shape_in, total_in, rate_in, block_in, loops_in, blocks_in, offset_in, length_in, header_in, entry_zero_in}
use Rattle.image.specs.Opening.{EntryFits, mark_ok, numbers_fit, head_ok, entry_answer, entries_answer, loop_fits, open_answer}
use Rattle.image.specs.inner.Asked.{Headed, Opens}
use Rattle.image.proofs.TestsInTurn.{and-then}

-- ---- the numbers

numbers-rate : (n b rate : ℕ) → numbers_ok 0 n b rate ≡ true → 1 ≤ rate
unfolding numbers_ok
numbers-rate n b rate h =
    let a = both_true (leb 0 n) _ h in
    let t = both_true (total_ok n) _ a.1 in
    let k = both_true (block_ok b) _ t.1 in
    let m = both_true (eqb (b % 8) 0) _ k.1 in
    some rate m.1
  where
    some : (r : ℕ) → not (eqb r 0) ≡ true → 1 ≤ r
    some zero e = absurd (let z : ◌≡◌ {A = ℕ} 0 1 = cc in omega arith)
    some (suc r) e = omega arith

numbers-right : (n b x rate : ℕ) → Limits (shape n b x) → 1 ≤ rate → numbers_ok 0 n b rate ≡ true
unfolding numbers_ok
numbers-right n b x rate L r =
    rw (
      le-leb 0 n (omega arith),
      le-leb 1 n L.some,
      le-leb n most L.few,
      le-leb 8 b L.wide,
      le-leb b 65536 L.narrow,
      eq-eqb (b % 8) 0 L.eights,
      ne_eqb rate 0 (λ z. omega arith),
    )

-- ---- the head

pub head-says : (l : List ℕ) → head_ok l ≡ true → Headed l
unfolding head_ok numbers_fit
head-says l h =
    let n = total_in l in
    let b = block_in l in
    let p = both_true (leb 56 (length l)) _ h in
    let m = both_true (mark_ok l) _ p.1 in
    let k = both_true (numbers_ok 0 n b (rate_in l)) _ m.1 in
    let x = both_true (leb (loops_in l) 1) _ k.1 in
    let d = both_true (eqb (blocks_in l) (block_count (shape_in l))) _ x.1 in
    let few = leb-true (loops_in l) 1 x.0 in
    record {
      long = leb-true 56 (length l) p.0;
      marked = m.0;
      limits = (numbers-sound 0 n b (rate_in l) k.0).limits (loops_in l) few;
      rate = numbers-rate n b (rate_in l) k.0;
      blocks = eqb-true (blocks_in l) (block_count (shape_in l)) d.0;
      loops = few;
      size = leb-true (image_size (shape_in l)) (length l) d.1;
    }

pub head-right : (l : List ℕ) → Headed l → head_ok l ≡ true
unfolding head_ok numbers_fit
head-right l h =
    let n = total_in l in
    let b = block_in l in
    rw (
      le-leb 56 (length l) h.long,
      h.marked,
      numbers-right n b (loops_in l) (rate_in l) h.limits h.rate,
      le-leb (loops_in l) 1 h.loops,
      eq-eqb (blocks_in l) (block_count (shape_in l)) h.blocks,
      le-leb (image_size (shape_in l)) (length l) h.size,
    )

-- ---- the entries

module _ (l : List ℕ) (s : Shape) where
  pub entry-says : (j : ℕ) → entry_answer l s j ≡ accepted tt → EntryFits l s j
  unfolding entry_answer
  entry-says j p =
      let o = passed-at (eqb (offset_in l j) (block_offset s j)) 20 j _ p in
      let k = passed-at (eqb (length_in l j) (block_length s j) && eqb (entry_zero_in l j) 0) 21 j _ o.1 in
      let z = both_true (eqb (length_in l j) (block_length s j)) _ k.0 in
      let h = passed-at (eqb (header_in l j) (get_or l (block_offset s j) 0)) 22 j (accepted tt) k.1 in
      record {
        offset = eqb-true (offset_in l j) (block_offset s j) o.0;
        nibbles = eqb-true (length_in l j) (block_length s j) z.0;
        zeros = eqb-true (entry_zero_in l j) 0 z.1;
        header = eqb-true (header_in l j) (get_or l (block_offset s j) 0) h.0;
      }

  pub entry-fits : (j : ℕ) → EntryFits l s j → entry_answer l s j ≡ accepted tt
  unfolding entry_answer
  entry-fits j e =
      rw (
        eq-eqb (offset_in l j) (block_offset s j) e.offset,
        eq-eqb (length_in l j) (block_length s j) e.nibbles,
        eq-eqb (entry_zero_in l j) 0 e.zeros,
        eq-eqb (header_in l j) (get_or l (block_offset s j) 0) e.header,
      )

  pub entries-say : (j k : ℕ) → entries_answer l s j k ≡ accepted tt → (i : ℕ) → j ≤ i → i < j + k → EntryFits l s i
  unfolding entries_answer
  entries-say j zero h i p q = absurd (omega arith)
  entries-say j (suc k) h i p q = go (entries-say (suc j) k (and-then (entry_answer l s j) _ h).1 i) (and-then (entry_answer l s j) _ h).0 (eqb i j) refl
    where
      go : (suc j ≤ i → i < suc j + k → EntryFits l s i) → entry_answer l s j ≡ accepted tt → (t : Bool) → eqb i j ≡ t → EntryFits l s i
      go rec e true z = entry-says i (ap (entry_answer l s) (eqb-true i j z) ∙ e)
      go rec e false z = let d = eqb-false i j z in rec (omega (arith, p, d)) (omega arith)

  pub entries_fit : (j k : ℕ) → ((i : ℕ) → j ≤ i → i < j + k → EntryFits l s i) → entries_answer l s j k ≡ accepted tt
  unfolding entries_answer
  entries_fit j zero f = refl
  entries_fit j (suc k) f = rw (entry-fits j (f j (omega arith) (omega arith))) (entries_fit (suc j) k (λ i p q. f i (omega arith) (omega arith)))

-- ---- opening

pub opened : (l : List ℕ) → open_answer l ≡ accepted tt → Opens l
unfolding open_answer
opened l p =
    let k = block_count (shape_in l) in
    let h = passed (head_ok l) 15 _ p in
    let e = and-then (entries_answer l (shape_in l) 0 k) _ h.1 in
    let f = passed (loop_fits l) 24 (accepted tt) e.1 in
    record { head = head-says l h.0; entries = λ j lt. entries-say l (shape_in l) 0 k e.0 j (omega arith) (omega arith); looping = f.0 }

pub opens : (l : List ℕ) → Opens l → open_answer l ≡ accepted tt
unfolding open_answer
opens l o =
    let k = block_count (shape_in l) in
    rw (head-right l o.head, entries_fit l (shape_in l) 0 k (λ i p q. o.entries i (omega arith)), o.looping)
