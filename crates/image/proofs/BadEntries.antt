-- A refused opening names the first bad entry, by the first code that applies in it, or tells that the loop is bad; and every call on that image says the same.
use mathlib.Core.Bool.{Bool, true, false, not, cond, ◌&&◌}
use mathlib.Core.List.{List}
use mathlib.Core.Logic.{inl, inr}
use mathlib.Core.Path.{◌≡◌, refl, sym, ap, subst, ◌∙◌}
use Prim.Native.Nat.{ℕ, zero, suc, ◌+◌, ◌≤◌, ◌<◌}
use native.Mathlib.Omega.{arith}
use borrow.Author.Tests.{eqb-true, eqb-false, eq-eqb, ne_eqb}
use lib.Dec.{eqb}
use lib.IntN.{ℤ}
use lib.ListN.{get_or}
use Rattle.whole.specs.Outcome.{Outcome, accepted, refused_at, refused, with_values}
use Rattle.whole.proofs.Outcomes.{not-both, same_number, same_block}
use Rattle.layout.specs.declared.Shape.{Shape}
use Rattle.layout.specs.Sizes.{block_count, block_offset, block_length}
use Rattle.image.specs.Reading.{shape_in, blocks_in, offset_in, length_in, header_in, entry_zero_in}
use Rattle.image.specs.FirstBad.{FirstCode, bad-offset, bad-length, bad-header, FirstBad, NotOpened, bad-head, bad-entry, bad-loop, RefusedAlike}
use Rattle.image.specs.Opening.{and_then, EntryFits, head_ok, entry_answer, entries_answer, loop_fits, open_answer, open_image}
use Rattle.image.specs.Bodies.{block_answer, block_body}
use Rattle.image.specs.Looping.{loop_answer, play_loop}
use Rattle.image.specs.Part.{from_answer, play_from}
use Rattle.image.specs.Playing.{play_answer, play}
use Rattle.image.specs.WholeImage.{all_answer, play_all}
use Rattle.image.specs.Sameness.{compare_answer, both_answer, same_sound, agree, same, sounds_same}
use Rattle.image.proofs.OpenImages.{head-says, entry-says, entry-fits, entries-say, entries_fit}
use Rattle.image.proofs.LawsLoop.{loop-refused, loop-wrong}
use Rattle.image.proofs.TestsInTurn.{first-refused, next-asked}

module _ (l : List ℕ) (s : Shape) where
  -- ---- an entry

  -- a refused entry is named, by the first code that applies in it
  entry_named : (j n i : ℕ) → entry_answer l s j ≡ refused_at n i → (i ≡ j) × FirstCode l s j n
  unfolding entry_answer
  entry_named j n i p =
      go (eqb (offset_in l j) (block_offset s j)) (eqb (length_in l j) (block_length s j)) (eqb (entry_zero_in l j) 0) (eqb (header_in l j) (get_or l (block_offset s j) 0)) refl refl refl refl p
    where
      told : (m : ℕ) → FirstCode l s j m → ◌≡◌ {A = Outcome Unit} (refused_at m j) (refused_at n i) → (i ≡ j) × FirstCode l s j n
      told m c e = (sym (same_block e), subst (FirstCode l s j) (same_number e) c)

      go : (o k z h : Bool) → eqb (offset_in l j) (block_offset s j) ≡ o → eqb (length_in l j) (block_length s j) ≡ k → eqb (entry_zero_in l j) 0 ≡ z
          → eqb (header_in l j) (get_or l (block_offset s j) 0) ≡ h
          → ◌≡◌ {A = Outcome Unit} (cond (not o) (refused_at 20 j) (cond (not (k && z)) (refused_at 21 j) (cond (not h) (refused_at 22 j) (accepted tt)))) (refused_at n i)
          → (i ≡ j) × FirstCode l s j n
      go false k z h eo ek ez eh e = told 20 (bad-offset (eqb-false (offset_in l j) (block_offset s j) eo)) e
      go true false z h eo ek ez eh e =
          told 21 (bad-length (eqb-true (offset_in l j) (block_offset s j) eo) (inl (eqb-false (length_in l j) (block_length s j) ek))) e
      go true true false h eo ek ez eh e =
          told 21 (bad-length (eqb-true (offset_in l j) (block_offset s j) eo) (inr (eqb-false (entry_zero_in l j) 0 ez))) e
      go true true true false eo ek ez eh e =
          told 22
          (bad-header (eqb-true (offset_in l j) (block_offset s j) eo) (eqb-true (length_in l j) (block_length s j) ek) (eqb-true (entry_zero_in l j) 0 ez)
          (eqb-false (header_in l j) (get_or l (block_offset s j) 0) eh))
          e
      go true true true true eo ek ez eh e = absurd (not-both (sym e))

  -- and the first code that applies in it is its answer
  entry-refused : (j n : ℕ) → FirstCode l s j n → entry_answer l s j ≡ refused_at n j
  unfolding entry_answer
  entry-refused j n (bad-offset o) = rw (ne_eqb (offset_in l j) (block_offset s j) o)
  entry-refused j n (bad-length o (inl k)) = rw (eq-eqb (offset_in l j) (block_offset s j) o, ne_eqb (length_in l j) (block_length s j) k)
  entry-refused j n (bad-length o (inr z)) = rw (eq-eqb (offset_in l j) (block_offset s j) o, ne_eqb (entry_zero_in l j) 0 z) (both (eqb (length_in l j) (block_length s j)))
    where
      both : (t : Bool) → ◌≡◌ {A = Outcome Unit} (cond (not (t && false)) (refused_at 21 j) (cond (not (eqb (header_in l j) (get_or l (block_offset s j) 0))) (refused_at 22 j) (accepted tt))) (refused_at 21 j)
      both true = refl
      both false = refl
  entry-refused j n (bad-header o k z h) =
      rw (
        eq-eqb (offset_in l j) (block_offset s j) o,
        eq-eqb (length_in l j) (block_length s j) k,
        eq-eqb (entry_zero_in l j) 0 z,
        ne_eqb (header_in l j) (get_or l (block_offset s j) 0) h,
      )

  -- ---- k entries from block j's on

  entries-named : (j k n i : ℕ) → entries_answer l s j k ≡ refused_at n i
      → (j ≤ i) × (i < j + k) × ((m : ℕ) → j ≤ m → m < i → EntryFits l s m) × FirstCode l s i n
  unfolding entries_answer
  entries-named j zero n i p = absurd (not-both (sym p))
  entries-named j (suc k) n i p = go (entry_answer l s j) refl (entries-named (suc j) k n i) p
    where
      go : (a : Outcome Unit) → entry_answer l s j ≡ a
          → (entries_answer l s (suc j) k ≡ refused_at n i → (suc j ≤ i) × (i < suc j + k) × ((m : ℕ) → suc j ≤ m → m < i → EntryFits l s m) × FirstCode l s i n)
          → and_then a (entries_answer l s (suc j) k) ≡ refused_at n i
          → (j ≤ i) × (i < j + suc k) × ((m : ℕ) → j ≤ m → m < i → EntryFits l s m) × FirstCode l s i n
      go (accepted tt) e rec q =
          let r = rec q in
          (omega (arith, r.0), omega (arith, r.1), λ m a b. from m (eqb m j) refl r.2 a b, r.3)
        where
          from : (m : ℕ) (t : Bool) → eqb m j ≡ t → ((m : ℕ) → suc j ≤ m → m < i → EntryFits l s m) → j ≤ m → m < i → EntryFits l s m
          from m true z rest a b = subst (EntryFits l s) (sym (eqb-true m j z)) (entry-says l s j e)
          from m false z rest a b = let d = eqb-false m j z in rest m (omega (arith, a, d)) b
      go (refused_at a b) e rec q =
          let w = entry_named j n i (e ∙ q) in
          (omega (arith, w.0), omega (arith, w.0), λ m a b. absurd (omega (arith, w.0)), subst (λ (x : ℕ). FirstCode l s x n) (sym w.0) w.1)

  entries-refused : (j k n i : ℕ) → j ≤ i → i < j + k → ((m : ℕ) → j ≤ m → m < i → EntryFits l s m) → FirstCode l s i n → entries_answer l s j k ≡ refused_at n i
  unfolding entries_answer
  entries-refused j zero n i a b f c = absurd (omega arith)
  entries-refused j (suc k) n i a b f c = go (entries-refused (suc j) k n i) (eqb i j) refl
    where
      go : (suc j ≤ i → i < suc j + k → ((m : ℕ) → suc j ≤ m → m < i → EntryFits l s m) → FirstCode l s i n → entries_answer l s (suc j) k ≡ refused_at n i)
          → (t : Bool) → eqb i j ≡ t → and_then (entry_answer l s j) (entries_answer l s (suc j) k) ≡ refused_at n i
      go rec true z =
          let e = eqb-true i j z in
          first-refused (entry_answer l s j) _ (ap (entry_answer l s) (sym e) ∙ entry-refused i n c)
      go rec false z =
          let d = eqb-false i j z in
          next-asked (entry_answer l s j) _ (entry-fits l s j (f j (omega arith) (omega (arith, a, d))))
          ∙ rec (omega (arith, a, d)) (omega arith) (λ m p q. f m (omega arith) q) c

-- ---- opening

entries-bad : (l : List ℕ) (n j : ℕ) → head_ok l ≡ true → entries_answer l (shape_in l) 0 (block_count (shape_in l)) ≡ refused_at n j → FirstBad l n j
entries-bad l n j h p =
    let r = entries-named l (shape_in l) 0 (block_count (shape_in l)) n j p in
    record { head = h; block = omega (arith, r.1, (head-says l h).blocks); before = λ i lt. r.2 i (omega arith) lt; code = r.3 }

-- the entries that are right, by the number of blocks that the head says
entries-right : (l : List ℕ) → head_ok l ≡ true → entries_answer l (shape_in l) 0 (block_count (shape_in l)) ≡ accepted tt → (j : ℕ) → j < blocks_in l → EntryFits l (shape_in l) j
entries-right l h e j lt = let b = (head-says l h).blocks in entries-say l (shape_in l) 0 (block_count (shape_in l)) e j (omega arith) (omega (arith, lt, b))

entries-accepted : (l : List ℕ) → head_ok l ≡ true → ((j : ℕ) → j < blocks_in l → EntryFits l (shape_in l) j) → entries_answer l (shape_in l) 0 (block_count (shape_in l)) ≡ accepted tt
entries-accepted l h f = let b = (head-says l h).blocks in entries_fit l (shape_in l) 0 (block_count (shape_in l)) (λ i p q. f i (omega (arith, q, b)))

-- Where opening is refused, by n and with block j, either the head is refused, by 15 and with no block; or the head is as it should be, block j's entry is
-- the first bad one, every entry before it is as it should be, and n is the first code that applies in that entry; or head and entries are as they should
-- be, there is a loop whose entry is not, n is 24 and there is no block.
pub first-bad : (l : List ℕ) (n j : ℕ) → open_answer l ≡ refused_at n j → NotOpened l n j
unfolding open_answer
first-bad l n j p = go (head_ok l) refl p
  where
    named : (m : ℕ) → NotOpened l m 0 → ◌≡◌ {A = Outcome Unit} (refused m) (refused_at n j) → NotOpened l n j
    named m w e = subst (λ (k : ℕ). NotOpened l k j) (same_number e) (subst (NotOpened l m) (same_block e) w)

    looped : (t : Bool) → loop_fits l ≡ t → head_ok l ≡ true → entries_answer l (shape_in l) 0 (block_count (shape_in l)) ≡ accepted tt
        → ◌≡◌ {A = Outcome Unit} (cond (not t) (refused 24) (accepted tt)) (refused_at n j) → NotOpened l n j
    looped true f h e q = absurd (not-both (sym q))
    looped false f h e q = let w = loop-refused l f in named 24 (bad-loop h (entries-right l h e) w.0 w.1) q

    listed : (a : Outcome Unit) → entries_answer l (shape_in l) 0 (block_count (shape_in l)) ≡ a → head_ok l ≡ true
        → and_then a (cond (not (loop_fits l)) (refused 24) (accepted tt)) ≡ refused_at n j → NotOpened l n j
    listed (accepted tt) e h q = looped (loop_fits l) refl h e q
    listed (refused_at m i) e h q = bad-entry (entries-bad l n j h (e ∙ q))

    go : (t : Bool) → head_ok l ≡ t
        → cond (not t) (refused 15) (and_then (entries_answer l (shape_in l) 0 (block_count (shape_in l))) (cond (not (loop_fits l)) (refused 24) (accepted tt))) ≡ refused_at n j → NotOpened l n j
    go true h e = listed (entries_answer l (shape_in l) 0 (block_count (shape_in l))) refl h e
    go false h e = named 15 (bad-head h) e

-- And so it is refused.
pub bad-named : (l : List ℕ) (n j : ℕ) → NotOpened l n j → open_answer l ≡ refused_at n j
unfolding open_answer
bad-named l n j (bad-head h) = rw h
bad-named l n j (bad-entry f) =
    rw (
      f.head,
      entries-refused l (shape_in l) 0 (block_count (shape_in l)) n j (omega arith) (omega (arith, f.block, (head-says l f.head).blocks)) (λ i a lt. f.before i lt) f.code,
    )
bad-named l n j (bad-loop h f e w) = rw (h, entries-accepted l h f, loop-wrong l e w)

-- ---- every call

-- What opening is refused by, every call on the image is refused by, and names the same entry.
pub refused-alike : (l m : List ℕ) (n j k : ℕ) (out : List ℤ) → open_answer l ≡ refused_at n j → RefusedAlike l m n j k out
unfolding open_image block_answer block_body play play_answer play_all all_answer play_from from_answer play_loop loop_answer same sounds_same both_answer compare_answer
refused-alike l m n j k out p =
    let second : compare_answer m ≡ accepted tt → both_answer m l ≡ refused_at n j = λ e. next-asked (compare_answer m) (compare_answer l) e ∙ first-refused (open_answer l) _ p in
    record {
      opening = p;
      finding = rw p;
      body = rw p;
      playing = rw p;
      playing-all = rw p;
      playing-from = λ first. rw p;
      playing-loop = λ times. rw p;
      comparing = rw p;
      comparing-second = λ e. ap (λ (o : Outcome Unit). with_values o (agree m l)) (second e);
      comparing-sound = rw p;
      comparing-sound-second = λ e. ap (λ (o : Outcome Unit). with_values o (same_sound m l)) (second e);
    }
