-- What the bytes of an image say that is laid out from its parts: head, contents by any rule, a loop's entry, and what follows.
use mathlib.Core.Path.{◌≡◌, refl, sym, ap, ap₂, ◌∙◌}
use mathlib.Core.Bool.{Bool, true, cond}
use mathlib.Core.List.{List, [], ◌∷◌, ◌++◌, append_assoc}
use Prim.Native.Nat.{ℕ, zero, suc, ◌+◌, ◌-◌, ◌*◌, ◌<◌}
use native.Mathlib.Nat.{add-zero}
use native.Mathlib.Omega.{arith}
use lib.IntN.{ℤ, pos}
use lib.ListN.{length, get_or, length-append}
use mir.Syntax.{w16}
use mir.Val.{of_z}
use Rattle.whole.specs.declared.History.{History}
use Rattle.whole.specs.Frames.{frame_count}
use Rattle.block.specs.declared.FrameContext.{FrameContext}
use Rattle.layout.specs.declared.Loop.{Loop}
use Rattle.layout.specs.declared.Shape.{Shape}
use Rattle.layout.specs.Fields.{be16, be32, at16, at32, mark}
use Rattle.layout.specs.Sizes.{loop_count, block_count, entry_place, block_offset, block_length, last_frame_samples}
use Rattle.clip.specs.declared.starting.Start.{Start}
use Rattle.clip.specs.Image.{start_shape, coefficient_bytes, head_bytes, context_bytes, entry_bytes, table_bytes, loop_bytes}
use Rattle.clip.proofs.FieldRuns.{coefficient-length, head-length}
use Rattle.clip.proofs.Tables.{table-length}
use Rattle.clip.proofs.FieldsAgain.{shift16, shift32, whole16, whole32, coefficient-at}

-- ---- the head

module _ (g : Start) (l : List ℕ) (sixteen : length g.coefficients ≡ 16) where
  abbrev cs : List ℤ
  cs = g.coefficients

  abbrev headed : List ℕ
  headed = head_bytes mark g ++ l

  -- the bytes before the coefficients, and those after
  abbrev leading : List ℕ
  leading = mark ++ (be32 g.total ++ (be32 g.rate ++ be32 g.block))

  abbrev trailing : List ℕ
  trailing = be16 g.gain ++ (be16 (loop_count g.looped) ++ be32 (block_count (start_shape g)))

  split : headed ≡ leading ++ (coefficient_bytes cs ++ (trailing ++ l))
  unfolding head_bytes coefficient_bytes block_count frame_count
  split = ap (λ (r : List ℕ). leading ++ r) (append_assoc (coefficient_bytes cs) trailing l)

  pub head-total : at32 headed 4 ≡ g.total
  unfolding head_bytes coefficient_bytes block_count frame_count
  head-total = whole32 g.total

  pub head-rate : at32 headed 8 ≡ g.rate
  unfolding head_bytes coefficient_bytes block_count frame_count
  head-rate = whole32 g.rate

  pub head-block : at32 headed 12 ≡ g.block
  unfolding head_bytes coefficient_bytes block_count frame_count
  head-block = whole32 g.block

  pub head-coefficient : (i : ℕ) → i < 16 → at16 headed (16 + 2 * i) ≡ of_z w16 (get_or cs i (pos 0))
  head-coefficient i h =
      ap (λ (r : List ℕ). at16 r (16 + 2 * i)) split
      ∙ shift16 leading (coefficient_bytes cs ++ (trailing ++ l)) (16 + 2 * i) (2 * i) refl
      ∙ coefficient-at cs (trailing ++ l) i (omega arith)

  after-coefficients : (i : ℕ) → 48 + i ≡ length (leading ++ coefficient_bytes cs) + i
  after-coefficients i = omega (arith, coefficient-length cs)

  abbrev front : List ℕ
  front = leading ++ coefficient_bytes cs

  split_after : headed ≡ front ++ (trailing ++ l)
  split_after = split ∙ sym (append_assoc leading (coefficient_bytes cs) (trailing ++ l))

  pub head-gain : at16 headed 48 ≡ g.gain
  head-gain = ap (λ (r : List ℕ). at16 r 48) split_after ∙ shift16 front (trailing ++ l) 48 0 (after-coefficients 0) ∙ whole16 g.gain

  pub head-loops : at16 headed 50 ≡ loop_count g.looped
  head-loops = ap (λ (r : List ℕ). at16 r 50) split_after ∙ shift16 front (trailing ++ l) 50 2 (after-coefficients 2) ∙ whole16 (loop_count g.looped)

  pub head-blocks : at32 headed 52 ≡ block_count (start_shape g)
  head-blocks = ap (λ (r : List ℕ). at32 r 52) split_after ∙ shift32 front (trailing ++ l) 52 4 (after-coefficients 4) ∙ whole32 (block_count (start_shape g))

-- ---- an entry

pub table-split : (f : ℕ → List ℕ) (s : Shape) (j kk i : ℕ) → i < kk
    → table_bytes f s j kk ≡ table_bytes f s j i ++ (entry_bytes s (j + i) (f (j + i)) ++ table_bytes f s (suc (j + i)) (kk - suc i))
unfolding table_bytes
table-split f s j zero i h = absurd (omega arith)
table-split f s j (suc kk) zero h =
    let e : suc kk - 1 ≡ kk = omega arith in
    ap₂ (λ (a k : ℕ). entry_bytes s a (f a) ++ table_bytes f s (suc a) k) (sym (add-zero j)) (sym e)
table-split f s j (suc kk) (suc i) h =
    let e : suc j + i ≡ j + suc i = omega arith in
    let d : kk - suc i ≡ suc kk - suc (suc i) = omega arith in
    ap (λ (r : List ℕ). entry_bytes s j (f j) ++ r) (table-split f s (suc j) kk i (omega arith))
    ∙ ap₂ (λ (a k : ℕ). entry_bytes s j (f j) ++ (table_bytes f s (suc j) i ++ (entry_bytes s a (f a) ++ table_bytes f s (suc a) k))) e d
    ∙ sym (append_assoc (entry_bytes s j (f j)) (table_bytes f s (suc j) i) (entry_bytes s (j + suc i) (f (j + suc i)) ++ table_bytes f s (suc (j + suc i)) (suc kk - suc (suc i))))

nested : (a t e r l : List ℕ) → a ++ ((t ++ (e ++ r)) ++ l) ≡ (a ++ t) ++ (e ++ (r ++ l))
nested a t e r l = simp append_assoc

-- ---- an image whose contexts are by a rule f

module _ (g : Start) (sixteen : length g.coefficients ≡ 16) (f : ℕ → List ℕ) (six : (i : ℕ) → length (f i) ≡ 6) (follows : List ℕ) where
  abbrev s : Shape
  s = start_shape g

  abbrev kk : ℕ
  kk = block_count s

  abbrev pub rows : List ℕ
  rows = table_bytes f s 0 kk

  -- the image, and the part before what follows its contents
  abbrev all : List ℕ
  all = head_bytes mark g ++ (rows ++ follows)

  abbrev earlier : List ℕ
  earlier = head_bytes mark g ++ rows

  pub earlier-length : length earlier ≡ entry_place kk
  earlier-length = length-append (head_bytes mark g) rows ∙ omega (arith, head-length mark g refl sixteen, table-length f six s 0 kk)

  module _ (j : ℕ) (few : j < kk) (header : ℕ) (h : History) (e : f j ≡ context_bytes header h) where
    abbrev before : List ℕ
    before = head_bytes mark g ++ table_bytes f s 0 j

    abbrev after : List ℕ
    after = table_bytes f s (suc j) (kk - suc j) ++ follows

    abbrev entry : List ℕ
    entry = entry_bytes s j (context_bytes header h)

    before-length : length before ≡ entry_place j
    before-length = length-append (head_bytes mark g) (table_bytes f s 0 j) ∙ omega (arith, head-length mark g refl sixteen, table-length f six s 0 j)

    at_entry : all ≡ before ++ (entry ++ after)
    at_entry =
        let z : 0 + j ≡ j = omega arith in
        let t = table_bytes f s 0 j in
        ap (λ (l : List ℕ). head_bytes mark g ++ (l ++ follows)) (table-split f s 0 kk j few
        ∙ ap (λ (i : ℕ). t ++ (entry_bytes s i (f i) ++ table_bytes f s (suc i) (kk - suc j))) z)
        ∙ ap (λ (c : List ℕ). head_bytes mark g ++ ((t ++ (entry_bytes s j c ++ table_bytes f s (suc j) (kk - suc j))) ++ follows)) e
        ∙ nested (head_bytes mark g) t entry (table_bytes f s (suc j) (kk - suc j)) follows

    pub entry-offset : at32 all (entry_place j) ≡ block_offset s j
    unfolding entry_bytes block_offset block_length block_count frame_count last_frame_samples
    entry-offset =
        ap (λ (l : List ℕ). at32 l (entry_place j)) at_entry
        ∙ shift32 before (entry ++ after) (entry_place j) 0 (omega (arith, before-length))
        ∙ whole32 (block_offset s j)

    pub entry-nibbles : at32 all (entry_place j + 4) ≡ block_length s j
    unfolding entry_bytes block_offset block_length block_count frame_count last_frame_samples
    entry-nibbles =
        ap (λ (l : List ℕ). at32 l (entry_place j + 4)) at_entry
        ∙ shift32 before (entry ++ after) (entry_place j + 4) 4 (omega (arith, before-length))
        ∙ whole32 (block_length s j)

    field : (i : ℕ) → at16 all (entry_place j + i) ≡ at16 (entry ++ after) i
    field i = ap (λ (l : List ℕ). at16 l (entry_place j + i)) at_entry ∙ shift16 before (entry ++ after) (entry_place j + i) i (omega (arith, before-length))

    pub entry-header : at16 all (entry_place j + 8) ≡ header
    unfolding entry_bytes block_offset block_length block_count frame_count last_frame_samples
    entry-header = field 8 ∙ whole16 header

    pub entry-newest : at16 all (entry_place j + 10) ≡ of_z w16 h.newest
    unfolding entry_bytes block_offset block_length block_count frame_count last_frame_samples
    entry-newest = field 10 ∙ whole16 (of_z w16 h.newest)

    pub entry-older : at16 all (entry_place j + 12) ≡ of_z w16 h.older
    unfolding entry_bytes block_offset block_length block_count frame_count last_frame_samples
    entry-older = field 12 ∙ whole16 (of_z w16 h.older)

    pub entry-zeros : at16 all (entry_place j + 14) ≡ 0
    unfolding entry_bytes block_offset block_length block_count frame_count last_frame_samples
    entry-zeros = field 14

  -- ---- the entry of a loop

  module _ (p : Loop) (here : p.present ≡ true) (c : FrameContext) (end : List ℕ) (e : follows ≡ loop_bytes p c ++ end) where
    abbrev fields : List ℕ
    fields = be32 p.start ++ (be32 p.end ++ (context_bytes c.predictor_and_scale c.last_samples ++ (0 ∷ 0 ∷ [])))

    fields-are : loop_bytes p c ≡ fields
    unfolding loop_bytes
    fields-are = ap (λ (t : Bool). cond t fields []) here

    at-loop : all ≡ earlier ++ (fields ++ end)
    at-loop = sym (append_assoc (head_bytes mark g) rows follows) ∙ ap (λ (l : List ℕ). earlier ++ l) (e ∙ ap (λ (l : List ℕ). l ++ end) fields-are)

    pub loop-start : at32 all (entry_place kk) ≡ p.start
    loop-start = ap (λ (l : List ℕ). at32 l (entry_place kk)) at-loop ∙ shift32 earlier (fields ++ end) (entry_place kk) 0 (omega (arith, earlier-length)) ∙ whole32 p.start

    pub loop-end : at32 all (entry_place kk + 4) ≡ p.end
    loop-end =
        ap (λ (l : List ℕ). at32 l (entry_place kk + 4)) at-loop
        ∙ shift32 earlier (fields ++ end) (entry_place kk + 4) 4 (omega (arith, earlier-length))
        ∙ whole32 p.end

    loop-field : (i : ℕ) → at16 all (entry_place kk + i) ≡ at16 (fields ++ end) i
    loop-field i = ap (λ (l : List ℕ). at16 l (entry_place kk + i)) at-loop ∙ shift16 earlier (fields ++ end) (entry_place kk + i) i (omega (arith, earlier-length))

    pub loop-header : at16 all (entry_place kk + 8) ≡ c.predictor_and_scale
    loop-header = loop-field 8 ∙ whole16 c.predictor_and_scale

    pub loop-newest : at16 all (entry_place kk + 10) ≡ of_z w16 c.last_samples.newest
    loop-newest = loop-field 10 ∙ whole16 (of_z w16 c.last_samples.newest)

    pub loop-older : at16 all (entry_place kk + 12) ≡ of_z w16 c.last_samples.older
    loop-older = loop-field 12 ∙ whole16 (of_z w16 c.last_samples.older)

    pub loop-zeros : at16 all (entry_place kk + 14) ≡ 0
    loop-zeros = loop-field 14
