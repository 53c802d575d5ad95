-- An entry's tests in turn, from what was read.
use mathlib.Core.List.{List}
use mathlib.Core.Path.{◌≡◌, sym, ap}
use Prim.Native.Nat.{ℕ, ◌+◌, ◌*◌}
use borrow.Author.Tests.{eq-eqb, ne_eqb}
use lib.ListN.{get_or}
use Rattle.layout.specs.declared.Shape.{Shape}
use Rattle.layout.specs.Fields.{at16, at32}
use Rattle.layout.specs.Sizes.{entry_place, bodies_place, block_offset, block_length}
use Rattle.whole.specs.Outcome.{accepted, refused_at}
use Rattle.image.specs.Reading.{offset_in, length_in, header_in, entry_zero_in}
use Rattle.image.specs.Opening.{entry_answer}

-- where an entry stands and where its block's body begins
module _ (l : List ℕ) (s : Shape) (j at begin : ℕ) (p : at ≡ entry_place j) (b : begin ≡ bodies_place s) where
  abbrev start : ℕ
  start = begin + j * s.block

  begins : block_offset s j ≡ start
  unfolding block_offset
  begins = ap (λ (x : ℕ). x + j * s.block) (sym b)

  pub offset-wrong : (at32 l at ≡ start → ⊥) → refused_at 20 j ≡ entry_answer l s j
  unfolding entry_answer offset_in
  offset-wrong n = rw (begins, ← p, ne_eqb _ _ n)

  module _ (e : at32 l at ≡ start) where
    pub length-wrong : {n : ℕ} → n ≡ block_length s j → (at32 l (at + 4) ≡ n → ⊥) → refused_at 21 j ≡ entry_answer l s j
    unfolding entry_answer offset_in length_in
    length-wrong q n = rw (begins, ← p, ← q, eq-eqb _ _ e, ne_eqb _ _ n)

    module _ {n : ℕ} (q : n ≡ block_length s j) (f : at32 l (at + 4) ≡ n) where
      pub zeros-wrong : (at16 l (at + 14) ≡ 0 → ⊥) → refused_at 21 j ≡ entry_answer l s j
      unfolding entry_answer offset_in length_in entry_zero_in
      zeros-wrong z = rw (begins, ← p, ← q, eq-eqb _ _ e, eq-eqb _ _ f, ne_eqb _ _ z)

      module _ (z : at16 l (at + 14) ≡ 0) where
        pub header-wrong : (at16 l (at + 8) ≡ get_or l start 0 → ⊥) → refused_at 22 j ≡ entry_answer l s j
        unfolding entry_answer offset_in length_in entry_zero_in header_in
        header-wrong h = rw (begins, ← p, ← q, eq-eqb _ _ e, eq-eqb _ _ f, eq-eqb _ _ z, ne_eqb _ _ h)

        pub entry-fits : at16 l (at + 8) ≡ get_or l start 0 → accepted tt ≡ entry_answer l s j
        unfolding entry_answer offset_in length_in entry_zero_in header_in
        entry-fits h = rw (begins, ← p, ← q, eq-eqb _ _ e, eq-eqb _ _ f, eq-eqb _ _ z, eq-eqb _ _ h)
