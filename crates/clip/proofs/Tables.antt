-- Laws of the contents table.
use mathlib.Core.Path.{◌≡◌, refl, sym, ap, ap₂, ◌∙◌}
use mathlib.Core.Logic.{◌≢◌}
use mathlib.Core.List.{List, [], ◌∷◌, ◌++◌, append_assoc, append-nil}
use Prim.Native.Nat.{ℕ, zero, suc, ◌+◌, ◌*◌, ◌≤◌, ◌<◌}
use native.Mathlib.Numerals.{add-one}
use native.Mathlib.Omega.{arith}
use lib.ListN.{length, length-append}
use lib.Seq.{sets}
use Rattle.whole.proofs.Stores.{sets_then, sets-part, sets-right-at}
use Rattle.layout.specs.declared.Shape.{Shape}
use Rattle.layout.specs.Sizes.{entry_place, bodies_place, block_offset, block_length, block_count, last_frame_samples}
use Rattle.layout.specs.Fields.{be32}
use Rattle.clip.specs.Image.{no_context, entry_bytes, table_bytes}
use Rattle.whole.specs.Frames.{frame_count}

pub entry_length : (s : Shape) (j : ℕ) (c : List ℕ) → length c ≡ 6 → length (entry_bytes s j c) ≡ 16
unfolding entry_bytes block_offset block_length block_count frame_count last_frame_samples
entry_length s j c h = omega (arith, length-append c (0 ∷ 0 ∷ []))

pub table-length : (f : ℕ → List ℕ) → ((i : ℕ) → length (f i) ≡ 6) → (s : Shape) (j k : ℕ) → length (table_bytes f s j k) ≡ 16 * k
unfolding table_bytes
table-length f h s j zero = refl
table-length f h s j (suc k) =
    length-append (entry_bytes s j (f j)) (table_bytes f s (suc j) k) ∙ omega (arith, entry_length s j (f j) (h j), table-length f h s (suc j) k)

table-snoc : (f : ℕ → List ℕ) (s : Shape) (j k t : ℕ) → t ≡ j + k → table_bytes f s j (suc k) ≡ table_bytes f s j k ++ entry_bytes s t (f t)
unfolding table_bytes
table-snoc f s j zero t e = let z : j ≡ t = omega arith in append-nil (entry_bytes s j (f j)) ∙ ap (λ (a : ℕ). entry_bytes s a (f a)) z
table-snoc f s j (suc k) t e =
    ap (λ (r : List ℕ). entry_bytes s j (f j) ++ r) (table-snoc f s (suc j) k t (omega arith))
    ∙ sym (append_assoc (entry_bytes s j (f j)) (table_bytes f s (suc j) k) (entry_bytes s t (f t)))

-- the table of a clip with no frame encoded
abbrev pub bare : ℕ → List ℕ
bare j = no_context

pub table_none : (f : ℕ → List ℕ) (l : List ℕ) (s : Shape) → l ≡ sets l 56 (table_bytes f s 0 0)
unfolding table_bytes
table_none f l s = refl

-- where block k's body begins
pub offset-is : (s : Shape) (k p : ℕ) → p ≡ bodies_place s → p + k * s.block ≡ block_offset s k
unfolding block_offset block_count frame_count
offset-is s k p e = ap (λ (x : ℕ). x + k * s.block) e

-- an entry more, with its context
pub table-turn : (f : ℕ → List ℕ) → ((i : ℕ) → length (f i) ≡ 6) → (l₀ l out : List ℕ) (s : Shape) (k o v : ℕ) (c : List ℕ) → o ≡ block_offset s k → v ≡ block_length s k → c ≡ f k
    → l ≡ sets l₀ 56 (table_bytes f s 0 k) → out ≡ sets l (entry_place k) (be32 o ++ (be32 v ++ (c ++ (0 ∷ 0 ∷ [])))) → out ≡ sets l₀ 56 (table_bytes f s 0 (k + 1))
unfolding entry_bytes block_offset block_length block_count frame_count last_frame_samples
table-turn f six l₀ l out s k o v c eo es ec e d =
    let t : List ℕ = table_bytes f s 0 k in
    let len : length t ≡ 16 * k = table-length f six s 0 k in
    d
    ∙ ap (λ (m : List ℕ). sets m (entry_place k) (be32 o ++ (be32 v ++ (c ++ (0 ∷ 0 ∷ []))))) e
    ∙ ap₂ (λ (x y : ℕ). sets (sets l₀ 56 t) (entry_place k) (be32 x ++ (be32 y ++ (c ++ (0 ∷ 0 ∷ []))))) eo es
    ∙ ap (λ (z : List ℕ). sets (sets l₀ 56 t) (entry_place k) (entry_bytes s k z)) ec
    ∙ sets_then l₀ 56 (entry_place k) t (entry_bytes s k (f k)) (omega (arith, len))
    ∙ ap (sets l₀ 56) (sym (table-snoc f s 0 k k (omega arith)) ∙ ap (table_bytes f s 0) (sym (add-one k)))

-- ---- one context changed

-- tables of the same contexts
pub table_below : (f g : ℕ → List ℕ) (s : Shape) (j k : ℕ) → ((i : ℕ) → j ≤ i → i < j + k → f i ≡ g i) → table_bytes f s j k ≡ table_bytes g s j k
unfolding table_bytes
table_below f g s j zero h = refl
table_below f g s j (suc k) h =
    ap₂ (λ (c t : List ℕ). entry_bytes s j c ++ t) (h j (omega arith) (omega arith)) (table_below f g s (suc j) k (λ i p q. h i (omega arith) (omega arith)))

pub table_same : (f g : ℕ → List ℕ) (s : Shape) (j k : ℕ) → ((i : ℕ) → j ≤ i → f i ≡ g i) → table_bytes f s j k ≡ table_bytes g s j k
table_same f g s j k h = table_below f g s j k (λ i p q. h i p)

-- an entry's first eight bytes
abbrev leading : Shape → ℕ → List ℕ
leading s j = be32 (block_offset s j) ++ be32 (block_length s j)

entry-split : (s : Shape) (j : ℕ) (c t : List ℕ) → entry_bytes s j c ++ t ≡ leading s j ++ (c ++ (0 ∷ 0 ∷ t))
unfolding entry_bytes block_offset block_length block_count frame_count last_frame_samples
entry-split s j c t = ap (λ (l : List ℕ). leading s j ++ l) (append_assoc c (0 ∷ 0 ∷ []) t)

pub table-set : (f g : ℕ → List ℕ) → ((i : ℕ) → length (f i) ≡ 6) → (t : ℕ) (v : List ℕ) → length v ≡ 6 → g t ≡ v → ((i : ℕ) → i ≢ t → f i ≡ g i)
    → (s : Shape) (j kk k : ℕ) → k < kk → t ≡ j + k → sets (table_bytes f s j kk) (16 * k + 8) v ≡ table_bytes g s j kk
unfolding table_bytes
table-set f g hl t v lv gv same s j zero k lt e = absurd (omega arith)
table-set f g hl t v lv gv same s j (suc kk) zero lt e =
    let at : t ≡ j = omega arith in
    ap (λ (l : List ℕ). sets l 8 v) (entry-split s j (f j) (table_bytes f s (suc j) kk))
    ∙ sets-part (leading s j) 8 v (f j) (0 ∷ 0 ∷ table_bytes f s (suc j) kk) refl (hl j ∙ sym lv)
    ∙ ap₂ (λ (c r : List ℕ). leading s j ++ (c ++ (0 ∷ 0 ∷ r))) (sym gv ∙ ap g at) (table_same f g s (suc j) kk (λ i q. same i (omega arith)))
    ∙ sym (entry-split s j (g j) (table_bytes g s (suc j) kk))
table-set f g hl t v lv gv same s j (suc kk) (suc k) lt e =
    sets-right-at (entry_bytes s j (f j)) (table_bytes f s (suc j) kk) (16 * suc k + 8) (16 * k + 8) v (omega (arith, entry_length s j (f j) (hl j)))
    ∙ ap₂ (λ (c r : List ℕ). entry_bytes s j c ++ r) (same j (omega arith)) (table-set f g hl t v lv gv same s (suc j) kk k (omega arith) (omega arith))
