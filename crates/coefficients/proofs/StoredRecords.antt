-- A fold over one record more.
use Rattle.std.proofs.Common.{◌≡◌, ℕ, zero, suc, ◌+◌, ◌*◌, ◌<◌, ◌≤◌, List, [], ◌∷◌, ◌++◌, length, get_or, set, take, ◌-◌, sym, refl, ap, ◌∙◌, le_refl, add-one, arith, length-append, length-set, get_or-set_other, get_or-set_same}
use mathlib.Core.List.{foldl}
use native.Mathlib.Decide.{ℕ_discrete}
use lib.Arith.{lt_of_le-ne}
use lib.Ieee.{Float, nan}
use Rattle.std.proofs.lemmas.List.{take_more, get_or_append_left, get_or-append_right}
use Rattle.coefficients.specs.declared.merging.Record.{Record}
use Rattle.coefficients.specs.Store.{records, read_record, write_record, blank_record}

pub foldl-more : {S : Type 0} (f : S → Record → S) (z : S) (rs : List Record) (r : Record) → foldl f z (rs ++ (r ∷ [])) ≡ f (foldl f z rs) r
foldl-more f z [] r = refl
foldl-more f z (q ∷ rs) r = foldl-more f (f z q) rs r

-- the fold over the first k + 1 of some records
pub foldl-take : {S : Type 0} (f : S → Record → S) (z : S) (rs : List Record) (k : ℕ) (d : Record) → k < length rs → foldl f z (take (k + 1) rs) ≡ f (foldl f z (take k rs)) (get_or rs k d)
foldl-take f z rs k d h = ap (foldl f z) (take_more rs k d h) ∙ foldl-more f z (take k rs) (get_or rs k d)

-- two steps that agree fold alike
pub foldl-same : {S : Type 0} (f g : S → Record → S) (z : S) (rs : List Record) → ((s : S) (r : Record) → f s r ≡ g s r) → foldl f z rs ≡ foldl g z rs
foldl-same f g z [] e = refl
foldl-same f g z (r ∷ rs) e = ap (λ (s : _). foldl f s rs) (e z r) ∙ foldl-same f g (g z r) rs e

pub records-length : (s : List Float) (n : ℕ) → length (records s n) ≡ n
unfolding records
records-length s zero = refl
records-length s (suc n) = simp (length-append, records-length s n, add-one)

-- the record at place k of a store's
pub record-at : (s : List Float) (n k : ℕ) → k < n → get_or (records s n) k blank_record ≡ read_record s k
unfolding records
record-at s zero k h = absurd (omega arith)
record-at s (suc n) k h = elim (ℕ_discrete k n) [
  | yes p ↦ get_or-append_right (records s n) (read_record s n ∷ []) n k blank_record (records-length s n) (omega arith) ∙ last (k - n) (omega arith) ∙ ap (read_record s) (sym p)
  | no q ↦
      let l : k < n = lt_of_le-ne (omega arith) q in
      get_or_append_left (records s n) (read_record s n ∷ []) blank_record k (omega (arith, records-length s n)) ∙ record-at s n k l
]
  where
    last : (j : ℕ) → j ≡ 0 → get_or (read_record s n ∷ []) j blank_record ≡ read_record s n
    last j e = ap (λ (i : ℕ). get_or (read_record s n ∷ []) i blank_record) e

-- of some records of a store, by the place
pub record_of_store : (s : List Float) (n k : ℕ) (rs : List Record) → records s n ≡ rs → k < length rs → get_or rs k blank_record ≡ read_record s k
record_of_store s n k rs e h = ap (λ (l : List Record). get_or l k blank_record) (sym e) ∙ record-at s n k (omega (arith, ap length e, records-length s n))

pub ruleset of_store = (records-length, record_of_store)

-- ---- a record that is written at place k is the next one of the list

-- two stores at p and q leave what lies at j
kept2 : (s : List Float) (p q j : ℕ) (a b : Float) → (j ≡ p → ⊥) → (j ≡ q → ⊥) → get_or (set (set s p a) q b) j nan ≡ get_or s j nan
kept2 s p q j a b h g = get_or-set_other (set s p a) q j b nan g ∙ get_or-set_other s p j a nan h

pub write_kept : (s : List Float) (k : ℕ) (r : Record) (i : ℕ) → i < k → read_record (write_record s k r) i ≡ read_record s i
unfolding read_record write_record
write_kept s k r i h =
    let a = kept2 s (2 * k) (2 * k + 1) (2 * i) r.v1 r.v2 (λ e. omega arith) (λ e. omega arith) in
    let b = kept2 s (2 * k) (2 * k + 1) (2 * i + 1) r.v1 r.v2 (λ e. omega arith) (λ e. omega arith) in
    rw (a, b)

pub write_same : (s : List Float) (k : ℕ) (r : Record) → 2 * k + 1 < length s → read_record (write_record s k r) k ≡ r
unfolding read_record write_record
write_same s k r h =
    let n = length-set s (2 * k) r.v1 in
    let a = get_or-set_other (set s (2 * k) r.v1) (2 * k + 1) (2 * k) r.v2 nan (λ e. omega arith) ∙ get_or-set_same s (2 * k) r.v1 nan (omega arith) in
    let b = get_or-set_same (set s (2 * k) r.v1) (2 * k + 1) r.v2 nan (omega (arith, n)) in
    rw (a, b)

pub records-kept : (s : List Float) (k : ℕ) (r : Record) (i : ℕ) → i ≤ k → records (write_record s k r) i ≡ records s i
unfolding records
records-kept s k r zero h = refl
records-kept s k r (suc i) h =
    let a = records-kept s k r i (omega arith) in
    let b = write_kept s k r i h in
    rw (a, b)

pub records-written : (s : List Float) (k : ℕ) (r : Record) → 2 * k + 1 < length s → records (write_record s k r) (k + 1) ≡ records s k ++ (r ∷ [])
unfolding records
records-written s k r h =
    let a = records-kept s k r k (le_refl k) in
    let b = write_same s k r h in
    rw (add-one, a, b)
