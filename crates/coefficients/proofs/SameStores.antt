-- Two stores that are the same in the records that a state counts: what one record, a sample and a piece do to them.
use Rattle.std.proofs.Common.{◌≡◌, ℕ, ◌+◌, ◌*◌, ◌%◌, ◌<◌, ◌≤◌, Bool, true, false, cond, eqb, ◌≢◌, List, [], ◌∷◌, length, get_or, set, ℤ, sym, refl, ◌∙◌, subst, le_trans, le_refl, arith, length-set, get_or-set_other, get_or-set_same}
use mathlib.Core.List.{foldl}
use native.Mathlib.Decide.{dec_lt, ℕ_discrete}
use lib.Ieee.{Float, nan}
use lib.ListN.{get_or-eq_default}
use Rattle.coefficients.specs.declared.CoefficientCalculator.{CoefficientCalculator}
use Rattle.std.specs.Prelude.{Option, Some, None}
use Rattle.coefficients.specs.declared.merging.Record.{Record}
use Rattle.coefficients.specs.FrameRecord.{analyse, stored, counted}
use Rattle.coefficients.specs.Measure.{Measuring, calculator, measuring, framed, push}
use Rattle.coefficients.specs.Store.{write_record}
use Rattle.coefficients.specs.Undo.{SameSoFar, Same}
use Rattle.coefficients.proofs.FrameHistories.{stored-length}

pub same_refl : (r : ℕ) (s : List Float) → SameSoFar r s s
same_refl r s = record { size = refl; numbers = λ i l. refl }

pub same-trans : (r : ℕ) (s t u : List Float) → SameSoFar r s t → SameSoFar r t u → SameSoFar r s u
same-trans r s t u a b = record { size = a.size ∙ b.size; numbers = λ i l. a.numbers i l ∙ b.numbers i l }

-- an older state asks for less
pub same-earlier : (r q : ℕ) (s t : List Float) → r ≤ q → SameSoFar q s t → SameSoFar r s t
same-earlier r q s t h a = record { size = a.size; numbers = λ i l. a.numbers i (omega arith) }

-- ---- one record

-- one number stored in both
both-set : (s t : List Float) (i j : ℕ) (x : Float) → length s ≡ length t → (j ≢ i → get_or s j nan ≡ get_or t j nan) → get_or (set s i x) j nan ≡ get_or (set t i x) j nan
both-set s t i j x e h = go (ℕ_discrete j i)
  where
    here : Dec (i < length s) → get_or (set s i x) i nan ≡ get_or (set t i x) i nan
    here (yes l) = get_or-set_same s i x nan l ∙ sym (get_or-set_same t i x nan (omega arith))
    here (no n) =
        get_or-eq_default (set s i x) nan (omega (arith, length-set s i x)) ∙ sym (get_or-eq_default (set t i x) nan (omega (arith, length-set t i x)))

    go : Dec (j ≡ i) → get_or (set s i x) j nan ≡ get_or (set t i x) j nan
    go (yes p) = subst (λ (k : ℕ). get_or (set s i x) k nan ≡ get_or (set t i x) k nan) (sym p) (here (dec_lt i (length s)))
    go (no n) = get_or-set_other s i j x nan n ∙ h n ∙ sym (get_or-set_other t i j x nan n)

write-both : (r : ℕ) (s t : List Float) (x : Record) → SameSoFar r s t → SameSoFar (r + 1) (write_record s r x) (write_record t r x)
unfolding write_record
write-both r s t x a =
    record {
      size = written s ∙ a.size ∙ sym (written t);
      numbers = λ i l.
          both-set (set s (2 * r) x.v1) (set t (2 * r) x.v1) (2 * r + 1) i x.v2 (length-set s (2 * r) x.v1 ∙ a.size ∙ sym (length-set t (2 * r) x.v1))
          (λ n. both-set s t (2 * r) i x.v1 a.size (λ k. a.numbers i (omega arith)));
    }
  where
    written : (l : List Float) → length (set (set l (2 * r) x.v1) (2 * r + 1) x.v2) ≡ length l
    written l = length-set (set l (2 * r) x.v1) (2 * r + 1) x.v2 ∙ length-set l (2 * r) x.v1

pub found-same : (r : ℕ) (s t : List Float) (f : Option Record) → SameSoFar r s t → SameSoFar (counted r f) (stored s r f) (stored t r f)
unfolding counted stored
found-same r s t None a = a
found-same r s t (Some x) a = write-both r s t x a

-- only numbers 2r and 2r + 1 are written
pub found-writes : (r : ℕ) (s : List Float) (f : Option Record) (i : ℕ) → i ≢ 2 * r → i ≢ 2 * r + 1 → get_or (stored s r f) i nan ≡ get_or s i nan
unfolding stored write_record
found-writes r s None i n k = refl
found-writes r s (Some x) i n k = get_or-set_other (set s (2 * r) x.v1) (2 * r + 1) i x.v2 nan k ∙ get_or-set_other s (2 * r) i x.v1 nan n

found-leaves : (r : ℕ) (s : List Float) (f : Option Record) → SameSoFar r s (stored s r f)
found-leaves r s f = record { size = sym (stored-length s r f); numbers = λ i l. sym (found-writes r s f i (λ e. omega arith) (λ e. omega arith)) }

pub found-counts : (r : ℕ) (f : Option Record) → r ≤ counted r f
unfolding counted
found-counts r None = le_refl r
found-counts r (Some x) = omega arith

-- ---- one sample, a piece

-- n counts no fewer records than m, and those of m are as they were
pub record Later (m n : Measuring) : Type 0 where
  pub count : m.calculator.records ≤ n.calculator.records
  pub store : SameSoFar m.calculator.records m.store n.store

pub later_refl : (m : Measuring) → Later m m
later_refl m = record { count = le_refl m.calculator.records; store = same_refl m.calculator.records m.store }

pub later_trans : (m n o : Measuring) → Later m n → Later n o → Later m o
later_trans m n o a b =
    let r = m.calculator.records in
    record {
      count = le_trans a.count b.count;
      store = same-trans r m.store n.store o.store a.store (same-earlier r n.calculator.records n.store o.store a.count b.store);
    }

module _ (c : CoefficientCalculator) (x : ℤ) where
  abbrev h : List ℤ
  h = set c.history (14 + c.samples % 14) x

  abbrev either : Bool → List Float → Measuring
  either b s = cond b (framed (c.samples + 1) c.records h s) (measuring (calculator (c.samples + 1) c.records h) s)

  push-same : (s t : List Float) → SameSoFar c.records s t → Same (push (measuring c s) x) (push (measuring c t) x)
  unfolding push framed
  push-same s t a = go (eqb (c.samples % 14) 13)
    where
      go : (b : Bool) → Same (either b s) (either b t)
      go true = record { state = refl; store = found-same c.records s t (analyse h) a }
      go false = record { state = refl; store = a }

  push-later : (s : List Float) → Later (measuring c s) (push (measuring c s) x)
  unfolding push framed
  push-later s = go (eqb (c.samples % 14) 13)
    where
      go : (b : Bool) → Later (measuring c s) (either b s)
      go true = record { count = found-counts c.records (analyse h); store = found-leaves c.records s (analyse h) }
      go false = record { count = le_refl c.records; store = same_refl c.records s }

pub piece-same : (xs : List ℤ) (m n : Measuring) → Same m n → Same (foldl push m xs) (foldl push n xs)
piece-same [] m n a = a
piece-same (x ∷ xs) m n a =
    piece-same xs (push m x) (push n x)
    (subst (λ (c : CoefficientCalculator). Same (push m x) (push (measuring c n.store) x)) a.state (push-same m.calculator x m.store n.store a.store))

pub piece-later : (xs : List ℤ) (m : Measuring) → Later m (foldl push m xs)
piece-later [] m = later_refl m
piece-later (x ∷ xs) m = later_trans m (push m x) (foldl push (push m x) xs) (push-later m.calculator x m.store) (piece-later xs (push m x))
