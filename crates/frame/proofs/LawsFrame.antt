-- Laws of the encoded frame.
use mathlib.Core.Path.{◌≡◌, refl, sym, ap, ◌∙◌, subst}
use mathlib.Core.Bool.{Bool, true, false, cond, ◌&&◌}
use mathlib.Core.List.{List, ◌++◌}
use Prim.Native.Nat.{ℕ, zero, suc, ◌+◌, ◌-◌, ◌*◌, ◌≤◌, ◌<◌}
use native.Mathlib.Numerals.{add-one}
use native.Mathlib.Nat.{lt_of_not-le}
use native.Mathlib.Decide.{dec_le}
use native.Mathlib.Omega.{arith}
use borrow.Author.Tests.{leb-true, le-leb}
use lib.IntN.{ℤ, pos, nat_abs}
use lib.ListN.{get_or, length, drop}
use Rattle.std.proofs.Common.{length-append, length-drop}
use Rattle.std.proofs.Math.Seq.{drop-append_seam}
use Rattle.std.proofs.lemmas.List.{get_or-drop, get_or_append_left, drop-drop}
use Rattle.whole.specs.declared.History.{History}
use Rattle.frame.specs.Pass.{pair_limit, Bounded}
use Rattle.frame.specs.Choice.{c0_at, c1_at, AllBounded}
use Rattle.frame.specs.Frame.{preceded, history_after, pair_ok, pairs_ok, coefficients_ok}
use Rattle.frame.proofs.LawsOrder.{none_below}

-- ---- the history after m samples
pub history-none : (h : History) (xs : List ℤ) → h ≡ history_after h xs 0
unfolding history_after preceded
history-none h xs = refl

pub history-one : (h : History) (xs : List ℤ) (m : ℕ) → m ≡ 1 → ◌≡◌ {A = History} (record { newest = get_or xs 0 (pos 0); older = h.newest }) (history_after h xs m)
unfolding history_after preceded
history-one h xs m e = rw e

pub history-more : (h : History) (xs : List ℤ) (m : ℕ) → 2 ≤ m → ◌≡◌ {A = History} (record { newest = get_or xs (m - 1) (pos 0); older = get_or xs (m - 2) (pos 0) }) (history_after h xs m)
unfolding history_after preceded
history-more h xs zero l = absurd (no l)
  where
    no : 2 ≤ 0 → ⊥
    no l = omega arith
history-more h xs (suc zero) l = absurd (no l)
  where
    no : 2 ≤ 1 → ⊥
    no l = omega arith
history-more h xs (suc (suc k)) l =
    let a : suc (suc k) - 1 ≡ suc k = omega arith in
    let b : suc (suc k) - 2 ≡ k = omega arith in
    rw (a, b)

-- ---- the limit
and-true : (a : Bool) → a && true ≡ a
and-true true = refl
and-true false = refl

pub pairs-good : (cs : List ℤ) (i : ℕ) → pair_ok (c0_at cs i) (c1_at cs i) ≡ true → pairs_ok cs i ≡ pairs_ok cs (i + 1)
unfolding pairs_ok
pairs-good cs i e = rw (add-one, e) (sym (and-true (pairs_ok cs i)))

both : (a b : Bool) → a && b ≡ true → (a ≡ true) × (b ≡ true)
both true b e = (refl, e)
both false b e = absurd (subst (λ (t : Bool). cond t ⊥ Unit) e tt)

pub bounded-pair : (c0 c1 : ℤ) → Bounded c0 c1 → pair_ok c0 c1 ≡ true
unfolding pair_ok
bounded-pair c0 c1 b = le-leb (nat_abs c0 + nat_abs c1) pair_limit b.sum

pair-bounded : (c0 c1 : ℤ) → pair_ok c0 c1 ≡ true → Bounded c0 c1
unfolding pair_ok
pair-bounded c0 c1 e = record { sum = leb-true (nat_abs c0 + nat_abs c1) pair_limit e }

pairs-at : (cs : List ℤ) (k i : ℕ) → i < k → pairs_ok cs k ≡ true → pair_ok (c0_at cs i) (c1_at cs i) ≡ true
unfolding pairs_ok
pairs-at cs zero i l e = absurd (none_below i l)
pairs-at cs (suc k) i l e = go (dec_le k i) (pairs-at cs k i)
  where
    t : (pairs_ok cs k ≡ true) × (pair_ok (c0_at cs k) (c1_at cs k) ≡ true)
    t = both (pairs_ok cs k) (pair_ok (c0_at cs k) (c1_at cs k)) e

    go : Dec (k ≤ i) → (i < k → pairs_ok cs k ≡ true → pair_ok (c0_at cs i) (c1_at cs i) ≡ true) → pair_ok (c0_at cs i) (c1_at cs i) ≡ true
    go (yes m) r = let x : k ≡ i = omega arith in subst (λ (j : ℕ). pair_ok (c0_at cs j) (c1_at cs j) ≡ true) x t.1
    go (no m) r = r (lt_of_not-le m) t.0

-- a chunk of two is the next pair
pub next_pair : (cs p r : List ℤ) (k : ℕ) → drop (2 * k) cs ≡ p ++ r → length p ≡ 2 → length cs ≡ 16
    → (k < 8) × (get_or p 0 (pos 0) ≡ c0_at cs k) × (get_or p 1 (pos 0) ≡ c1_at cs k) × (r ≡ drop (2 * (k + 1)) cs)
next_pair cs p r k e l n =
    let a = ap length e in
    let at : (i : ℕ) → i < 2 → get_or p i (pos 0) ≡ get_or cs (2 * k + i) (pos 0) =
    λ i h. sym (get_or_append_left p r (pos 0) i (omega (arith, l))) ∙ ap (λ (xs : List ℤ). get_or xs i (pos 0)) (sym e) ∙ get_or-drop (2 * k) cs i (pos 0) in
    let z : 2 * k + 0 ≡ 2 * k = omega arith in
    let s : 2 * k + 2 ≡ 2 * (k + 1) = omega arith in (
      omega (arith, a, length-drop (2 * k) cs, length-append p r),
      at 0 (omega arith) ∙ ap (λ (j : ℕ). get_or cs j (pos 0)) z,
      at 1 (omega arith),
      sym (drop-append_seam p r) ∙ ap (λ (j : ℕ). drop j (p ++ r)) l ∙ ap (drop 2) (sym e) ∙ drop-drop 2 (2 * k) cs ∙ ap (λ (j : ℕ). drop j cs) s,
    )

-- one pair beyond the limit is enough for a refusal
pub limit-broken : (cs : List ℤ) (i : ℕ) → i < 8 → pair_ok (c0_at cs i) (c1_at cs i) ≡ false → false ≡ coefficients_ok cs
unfolding coefficients_ok
limit-broken cs i l e = go (pairs_ok cs 8) refl
  where
    go : (t : Bool) → pairs_ok cs 8 ≡ t → false ≡ t
    go false q = refl
    go true q = let h = pairs-at cs 8 i l q in cc

-- what code 7 accepts is what every law of the search is stated over
pub limits-bounded : (cs : List ℤ) → coefficients_ok cs ≡ true → AllBounded cs
unfolding coefficients_ok
limits-bounded cs e = record { pair = λ i l. pair-bounded (c0_at cs i) (c1_at cs i) (pairs-at cs 8 i l e) }

pairs-bounded : (cs : List ℤ) → AllBounded cs → (k : ℕ) → k ≤ 8 → pairs_ok cs k ≡ true
unfolding pairs_ok
pairs-bounded cs b zero h = refl
pairs-bounded cs b (suc k) h = rw (pairs-bounded cs b k (omega arith), bounded-pair (c0_at cs k) (c1_at cs k) (b.pair k (omega arith)))

pub bounded-limits : (cs : List ℤ) → AllBounded cs → coefficients_ok cs ≡ true
unfolding coefficients_ok
bounded-limits cs b = pairs-bounded cs b 8 (omega arith)

-- document 01's two limits are inside this one
pub older-limits : (cs : List ℤ) → ((i : ℕ) → i < 8 → (nat_abs (c0_at cs i) ≤ 4096) × (nat_abs (c1_at cs i) ≤ 2048)) → coefficients_ok cs ≡ true
older-limits cs h = bounded-limits cs (record { pair = λ i l. record { sum = let t = h i l in omega (arith, t.0, t.1) } })
