-- What holds of every vector that the last round makes, and of every coefficient, holds of finish's answer.
use Rattle.std.proofs.Common.{◌≡◌, ℕ, zero, suc, ◌+◌, ◌*◌, ◌/◌, ◌%◌, ◌<◌, ◌≤◌, Bool, true, false, cond, eqb, List, length, get_or, set, replicate, ℤ, pos, sym, refl, ◌∙◌, subst, le_refl, lt_of_not-le, arith, lit<, length-set, get_or-set_other, get_or-set_same, w16, SFits}
use native.Mathlib.Decide.{ℕ_discrete, dec_le}
use lib.Arith.{lt_of_le-ne}
use lib.Ieee.{Float}
use lib.Ieee.Casts.{to_signed_in}
use lib.ListN.{length-replicate, get_or-replicate, get_or-eq_default}
use Rattle.coefficients.specs.Store.{first_vector}
use Rattle.coefficients.specs.Clusters.{blank, none, gather, with_one, made, renewed, filter_round, doubled, grown, vectors}
use Rattle.coefficients.specs.CoefficientLimits.{OfPair}
use Rattle.coefficients.specs.Finish.{coefficient, pairs, record_coefficients}
use Rattle.coefficients.proofs.RenewedVectors.{renewed-next, renewed-length, round-length, doubled-length, grown-length}
use Rattle.coefficients.specs.declared.merging.Vec3.{Vec3}
use Rattle.coefficients.specs.declared.merging.Record.{Record}
use Rattle.coefficients.specs.declared.clusters.Cluster.{Cluster}

-- ---- the vectors

renewed-each : (P : Vec3 → Type 0) (vs : List Vec3) (t : List Cluster) (k : ℕ) → ((i : ℕ) → i < 8 → P (made t i)) → length vs ≡ 8 → k ≤ 8
    → (j : ℕ) → j < k → P (get_or (renewed vs t k) j blank)
renewed-each P vs t zero h e l j s = absurd (none_below j s)
  where
    none_below : (j : ℕ) → j < 0 → ⊥
    none_below j h = omega arith
renewed-each P vs t (suc k) h e l j s =
    let v = made t k in
    subst (λ (l : List Vec3). P (get_or l j blank)) (sym (renewed-next vs t k))
    (elim (ℕ_discrete j k) [
      | yes p ↦
          subst (λ (x : ℕ). P (get_or (set (renewed vs t k) k v) x blank)) (sym p)
          (subst P (sym (get_or-set_same (renewed vs t k) k v blank (subst (λ (x : ℕ). k < x) (sym (renewed-length vs t k ∙ e)) l))) (h k l))
      | no q ↦ subst P (sym (get_or-set_other (renewed vs t k) k j v blank q)) (renewed-each P vs t k h e (omega arith) j (lt_of_le-ne (omega arith) q))
    ])

-- every vector of finish is made by a tally of the records over eight vectors, whichever those are
pub vectors-each : (P : Vec3 → Type 0) (rs : List Record)
    → ((ws : List Vec3) (i : ℕ) → i < 8 → P (made (gather ws 8 rs) i)) → (j : ℕ) → j < 8 → P (get_or (vectors rs) j blank)
unfolding vectors grown filter_round
vectors-each P rs h j s =
    let z = set (replicate 8 none) 0 (with_one (first_vector rs)) in
    let w = grown (grown z 1 rs) 2 rs in
    let e : length w ≡ 8 =
    grown-length (grown z 1 rs) 2 rs ∙ grown-length z 1 rs ∙ length-set (replicate 8 none) 0 (with_one (first_vector rs)) ∙ length-replicate 8 none in
    let y = filter_round (doubled w 4 4) 8 rs in
    renewed-each P y (gather y 8 rs) 8 (h y) (round-length (doubled w 4 4) 8 rs ∙ doubled-length w 4 4 ∙ e) (le_refl 8) j s

-- ---- the sixteen coefficients

pairs-length : (vs : List Vec3) (k : ℕ) → length (pairs vs k) ≡ 16
unfolding pairs
pairs-length vs zero = length-replicate 16 (pos 0)
pairs-length vs (suc k) =
    length-set (set (pairs vs k) (2 * k) (coefficient (get_or vs k blank).x1)) (2 * k + 1) (coefficient (get_or vs k blank).x2)
    ∙ length-set (pairs vs k) (2 * k) (coefficient (get_or vs k blank).x1)
    ∙ pairs-length vs k

pub finish-length : (rs : List Record) → length (record_coefficients rs) ≡ 16
unfolding record_coefficients
finish-length rs = go (eqb (length rs) 0)
  where
    go : (t : Bool) → length (cond t (replicate 16 (pos 0)) (pairs (vectors rs) 8)) ≡ 16
    go true = length-replicate 16 (pos 0)
    go false = pairs-length (vectors rs) 8

module _ (P Q : ℤ → Type 0) (p0 : P (pos 0)) (q0 : Q (pos 0)) where
  zeros-each : (i : ℕ) → i < 8 → OfPair P Q (replicate 16 (pos 0)) i
  zeros-each i h = record {
    even = subst P (sym (get_or-replicate 16 (2 * i) (pos 0) (pos 0) (omega arith))) p0;
    odd = subst Q (sym (get_or-replicate 16 (2 * i + 1) (pos 0) (pos 0) (omega arith))) q0;
  }

  step-each : (cs : List ℤ) (k : ℕ) (a b : ℤ) → length cs ≡ 16 → k < 8 → P a → Q b → ((i : ℕ) → i < 8 → OfPair P Q cs i)
      → (i : ℕ) → i < 8 → OfPair P Q (set (set cs (2 * k) a) (2 * k + 1) b) i
  step-each cs k a b e l p q h i s = elim (ℕ_discrete i k) [
    | yes r ↦
        subst (λ (x : ℕ). OfPair P Q (set (set cs (2 * k) a) (2 * k + 1) b) x) (sym r)
        (let u = length-set cs (2 * k) a in
        record {
          even = subst P (sym (get_or-set_other (set cs (2 * k) a) (2 * k + 1) (2 * k) b (pos 0) (λ (z : 2 * k ≡ 2 * k + 1). omega arith) ∙ get_or-set_same cs (2 * k) a (pos 0) (omega arith))) p;
          odd = subst Q (sym (get_or-set_same (set cs (2 * k) a) (2 * k + 1) b (pos 0) (omega arith))) q;
        })
    | no n ↦
        let other : (j : ℕ) → (j ≡ 2 * k → ⊥) → (j ≡ 2 * k + 1 → ⊥) → get_or (set (set cs (2 * k) a) (2 * k + 1) b) j (pos 0) ≡ get_or cs j (pos 0) =
        λ j u v. get_or-set_other (set cs (2 * k) a) (2 * k + 1) j b (pos 0) v ∙ get_or-set_other cs (2 * k) j a (pos 0) u in
        record {
          even = subst P (sym (other (2 * i) (λ (z : 2 * i ≡ 2 * k). n (omega arith)) (λ (z : 2 * i ≡ 2 * k + 1). omega arith))) (h i s).even;
          odd = subst Q (sym (other (2 * i + 1) (λ (z : 2 * i + 1 ≡ 2 * k). omega arith) (λ (z : 2 * i + 1 ≡ 2 * k + 1). n (omega arith)))) (h i s).odd;
        }
  ]

  pairs-each : (vs : List Vec3) (k : ℕ) → k ≤ 8 → ((j : ℕ) → j < 8 → P (coefficient (get_or vs j blank).x1) × Q (coefficient (get_or vs j blank).x2))
      → (i : ℕ) → i < 8 → OfPair P Q (pairs vs k) i
  unfolding pairs
  pairs-each vs zero l h i s = zeros-each i s
  pairs-each vs (suc k) l h i s =
      let v = get_or vs k blank in
      step-each (pairs vs k) k (coefficient v.x1) (coefficient v.x2) (pairs-length vs k) l (h k l).0 (h k l).1 (pairs-each vs k (omega arith) h) i s

  pub finish-each : (rs : List Record) → ((j : ℕ) → j < 8 → P (coefficient (get_or (vectors rs) j blank).x1) × Q (coefficient (get_or (vectors rs) j blank).x2))
      → (i : ℕ) → i < 8 → OfPair P Q (record_coefficients rs) i
  unfolding record_coefficients
  finish-each rs h i s = go (eqb (length rs) 0)
    where
      go : (b : Bool) → OfPair P Q (cond b (replicate 16 (pos 0)) (pairs (vectors rs) 8)) i
      go true = zeros-each i s
      go false = pairs-each (vectors rs) 8 (le_refl 8) h i s

-- ---- their width

zero-16 : SFits w16 (pos 0)
zero-16 = record { sfits = lit< tt }

coefficient-fits : (v : Float) → SFits w16 (coefficient v)
unfolding coefficient
coefficient-fits v = record { sfits = to_signed_in 15 _ }

-- each is of 16 bits, whatever the records are
pub finish-fits : (rs : List Record) (i : ℕ) → SFits w16 (get_or (record_coefficients rs) i (pos 0))
finish-fits rs i = go (dec_le 16 i)
  where
    pair : (j : ℕ) → j < 8 → OfPair (SFits w16) (SFits w16) (record_coefficients rs) j
    pair = finish-each (SFits w16) (SFits w16) zero-16 zero-16 rs (λ j s. (coefficient-fits _, coefficient-fits _))

    here : (r : ℕ) → i % 2 ≡ r → r < 2 → i < 16 → SFits w16 (get_or (record_coefficients rs) i (pos 0))
    here zero e l h =
        let p : 2 * (i / 2) ≡ i = omega arith in
        subst (λ (k : ℕ). SFits w16 (get_or (record_coefficients rs) k (pos 0))) p (pair (i / 2) (omega arith)).even
    here (suc zero) e l h =
        let p : 2 * (i / 2) + 1 ≡ i = omega arith in
        subst (λ (k : ℕ). SFits w16 (get_or (record_coefficients rs) k (pos 0))) p (pair (i / 2) (omega arith)).odd
    here (suc (suc r)) e l h = absurd (omega arith)

    go : Dec (16 ≤ i) → SFits w16 (get_or (record_coefficients rs) i (pos 0))
    go (yes h) = subst (SFits w16) (sym (get_or-eq_default (record_coefficients rs) (pos 0) (omega (arith, finish-length rs)))) zero-16
    go (no h) = here (i % 2) refl (omega arith) (lt_of_not-le h)
