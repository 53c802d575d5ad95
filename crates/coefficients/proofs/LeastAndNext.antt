-- The least of some numbers, and the least of the others: what `closer` and `better` keep.
use Rattle.std.proofs.Common.{◌≡◌, ℕ, suc, ◌+◌, ◌<◌, ◌≤◌, Bool, true, false, cond, refl, arith}
use native.Mathlib.Decide.{ℕ_discrete}
use lib.Arith.{lt_of_le-ne}
use lib.Ieee.{Float, binary64, lt}
use Rattle.float.proofs.InUnits.{InUnits, over, under, lt-true, lt-false}
use Rattle.coefficients.specs.declared.contrasts.Best.{Best}
use Rattle.coefficients.specs.declared.contrasts.Lead.{Lead}
use Rattle.coefficients.specs.Clusters.{better}
use Rattle.coefficients.specs.inner.PlainContrasts.{closer, lower}

-- x is at most y
abbrev pub Below : Float → Float → Type 0
Below x y = over binary64 x + under binary64 y ≤ over binary64 y + under binary64 x

record Lower (a b : Float) : Type 0 where
  own : InUnits binary64 (lower a b)
  first : Below (lower a b) a
  other : Below (lower a b) b

lower-is : (a b : Float) → InUnits binary64 a → InUnits binary64 b → Lower a b
unfolding lower
lower-is a b v w = go (lt a b) refl
  where
    go : (t : Bool) → lt a b ≡ t → Lower a b
    go true e = let h = lt-true binary64 a b v w e in record { own = rw e v; first = rw e (omega arith); other = rw e (omega arith) }
    go false e = let h = lt-false binary64 a b v w e in record { own = rw e w; first = rw e (omega arith); other = rw e (omega arith) }

-- among the first k of the numbers c
module _ (c : ℕ → Float) (n : ℕ) (own : (j : ℕ) → j < n → InUnits binary64 (c j)) where
  pub record Finds (k : ℕ) (l : Best) : Type 0 where
    pub place : l.index < k
    pub value : l.value ≡ c l.index
    pub all : (j : ℕ) → j < k → Below l.value (c j)

  -- and the least of the others
  pub record Leads (k : ℕ) (l : Lead) : Type 0 where
    pub place : l.index < k
    pub value : l.least ≡ c l.index
    pub all : (j : ℕ) → j < k → Below l.least (c j)
    pub others : (j : ℕ) → j < k → (j ≡ l.index → ⊥) → Below l.second (c j)
    pub own2 : InUnits binary64 l.second

  -- one more, of the first of all
  pub finds-first : (l : Best) → lt (c 0) l.value ≡ true → Finds 1 (better l (c 0) 0)
  unfolding better
  finds-first l e = rw e (record { place = omega arith; value = refl; all = λ j h. let z : j ≡ 0 = omega arith in rw z (omega arith) })

  pub finds-next : (k : ℕ) (l : Best) → k < n → Finds k l → Finds (suc k) (better l (c k) k)
  unfolding better
  finds-next k l h r = go (lt (c k) l.value) refl
    where
      v : InUnits binary64 l.value
      v = rw r.value (own l.index (omega arith))

      go : (t : Bool) → lt (c k) l.value ≡ t → Finds (suc k) (cond t (record { value = c k; index = k }) l)
      go true e =
          let a = lt-true binary64 (c k) l.value (own k h) v e in
          record { place = omega arith; value = refl; all = λ j g. elim (ℕ_discrete j k) [ yes p ↦ rw p (omega arith) | no q ↦ omega (arith, r.all j (lt_of_le-ne (omega arith) q)) ] }
      go false e =
          let a = lt-false binary64 (c k) l.value (own k h) v e in
          record { place = omega arith; value = r.value; all = λ j g. elim (ℕ_discrete j k) [ yes p ↦ rw p (omega arith) | no q ↦ r.all j (lt_of_le-ne (omega arith) q) ] }

  pub leads-first : (l : Lead) → InUnits binary64 l.least → InUnits binary64 l.second → lt (c 0) l.least ≡ true → Leads 1 (closer l (c 0) 0)
  unfolding closer
  leads-first l v w e = rw e (record {
    place = omega arith;
    value = refl;
    all = λ j h. let z : j ≡ 0 = omega arith in rw z (omega arith);
    others = λ j h q. absurd (q (omega arith));
    own2 = (lower-is l.least l.second v w).own;
  })

  pub leads-next : (k : ℕ) (l : Lead) → k < n → Leads k l → Leads (suc k) (closer l (c k) k)
  unfolding closer
  leads-next k l h r = go (lt (c k) l.least) refl
    where
      v : InUnits binary64 l.least
      v = rw r.value (own l.index (omega arith))

      go : (t : Bool) → lt (c k) l.least ≡ t
          → Leads (suc k) (cond t (record { least = c k; second = lower l.least l.second; index = k }) (record { least = l.least; second = lower (c k) l.second; index = l.index }))
      go true e =
          let a = lt-true binary64 (c k) l.least (own k h) v e in
          let s = lower-is l.least l.second v r.own2 in
          record {
            place = omega arith;
            value = refl;
            all = λ j g. elim (ℕ_discrete j k) [ yes p ↦ rw p (omega arith) | no q ↦ omega (arith, r.all j (lt_of_le-ne (omega arith) q)) ];
            others = λ j g q. omega (arith, r.all j (lt_of_le-ne (omega arith) q), s.first);
            own2 = s.own;
          }
      go false e =
          let a = lt-false binary64 (c k) l.least (own k h) v e in
          let s = lower-is (c k) l.second (own k h) r.own2 in
          record {
            place = omega arith;
            value = r.value;
            all = λ j g. elim (ℕ_discrete j k) [ yes p ↦ rw p (omega arith) | no q ↦ r.all j (lt_of_le-ne (omega arith) q) ];
            others = λ j g i. elim (ℕ_discrete j k) [ yes p ↦ rw p s.first | no q ↦ omega (arith, r.others j (lt_of_le-ne (omega arith) q) i, s.other) ];
            own2 = s.own;
          }
