-- Laws of the choice among the candidates.
use mathlib.Core.Path.{◌≡◌, refl, sym, ap, ap₂, ◌∙◌, subst}
use mathlib.Core.Bool.{Bool, true, false, cond}
use mathlib.Core.List.{List}
use Prim.Native.Nat.{ℕ, zero, suc, ◌+◌, ◌-◌, ◌*◌, ◌≤◌, ◌<◌}
use native.Mathlib.Numerals.{add-one}
use native.Mathlib.Omega.{arith}
use native.Mathlib.Nat.{le_refl, lt_of_not-le, zero-add}
use native.Mathlib.Decide.{dec_le}
use lib.Dec.{ltb}
use lib.IntN.{ℤ, pos}
use lib.ListN.{get_or}
use borrow.Author.Tests.{lt-ltb, le-ltb, ltb-true, ltb-false}
use Rattle.whole.specs.declared.History.{History}
use Rattle.frame.specs.declared.search.Coded.{Coded}
use Rattle.frame.specs.declared.choice.Held.{Held}
use Rattle.frame.specs.Search.{finished, try_coefficients}
use Rattle.frame.specs.Choice.{c0_at, c1_at, candidate_at, winner, passes_up_to, held_after, Wins}
use Rattle.frame.specs.Frame.{encode_frame, header, pack_frame}
use Rattle.frame.specs.inner.Nibbles.{InNibble}
use Rattle.frame.proofs.LawsOrder.{none_below}
use Rattle.frame.proofs.LawsPass.{pass-nibble}
use Rattle.frame.proofs.LawsSearch.{Shape, try-shape}

-- a candidate with its index and the passes made
abbrev held : Coded → ℕ → ℕ → Held
held c i n = record { candidate = c; index = i; passes = n }

module _ (h : History) (xs : List ℤ) (cs : List ℤ) where
  pub candidate-shape : (i : ℕ) → Shape (c0_at cs i) (c1_at cs i) h xs 0 13 (candidate_at h xs cs i)
  unfolding candidate_at
  candidate-shape i = try-shape (c0_at cs i) (c1_at cs i) h xs

  pub candidate-nibble : (i j : ℕ) → j < 14 → InNibble (get_or (candidate_at h xs cs i).nibbles j (pos 0))
  unfolding finished
  candidate-nibble i j l =
      let s = candidate-shape i in
      subst (λ (ns : List ℤ). InNibble (get_or ns j (pos 0))) (sym (ap (λ (c : Coded). c.nibbles) s.is)) (pass-nibble (c0_at cs i) (c1_at cs i) h xs s.at j l)

  -- the distance of candidate i
  abbrev distance_at : ℕ → ℕ
  distance_at i = (candidate_at h xs cs i).distance

  -- ---- the winner among the first k and one
  pub winner-le : (k : ℕ) → winner h xs cs k ≤ k
  unfolding winner
  winner-le zero = omega arith
  winner-le (suc k) = go (ltb (distance_at (suc k)) (distance_at (winner h xs cs k))) (winner-le k)
    where
      go : (t : Bool) → winner h xs cs k ≤ k → cond t (suc k) (winner h xs cs k) ≤ suc k
      go true l = omega arith
      go false l = omega arith

  -- no candidate among them has a lesser distance
  pub winner-least : (k j : ℕ) → j ≤ k → distance_at (winner h xs cs k) ≤ distance_at j
  unfolding winner
  winner-least zero j l = subst (λ (i : ℕ). distance_at 0 ≤ distance_at i) (zero-only j l) (le_refl (distance_at 0))
    where
      zero-only : (j : ℕ) → j ≤ 0 → 0 ≡ j
      zero-only j l = omega arith
  winner-least (suc k) j l = go (ltb (distance_at (suc k)) (distance_at (winner h xs cs k))) refl (dec_le j k) (winner-least k j) (winner-least k)
    where
      last : (k < j) → suc k ≡ j
      last m = omega arith

      go : (t : Bool) → ltb (distance_at (suc k)) (distance_at (winner h xs cs k)) ≡ t → Dec (j ≤ k) → (j ≤ k → distance_at (winner h xs cs k) ≤ distance_at j)
          → ((i : ℕ) → i ≤ k → distance_at (winner h xs cs k) ≤ distance_at i) → distance_at (cond t (suc k) (winner h xs cs k)) ≤ distance_at j
      go true e (yes m) r s = let a = ltb-true (distance_at (suc k)) (distance_at (winner h xs cs k)) e in let b = r m in omega arith
      go true e (no m) r s = subst (λ (i : ℕ). distance_at (suc k) ≤ distance_at i) (last (lt_of_not-le m)) (le_refl (distance_at (suc k)))
      go false e (yes m) r s = r m
      go false e (no m) r s = subst (λ (i : ℕ). distance_at (winner h xs cs k) ≤ distance_at i) (last (lt_of_not-le m)) (ltb-false (distance_at (suc k)) (distance_at (winner h xs cs k)) e)

  -- every candidate with a lower index has a greater distance
  pub winner-first : (k j : ℕ) → j < winner h xs cs k → distance_at (winner h xs cs k) < distance_at j
  unfolding winner
  winner-first zero j l = absurd (none_below j l)
  winner-first (suc k) j l = go (ltb (distance_at (suc k)) (distance_at (winner h xs cs k))) refl l (winner-first k j)
    where
      go : (t : Bool) → ltb (distance_at (suc k)) (distance_at (winner h xs cs k)) ≡ t → j < cond t (suc k) (winner h xs cs k)
          → (j < winner h xs cs k → distance_at (winner h xs cs k) < distance_at j) → distance_at (cond t (suc k) (winner h xs cs k)) < distance_at j
      go true e m r = let a = ltb-true (distance_at (suc k)) (distance_at (winner h xs cs k)) e in let b = winner-least k j (omega arith) in omega arith
      go false e m r = r m

  -- ---- the passes
  pub passes-le : (k : ℕ) → passes_up_to h xs cs k ≤ k * 13
  unfolding passes_up_to
  passes-le zero = omega arith
  passes-le (suc k) = omega (arith, passes-le k, (candidate-shape k).passes-le)

  -- ---- one candidate more

  -- the first alone
  pub held_first : (c : Coded) → c ≡ candidate_at h xs cs 0 → held c 0 c.passes ≡ held_after h xs cs 1
  unfolding held_after winner passes_up_to
  held_first c e = rw (e, zero-add)

  -- candidate k against what is held after k
  module _ (k : ℕ) (b c : Coded) (j n : ℕ) (l : 1 ≤ k) (e : held b j n ≡ held_after h xs cs k) (f : c ≡ candidate_at h xs cs k) where
    here : k ≡ suc (k - 1)
    here = omega arith

    there : (k + 1) - 1 ≡ suc (k - 1)
    there = omega arith

    was : b ≡ candidate_at h xs cs (winner h xs cs (k - 1))
    unfolding held_after
    was = ap (λ (x : Held). x.candidate) e

    index-was : j ≡ winner h xs cs (k - 1)
    unfolding held_after
    index-was = ap (λ (x : Held). x.index) e

    passes-were : n ≡ passes_up_to h xs cs k
    unfolding held_after
    passes-were = ap (λ (x : Held). x.passes) e

    passes-now : n + c.passes ≡ passes_up_to h xs cs (k + 1)
    unfolding passes_up_to
    passes-now = rw (passes-were, f, add-one)

    tried : c ≡ candidate_at h xs cs (suc (k - 1))
    tried = f ∙ ap (candidate_at h xs cs) here

    winner-now : (t : Bool) → ltb c.distance b.distance ≡ t → winner h xs cs ((k + 1) - 1) ≡ cond t k j
    unfolding winner
    winner-now t m = ap (winner h xs cs) there ∙ rw (sym tried, sym was, m, sym here, sym index-was)

    pub held-taken : c.distance < b.distance → held c k (n + c.passes) ≡ held_after h xs cs (k + 1)
    unfolding held_after
    held-taken m = let w = winner-now true (lt-ltb _ _ m) in rw (w, sym f, sym passes-now)

    pub held-left : b.distance ≤ c.distance → held b j (n + c.passes) ≡ held_after h xs cs (k + 1)
    unfolding held_after
    held-left m = let w = winner-now false (le-ltb _ _ m) in rw (w, sym passes-now) (ap (λ (x : Coded). held x j (n + c.passes)) (was ∙ ap (candidate_at h xs cs) (sym index-was)))

  -- ---- what is held

  -- after k candidates the encoder holds the one that would win among these alone, and their passes
  pub held-wins : (k : ℕ) → 1 ≤ k → Wins h xs cs k (held_after h xs cs k)
  unfolding held_after
  held-wins k l = record {
    among = omega (arith, winner-le (k - 1));
    is = refl;
    least = λ j m. winner-least (k - 1) j (omega arith);
    lowest = λ j m. winner-first (k - 1) j m;
    passes-are = refl;
  }

  -- a frame is made of what is held after all eight
  pub encoded-held : let b = held_after h xs cs 8 in encode_frame h xs cs
      ≡ record { bytes = pack_frame (header b.index b.candidate.exponent) b.candidate.nibbles 7; passes = b.passes; samples = b.candidate.samples }
  unfolding encode_frame held_after
  encoded-held = refl

-- ---- of the first k pairs alone

module _ (h : History) (xs cs ds : List ℤ) where
  candidate-alone : (k j : ℕ) → j < k → ((i : ℕ) → i < k → (c0_at cs i ≡ c0_at ds i) × (c1_at cs i ≡ c1_at ds i)) → candidate_at h xs cs j ≡ candidate_at h xs ds j
  unfolding candidate_at
  candidate-alone k j l a = ap₂ (λ (c d : ℤ). try_coefficients c d h xs) (a j l).0 (a j l).1

  winner-alone : (k : ℕ) → ((i : ℕ) → i < suc k → (c0_at cs i ≡ c0_at ds i) × (c1_at cs i ≡ c1_at ds i)) → winner h xs cs k ≡ winner h xs ds k
  unfolding winner
  winner-alone zero a = refl
  winner-alone (suc k) a =
      let w = winner-alone k (λ i l. a i (omega arith)) in
      let l = winner-le h xs ds k in
      rw (w, candidate-alone (suc (suc k)) (suc k) (omega arith) a, candidate-alone (suc (suc k)) (winner h xs ds k) (omega arith) a)

  passes-alone : (k : ℕ) → ((i : ℕ) → i < k → (c0_at cs i ≡ c0_at ds i) × (c1_at cs i ≡ c1_at ds i)) → passes_up_to h xs cs k ≡ passes_up_to h xs ds k
  unfolding passes_up_to
  passes-alone zero a = refl
  passes-alone (suc k) a = rw (passes-alone k (λ i l. a i (omega arith)), candidate-alone (suc k) k (omega arith) a)

  -- what is held after k candidates does not depend on the other pairs
  pub held-alone : (k : ℕ) → 1 ≤ k → ((i : ℕ) → i < k → (c0_at cs i ≡ c0_at ds i) × (c1_at cs i ≡ c1_at ds i)) → held_after h xs cs k ≡ held_after h xs ds k
  unfolding held_after
  held-alone k l a =
      let w = winner-alone (k - 1) (λ i m. a i (omega arith)) in
      let b = winner-le h xs ds (k - 1) in
      rw (w, candidate-alone k (winner h xs ds (k - 1)) (omega arith) a, passes-alone k a)
