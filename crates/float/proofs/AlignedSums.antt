-- The sum and the difference of two numbers, by numbers that stand for them. Assumes nothing.
use Rattle.std.proofs.Common.{◌≡◌, ℕ, suc, ◌+◌, ◌-◌, ◌*◌, ◌/◌, ◌%◌, ◌^◌, ◌<◌, ◌≤◌, Bool, true, false, cond, ◌&&◌, T, ltb, sym, refl, ap, ◌∙◌, subst, ap₂, inl, inr, zero-le, le_of_eq, le_of_lt, mul_comm, add-mul, add_comm, mul-lt-mul_of_pos_right, pow-suc, arith, pow_pos, le-ltb, lt-ltb}
use mathlib.Core.Bool.{beq}
use native.Mathlib.Nat.{mul-sub, zero-div}
use lib.Ieee.{binary64, size, units, unlike, to_bits}
use lib.Ieee.Nearest.{closest}
use Rattle.float.specs.inner.Sticky.{Sticky, ExactOrSticky, FarAbove, Aligned}
use Rattle.float.specs.inner.Rounded.{rounded, signed_sum}
use Rattle.float.specs.inner.Terms.{Merged}
use Rattle.float.proofs.Sticky.{sticky-add, sticky-sub}
use Rattle.float.proofs.RoundingByDigits.{round-cut}
use Rattle.float.proofs.NearestEven.{near-lt}
use Rattle.float.proofs.Patterns.{pattern-law}

pub aligned-swap : (a p b c t : ℕ) → Aligned a p b c t → Aligned b c a p t
aligned-swap a p b c t (inl x) = inl (x.1, x.0)
aligned-swap a p b c t (inr (inl f)) = inr (inr f)
aligned-swap a p b c t (inr (inr f)) = inr (inl f)

module _ (a p b c t : ℕ) (T₀ : 0 < t) where
  far-sum : FarAbove a p b c t → ExactOrSticky (a + b) (p + c) t
  far-sum f =
      inr (
        big p c f.far,
        subst (λ (z : ℕ). Sticky (z + b) (p + c) t) (sym (f.exact ∙ ap (λ (z : ℕ). z * t) f.even))
            (subst (λ (z : ℕ). Sticky (2 * f.half * t + b) (z + c) t) (sym f.even) (sticky-add b c t f.half T₀ f.below)),
      )
    where
      big : (p c : ℕ) → c + 2 ^ 64 ≤ p → 2 ^ 64 ≤ p + c
      big p c h = omega arith

  pub far-under : FarAbove a p b c t → b < a
  far-under f = subst (λ (z : ℕ). b < z) (sym (f.exact ∙ ap (λ (z : ℕ). z * t) f.even)) (f.below.under f.half (subst (λ (z : ℕ). c < z) f.even (less p c f.far)))
    where
      less : (p c : ℕ) → c + 2 ^ 64 ≤ p → c < p
      less p c h = omega arith

  far-diff : FarAbove a p b c t → ExactOrSticky (a - b) (p - c) t
  far-diff f =
      let e : a ≡ 2 * f.half * t = f.exact ∙ ap (λ (z : ℕ). z * t) f.even in
      inr (
        big p c f.far,
        subst (λ (z : ℕ). Sticky (z - b) (p - c) t) (sym e)
            (subst (λ (z : ℕ). Sticky (2 * f.half * t - b) (z - c) t) (sym f.even)
            (sticky-sub b c t f.half T₀ f.below (subst (λ (z : ℕ). b ≤ z) e (le_of_lt (far-under f))) (subst (λ (z : ℕ). c ≤ z) f.even (less p c f.far)))),
      )
    where
      big : (p c : ℕ) → c + 2 ^ 64 ≤ p → 2 ^ 64 ≤ p - c
      big p c h = omega arith

      less : (p c : ℕ) → c + 2 ^ 64 ≤ p → c ≤ p
      less p c h = omega arith

module _ (a p b c t : ℕ) (T₀ : 0 < t) where
  pub sum-sticky : Aligned a p b c t → ExactOrSticky (a + b) (p + c) t
  sum-sticky (inl x) = inl (ap₂ (λ (y z : ℕ). y + z) x.0 x.1 ∙ sym (add-mul p c t))
  sum-sticky (inr (inl f)) = far-sum a p b c t T₀ f
  sum-sticky (inr (inr f)) = subst (λ (z : ℕ). ExactOrSticky z (p + c) t) (add_comm b a) (subst (λ (z : ℕ). ExactOrSticky (b + a) z t) (add_comm c p) (far-sum b c a p t T₀ f))

  no : c < p → p + 2 ^ 64 ≤ c → ⊥
  no h k = omega arith

  pub diff-sticky : Aligned a p b c t → c < p → ExactOrSticky (a - b) (p - c) t
  diff-sticky (inl x) h = inl (ap₂ (λ (y z : ℕ). y - z) x.0 x.1 ∙ ap₂ (λ (y z : ℕ). y - z) (mul_comm p t) (mul_comm c t) ∙ sym (mul-sub t p c) ∙ mul_comm t (p - c))
  diff-sticky (inr (inl f)) h = far-diff a p b c t T₀ f
  diff-sticky (inr (inr f)) h = absurd (no h f.far)

  pub diff-less : Aligned a p b c t → c < p → b < a
  diff-less (inl x) h = subst (λ (z : ℕ). z < a) (sym x.1) (subst (λ (z : ℕ). c * t < z) (sym x.0) (mul-lt-mul_of_pos_right h T₀))
  diff-less (inr (inl f)) h = far-under a p b c t T₀ f
  diff-less (inr (inr f)) h = absurd (no h f.far)

  pub same-aligned : Aligned a p b c t → p ≡ c → a ≡ b
  same-aligned (inl x) e = x.0 ∙ ap (λ (z : ℕ). z * t) e ∙ sym x.1
  same-aligned (inr (inl f)) e = absurd (never p c e f.far)
    where
      never : (p c : ℕ) → p ≡ c → c + 2 ^ 64 ≤ p → ⊥
      never p c e h = omega arith
  same-aligned (inr (inr f)) e = absurd (never c p (sym e) f.far)
    where
      never : (p c : ℕ) → p ≡ c → c + 2 ^ 64 ≤ p → ⊥
      never p c e h = omega arith

-- ---- `sum`, by cases
module _ (g : ℕ) (s u : Bool) (a b : ℕ) where
  at-cases : signed_sum g s a u b ≡ cond (beq s u) (rounded g s (a + b)) (cond (ltb a b) (rounded g u (b - a)) (rounded g (s && ltb b a) (a - b)))
  unfolding signed_sum rounded
  at-cases = refl

  pub signed-sum-like : beq s u ≡ true → signed_sum g s a u b ≡ rounded g s (a + b)
  signed-sum-like e = at-cases ∙ ap (λ (z : Bool). cond z (rounded g s (a + b)) (cond (ltb a b) (rounded g u (b - a)) (rounded g (s && ltb b a) (a - b)))) e

  other : beq s u ≡ false → signed_sum g s a u b ≡ cond (ltb a b) (rounded g u (b - a)) (rounded g (s && ltb b a) (a - b))
  other e = at-cases ∙ ap (λ (z : Bool). cond z (rounded g s (a + b)) (cond (ltb a b) (rounded g u (b - a)) (rounded g (s && ltb b a) (a - b)))) e

  and-true : (x : Bool) → x && true ≡ x
  and-true true = refl
  and-true false = refl

  and-false : (x : Bool) → x && false ≡ false
  and-false true = refl
  and-false false = refl

  pub signed-sum-over : beq s u ≡ false → b < a → signed_sum g s a u b ≡ rounded g s (a - b)
  signed-sum-over e h =
      other e
      ∙ ap (λ (z : Bool). cond z (rounded g u (b - a)) (rounded g (s && ltb b a) (a - b))) (le-ltb a b (le_of_lt h))
      ∙ ap (λ (z : Bool). rounded g (s && z) (a - b)) (lt-ltb b a h)
      ∙ ap (λ (z : Bool). rounded g z (a - b)) (and-true s)

  pub signed-sum-under : beq s u ≡ false → a < b → signed_sum g s a u b ≡ rounded g u (b - a)
  signed-sum-under e h = other e ∙ ap (λ (z : Bool). cond z (rounded g u (b - a)) (rounded g (s && ltb b a) (a - b))) (lt-ltb a b h)

  pub signed-sum-none : beq s u ≡ false → a ≡ b → signed_sum g s a u b ≡ rounded g false 0
  signed-sum-none e h =
      other e
      ∙ ap (λ (z : Bool). cond z (rounded g u (b - a)) (rounded g (s && ltb b a) (a - b))) (le-ltb a b (le_of_eq (sym h)))
      ∙ ap (λ (z : Bool). rounded g (s && z) (a - b)) (le-ltb b a (le_of_eq h))
      ∙ ap₂ (λ (z : Bool) (y : ℕ). rounded g z y) (and-false s) (diff a b h)
    where
      diff : (a b : ℕ) → a ≡ b → a - b ≡ 0
      diff a b h = omega arith

-- ---- zero
size_none : (g : ℕ) → size (0 / 2 ^ g) - 53 ≡ 0
unfolding size
size_none g = ap (λ (z : ℕ). size z - 53) (zero-div (2 ^ g))

closest-none : (h : ℕ) → 0 < h → closest 0 (h * 2) ≡ 0
closest-none h H = sym (near-lt 0 h H (ap (λ (z : ℕ). z % 2) (zero-div h))) ∙ ap (λ (z : ℕ). z / 2) (zero-div h)

pub none-bits : (g : ℕ) → to_bits binary64 (rounded (suc g) false 0) ≡ 0
unfolding rounded
none-bits g =
    ap (to_bits binary64)
    (round-cut binary64 false 0 (suc g) 0 (size_none (suc g))
    ∙ ap (λ (z : ℕ). units binary64 false z 0) (ap (closest 0) (one (2 ^ suc g) ∙ twice g) ∙ closest-none (2 ^ g) (pow_pos g)))
    ∙ sym (pattern-law false 0 0 0 zero-le (inl refl) refl)
  where
    one : (z : ℕ) → z * 1 ≡ z
    one z = omega arith

    twice : (g : ℕ) → 2 ^ suc g ≡ 2 ^ g * 2
    twice g = pow-suc 2 g

-- ---- what `plus` gives is what the sum is rounded from
pub unlike-twice : (s r : Bool) → unlike s (unlike s r) ≡ r
unlike-twice true true = refl
unlike-twice true false = refl
unlike-twice false true = refl
unlike-twice false false = refl

module _ (a p b c t : ℕ) (T₀ : 0 < t) (F : Aligned a p b c t) (s u : Bool) (w r : ℕ) where
  like-bits : beq s u ≡ true → w ≡ p + c → ((m : ℕ) → ExactOrSticky m w t → r ≡ to_bits binary64 (rounded 1198 s m)) → r ≡ to_bits binary64 (signed_sum 1198 s a u b)
  like-bits e f k = k (a + b) (subst (λ (z : ℕ). ExactOrSticky (a + b) z t) (sym f) (sum-sticky a p b c t T₀ F)) ∙ ap (to_bits binary64) (sym (signed-sum-like 1198 s u a b e))

  over-bits : beq s u ≡ false → c < p → w + c ≡ p → ((m : ℕ) → ExactOrSticky m w t → r ≡ to_bits binary64 (rounded 1198 s m)) → r ≡ to_bits binary64 (signed_sum 1198 s a u b)
  over-bits e h f k =
      k (a - b) (subst (λ (z : ℕ). ExactOrSticky (a - b) z t) (back w c p f) (diff-sticky a p b c t T₀ F h))
      ∙ ap (to_bits binary64) (sym (signed-sum-over 1198 s u a b e (diff-less a p b c t T₀ F h)))
    where
      back : (w c p : ℕ) → w + c ≡ p → p - c ≡ w
      back w c p f = omega arith

  under-bits : beq s u ≡ false → 0 < w → w + p ≡ c → ((m : ℕ) → ExactOrSticky m w t → r ≡ to_bits binary64 (rounded 1198 u m)) → r ≡ to_bits binary64 (signed_sum 1198 s a u b)
  under-bits e h f k =
      let G = aligned-swap a p b c t F in
      let l : p < c = less w p c h f in
      k (b - a) (subst (λ (z : ℕ). ExactOrSticky (b - a) z t) (back w p c f) (diff-sticky b c a p t T₀ G l))
      ∙ ap (to_bits binary64) (sym (signed-sum-under 1198 s u a b e (diff-less b c a p t T₀ G l)))
    where
      less : (w p c : ℕ) → 0 < w → w + p ≡ c → p < c
      less w p c h f = omega arith

      back : (w p c : ℕ) → w + p ≡ c → c - p ≡ w
      back w p c f = omega arith

pub merged-bits : (a p b c t : ℕ) → 0 < t → Aligned a p b c t → (s u v : Bool) (w r : ℕ) → Merged (unlike s u) p c v w → 0 < w
    → ((m : ℕ) → ExactOrSticky m w t → r ≡ to_bits binary64 (rounded 1198 (unlike s v) m)) → r ≡ to_bits binary64 (signed_sum 1198 s a u b)
merged-bits a p b c t H F true true false w r M h k = like-bits a p b c t H F true true w r refl M.1 k
merged-bits a p b c t H F false false false w r M h k = like-bits a p b c t H F false false w r refl M.1 k
merged-bits a p b c t H F true true true w r M h k = absurd (subst T M.0 tt)
merged-bits a p b c t H F false false true w r M h k = absurd (subst T M.0 tt)
merged-bits a p b c t H F true false false w r M h k = over-bits a p b c t H F true false w r refl M.0 M.1 k
merged-bits a p b c t H F false true false w r M h k = over-bits a p b c t H F false true w r refl M.0 M.1 k
merged-bits a p b c t H F true false true w r M h k = under-bits a p b c t H F true false w r refl h M k
merged-bits a p b c t H F false true true w r M h k = under-bits a p b c t H F false true w r refl h M k

some : (w p c : ℕ) → 0 < p → w ≡ p + c → w ≡ 0 → ⊥
some w p c h e f = omega arith

more : (w p c : ℕ) → c < p → w + c ≡ p → w ≡ 0 → ⊥
more w p c h e f = omega arith

level : (w p c : ℕ) → w + p ≡ c → w ≡ 0 → p ≡ c
level w p c e f = omega arith

-- nothing is left only of two equal numbers
pub merged-none : (p c : ℕ) → 0 < p → (s u v : Bool) (w : ℕ) → Merged (unlike s u) p c v w → w ≡ 0 → (beq s u ≡ false) × (p ≡ c)
merged-none p c P true true v w M e = absurd (some w p c P M.1 e)
merged-none p c P false false v w M e = absurd (some w p c P M.1 e)
merged-none p c P true false false w M e = absurd (more w p c M.0 M.1 e)
merged-none p c P false true false w M e = absurd (more w p c M.0 M.1 e)
merged-none p c P true false true w M e = (refl, level w p c M e)
merged-none p c P false true true w M e = (refl, level w p c M e)
