-- Integers as differences of natural numbers, so that `omega` can do their linear arithmetic.
-- `Diff z a b` says z = a - b. Split each variable by `diff-of`, build the terms by `diff-add`, `diff-sub`, `diff-times`, .., and
-- conclude by `diff-eq`, `diff-lt`, `diff-le`, `diff-abs`, whose sides `omega` reads.
use mathlib.Core.Path.{◌≡◌, refl, sym, ap, ◌∙◌}
use mathlib.Core.Bool.{Bool, true, false, cond}
use Prim.Native.Nat.{ℕ, zero, suc, ◌+◌, ◌-◌, ◌*◌, ◌/◌, ◌%◌, ◌≤◌, ◌<◌}
use native.Mathlib.Nat.{mul-add, mul_comm, div-add-mod', mod-lt}
use native.Mathlib.Omega.{arith}
use borrow.Author.Tests.{ltb-true, ltb-false, lt-ltb, le-ltb}
use lib.Dec.{ltb}
use lib.IntN.{ℤ, pos, negsuc, neg_ℤ, nat_abs, sub_ℕ, ◌+ℤ◌, ◌-ℤ◌, ◌*ℤ◌}
use lib.Signed.{lt_z, shr_z}

abbrev Minus : ℤ → ℕ → ℕ → Type 0
Minus (pos n) a b = n + b ≡ a
Minus (negsuc n) a b = suc n + a ≡ b

-- z is a - b
pub record Diff (z : ℤ) (a b : ℕ) : Type 0 where
  pub is : Minus z a b

-- ---- terms

-- z without its sign where it is not negative, and where it is
abbrev pub over : ℤ → ℕ
over (pos n) = n
over (negsuc n) = 0

abbrev pub under : ℤ → ℕ
under (pos n) = 0
under (negsuc n) = suc n

split : (z : ℤ) → Minus z (over z) (under z)
split (pos n) = omega arith
split (negsuc n) = omega arith

pub diff-of : (z : ℤ) → Diff z (over z) (under z)
diff-of z = record { is = split z }

pub diff-pos : (n : ℕ) → Diff (pos n) n 0
diff-pos n = record { is = split (pos n) }

sub-minus : (a b : ℕ) → Minus (sub_ℕ a b) a b
sub-minus a b = go (ltb a b) refl
  where
    go : (t : Bool) → ltb a b ≡ t → Minus (cond t (negsuc (b - suc a)) (pos (a - b))) a b
    go true e = let h = ltb-true a b e in omega arith
    go false e = let h = ltb-false a b e in omega arith

move : (z : ℤ) (a b c d : ℕ) → Minus z a b → a + d ≡ c + b → Minus z c d
move (pos n) a b c d h e = omega arith
move (negsuc n) a b c d h e = omega arith

-- the same difference by other numbers
pub diff-move : {z : ℤ} {a b c d : ℕ} → Diff z a b → a + d ≡ c + b → Diff z c d
diff-move {z} {a} {b} {c} {d} h e = record { is = move z a b c d h.is e }

plus : (x y : ℤ) (a b c d : ℕ) → Minus x a b → Minus y c d → Minus (x +ℤ y) (a + c) (b + d)
plus (pos m) (pos n) a b c d h k = omega arith
plus (pos m) (negsuc n) a b c d h k = move (sub_ℕ m (suc n)) m (suc n) (a + c) (b + d) (sub-minus m (suc n)) (omega arith)
plus (negsuc m) (pos n) a b c d h k = move (sub_ℕ n (suc m)) n (suc m) (a + c) (b + d) (sub-minus n (suc m)) (omega arith)
plus (negsuc m) (negsuc n) a b c d h k = omega arith

pub diff-add : {x y : ℤ} {a b c d : ℕ} → Diff x a b → Diff y c d → Diff (x +ℤ y) (a + c) (b + d)
diff-add {x} {y} {a} {b} {c} {d} h k = record { is = plus x y a b c d h.is k.is }

negated : (x : ℤ) (a b : ℕ) → Minus x a b → Minus (neg_ℤ x) b a
negated (pos zero) a b h = omega arith
negated (pos (suc n)) a b h = omega arith
negated (negsuc n) a b h = omega arith

pub diff-neg : {x : ℤ} {a b : ℕ} → Diff x a b → Diff (neg_ℤ x) b a
diff-neg {x} {a} {b} h = record { is = negated x a b h.is }

pub diff-sub : {x y : ℤ} {a b c d : ℕ} → Diff x a b → Diff y c d → Diff (x -ℤ y) (a + d) (b + c)
diff-sub h k = diff-add h (diff-neg k)

-- a multiple
module _ (k : ℕ) where
  times-over : (n a b : ℕ) → n + b ≡ a → n * k + b * k ≡ a * k
  times-over n a b e = sym (right n b) ∙ ap (λ (x : ℕ). x * k) e
    where
      right : (x y : ℕ) → (x + y) * k ≡ x * k + y * k
      right x y = mul_comm (x + y) k ∙ mul-add k x y ∙ ap (λ (z : ℕ). z + k * y) (mul_comm k x) ∙ ap (λ (z : ℕ). x * k + z) (mul_comm k y)

  scaled : (x : ℤ) (a b : ℕ) → Minus x a b → Minus (x *ℤ pos k) (a * k) (b * k)
  scaled (pos n) a b h = times-over n a b h
  scaled (negsuc n) a b h = negated (pos (suc n * k)) (b * k) (a * k) (times-over (suc n) b a h)

pub diff-times : {x : ℤ} {a b : ℕ} → Diff x a b → (k : ℕ) → Diff (x *ℤ pos k) (a * k) (b * k)
diff-times {x} {a} {b} h k = record { is = scaled k x a b h.is }

-- ---- conclusions

equal : (x y : ℤ) (a b c d : ℕ) → Minus x a b → Minus y c d → a + d ≡ c + b → x ≡ y
equal (pos m) (pos n) a b c d h k e = ap pos (omega arith)
equal (pos m) (negsuc n) a b c d h k e = absurd (let z : 0 < 0 = omega arith in omega arith)
equal (negsuc m) (pos n) a b c d h k e = absurd (let z : 0 < 0 = omega arith in omega arith)
equal (negsuc m) (negsuc n) a b c d h k e = ap negsuc (omega arith)

pub diff-eq : {x y : ℤ} {a b c d : ℕ} → Diff x a b → Diff y c d → a + d ≡ c + b → x ≡ y
diff-eq {x} {y} {a} {b} {c} {d} h k e = equal x y a b c d h.is k.is e

pub diff-same : {x : ℤ} {a b c d : ℕ} → Diff x a b → Diff x c d → a + d ≡ c + b
diff-same {x} {a} {b} {c} {d} h k = same x a b c d h.is k.is
  where
    same : (x : ℤ) (a b c d : ℕ) → Minus x a b → Minus x c d → a + d ≡ c + b
    same (pos n) a b c d h k = omega arith
    same (negsuc n) a b c d h k = omega arith

-- the test of order, by the numbers' own
order : (x y : ℤ) (a b c d : ℕ) → Minus x a b → Minus y c d → lt_z x y ≡ ltb (a + d) (c + b)
order (pos m) (pos n) a b c d h k = go (ltb m n) refl
  where
    go : (t : Bool) → ltb m n ≡ t → t ≡ ltb (a + d) (c + b)
    go true e = let l = ltb-true m n e in sym (lt-ltb (a + d) (c + b) (omega arith))
    go false e = let l = ltb-false m n e in sym (le-ltb (a + d) (c + b) (omega arith))
order (pos m) (negsuc n) a b c d h k = sym (le-ltb (a + d) (c + b) (omega arith))
order (negsuc m) (pos n) a b c d h k = sym (lt-ltb (a + d) (c + b) (omega arith))
order (negsuc m) (negsuc n) a b c d h k = go (ltb n m) refl
  where
    go : (t : Bool) → ltb n m ≡ t → t ≡ ltb (a + d) (c + b)
    go true e = let l = ltb-true n m e in sym (lt-ltb (a + d) (c + b) (omega arith))
    go false e = let l = ltb-false n m e in sym (le-ltb (a + d) (c + b) (omega arith))

pub diff-order : {x y : ℤ} {a b c d : ℕ} → Diff x a b → Diff y c d → lt_z x y ≡ ltb (a + d) (c + b)
diff-order {x} {y} {a} {b} {c} {d} h k = order x y a b c d h.is k.is

pub diff-lt : {x y : ℤ} {a b c d : ℕ} → Diff x a b → Diff y c d → lt_z x y ≡ true → a + d < c + b
diff-lt {a = a} {b} {c} {d} h k e = ltb-true (a + d) (c + b) (sym (diff-order h k) ∙ e)

pub diff-le : {x y : ℤ} {a b c d : ℕ} → Diff x a b → Diff y c d → lt_z x y ≡ false → c + b ≤ a + d
diff-le {a = a} {b} {c} {d} h k e = ltb-false (a + d) (c + b) (sym (diff-order h k) ∙ e)

pub lt-diff : {x y : ℤ} {a b c d : ℕ} → Diff x a b → Diff y c d → a + d < c + b → lt_z x y ≡ true
lt-diff {a = a} {b} {c} {d} h k l = diff-order h k ∙ lt-ltb (a + d) (c + b) l

pub le-diff : {x y : ℤ} {a b c d : ℕ} → Diff x a b → Diff y c d → c + b ≤ a + d → lt_z x y ≡ false
le-diff {a = a} {b} {c} {d} h k l = diff-order h k ∙ le-ltb (a + d) (c + b) l

-- the magnitude
pub abs_diff : {x : ℤ} {a b : ℕ} → Diff x a b → (n : ℕ) → a ≤ b + n → b ≤ a + n → nat_abs x ≤ n
abs_diff {x} {a} {b} h n p q = go x h.is
  where
    go : (x : ℤ) → Minus x a b → nat_abs x ≤ n
    go (pos m) e = omega arith
    go (negsuc m) e = omega arith

pub diff-abs : {x : ℤ} {a b : ℕ} → Diff x a b → (a ≤ b + nat_abs x) × (b ≤ a + nat_abs x)
diff-abs {x} {a} {b} h = go x h.is
  where
    go : (x : ℤ) → Minus x a b → (a ≤ b + nat_abs x) × (b ≤ a + nat_abs x)
    go (pos m) e = (omega arith, omega arith)
    go (negsuc m) e = (omega arith, omega arith)

-- ---- division rounded down

-- what is left of z / d rounded down
abbrev pub left : ℤ → ℕ → ℕ
left (pos n) d = n % d
left (negsuc n) d = d - suc (n % d)

left_lt : (z : ℤ) (d : ℕ) → 0 < d → left z d < d
left_lt (pos n) d p = mod-lt n p
left_lt (negsuc n) d p = let h = mod-lt n p in omega arith

-- d times the quotient, and what is left, is z
pub floor-law : (z : ℤ) (d : ℕ) → 0 < d → (z ≡ shr_z z d *ℤ pos d +ℤ pos (left z d)) × (left z d < d)
floor-law (pos n) d p = (ap pos (sym (div-add-mod' n d)), left_lt (pos n) d p)
floor-law (negsuc n) d p =
    let h = mod-lt n p in
    let e = div-add-mod' n d in
    let m = mul_comm (suc (n / d)) d in
    let q : suc (n / d) * d ≡ n / d * d + d = one_more (n / d) d in (
      equal (negsuc n) (negsuc (n / d) *ℤ pos d +ℤ pos (d - suc (n % d))) 0 (suc n) (0 + (d - suc (n % d))) (suc (n / d) * d + 0)
          (omega arith)
          (plus (negsuc (n / d) *ℤ pos d) (pos (d - suc (n % d))) 0 (suc (n / d) * d) (d - suc (n % d)) 0 (negated (pos (suc (n / d) * d)) (suc (n / d) * d) 0 (omega arith)) (omega arith))
          (omega arith),
      left_lt (negsuc n) d p,
    )
  where
    one_more : (x d : ℕ) → suc x * d ≡ x * d + d
    one_more x d = omega arith
