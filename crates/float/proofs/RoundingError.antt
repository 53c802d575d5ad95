-- Rounding moves a value that is not large by little.
use Rattle.std.proofs.Common.{◌≡◌, ℕ, suc, ◌+◌, ◌-◌, ◌*◌, ◌/◌, ◌%◌, ◌^◌, ◌<◌, ◌≤◌, Bool, true, false, cond, not, ◌&&◌, T, ltb, sym, ap, ◌∙◌, subst, le_trans, le_of_eq, lt_of_le_of_lt, mul-le-mul_right, mod-lt, mul_assoc, mul_comm, div-lt_iff_lt-mul, mul-pos, div-add-mod', le_of_mul-le-mul_right, arith, lit<, lit≤, ltb→lt, nltb→le, pow_pos, pow_mono, pow-add}
use mathlib.Core.Bool.{beq}
use Prim.Native.Nat.{compare}
use native.Mathlib.Nat.{pow-succ'}
use lib.Pow.{pow-lt}
use lib.Ieee.{Float, Format, binary64, prec, emax, low, size, round, sum}
use lib.Ieee.Fits.{two, round_is, nearest-le}
use lib.Ieee.Exact.{HasValue, units_val}
use lib.Ieee.Digits.{size-le}
use lib.Ieee.Nearest.{closest, nearest-ge}
use lib.Ieee.Order.{drop, kept}
use lib.Ieee.Scale.{grid, overflow}
use Rattle.float.proofs.InUnits.{plus, minus, over, under, InUnits, in-units, sign-and-size}

-- a and b differ by at most e
pub record Close (a b e : ℕ) : Type 0 where
  pub le : a ≤ b + e
  pub ge : b ≤ a + e

-- ---- one rounding

closest-close : (a b : ℕ) → 0 < b → Close (closest a b * b) a b
closest-close a b B =
    let q = a / b in
    let o = compare (a % b * 2) b in
    let lo : q * b ≤ closest a b * b = mul-le-mul_right b (nearest-ge q o) in
    let hi : closest a b * b ≤ suc q * b = mul-le-mul_right b (nearest-le q o) in
    let e : q * b + a % b ≡ a = div-add-mod' a b in
    let m : a % b < b = mod-lt a B in
    record { le = omega arith; ge = omega arith }

-- a fraction of at most 2 ^ j is moved by at most this many of the format's smallest values
unfoldable pub slack : Format → ℕ → ℕ
slack f j = 2 ^ (low f + suc j - prec f)

-- j is not too large for the format
pub record Ample (f : Format) (j : ℕ) : Type 0 where
  pub bound : j < emax f
  pub fine : slack f j ≤ 2 ^ low f

pub ample64 : Ample binary64 15
unfolding slack
ample64 = record { bound = lit< tt; fine = lit≤ tt }

module _ (f : Format) (j : ℕ) (bound : j < emax f) (s : Bool) (a c : ℕ) (C : 0 < c) (h : a ≤ 2 ^ j * c) where
  few-dropped : drop (prec f) (a * 2 ^ low f) c ≤ low f + suc j - prec f
  few-dropped =
      let w = a * 2 ^ low f / c in
      let p : 2 ^ (low f + suc j) ≡ 2 * 2 ^ j * 2 ^ low f =
      ap (λ (z : ℕ). 2 ^ z) (swap (low f) j) ∙ pow-succ' 2 (j + low f) ∙ ap (λ (z : ℕ). 2 * z) (pow-add 2 j (low f)) ∙ sym (mul_assoc 2 (2 ^ j) (2 ^ low f)) in
      let n : a * 2 ^ low f ≤ 2 ^ j * c * 2 ^ low f = mul-le-mul_right (2 ^ low f) h in
      let q : 0 < 2 ^ j * c * 2 ^ low f = mul-pos (mul-pos (pow_pos j) C) (pow_pos (low f)) in
      let r : a * 2 ^ low f < 2 ^ (low f + suc j) * c = rw p (twice (2 ^ j) c (2 ^ low f) (a * 2 ^ low f) n q) in
      fewer (size w) (low f + suc j) (prec f) (size-le w (low f + suc j) ((div-lt_iff_lt-mul C).1 r))
    where
      swap : (l j : ℕ) → l + suc j ≡ suc (j + l)
      swap l j = omega arith

      twice : (x c l n : ℕ) → n ≤ x * c * l → 0 < x * c * l → n < 2 * x * l * c
      twice x c l n p q = omega arith

      fewer : (z y p : ℕ) → z ≤ y → z - p ≤ y - p
      fewer z y p l = omega arith

  grid-close : Close (grid f a c * c) (a * 2 ^ low f) (slack f j * c)
  unfolding slack
  grid-close =
      let k = drop (prec f) (a * 2 ^ low f) c in
      let q = kept (prec f) (a * 2 ^ low f) c in
      let d = closest-close (a * 2 ^ low f) (c * 2 ^ k) (mul-pos C (pow_pos k)) in
      let e : c * 2 ^ k ≤ 2 ^ (low f + suc j - prec f) * c = le_trans (le_of_eq (mul_comm c (2 ^ k))) (mul-le-mul_right c (pow_mono few-dropped)) in
      widen q (2 ^ k) c (a * 2 ^ low f) (2 ^ (low f + suc j - prec f) * c) d.le d.ge e
    where
      widen : (q k c n e : ℕ) → q * (c * k) ≤ n + c * k → n ≤ q * (c * k) + c * k → c * k ≤ e → Close (q * k * c) n e
      widen q k c n e x y z = record { le = omega arith; ge = omega arith }

  grid-under : grid f a c < overflow f
  unfolding slack
  grid-under =
      let u = 2 ^ low f in
      let g : grid f a c * c ≤ (2 ^ j * u + slack f j) * c = total (grid f a c) c a u (slack f j) (2 ^ j) grid-close.le h in
      let k : slack f j ≤ 2 ^ j * u = le_trans (pow_mono (less (low f) j (prec f) (two f))) (le_of_eq (pow-add 2 j (low f))) in
      let e : 2 ^ (suc j + low f) ≡ 2 * 2 ^ j * u = pow-add 2 (suc j) (low f) ∙ ap (λ (z : ℕ). z * u) (pow-succ' 2 j) in
      lt_of_le_of_lt (le_trans (le_of_mul-le-mul_right g C) (le_trans (double (2 ^ j) u (slack f j) k) (le_of_eq (sym e)))) (pow-lt (last (low f) j (emax f) bound))
    where
      total : (g c a u s t : ℕ) → g * c ≤ a * u + s * c → a ≤ t * c → g * c ≤ (t * u + s) * c
      total g c a u s t p q = let r : a * u ≤ t * c * u = mul-le-mul_right u q in omega arith

      less : (l j p : ℕ) → 2 ≤ p → l + suc j - p ≤ j + l
      less l j p h = omega arith

      double : (x u y : ℕ) → y ≤ x * u → x * u + y ≤ 2 * x * u
      double x u y h = omega arith

      last : (l j m : ℕ) → j < m → suc j + l < l + suc m
      last l j m h = omega arith

  round-value : HasValue (round f s a c) s (grid f a c) (2 ^ low f)
  round-value = subst (λ (z : Float). HasValue z s (grid f a c) (2 ^ low f)) (sym (round_is f s a c)) (units_val f s (kept (prec f) (a * 2 ^ low f) c) (drop (prec f) (a * 2 ^ low f) c) grid-under)

-- r is the fraction (p - n) / c, rounded
pub record Rounded (f : Format) (j : ℕ) (r : Float) (p n c : ℕ) : Type 0 where
  pub is : InUnits f r
  pub near : Close (over f r * c + n * 2 ^ low f) (under f r * c + p * 2 ^ low f) (slack f j * c)

-- the same difference by other numbers
pub rounded-move : {f : Format} {j : ℕ} {r : Float} {p n c : ℕ} (q m : ℕ) → p + m ≡ q + n → Rounded f j r p n c → Rounded f j r q m c
rounded-move {f} {j} {r} {p} {n} {c} q m e h =
    let u = 2 ^ low f in
    let d : (p + m) * u ≡ (q + n) * u = ap (λ (z : ℕ). z * u) e in
    record { is = h.is; near = move (over f r * c) (under f r * c) (slack f j * c) u d h.near.le h.near.ge }
  where
    move : (x y k u : ℕ) → (p + m) * u ≡ (q + n) * u → x + n * u ≤ y + p * u + k → y + p * u ≤ x + n * u + k → Close (x + m * u) (y + q * u) k
    move x y k u d g h = record { le = omega arith; ge = omega arith }

module _ (f : Format) (j : ℕ) (bound : j < emax f) where
  pub round-rounded : (s : Bool) (a c : ℕ) → 0 < c → a ≤ 2 ^ j * c → Rounded f j (round f s a c) (plus s a) (minus s a) c
  unfolding over under
  round-rounded s a c C h =
      let v = round-value f j bound s a c C h in
      let k = sign-and-size f (round f s a c) s (grid f a c) v in
      record { is = in-units f (round f s a c) s (grid f a c) v; near = rw (k.sign, k.mag_is) (sided s (grid f a c) (grid-close f j bound s a c C h)) }
    where
      sided : (s : Bool) (g : ℕ) → Close (g * c) (a * 2 ^ low f) (slack f j * c) → Close (plus s g * c + minus s a * 2 ^ low f) (minus s g * c + plus s a * 2 ^ low f) (slack f j * c)
      sided true g d = record { le = omega arith; ge = omega arith }
      sided false g d = record { le = omega arith; ge = omega arith }

  pub sum-rounded : (s : Bool) (a : ℕ) (t : Bool) (b c : ℕ) → 0 < c → a + b ≤ 2 ^ j * c → Rounded f j (sum f s a t b c) (plus s a + plus t b) (minus s a + minus t b) c
  unfolding sum
  sum-rounded s a t b c C h = go s t (ltb a b) (ltb→lt a b) (nltb→le a b)
    where
      at : (s : Bool) (x p n : ℕ) → x ≤ a + b → plus s x + n ≡ p + minus s x → Rounded f j (round f s x c) p n c
      at s x p n l e = rounded-move p n e (round-rounded s x c C (le_trans l h))

      -- the sign of a difference of 0 does not count
      rest : (s : Bool) (l : b ≤ a) → Rounded f j (round f (s && ltb b a) (a - b) c) (plus s a + plus (not s) b) (minus s a + minus (not s) b) c
      rest false l = at false (a - b) (a + 0) (0 + b) (omega arith) (omega arith)
      rest true l = last (ltb b a) (nltb→le b a)
        where
          last : (w : Bool) → (T (not w) → a ≤ b) → Rounded f j (round f w (a - b) c) (0 + b) (a + 0) c
          last true k = at true (a - b) (0 + b) (a + 0) (omega arith) (omega arith)
          last false k = let g = k tt in at false (a - b) (0 + b) (a + 0) (omega arith) (omega arith)

      go : (s t w : Bool) → (T w → a < b) → (T (not w) → b ≤ a)
          → Rounded f j (cond (beq s t) (round f s (a + b) c) (cond w (round f t (b - a) c) (round f (s && ltb b a) (a - b) c))) (plus s a + plus t b) (minus s a + minus t b) c
      go false false w k l = at false (a + b) (a + b) (0 + 0) (omega arith) (omega arith)
      go true true w k l = at true (a + b) (0 + 0) (a + b) (omega arith) (omega arith)
      go false true true k l = let g = k tt in at true (b - a) (a + 0) (0 + b) (omega arith) (omega arith)
      go true false true k l = let g = k tt in at false (b - a) (0 + b) (a + 0) (omega arith) (omega arith)
      go false true false k l = rest false (l tt)
      go true false false k l = rest true (l tt)
