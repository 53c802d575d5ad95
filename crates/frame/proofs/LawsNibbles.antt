-- Laws of nibbles in bytes.
use mathlib.Core.Path.{◌≡◌, refl, ap, ◌∙◌}
use mathlib.Core.Bool.{Bool, true, false, cond}
use mathlib.Core.List.{List, [], ◌∷◌, ◌++◌}
use Prim.Native.Nat.{ℕ, zero, suc, ◌+◌, ◌-◌, ◌*◌, ◌/◌, ◌%◌, ◌≤◌, ◌<◌}
use native.Mathlib.Numerals.{add-one}
use native.Mathlib.Nat.{lt_of_not-le}
use native.Mathlib.Decide.{dec_le}
use native.Mathlib.Omega.{arith}
use lib.Dec.{ltb, eqb}
use lib.IntN.{ℤ, pos, negsuc, nat_abs}
use lib.ListN.{get_or, take, set, length, length-append, get_or-append}
use lib.Seq.{take-suc-set, get_or_at}
use borrow.Author.Tests.{lt-ltb, le-ltb, eqb-true, eqb-false}
use Rattle.whole.proofs.Differences.{diff-of, diff-pos, diff-sub, diff-eq}
use Rattle.frame.specs.Frame.{low_four, byte_of, pack_frame, nibble_at}
use Rattle.frame.specs.inner.Nibbles.{InNibble, up, down}
use Rattle.whole.specs.Whole.{signed_nibble}
use Rattle.frame.proofs.LawsOrder.{none_below}

pub nibble-size : {z : ℤ} → InNibble z → nat_abs z ≤ 8
nibble-size (up h) = omega arith
nibble-size (down h) = omega arith

pub low-lt : {z : ℤ} → InNibble z → low_four z < 16
unfolding low_four
low-lt (up h) = omega arith
low-lt (down h) = omega arith

pub pack-more : (h : ℕ) (ns : List ℤ) (k : ℕ) (out : List ℕ) (b : ℕ) → k + 1 < length out → take (k + 1) out ≡ pack_frame h ns k → b ≡ byte_of ns k
    → take ((k + 1) + 1) (set out (k + 1) b) ≡ pack_frame h ns (k + 1)
unfolding pack_frame
pack-more h ns k out b l i e =
    ap (λ (m : ℕ). take m (set out (k + 1) b)) (add-one (k + 1)) ∙ take-suc-set out (k + 1) b l ∙ rw (i, e, add-one)

-- ---- the bytes of a frame, read back

pub signed_low : {z : ℤ} → InNibble z → signed_nibble (low_four z) ≡ z
unfolding signed_nibble low_four
signed_low (up {n} h) = rw (lt-ltb n 8 h)
signed_low (down {n} h) =
    let e : ltb (15 - n) 8 ≡ false = le-ltb (15 - n) 8 (omega arith) in
    rw e (diff-eq (diff-sub (diff-pos (15 - n)) (diff-pos 16)) (diff-of (negsuc n)) (omega arith))

pub pack-length : (b : ℕ) (ns : List ℤ) (k : ℕ) → length (pack_frame b ns k) ≡ suc k
unfolding pack_frame
pack-length b ns zero = refl
pack-length b ns (suc k) = simp length-append (omega (arith, pack-length b ns k))

pub pack-head : (b : ℕ) (ns : List ℤ) (k : ℕ) → get_or (pack_frame b ns k) 0 0 ≡ b
unfolding pack_frame
pack-head b ns zero = refl
pack-head b ns (suc k) = get_or-append (pack_frame b ns k) (byte_of ns k ∷ []) 0 0 (omega (arith, pack-length b ns k)) ∙ pack-head b ns k

pub pack-byte : (b : ℕ) (ns : List ℤ) (k j : ℕ) → j < k → get_or (pack_frame b ns k) (suc j) 0 ≡ byte_of ns j
unfolding pack_frame
pack-byte b ns zero j l = absurd (none_below j l)
pack-byte b ns (suc k) j l = go (dec_le k j) (pack-byte b ns k j)
  where
    go : Dec (k ≤ j) → (j < k → get_or (pack_frame b ns k) (suc j) 0 ≡ byte_of ns j) → get_or (pack_frame b ns k ++ (byte_of ns k ∷ [])) (suc j) 0 ≡ byte_of ns j
    go (yes m) r =
        let e : k ≡ j = omega arith in
        get_or_at (pack_frame b ns k) (byte_of ns k) [] 0 (suc j) (pack-length b ns k ∙ ap suc e) ∙ ap (byte_of ns) e
    go (no m) r = get_or-append (pack_frame b ns k) (byte_of ns k ∷ []) 0 (suc j) (omega (arith, pack-length b ns k, lt_of_not-le m)) ∙ r (lt_of_not-le m)

module _ (ns : List ℤ) (in-range : (i : ℕ) → i < 14 → InNibble (get_or ns i (pos 0))) where
  pub byte-parts : (k : ℕ) → k < 7 → (byte_of ns k / 16 ≡ low_four (get_or ns (2 * k) (pos 0))) × (byte_of ns k % 16 ≡ low_four (get_or ns (2 * k + 1) (pos 0))) × (byte_of ns k < 256)
  unfolding byte_of
  byte-parts k l =
      let a = low-lt (in-range (2 * k) (omega arith)) in
      let b = low-lt (in-range (2 * k + 1) (omega arith)) in
      (omega arith, omega arith, omega arith)

  -- the nibble at each place, high nibble first
  pub nibble-at : (b i : ℕ) → i < 14 → nibble_at (pack_frame b ns 7) i ≡ low_four (get_or ns i (pos 0))
  unfolding nibble_at
  nibble-at b i l = go (eqb (i % 2) 0) refl
    where
      here : get_or (pack_frame b ns 7) (suc (i / 2)) 0 ≡ byte_of ns (i / 2)
      here = pack-byte b ns 7 (i / 2) (omega arith)

      parts : (byte_of ns (i / 2) / 16 ≡ low_four (get_or ns (2 * (i / 2)) (pos 0))) × (byte_of ns (i / 2) % 16 ≡ low_four (get_or ns (2 * (i / 2) + 1) (pos 0))) × (byte_of ns (i / 2) < 256)
      parts = byte-parts (i / 2) (omega arith)

      even : i % 2 ≡ 0 → 2 * (i / 2) ≡ i
      even e = omega arith

      odd : (i % 2 ≡ 0 → ⊥) → 2 * (i / 2) + 1 ≡ i
      odd e = omega arith

      go : (t : Bool) → eqb (i % 2) 0 ≡ t → cond t (get_or (pack_frame b ns 7) (suc (i / 2)) 0 / 16) (get_or (pack_frame b ns 7) (suc (i / 2)) 0 % 16) ≡ low_four (get_or ns i (pos 0))
      go true e = ap (λ (n : ℕ). n / 16) here ∙ parts.0 ∙ ap (λ (j : ℕ). low_four (get_or ns j (pos 0))) (even (eqb-true (i % 2) 0 e))
      go false e = ap (λ (n : ℕ). n % 16) here ∙ parts.1 ∙ ap (λ (j : ℕ). low_four (get_or ns j (pos 0))) (odd (eqb-false (i % 2) 0 e))
