-- A frame in a part of an image is that frame of the image.
use mathlib.Core.List.{List, ◌∷◌, foldl}
use mathlib.Core.Path.{◌≡◌, refl, ap, ap₂, ◌∙◌}
use Prim.Native.Nat.{ℕ, zero, suc, ◌+◌, ◌*◌, ◌/◌, ◌%◌, ◌≤◌, ◌<◌}
use native.Mathlib.Nat.{add-suc}
use native.Mathlib.Omega.{arith}
use lib.IntN.{ℤ}
use lib.ListN.{take, drop, get_or}
use lib.Seq.{get_or-take, get_or-drop}
use Rattle.block.specs.Frame.{Playing, nibble_at, take_nibble}
use Rattle.block.specs.inner.Frames.{nibbles_from, play_frame}

-- m bytes from byte o on
module _ (l : List ℕ) (o m : ℕ) where
  pub part_at : (i : ℕ) → i < m → get_or (take m (drop o l)) i 0 ≡ get_or l (o + i) 0
  part_at i h = get_or-take m (drop o l) i 0 h ∙ get_or-drop o l i 0

  nibble-part : (a : ℕ) → suc a ≤ 2 * m → nibble_at (take m (drop o l)) a ≡ nibble_at l (2 * o + a)
  unfolding nibble_at
  nibble-part a h =
      let e : (2 * o + a) % 2 ≡ a % 2 = omega arith in
      let f : (2 * o + a) / 2 ≡ o + a / 2 = omega arith in
      rw (part_at (a / 2) (omega arith), e, f)

  nibbles-part : (a n : ℕ) → a + n ≤ 2 * m → nibbles_from (take m (drop o l)) a n ≡ nibbles_from l (2 * o + a) n
  unfolding nibbles_from
  nibbles-part a zero h = refl
  nibbles-part a (suc n) h =
      ap₂ (λ (x : ℕ) (xs : List ℕ). x ∷ xs) (nibble-part a (omega arith))
      (nibbles-part (suc a) n (omega arith) ∙ ap (λ (x : ℕ). nibbles_from l x n) (add-suc (2 * o) a))

  pub frame-part : (at count : ℕ) (cs : List ℤ) (p : Playing) → 2 * at + 2 + count ≤ 2 * m
      → play_frame (take m (drop o l)) at count cs p ≡ play_frame l (o + at) count cs p
  unfolding play_frame
  frame-part at count cs p h =
      let e : 2 * o + (2 * at + 2) ≡ 2 * (o + at) + 2 = omega arith in
      ap (foldl (take_nibble cs) p) (nibbles-part (2 * at + 2) count h ∙ ap (λ (x : ℕ). nibbles_from l x count) e)
