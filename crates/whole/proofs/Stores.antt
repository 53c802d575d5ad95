-- Laws of runs of stores, `sets`, and of joined lists.
use Prim.Native.Nat.{ℕ, suc, ◌+◌, ◌-◌, ◌≤◌, ◌<◌}
use mathlib.Core.Path.{◌≡◌, refl, sym, ap, ◌∙◌}
use mathlib.Core.List.{List, [], ◌∷◌, ◌++◌, append_assoc, append-nil}
use native.Mathlib.Nat.{add-zero, zero-add, add-suc, suc-add, add-sub_of_le}
use native.Mathlib.Omega.{arith}
use native.Mathlib.Numerals.{add-one}
use lib.ListN.{length, take, drop, set, get_or, replicate, length-append, length-drop, length-set, length-replicate, replicate-append-replicate, drop_of_length-le}
use lib.Seq.{sets, sets-eq, set_at, append_snoc, take-suc, take_all, length-take-le, set-append_left, take_at, take-append-add, take-append_seam, drop-append_seam, drop-drop}

module _ {A : Type 0} where
  -- two runs one after the other are one run
  pub sets-append : (l : List A) (i : ℕ) (u v : List A) → sets l i (u ++ v) ≡ sets (sets l i u) (i + length u) v
  sets-append l i [] v = rw add-zero
  sets-append l i (a ∷ u) v = rw (add-suc, ← suc-add, sets-append (set l i a) (suc i) u v)

  -- the same, where the second run starts at a place that is known to be there
  pub sets_then : (l : List A) (i n : ℕ) (u v : List A) → n ≡ i + length u → sets (sets l i u) n v ≡ sets l i (u ++ v)
  sets_then l i n u v e = ap (λ (k : ℕ). sets (sets l i u) k v) e ∙ sym (sets-append l i u v)

  -- one store more at the end of a run
  pub sets-snoc : (l : List A) (i : ℕ) (u : List A) (a : A) → sets l i (u ++ a ∷ []) ≡ set (sets l i u) (i + length u) a
  sets-snoc l i u a = sets-append l i u (a ∷ [])

  -- a run over a part of the list that is as long
  pub sets-part : (p : List A) (i : ℕ) (v w q : List A) → length p ≡ i → length w ≡ length v → sets (p ++ (w ++ q)) i v ≡ p ++ (v ++ q)
  sets-part p i [] [] q e f = refl
  sets-part p i [] (b ∷ w) q e f = absurd (omega arith)
  sets-part p i (a ∷ v) [] q e f = absurd (omega arith)
  sets-part p i (a ∷ v) (b ∷ w) q e f =
      ap (λ (l : List A). sets l (suc i) v) (set_at p b (w ++ q) a i e ∙ sym (append_snoc p a (w ++ q)))
      ∙ sets-part (p ++ (a ∷ [])) (suc i) v w q (simp length-append (omega arith)) (omega arith)
      ∙ append_snoc p a (v ++ q)

  -- a turn of a loop that stores the elements of b one after the other
  pub sets-take : (d : A) (l : List A) (i : ℕ) (b : List A) (j : ℕ) → j < length b
      → set (sets l i (take j b)) (i + j) (get_or b j d) ≡ sets l i (take (j + 1) b)
  sets-take d l i b j h =
      ap (λ (k : ℕ). set (sets l i (take j b)) (i + k) (get_or b j d)) (sym (length-take-le j b (omega arith)))
      ∙ sym (sets-snoc l i (take j b) (get_or b j d))
      ∙ ap (λ (v : List A). sets l i v) (sym (take-suc b j d h))
      ∙ ap (λ (k : ℕ). sets l i (take k b)) (sym (add-one j))

  -- a turn of a loop that stores one value again and again
  pub sets-replicate : (l : List A) (i j : ℕ) (a : A) → set (sets l i (replicate j a)) (i + j) a ≡ sets l i (replicate (j + 1) a)
  sets-replicate l i j a =
      ap (λ (k : ℕ). set (sets l i (replicate j a)) (i + k) a) (sym (length-replicate j a))
      ∙ sym (sets-snoc l i (replicate j a) a)
      ∙ ap (λ (v : List A). sets l i v) (replicate-append-replicate j 1 a)

  set-right : (p l : List A) (i : ℕ) (a : A) → set (p ++ l) (length p + i) a ≡ p ++ set l i a
  set-right [] l i a = rw zero-add
  set-right (x ∷ p) l i a = rw suc-add (ap (λ (r : List A). x ∷ r) (set-right p l i a))

  -- stores past the first part
  sets-right : (p l : List A) (i : ℕ) (v : List A) → sets (p ++ l) (length p + i) v ≡ p ++ sets l i v
  sets-right p l i [] = refl
  sets-right p l i (a ∷ v) =
      ap (λ (r : List A). sets r (suc (length p + i)) v) (set-right p l i a)
      ∙ ap (λ (k : ℕ). sets (p ++ set l i a) k v) (sym (add-suc (length p) i))
      ∙ sets-right p (set l i a) (suc i) v

  pub sets-right-at : (p l : List A) (n i : ℕ) (v : List A) → n ≡ length p + i → sets (p ++ l) n v ≡ p ++ sets l i v
  sets-right-at p l n i v e = ap (λ (k : ℕ). sets (p ++ l) k v) e ∙ sets-right p l i v

  -- stores within the first part
  pub sets-left : (p l : List A) (i : ℕ) (v : List A) → i + length v ≤ length p → sets (p ++ l) i v ≡ sets p i v ++ l
  sets-left p l i [] h = refl
  sets-left p l i (a ∷ v) h =
      ap (λ (r : List A). sets r (suc i) v) (set-append_left p l i a (omega arith))
      ∙ sets-left (set p i a) l (suc i) v (simp length-set (omega arith))

  pub take-replicate : (k n : ℕ) (a : A) → k ≤ n → take k (replicate n a) ≡ replicate k a
  take-replicate k n a h =
      ap (λ (m : ℕ). take k (replicate m a)) (sym (add-sub_of_le h))
      ∙ ap (λ (l : List A). take k l) (sym (replicate-append-replicate k (n - k) a))
      ∙ take_at (replicate k a) (replicate (n - k) a) k (length-replicate k a)

  -- a list filled up to t elements with one value
  pub fill : (t : ℕ) (a : List A) (z : A) → length a ≤ t → take t (a ++ replicate t z) ≡ a ++ replicate (t - length a) z
  fill t a z h =
      ap (λ (k : ℕ). take k (a ++ replicate t z)) (sym (add-sub_of_le h))
      ∙ take-append-add a (replicate t z) (t - length a)
      ∙ ap (λ (r : List A). a ++ r) (take-replicate (t - length a) t z (omega arith))

  -- stores at the first of the values that fill
  pub fill-set : (t : ℕ) (a v : List A) (z : A) → length a + length v ≤ t
      → sets (a ++ replicate (t - length a) z) (length a) v ≡ (a ++ v) ++ replicate (t - length (a ++ v)) z
  fill-set t a v z h =
      let e : t - length a ≡ length v + (t - (length a + length v)) = omega arith in
      ap (λ (k : ℕ). sets (a ++ replicate k z) (length a) v) e
      ∙ ap (λ (r : List A). sets (a ++ r) (length a) v) (sym (replicate-append-replicate (length v) (t - (length a + length v)) z))
      ∙ sets-part a (length a) v (replicate (length v) z) (replicate (t - (length a + length v)) z) refl (length-replicate (length v) z)
      ∙ sym (append_assoc a v _)
      ∙ ap (λ (k : ℕ). (a ++ v) ++ replicate (t - k) z) (sym (length-append a v))

  -- ---- runs of stores from the start

  pub spread : (vs l : List A) → length vs ≤ length l → sets l 0 vs ≡ vs ++ drop (length vs) l
  spread vs l h =
      let z : 0 + length vs ≡ length vs = omega arith in
      sets-eq vs l 0 (omega arith) ∙ rw z

  -- a run stored in the part after a run, and the two in the whole
  pub part-sets : (l u v : List A) → length u + length v ≤ length l
      → take (length u) (sets l 0 u) ++ sets (drop (length u) (sets l 0 u)) 0 v ≡ sets l 0 (u ++ v)
  part-sets l u v h =
      let d = length-drop (length u) l in
      let n = length-append u v in
      rw (
        spread u l (omega arith),
        take-append_seam u (drop (length u) l),
        drop-append_seam u (drop (length u) l),
        spread v (drop (length u) l) (omega (arith, d, h)),
        drop-drop (length v) (length u) l,
      )
      (sym (spread (u ++ v) l (omega (arith, n, h)) ∙ rw n (append_assoc u v (drop (length u + length v) l))))

  -- a part to the end, beyond which nothing lies
  pub part-all : (l : List A) (at : ℕ) → take (length l - at) (drop at l) ≡ drop at l
  part-all l at = let d = length-drop at l in take_all (length l - at) (drop at l) (omega arith)

  pub part_end : (l : List A) (at : ℕ) → drop (length l - at) (drop at l) ≡ []
  part_end l at = let d = length-drop at l in drop_of_length-le (drop at l) {i = length l - at} (omega arith)

  -- the same as a call leaves it that was lent the part from a place on
  pub part_then : (l cur u v ys : List A) (at : ℕ) → cur ≡ sets l 0 u → length u ≡ at → at + length v ≤ length l → ys ≡ sets (take (length cur - at) (drop at cur)) 0 v
      → take at cur ++ (ys ++ drop (length cur - at) (drop at cur)) ≡ sets l 0 (u ++ v)
  part_then l cur u v ys at e n h f =
      let g : ys ≡ sets (drop at cur) 0 v = rw (part-all cur at) at f in
      ap (λ (x : List A). take at cur ++ (ys ++ x)) (part_end cur at)
      ∙ ap (λ (x : List A). take at cur ++ x) (append-nil ys ∙ g)
      ∙ rw (e, ← n) (part-sets l u v (omega (arith, n, h)))
