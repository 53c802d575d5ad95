-- Laws of a recording cut into frames.
use mathlib.Core.Path.{◌≡◌, refl, sym, ap, ◌∙◌}
use mathlib.Core.List.{List, [], ◌∷◌, ◌++◌, append_assoc, append-nil}
use Prim.Native.Nat.{ℕ, zero, suc, ◌+◌, ◌-◌, ◌*◌, ◌/◌, ◌%◌, ◌≤◌, ◌<◌}
use native.Mathlib.Omega.{arith}
use lib.IntN.{ℤ, pos}
use lib.ListN.{length, get_or, take, drop, set, replicate, length-append, length-drop, length-replicate, drop_of_length-le}
use lib.Seq.{sets, sets-eq, take-append-le, take-append-add, take-set-lt, set_at, append_snoc, take-take, take_at, drop-append-le, drop-length, length-take-le, get_or-take, get_or-drop}
use Rattle.whole.proofs.Stores.{take-replicate}
use Rattle.whole.specs.Frames.{frame_at}

pub frame-length : (xs : List ℤ) (i : ℕ) → length (frame_at xs i) ≡ 14
unfolding frame_at
frame-length xs i = length-take-le 14 (drop (14 * i) xs ++ replicate 14 (pos 0)) (simp (length-append, length-replicate) (omega arith))

-- later samples leave a full frame as it was
pub frame-stable : (xs ys : List ℤ) (i : ℕ) → 14 * i + 14 ≤ length xs → frame_at (xs ++ ys) i ≡ frame_at xs i
unfolding frame_at
frame-stable xs ys i k =
    let long : 14 ≤ length (drop (14 * i) xs) = simp length-drop (omega arith) in
    let zs : List ℤ = replicate 14 (pos 0) in
    ap (λ (l : List ℤ). take 14 (l ++ zs)) (drop-append-le (14 * i) xs ys (omega arith))
    ∙ ap (λ (l : List ℤ). take 14 l) (append_assoc (drop (14 * i) xs) ys zs)
    ∙ take-append-le 14 (drop (14 * i) xs) (ys ++ zs) long
    ∙ sym (take-append-le 14 (drop (14 * i) xs) zs long)

-- ---- the unfinished frame

-- a sample more
pub frame-snoc : (xs : List ℤ) (x : ℤ) → set (frame_at xs (length xs / 14)) (length xs % 14) x ≡ frame_at (xs ++ (x ∷ [])) (length xs / 14)
unfolding frame_at
frame-snoc xs x =
    let r : ℕ = length xs % 14 in
    let d : List ℤ = drop (14 * (length xs / 14)) xs in
    let z : List ℤ = replicate 13 (pos 0) in
    let ld : length d ≡ length xs % 14 = length-drop (14 * (length xs / 14)) xs ∙ omega arith in
    let long : 14 ≤ length (d ++ (x ∷ z)) = simp length-append (omega arith) in
    sym (take-set-lt 14 (d ++ (pos 0 ∷ z)) r x (omega arith))
    ∙ ap (λ (l : List ℤ). take 14 l) (set_at d (pos 0) z x r ld)
    ∙ sym (take-append-le 14 (d ++ (x ∷ z)) (pos 0 ∷ []) long)
    ∙ ap (λ (l : List ℤ). take 14 l) (append_assoc d (x ∷ z) (pos 0 ∷ []) ∙ sym (append_snoc d x (replicate 14 (pos 0))))
    ∙ ap (λ (l : List ℤ). take 14 (l ++ replicate 14 (pos 0))) (sym (drop-append-le (14 * (length xs / 14)) xs (x ∷ []) (omega arith)))

-- nothing after the last sample
pub frame-none : (xs : List ℤ) (q : ℕ) → 14 * q ≡ length xs → replicate 14 (pos 0) ≡ frame_at xs q
unfolding frame_at
frame-none xs q e =
    ap (λ (l : List ℤ). take 14 (l ++ replicate 14 (pos 0))) (sym (drop-length xs) ∙ ap (λ (k : ℕ). drop k xs) (sym e))

-- it is filled with zeros already
pub frame-pad : (xs : List ℤ) → sets (frame_at xs (length xs / 14)) (length xs % 14) (replicate (14 - length xs % 14) (pos 0)) ≡ frame_at xs (length xs / 14)
unfolding frame_at
frame-pad xs =
    let fr : List ℤ = take 14 (drop (14 * (length xs / 14)) xs ++ replicate 14 (pos 0)) in
    let lf : length fr ≡ 14 = length-take-le 14 (drop (14 * (length xs / 14)) xs ++ replicate 14 (pos 0)) (simp length-append (omega arith)) in
    let lr : length (replicate (14 - length xs % 14) (pos 0)) ≡ 14 - length xs % 14 = length-replicate (14 - length xs % 14) (pos 0) in
    let r : ℕ = length xs % 14 in
    let d : List ℤ = drop (14 * (length xs / 14)) xs in
    let ld : length d ≡ length xs % 14 = length-drop (14 * (length xs / 14)) xs ∙ omega arith in
    let e : length d + (14 - length xs % 14) ≡ 14 = omega arith in
    let dl : length fr ≤ r + length (replicate (14 - r) (pos 0)) = omega arith in
    sets-eq (replicate (14 - r) (pos 0)) fr r (omega arith)
    ∙ ap (λ (l : List ℤ). take r fr ++ replicate (14 - r) (pos 0) ++ l) (drop_of_length-le fr dl)
    ∙ append-nil (take r fr ++ replicate (14 - r) (pos 0))
    ∙ ap (λ (l : List ℤ). l ++ replicate (14 - r) (pos 0)) (take-take r 14 (d ++ replicate 14 (pos 0)) (omega arith) ∙ take_at d (replicate 14 (pos 0)) r ld)
    ∙ ap (λ (l : List ℤ). d ++ l) (sym (take-replicate (14 - r) 14 (pos 0) (omega arith)))
    ∙ sym (take-append-add d (replicate 14 (pos 0)) (14 - r))
    ∙ ap (λ (k : ℕ). take k (d ++ replicate 14 (pos 0))) e

-- ---- its samples

none_more : (k i : ℕ) (d : ℤ) → get_or (replicate k d) i d ≡ d
none_more zero i d = refl
none_more (suc k) zero d = refl
none_more (suc k) (suc i) d = none_more k i d

filled_at : (xs : List ℤ) (k i : ℕ) (d : ℤ) → get_or (xs ++ replicate k d) i d ≡ get_or xs i d
filled_at [] k i d = none_more k i d
filled_at (x ∷ xs) k zero d = refl
filled_at (x ∷ xs) k (suc i) d = filled_at xs k i d

pub frame-at : (xs : List ℤ) (i j : ℕ) → j < 14 → get_or (frame_at xs i) j (pos 0) ≡ get_or xs (14 * i + j) (pos 0)
unfolding frame_at
frame-at xs i j h =
    get_or-take 14 (drop (14 * i) xs ++ replicate 14 (pos 0)) j (pos 0) h ∙ filled_at (drop (14 * i) xs) 14 j (pos 0) ∙ get_or-drop (14 * i) xs j (pos 0)
