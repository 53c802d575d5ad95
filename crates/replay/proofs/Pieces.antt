-- Samples added to a piece.
use Rattle.std.proofs.Common.{ℕ, ◌≡◌, ◌+◌, ◌-◌, ◌≤◌, List, ◌++◌, length, take, drop, arith, sym, ap, ◌∙◌}
use Prim.Native.Nat.{min}
use Rattle.std.proofs.lemmas.List.{take_min, length-take-le, length-drop}
use Rattle.std.proofs.lemmas.Slice.{take-put_mid}
use Rattle.std.proofs.Math.Seq.{take-append-add}
use borrow.Rule.Slice.PartMut.{put_mid}

-- m elements from place c on are m
pub length-part : {A : Type 0} (s : List A) (c m : ℕ) → c + m ≤ length s → length (take (c + m - c) (drop c s)) ≡ m
length-part s c m h =
    let d : length (drop c s) ≡ length s - c = length-drop c s in
    length-take-le (c + m - c) (drop c s) (omega (arith, d)) ∙ omega arith

-- m samples stand after c others in room for n: as many of xs as there is room for
pub piece_grown : {A : Type 0} (s xs ys : List A) (c n m : ℕ) → c ≤ n → n ≡ length s → m ≡ min (n - c) (length xs) → ys ≡ take m xs
    → take (c + m) (put_mid c (c + m - c) s ys) ≡ take n (take c s ++ xs)
piece_grown {A = A} s xs ys c n m h e f g =
    let few : length (take m xs) ≡ m = length-take-le m xs (omega arith) in
    let a : length ys ≡ m = ap length g ∙ few in
    let b : length (take c s) ≡ c = length-take-le c s (omega arith) in
    let k : ys ≡ take (n - c) xs = g ∙ ap (λ (i : ℕ). take i xs) f ∙ take_min (n - c) xs in
    let z : length (take c s) + (n - c) ≡ n = omega arith in
    take-put_mid c (c + m - c) s ys (c + m) (omega arith) (omega arith)
    ∙ ap (λ (y : List A). take c s ++ y) k
    ∙ sym (take-append-add (take c s) xs (n - c))
    ∙ ap (λ (i : ℕ). take i (take c s ++ xs)) z
