-- One sample more, and one turn of the loop over a piece.
use Rattle.std.proofs.Common.{◌≡◌, ℕ, ◌+◌, ◌-◌, ◌++◌, append_assoc, drop, replicate, length-drop, take_all, ◌/◌, ◌%◌, ◌<◌, ◌≤◌, Bool, true, false, cond, eqb, List, [], ◌∷◌, length, get_or, take, set, ℤ, pos, sym, refl, ap, ◌∙◌, add-one, arith, take-suc, eq-eqb, ne_eqb, eqb-true}
use mathlib.Core.List.{foldl, foldl-append}
use lib.Ieee.{Float}
use lib.ListN.{length-replicate}
use lib.Seq.{sets-eq}
use borrow.Rule.Slice.PartMut.{put_mid}
use Rattle.std.proofs.lemmas.List.Edits.{paste_all}
use Rattle.std.specs.List.{copy_within}
use Rattle.std.proofs.lemmas.Slice.{put_mid-paste}
use Rattle.std.specs.Prelude.{Option, Some, None}
use Rattle.coefficients.specs.declared.merging.Record.{Record}
use Rattle.coefficients.specs.declared.CoefficientCalculator.{CoefficientCalculator}
use Rattle.coefficients.specs.FrameRecord.{analyse, counted}
use Rattle.coefficients.specs.Measure.{Measuring, calculator, measuring, shift, framed, push, padded}
use Rattle.coefficients.specs.inner.KeptRecord.{Kept}
use Rattle.coefficients.proofs.FrameHistories.{shift-law}

-- ---- the code's steps

-- a sample that fills its frame
pub push-full : (n r q : ℕ) (h h' : List ℤ) (s s' : List Float) (x y : ℤ) → y ≡ x → n % 14 ≡ 13
    → Kept s r (analyse (set h (14 + n % 14) y)) q s' → h' ≡ shift (set h (14 + n % 14) y)
    → measuring (calculator (n + 1) q h') s' ≡ push (measuring (calculator n r h) s) x
unfolding push framed
push-full n r q h h' s s' x y e k a d = rw (← e, eq-eqb (n % 14) 13 k, ← a.count, ← a.store, ← d)

-- a sample that does not
pub push-part : (n r : ℕ) (h : List ℤ) (s : List Float) (x y : ℤ) → y ≡ x → (n % 14 ≡ 13 → ⊥)
    → measuring (calculator (n + 1) r (set h (14 + n % 14) y)) s ≡ push (measuring (calculator n r h) s) x
unfolding push
push-part n r h s x y e k = rw (← e, ne_eqb (n % 14) 13 k)

-- ---- what the library's methods leave of a history

pub shift-is : (h : List ℤ) → length h ≡ 28 → copy_within h 14 (length h) 0 ≡ shift h
shift-is h p =
    let n : length h - 14 ≡ 14 = omega arith in
    ap (λ (k : ℕ). take k (drop 14 h) ++ drop (0 + k) h) n
    ∙ ap (λ (g : List ℤ). g ++ drop 14 h) (take_all 14 (drop 14 h) (omega (arith, length-drop 14 h)))
    ∙ sym (shift-law h p)

pub padded-is : (h zs : List ℤ) (k : ℕ) → length h ≡ 28 → k ≤ 14 → zs ≡ replicate (28 - (14 + k)) (pos 0) → put_mid (14 + k) (28 - (14 + k)) h zs ≡ padded h k
unfolding padded
padded-is h zs k p l e =
    let m : 28 - (14 + k) ≡ 14 - k = omega arith in
    let n = length-replicate (14 - k) (pos 0) in
    put_mid-paste (14 + k) (28 - (14 + k)) h zs (replicate (14 - k) (pos 0)) (14 - k) (rw m at e) (sym m) (sym n)
    ∙ paste_all h (14 + k) (replicate (14 - k) (pos 0)) (14 - k) (sym n)
    ∙ ap (λ (j : ℕ). take (14 + k) h ++ (replicate (14 - k) (pos 0) ++ drop (14 + k + j) h)) (sym n)
    ∙ sym (append_assoc (take (14 + k) h) (replicate (14 - k) (pos 0)) (drop (14 + k + length (replicate (14 - k) (pos 0))) h))
    ∙ sym (sets-eq (replicate (14 - k) (pos 0)) h (14 + k) (omega (arith, n)))

-- ---- the samples of a piece

-- a frame more has at most one record more
pub found-le : (r : ℕ) (f : Option Record) → counted r f ≤ r + 1
unfolding counted
found-le r None = omega arith
found-le r (Some x) = omega arith

pub kept-le : (s : List Float) (r : ℕ) (f : Option Record) (q : ℕ) (t : List Float) → Kept s r f q t → q ≤ r + 1
kept-le s r f q t k = omega (arith, k.count, found-le r f)

-- a sample more has at most one record for each full frame
pub push-records : (n r : ℕ) (h : List ℤ) (s : List Float) (x : ℤ) → r ≤ n / 14 → (push (measuring (calculator n r h) s) x).calculator.records ≤ (n + 1) / 14
unfolding push framed
push-records n r h s x l = go (eqb (n % 14) 13) refl
  where
    g : List ℤ
    g = set h (14 + n % 14) x

    go : (t : Bool) → eqb (n % 14) 13 ≡ t
        → (cond t (framed (n + 1) r g s) (measuring (calculator (n + 1) r g) s)).calculator.records ≤ (n + 1) / 14
    go true e = let k = eqb-true (n % 14) 13 e in let f = found-le r (analyse g) in omega arith
    go false e = omega arith

-- one sample more is counted
pub pushed-samples : (c : CoefficientCalculator) (s : List Float) (x : ℤ) → (push (measuring c s) x).calculator.samples ≡ c.samples + 1
unfolding push framed
pushed-samples c s x = go (eqb (c.samples % 14) 13)
  where
    g : List ℤ
    g = set c.history (14 + c.samples % 14) x

    go : (t : Bool) → (cond t (framed (c.samples + 1) c.records g s) (measuring (calculator (c.samples + 1) c.records g) s)).calculator.samples ≡ c.samples + 1
    go true = refl
    go false = refl

-- one turn of the loop over a piece
pub all-step : (xs : List ℤ) (i : ℕ) (z m next : Measuring) (x : ℤ) → i < length xs → x ≡ get_or xs i (pos 0) → m ≡ foldl push z (take i xs) → next ≡ push m x → next ≡ foldl push z (take (i + 1) xs)
all-step xs i z m next x l e p d =
    d ∙ ap (λ (m : Measuring). push m x) p ∙ ap (push (foldl push z (take i xs))) e
    ∙ sym (ap (foldl push z) (ap (λ (k : ℕ). take k xs) (add-one i) ∙ take-suc xs i (pos 0) l) ∙ foldl-append push z (take i xs) (get_or xs i (pos 0) ∷ []))
