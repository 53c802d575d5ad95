-- Whatever the records are, a NaN among them too: a coefficient is within its limit, or is -32768.
use Rattle.std.proofs.Common.{◌≡◌, ℕ, ◌<◌, T, ◌⊎◌, List, get_or, ℤ, negsuc, refl, ap, ◌∙◌, inl, inr, zero-le}
use lib.Ieee.{Float, nan, inf, fin, binary64, fits, neg, mul, add, lt, eq, le, ne, of_bits, to_signed, round}
use Rattle.float.specs.FusedMultiplyAdd.{times, fused_multiply_add}
use Rattle.float.specs.Operations.{negative, is_less, maximum_number, round_to_integral_ties_to_away}
use Rattle.float.proofs.Sizes.{Number}
use Rattle.float.proofs.Bounds.{Upto, upto-fma}
use Rattle.coefficients.specs.Constants.{f0, f1, fma}
use Rattle.coefficients.specs.Analysis.{within_one, finish_record, quotient, merge_finish_record}
use Rattle.coefficients.specs.Clusters.{blank, blank_cluster, mean, with_one, made, gather, vectors}
use Rattle.coefficients.specs.CoefficientLimits.{Within, OfPair}
use Rattle.coefficients.specs.Finish.{coefficient, record_coefficients}
use Rattle.coefficients.proofs.Bounded.{Under, within-one-under, under-upto, quotient_fits, coefficient-size}
use Rattle.coefficients.proofs.EachCoefficient.{vectors-each, finish-each}
use Rattle.coefficients.specs.declared.merging.Vec3.{Vec3}
use Rattle.coefficients.specs.declared.merging.Record.{Record}

either_number : (x : Float) → (x ≡ nan) ⊎ Number x
either_number nan = inl refl
either_number (inf s) = inr tt
either_number (fin s m e) = inr tt

within-one-nan : within_one nan ≡ nan
unfolding within_one le lt eq of_bits neg
within-one-nan = refl

within-one-any : (x : Float) → T (fits binary64 x) → (within_one x ≡ nan) ⊎ Under (within_one x)
within-one-any x t = elim (either_number x) [ inl e ↦ inl (ap within_one e ∙ within-one-nan) | inr n ↦ inr (within-one-under x n t) ]

fma-nan : (x y z : Float) → (x ≡ nan) ⊎ (y ≡ nan) → fma x y z ≡ nan
unfolding fused_multiply_add times add
fma-nan x y z (inl e) = ap (λ (w : Float). fma w y z) e
fma-nan nan y z (inr e) = refl
fma-nan (inf s) y z (inr e) = ap (λ (w : Float). fma (inf s) w z) e
fma-nan (fin s m i) y z (inr e) = ap (λ (w : Float). fma (fin s m i) w z) e

pub record Either (a b : Float) : Type 0 where
  pub first : (a ≡ nan) ⊎ Upto a 1
  pub second : (b ≡ nan) ⊎ Under b

finish-any : (a b : Float) → T (fits binary64 a) → T (fits binary64 b) → Either (finish_record a b).v1 (finish_record a b).v2
unfolding finish_record
finish-any a b s t = record {
  first = elim (within-one-any b t) [
    | inl e ↦ inl (fma-nan (within_one b) (within_one a) (within_one a) (inl e))
    | inr q ↦ elim (within-one-any a s) [
      | inl e ↦ inl (fma-nan (within_one b) (within_one a) (within_one a) (inr e))
      | inr p ↦ inr (upto-fma 1 (under-upto q) (under-upto p) (under-upto p) tt tt tt)
    ]
  ];
  second = within-one-any b t;
}

merge-any : (s : Vec3) → Either (merge_finish_record s).v1 (merge_finish_record s).v2
unfolding merge_finish_record
merge-any s =
    let d1 = quotient s.x0 (add binary64 f0 s.x1) in
    let val = mul binary64 s.x0 (fma d1 (neg d1) f1) in
    let e2 = add binary64 (fma d1 s.x1 f0) s.x2 in
    finish-any d1 (quotient val e2) (quotient_fits s.x0 (add binary64 f0 s.x1)) (quotient_fits val e2)

-- ---- a NaN's coefficient
nan-coefficient : coefficient nan ≡ negsuc 32767
unfolding coefficient neg mul lt maximum_number is_less negative ne eq round_to_integral_ties_to_away round to_signed of_bits
nan-coefficient = refl

first_any : (v : Float) → (v ≡ nan) ⊎ Upto v 1 → Within (coefficient v) 4096
first_any v (inl e) = inr (ap coefficient e ∙ nan-coefficient)
first_any v (inr h) = inl (coefficient-size v 1 h tt)

second-any : (v : Float) → (v ≡ nan) ⊎ Under v → Within (coefficient v) 2048
second-any v (inl e) = inr (ap coefficient e ∙ nan-coefficient)
second-any v (inr h) = inl (coefficient-size v 0 (under-upto h) tt)

abbrev OfVec : Vec3 → Type 0
OfVec v = Either v.x1 v.x2

made-any : (rs : List Record) (ws : List Vec3) (i : ℕ) → i < 8 → OfVec (made (gather ws 8 rs) i)
unfolding made with_one
made-any rs ws i s = merge-any (let c = get_or (gather ws 8 rs) i blank_cluster in mean c.sum c.count)

-- a limit or -32768, at each pair
pub finish-any-store : (rs : List Record) (i : ℕ) → i < 8 → OfPair (λ (c : ℤ). Within c 4096) (λ (c : ℤ). Within c 2048) (record_coefficients rs) i
finish-any-store rs =
    finish-each (λ (c : ℤ). Within c 4096) (λ (c : ℤ). Within c 2048) (inl zero-le) (inl zero-le) rs
    (λ (j : ℕ) (s : j < 8).
    let v = vectors-each OfVec rs (made-any rs) j s in
    (first_any (get_or (vectors rs) j blank).x1 v.first, second-any (get_or (vectors rs) j blank).x2 v.second))
