-- What is worked out once is what the plain definitions work out.
use Rattle.std.proofs.Common.{◌≡◌, ℕ, zero, suc, ◌+◌, ◌*◌, ◌≤◌, Bool, true, false, cond, not, eqb, List, length, get_or, set, map, le_refl, ◌+ℤ◌, refl, ap, ◌∙◌, ap₂, mul-one, arith}
use lib.Ieee.{Float, nan, inf, fin, binary64, unlike, neg, add, of_bits}
use lib.IntN.{+ℤ_idr}
use Rattle.std.proofs.lemmas.List.{get_or-map}
use Rattle.float.specs.FusedMultiplyAdd.{times, fused_multiply_add}
use Rattle.coefficients.specs.declared.contrasts.Best.{Best}
use Rattle.coefficients.specs.declared.clusters.Cluster.{Cluster}
use Rattle.coefficients.specs.declared.merging.Record.{Record}
use Rattle.coefficients.specs.declared.merging.RecordTerms.{RecordTerms}
use Rattle.coefficients.specs.declared.merging.Side.{Side}
use Rattle.coefficients.specs.declared.merging.Vec3.{Vec3}
use Rattle.coefficients.specs.declared.merging.VectorTerms.{VectorTerms}
use Rattle.coefficients.specs.Constants.{f1, ◌+f◌, fma}
use Rattle.coefficients.specs.Analysis.{contrast, matrix_filter}
use Rattle.coefficients.specs.Clusters.{blank, blank_cluster, better, least, joined, add_to_nearest, plus3}
use Rattle.coefficients.specs.inner.SharedTerms.{vector_terms, record_terms, record_side, terms_contrast, blank_terms, gone_through, least_by_terms}

-- ---- products

unlike-plus : (s : Bool) → unlike s false ≡ s
unlike-plus true = refl
unlike-plus false = refl

-- x times 1
times-one : (x : Float) → times x f1 ≡ x
unfolding times of_bits
times-one nan = refl
times-one (inf s) = ap inf (unlike-plus s)
times-one (fin s m e) = rw (unlike-plus s, mul-one, +ℤ_idr)

unlike-not : (s t : Bool) → unlike (not s) (not t) ≡ unlike s t
unlike-not true true = refl
unlike-not true false = refl
unlike-not false true = refl
unlike-not false false = refl

-- the product of two negated numbers
times-neg : (x y : Float) → times (neg x) (neg y) ≡ times x y
unfolding times neg
times-neg nan y = refl
times-neg (inf s) nan = refl
times-neg (inf s) (inf t) = ap inf (unlike-not s t)
times-neg (inf s) (fin t n d) = ap (λ (b : Bool). cond (eqb n 0) nan (inf b)) (unlike-not s t)
times-neg (fin s m e) nan = refl
times-neg (fin s m e) (inf t) = ap (λ (b : Bool). cond (eqb m 0) nan (inf b)) (unlike-not s t)
times-neg (fin s m e) (fin t n d) = ap (λ (b : Bool). fin b (m * n) (e +ℤ d)) (unlike-not s t)

fma-one : (x z : Float) → fma x f1 z ≡ x +f z
unfolding fused_multiply_add
fma-one x z = ap (λ (w : Float). add binary64 w z) (times-one x)

fma-neg : (x y z : Float) → fma (neg x) (neg y) z ≡ fma x y z
unfolding fused_multiply_add
fma-neg x y z = ap (λ (w : Float). add binary64 w z) (times-neg x y)

-- ---- contrasts and filters

-- a record's part in its contrasts, by its own quotient
abbrev pub own_side : Record → Side
own_side b = record_side b (record_terms b).val

pub contrast-terms : (a : Vec3) (b : Record) → terms_contrast (vector_terms a) (own_side b) ≡ contrast a b
unfolding terms_contrast vector_terms record_side record_terms contrast
contrast-terms a b = refl

pub filter-terms : (b : Record) → ◌≡◌ {A = Vec3} (record { x0 = f1; x1 = (record_terms b).d1; x2 = (record_terms b).d2 }) (matrix_filter b)
unfolding record_terms matrix_filter
filter-terms b = rw (fma-neg b.v2 b.v1 (neg b.v1), fma-neg b.v2 (neg b.v2) f1, fma-one, fma-one)

-- ---- the vectors' terms

-- the first k of some vectors by their terms
least-terms : (vs : List Vec3) (r : Record) (k : ℕ) → k ≤ length vs → least_by_terms (map vector_terms vs) (own_side r) k ≡ least vs r k
unfolding gone_through least
least-terms vs r zero h = refl
least-terms vs r (suc k) h =
    ap₂ (λ (b : Best) (v : VectorTerms). better b (terms_contrast v (own_side r)) k) (least-terms vs r k (omega arith)) (get_or-map vector_terms vs k blank blank_terms (omega arith))
    ∙ ap (λ (x : Float). better (least vs r k) x k) (contrast-terms (get_or vs k blank) r)

-- one record joins
unfoldable pub add_to_nearest_by_terms : List VectorTerms → ℕ → List Cluster → Record → List Cluster
add_to_nearest_by_terms vs n cs r =
    let q = record_terms r in
    let i = (least_by_terms vs (record_side r q.val) n).index in
    let c = get_or cs i blank_cluster in
    set cs i (record { count = c.count + 1; sum = plus3 c.sum (record { x0 = f1; x1 = q.d1; x2 = q.d2 }) })

pub added-terms : (vs : List Vec3) (cs : List Cluster) (r : Record) → add_to_nearest_by_terms (map vector_terms vs) (length vs) cs r ≡ add_to_nearest vs (length vs) cs r
unfolding add_to_nearest_by_terms add_to_nearest joined
added-terms vs cs r = rw (least-terms vs r (length vs) (le_refl (length vs)), filter-terms r)

-- clusters with one record more, by the parts that are worked out in turn
pub added_is : (ts : List VectorTerms) (m : ℕ) (cs : List Cluster) (r : Record) (q : RecordTerms) (i : ℕ) (v : Vec3) → q ≡ record_terms r → i ≡ (least_by_terms ts (record_side r q.val) m).index
    → v ≡ plus3 (get_or cs i blank_cluster).sum (record { x0 = f1; x1 = q.d1; x2 = q.d2 })
    → set cs i (record { count = (get_or cs i blank_cluster).count + 1; sum = v }) ≡ add_to_nearest_by_terms ts m cs r
unfolding add_to_nearest_by_terms
added_is ts m cs r q i v a b c = simp (← a, ← b, ← c)
