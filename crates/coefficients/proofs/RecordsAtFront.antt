-- A store with records at its front: one record more, and the same records written again.
use Rattle.std.proofs.Common.{◌≡◌, ℕ, suc, ◌+◌, ◌*◌, ◌<◌, List, [], ◌∷◌, ◌++◌, length, set, ℤ, sym, refl, ap, ◌∙◌, append-nil, add-one, arith, set-set}
use lib.Ieee.{Float}
use lib.Seq.{sets, set_comm}
use Rattle.whole.proofs.Stores.{sets-append}
use Rattle.whole.specs.Frames.{frame_count}
use Rattle.std.specs.Prelude.{Option, Some, None}
use Rattle.coefficients.specs.declared.merging.Record.{Record}
use Rattle.coefficients.specs.FrameRecord.{stored}
use Rattle.coefficients.specs.Runs.{record_of, records_of}
use Rattle.coefficients.specs.StateOfSamples.{numbers_of, with_records, asked_of}
use Rattle.coefficients.specs.Store.{write_record}

-- ---- numbers written again

-- a number before those of a run of stores
set_first : (v l : List Float) (i j : ℕ) (a : Float) → i < j → set (sets l j v) i a ≡ sets (set l i a) j v
set_first [] l i j a h = refl
set_first (b ∷ v) l i j a h = set_first v (set l j b) i (suc j) a (omega arith) ∙ ap (λ (k : List Float). sets k (suc j) v) (set_comm l j i b a (λ e. omega arith))

-- the first numbers of a run of stores
sets-again : (u v l : List Float) (i : ℕ) → sets (sets l i (u ++ v)) i u ≡ sets l i (u ++ v)
sets-again [] v l i = refl
sets-again (a ∷ u) v l i =
    ap (λ (k : List Float). sets k (suc i) u)
    (set_first (u ++ v) (set l i a) i (suc i) a (omega arith) ∙ ap (λ (k : List Float). sets k (suc i) (u ++ v)) (set-set l i a a))
    ∙ sets-again u v (set l i a) (suc i)

-- ---- records

numbers-append : (rs qs : List Record) → numbers_of (rs ++ qs) ≡ numbers_of rs ++ numbers_of qs
unfolding numbers_of
numbers-append [] qs = refl
numbers-append (r ∷ rs) qs = ap (λ (l : List Float). r.v1 ∷ r.v2 ∷ l) (numbers-append rs qs)

numbers-length : (rs : List Record) → length (numbers_of rs) ≡ 2 * length rs
unfolding numbers_of
numbers-length [] = refl
numbers-length (r ∷ rs) = omega (arith, numbers-length rs)

-- one record more
front-more : (s : List Float) (rs : List Record) (r : Record) → write_record (with_records s rs) (length rs) r ≡ with_records s (rs ++ (r ∷ []))
unfolding with_records write_record numbers_of
front-more s rs r =
    let n = 2 * length rs in
    let e : 0 + length (numbers_of rs) ≡ n = omega (arith, numbers-length rs) in
    sym (ap (sets s 0) (numbers-append rs (r ∷ []))
    ∙ sets-append s 0 (numbers_of rs) (r.v1 ∷ r.v2 ∷ [])
    ∙ ap (λ (k : ℕ). sets (sets s 0 (numbers_of rs)) k (r.v1 ∷ r.v2 ∷ [])) e
    ∙ ap (λ (k : ℕ). set (set (sets s 0 (numbers_of rs)) n r.v1) k r.v2) (sym (add-one n)))

-- a frame more
pub front-found : (s : List Float) (rs : List Record) (f : Option Record) → stored (with_records s rs) (length rs) f ≡ with_records s (rs ++ record_of f)
unfolding stored
front-found s rs None = ap (with_records s) (sym (append-nil rs))
front-found s rs (Some x) = front-more s rs x

-- the first of some records written again
pub front-again : (s : List Float) (rs qs : List Record) → with_records (with_records s (rs ++ qs)) rs ≡ with_records s (rs ++ qs)
unfolding with_records
front-again s rs qs =
    ap (λ (l : List Float). sets (sets s 0 l) 0 (numbers_of rs)) (numbers-append rs qs)
    ∙ sets-again (numbers_of rs) (numbers_of qs) s 0
    ∙ ap (sets s 0) (sym (numbers-append rs qs))

-- ---- what askings wrote

-- one asking more
pub asked-more : (s : List Float) (ws : List (List ℤ)) (w : List ℤ) → asked_of s (ws ++ (w ∷ [])) ≡ with_records (asked_of s ws) (records_of w (frame_count (length w)))
unfolding asked_of
asked-more s [] w = refl
asked-more s (v ∷ ws) w = asked-more (with_records s (records_of v (frame_count (length v)))) ws w
