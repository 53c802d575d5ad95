-- Frames and histories of X: their lengths, what later samples leave as it was, and the history as the state holds it.
use Rattle.std.proofs.Common.{◌≡◌, ℕ, zero, suc, ◌+◌, ◌-◌, ◌*◌, ◌/◌, ◌%◌, ◌<◌, ◌≤◌, List, ◌++◌, length, get_or, take, drop, set, replicate, ℤ, pos, sym, refl, ap, ◌∙◌, ap₂, append-nil, add_comm, arith, length-append, length-drop, length-set, length-take-le, get_or-drop, take_all, drop-cons, take-suc, get_or-append-add}
use lib.Ieee.{Float}
use lib.ListN.{length-replicate}
use lib.Seq.{sets, sets-eq, append_snoc, set_at, take-append-add, drop-length}
use Rattle.whole.specs.Frames.{frame_at}
use Rattle.whole.proofs.CutIntoFrames.{frame-length, frame-stable}
use Rattle.whole.proofs.Stores.{sets_then, take-replicate}
use Rattle.std.specs.Prelude.{Option, Some, None}
use Rattle.coefficients.specs.declared.merging.Record.{Record}
use Rattle.coefficients.specs.FrameRecord.{analyse, stored, counted}
use Rattle.coefficients.specs.Measure.{copied, shift, padded}
use Rattle.coefficients.specs.Runs.{holding, left_at, record_of, records_of}
use Rattle.coefficients.specs.Store as Store
use Rattle.coefficients.specs.Store.{write_record}
use Rattle.coefficients.proofs.StoredRecords.{records-written, records-kept}

-- ---- lengths

zeros : List ℤ
zeros = replicate 14 (pos 0)

holding-length : (h f : List ℤ) → length h ≡ 28 → length f ≡ 14 → length (holding h f) ≡ 28
unfolding holding
holding-length h f p q = length-append (take 14 h) f ∙ omega (arith, length-take-le 14 h (omega arith))

drop-half : (h : List ℤ) → length h ≡ 28 → length (drop 14 h) ≡ 14
drop-half h p = length-drop 14 h ∙ omega arith

pub left-length : (xs : List ℤ) (i : ℕ) → length (left_at xs i) ≡ 28
unfolding left_at
left-length xs zero = length-replicate 28 (pos 0)
left-length xs (suc i) =
    let h = holding (left_at xs i) (frame_at xs i) in
    let d = drop-half h (holding-length (left_at xs i) (frame_at xs i) (left-length xs i) (frame-length xs i)) in
    length-append (drop 14 h) (drop 14 h) ∙ omega arith

-- ---- later samples leave finished frames as they were

module _ (xs ys : List ℤ) where
  pub left-stable : (i : ℕ) → 14 * i ≤ length xs → left_at (xs ++ ys) i ≡ left_at xs i
  unfolding left_at
  left-stable zero k = refl
  left-stable (suc i) k =
      ap₂ (λ (a f : List ℤ). drop 14 (holding a f) ++ drop 14 (holding a f)) (left-stable i (omega arith)) (frame-stable xs ys i (omega arith))

  pub records-stable : (i : ℕ) → 14 * i ≤ length xs → records_of (xs ++ ys) i ≡ records_of xs i
  unfolding records_of
  records-stable zero k = refl
  records-stable (suc i) k =
      ap₂ (λ (a b : List Record). a ++ b) (records-stable i (omega arith))
      (ap₂ (λ (a f : List ℤ). record_of (analyse (holding a f))) (left-stable i (omega arith)) (frame-stable xs ys i (omega arith)))

-- a frame has at most one record
record-few : (f : Option Record) → length (record_of f) ≤ 1
record-few None = omega arith
record-few (Some x) = omega arith

pub records-few : (xs : List ℤ) (k : ℕ) → length (records_of xs k) ≤ k
unfolding records_of
records-few xs zero = omega arith
records-few xs (suc k) =
    let f = analyse (holding (left_at xs k) (frame_at xs k)) in
    let a = length-append (records_of xs k) (record_of f) in
    omega (arith, a, record-few f, records-few xs k)

-- ---- the shift

copied-law : (h : List ℤ) (k : ℕ) → length h ≡ 28 → k ≤ 14 → copied h k ≡ take k (drop 14 h) ++ drop k h
unfolding copied
copied-law h zero p l = refl
copied-law h (suc k) p l =
    let D : List ℤ = drop 14 h in
    let d = drop-half h p in
    let t : length (take k D) ≡ k = length-take-le k D (omega arith) in
    let c = drop-cons h k (pos 0) (omega arith) in
    let v : get_or (take k D ++ drop k h) (14 + k) (pos 0) ≡ get_or D k (pos 0) =
    ap (λ (i : ℕ). get_or (take k D ++ drop k h) i (pos 0)) (add_comm 14 k ∙ ap (λ (i : ℕ). i + 14) (sym t))
    ∙ get_or-append-add (take k D) (drop k h) 14 (pos 0)
    ∙ get_or-drop k h 14 (pos 0)
    ∙ ap (λ (i : ℕ). get_or h i (pos 0)) (add_comm k 14)
    ∙ sym (get_or-drop 14 h k (pos 0)) in
    ap (λ (g : List ℤ). set g k (get_or g (14 + k) (pos 0))) (copied-law h k p (omega arith))
    ∙ ap (set (take k D ++ drop k h) k) v
    ∙ ap (λ (g : List ℤ). set (take k D ++ g) k (get_or D k (pos 0))) c
    ∙ set_at (take k D) (get_or h k (pos 0)) (drop (suc k) h) (get_or D k (pos 0)) k t
    ∙ sym (append_snoc (take k D) (get_or D k (pos 0)) (drop (suc k) h))
    ∙ ap (λ (g : List ℤ). g ++ drop (suc k) h) (sym (take-suc D k (pos 0) (omega arith)))

pub shift-law : (h : List ℤ) → length h ≡ 28 → shift h ≡ drop 14 h ++ drop 14 h
unfolding shift copied
shift-law h p = copied-law h 14 p (omega arith) ∙ ap (λ (g : List ℤ). g ++ drop 14 h) (take_all 14 (drop 14 h) (omega (arith, drop-half h p)))

-- ---- the history as the state holds it

pub holding-sets : (h f : List ℤ) → length h ≡ 28 → length f ≡ 14 → sets h 14 f ≡ holding h f
unfolding holding
holding-sets h f p q =
    let e : 14 + length f ≡ length h = omega arith in
    sets-eq f h 14 (omega arith)
    ∙ ap (λ (r : List ℤ). (take 14 h ++ f) ++ r) (ap (λ (n : ℕ). drop n h) e ∙ drop-length h)
    ∙ append-nil (take 14 h ++ f)

-- the frame of X that is not full, filled, and the one that just became full
tail-length : (xs : List ℤ) → length (drop (14 * (length xs / 14)) xs) ≡ length xs % 14
tail-length xs = length-drop (14 * (length xs / 14)) xs ∙ omega arith

pub frame-padded : (xs : List ℤ) → let k = length xs / 14 in let t = drop (14 * k) xs in t ++ replicate (14 - length xs % 14) (pos 0) ≡ frame_at xs k
unfolding frame_at
frame-padded xs =
    let k = length xs / 14 in
    let t = drop (14 * k) xs in
    let l = tail-length xs in
    let e : 14 ≡ length t + (14 - length xs % 14) = omega (arith, l) in
    sym (ap (λ (n : ℕ). take n (t ++ replicate 14 (pos 0))) e
    ∙ take-append-add t (replicate 14 (pos 0)) (14 - length xs % 14)
    ∙ ap (λ (r : List ℤ). t ++ r) (take-replicate (14 - length xs % 14) 14 (pos 0) (omega arith)))

pub padded-history : (xs h : List ℤ) → h ≡ sets (left_at xs (length xs / 14)) 14 (drop (14 * (length xs / 14)) xs)
    → padded h (length xs % 14) ≡ holding (left_at xs (length xs / 14)) (frame_at xs (length xs / 14))
unfolding padded
padded-history xs h e =
    let k = length xs / 14 in
    let t = drop (14 * k) xs in
    let zs : List ℤ = replicate (14 - length xs % 14) (pos 0) in
    ap (λ (g : List ℤ). sets g (14 + length xs % 14) zs) e
    ∙ sets_then (left_at xs k) 14 (14 + length xs % 14) t zs (ap (λ (n : ℕ). 14 + n) (sym (tail-length xs)))
    ∙ ap (sets (left_at xs k) 14) (frame-padded xs)
    ∙ holding-sets (left_at xs k) (frame_at xs k) (left-length xs k) (frame-length xs k)

-- ---- a record at its place in the store

pub stored-length : (s : List Float) (r : ℕ) (f : Option Record) → length (stored s r f) ≡ length s
unfolding stored write_record
stored-length s r None = refl
stored-length s r (Some x) = simp length-set

pub stored-records : (s : List Float) (r : ℕ) (f : Option Record) → 2 * r + 1 < length s → Store.records (stored s r f) (counted r f) ≡ Store.records s r ++ record_of f
unfolding stored counted
stored-records s r None h = sym (append-nil (Store.records s r))
stored-records s r (Some x) h = records-written s r x h

pub stored-kept : (s : List Float) (r : ℕ) (f : Option Record) → Store.records (stored s r f) r ≡ Store.records s r
unfolding stored
stored-kept s r None = refl
stored-kept s r (Some x) = records-kept s r x r (omega arith)
