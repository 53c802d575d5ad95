-- The state and the store as functions of the samples measured: after one sample more, a piece, an asking.
use Rattle.std.proofs.Common.{◌≡◌, ℕ, suc, ◌+◌, ◌*◌, ◌/◌, ◌%◌, ◌<◌, ◌≤◌, Bool, true, false, cond, eqb, List, [], ◌∷◌, ◌++◌, length, drop, set, replicate, ℤ, pos, sym, refl, ap, ◌∙◌, subst, ap₂, append_assoc, append-nil, arith, length-append, length-drop, take_at, eqb-true}
use mathlib.Core.List.{foldl}
use borrow.Author.Tests.{eqb-false}
use lib.Ieee.{Float}
use lib.Seq.{sets, drop-append-le, drop-length, length-sets}
use Rattle.whole.specs.Frames.{frame_at, frame_count}
use Rattle.whole.proofs.Stores.{sets-snoc}
use Rattle.coefficients.specs.declared.CoefficientCalculator.{CoefficientCalculator}
use Rattle.std.specs.Prelude.{Option}
use Rattle.coefficients.specs.declared.merging.Record.{Record}
use Rattle.coefficients.specs.FrameRecord.{analyse, stored, counted}
use Rattle.coefficients.specs.Finish.{record_coefficients}
use Rattle.coefficients.specs.Measure.{needed, Measuring, calculator, measuring, fresh, shift, framed, push, padded, padded_store, padded_count}
use Rattle.coefficients.specs.Runs.{holding, left_at, record_of, records_of, coefficients_of}
use Rattle.coefficients.specs.StateOfSamples.{history_at, state_of, asked_of, numbers_of, with_records, store_of}
use Rattle.coefficients.specs.Store as Store
use Rattle.coefficients.proofs.StoredRecords.{records-length}
use Rattle.coefficients.proofs.RecordsAtFront.{front-found, front-again, asked-more}
use Rattle.coefficients.proofs.FrameHistories.{left-length, left-stable, records-stable, records-few, shift-law, holding-sets, padded-history, stored-length, stored-records, stored-kept}

-- the state and the store are those of X, of a first store s and of what had been measured at each asking
pub record Follows (s : List Float) (ws : List (List ℤ)) (xs : List ℤ) (m : Measuring) : Type 0 where
  pub samples : m.calculator.samples ≡ length xs
  pub history : m.calculator.history ≡ history_at xs (length xs / 14)
  pub records : Store.records m.store m.calculator.records ≡ records_of xs (length xs / 14)
  pub size : length m.store ≡ length s
  pub store : m.store ≡ store_of s ws xs

module _ (s : List Float) (ws : List (List ℤ)) (xs : List ℤ) (m : Measuring) (f : Follows s ws xs m) where
  -- the count of records
  pub count : m.calculator.records ≡ length (records_of xs (length xs / 14))
  count = sym (records-length m.store m.calculator.records) ∙ ap length f.records

  pub count-few : m.calculator.records ≤ length xs / 14
  count-few = omega (arith, count, records-few xs (length xs / 14))

  -- the state and the store, by their definitions
  pub state-is : m ≡ measuring (state_of xs) (store_of s ws xs)
  unfolding state_of
  state-is =
      let c = m.calculator in
      let k = length xs / 14 in
      let e : c ≡ calculator (length xs) (length (records_of xs k)) (history_at xs k) =
      ap (λ (n : ℕ). calculator n c.records c.history) f.samples
      ∙ ap₂ (λ (r : ℕ) (h : List ℤ). calculator (length xs) r h) count f.history in
      ap₂ measuring e f.store

  -- the record of a frame after X's full ones goes to its place
  store_found : (g : Option Record) → stored m.store m.calculator.records g ≡ with_records (asked_of s ws) (records_of xs (length xs / 14) ++ record_of g)
  unfolding store_of
  store_found g =
      ap₂ (λ (l : List Float) (r : ℕ). stored l r g) f.store count
      ∙ front-found (asked_of s ws) (records_of xs (length xs / 14)) g

pub fresh-follows : (s : List Float) → Follows s [] [] (measuring fresh s)
unfolding fresh history_at left_at store_of asked_of with_records records_of numbers_of Store.records
fresh-follows s = record { samples = refl; history = refl; records = refl; size = refl; store = refl }

-- ---- one sample

module _ (xs : List ℤ) (x : ℤ) where
  one_more : length (xs ++ (x ∷ [])) ≡ length xs + 1
  one_more = length-append xs (x ∷ [])

  -- the history with the sample in its place
  history-more : set (history_at xs (length xs / 14)) (14 + length xs % 14) x ≡ history_at (xs ++ (x ∷ [])) (length xs / 14)
  unfolding history_at
  history-more =
      let k = length xs / 14 in
      let l = length-drop (14 * k) xs in
      let e : length xs % 14 ≡ length (drop (14 * k) xs) = omega arith in
      ap (λ (i : ℕ). set (sets (left_at xs k) 14 (drop (14 * k) xs)) (14 + i) x) e
      ∙ sym (sets-snoc (left_at xs k) 14 (drop (14 * k) xs) x)
      ∙ ap₂ (λ (a b : List ℤ). sets a 14 b) (sym (left-stable xs (x ∷ []) k (omega arith))) (sym (drop-append-le (14 * k) xs (x ∷ []) (omega arith)))

-- nothing stands after the last full frame
left-next : (ys : List ℤ) (k : ℕ) → length ys ≡ 14 * k + 14
    → (let h = holding (left_at ys k) (frame_at ys k) in drop 14 h ++ drop 14 h ≡ history_at ys (suc k))
unfolding history_at left_at
left-next ys k e =
    let z : 14 * suc k ≡ length ys = omega arith in
    sym (ap (λ (n : ℕ). sets (left_at ys (suc k)) 14 (drop n ys)) z ∙ ap (sets (left_at ys (suc k)) 14) (drop-length ys))

next : (ys : List ℤ) (k : ℕ) → records_of ys k ++ record_of (analyse (holding (left_at ys k) (frame_at ys k))) ≡ records_of ys (suc k)
unfolding records_of
next ys k = refl

-- k frames and no more
module _ (ys : List ℤ) (k : ℕ) (e : length ys ≡ 14 * k + 14) where
  tail-full : length (drop (14 * k) ys) ≡ 14
  tail-full = length-drop (14 * k) ys ∙ omega arith

  history-full : history_at ys k ≡ holding (left_at ys k) (frame_at ys k)
  unfolding history_at frame_at
  history-full =
      holding-sets (left_at ys k) (drop (14 * k) ys) (left-length ys k) tail-full
      ∙ ap (holding (left_at ys k)) (sym (take_at (drop (14 * k) ys) (replicate 14 (pos 0)) 14 tail-full))

  history-length : length (history_at ys k) ≡ 28
  unfolding history_at
  history-length = length-sets (left_at ys k) 14 (drop (14 * k) ys) ∙ left-length ys k

  -- and after the shift
  history-next : shift (history_at ys k) ≡ history_at ys (suc k)
  history-next =
      shift-law (history_at ys k) history-length
      ∙ ap (λ (h : List ℤ). drop 14 h ++ drop 14 h) history-full
      ∙ left-next ys k e

-- one sample more of X
pub push-follows : (s : List Float) (ws : List (List ℤ)) (xs : List ℤ) (x : ℤ) (m : Measuring)
    → Follows s ws xs m → needed (length xs + 1) ≤ length s → Follows s ws (xs ++ (x ∷ [])) (push m x)
unfolding push framed frame_count store_of
push-follows s ws xs x m f room = go (eqb (length xs % 14) 13) refl
  where
    ys : List ℤ
    ys = xs ++ (x ∷ [])

    more : length ys ≡ length xs + 1
    more = one_more xs x

    c : CoefficientCalculator
    c = m.calculator

    at : eqb (c.samples % 14) 13 ≡ eqb (length xs % 14) 13
    at = ap (λ (n : ℕ). eqb (n % 14) 13) f.samples

    h : List ℤ
    h = set c.history (14 + c.samples % 14) x

    h-is : h ≡ history_at ys (length xs / 14)
    h-is = ap₂ (λ (g : List ℤ) (n : ℕ). set g (14 + n % 14) x) f.history f.samples ∙ history-more xs x

    kept : records_of ys (length xs / 14) ≡ records_of xs (length xs / 14)
    kept = records-stable xs (x ∷ []) (length xs / 14) (omega arith)

    n-is : c.samples + 1 ≡ length ys
    n-is = ap (λ (n : ℕ). n + 1) f.samples ∙ sym more

    part : (length xs % 14 ≡ 13 → ⊥) → Follows s ws ys (measuring (calculator (c.samples + 1) c.records h) m.store)
    part q =
        let k : length xs / 14 ≡ length ys / 14 = omega (arith, more, q) in
        let e : records_of xs (length xs / 14) ≡ records_of ys (length ys / 14) = sym kept ∙ ap (records_of ys) k in
        record {
          samples = n-is;
          history = h-is ∙ ap (history_at ys) k;
          records = f.records ∙ e;
          size = f.size;
          store = f.store ∙ ap (with_records (asked_of s ws)) e;
        }

    whole : length xs % 14 ≡ 13 → Follows s ws ys (measuring (calculator (c.samples + 1) (counted c.records (analyse h)) (shift h)) (stored m.store c.records (analyse h)))
    whole q =
        let k : suc (length xs / 14) ≡ length ys / 14 = omega (arith, more, q) in
        let e : length ys ≡ 14 * (length xs / 14) + 14 = omega (arith, more, q) in
        let few = count-few s ws xs m f in
        let r : 2 * c.records + 1 < length m.store = omega (arith, f.size, few, room) in
        let full = h-is ∙ history-full ys (length xs / 14) e in
        let all : records_of xs (length xs / 14) ++ record_of (analyse h) ≡ records_of ys (length ys / 14) =
        ap₂ (λ (a b : List Record). a ++ b) (sym kept) (ap (λ (g : List ℤ). record_of (analyse g)) full)
        ∙ next ys (length xs / 14)
        ∙ ap (records_of ys) k in
        record {
          samples = n-is;
          history = ap shift h-is ∙ history-next ys (length xs / 14) e ∙ ap (history_at ys) k;
          records = stored-records m.store c.records (analyse h) r ∙ ap (λ (l : List Record). l ++ record_of (analyse h)) f.records ∙ all;
          size = stored-length m.store c.records (analyse h) ∙ f.size;
          store = store_found s ws xs m f (analyse h) ∙ ap (with_records (asked_of s ws)) all;
        }

    go : (t : Bool) → eqb (length xs % 14) 13 ≡ t
        → Follows s ws ys (cond (eqb (c.samples % 14) 13) (framed (c.samples + 1) c.records h m.store) (measuring (calculator (c.samples + 1) c.records h) m.store))
    go true e = rw (at ∙ e) (whole (eqb-true (length xs % 14) 13 e))
    go false e = rw (at ∙ e) (part (eqb-false (length xs % 14) 13 e))

-- ---- a piece

pub piece-follows : (s : List Float) (ws : List (List ℤ)) (xs p : List ℤ) (m : Measuring)
    → Follows s ws xs m → needed (length xs + length p) ≤ length s → Follows s ws (xs ++ p) (foldl push m p)
unfolding frame_count
piece-follows s ws xs [] m f room = subst (λ (l : List ℤ). Follows s ws l m) (sym (append-nil xs)) f
piece-follows s ws xs (x ∷ p) m f room =
    let one = one_more xs x in
    let g = push-follows s ws xs x m f (omega arith) in
    subst (λ (l : List ℤ). Follows s ws l (foldl push (push m x) p)) (append_assoc xs (x ∷ []) p)
    (piece-follows s ws (xs ++ (x ∷ [])) p (push m x) g (omega (arith, one)))

-- ---- an asking

module _ (s : List Float) (ws : List (List ℤ)) (xs : List ℤ) (m : Measuring) (f : Follows s ws xs m) where
  abbrev c : CoefficientCalculator
  c = m.calculator

  -- the frame that is not full
  open-frame : padded c.history (c.samples % 14) ≡ holding (left_at xs (length xs / 14)) (frame_at xs (length xs / 14))
  open-frame =
      ap₂ (λ (h : List ℤ) (n : ℕ). padded h (n % 14)) f.history f.samples
      ∙ padded-history xs (history_at xs (length xs / 14)) (unfold history_at in refl)

  abbrev found : Option Record
  found = analyse (padded c.history (c.samples % 14))

  -- whether there is such a frame
  is-full : eqb (c.samples % 14) 0 ≡ eqb (length xs % 14) 0
  is-full = ap (λ (n : ℕ). eqb (n % 14) 0) f.samples

  -- the records of all frames
  with-padded : (length xs % 14 ≡ 0 → ⊥) → records_of xs (length xs / 14) ++ record_of found ≡ records_of xs (frame_count (length xs))
  unfolding frame_count
  with-padded z =
      let k : suc (length xs / 14) ≡ frame_count (length xs) = omega arith in
      ap (λ (h : List ℤ). records_of xs (length xs / 14) ++ record_of (analyse h)) open-frame ∙ next xs (length xs / 14) ∙ ap (records_of xs) k

  without-padded : length xs % 14 ≡ 0 → records_of xs (length xs / 14) ≡ records_of xs (frame_count (length xs))
  unfolding frame_count
  without-padded z = let k : length xs / 14 ≡ frame_count (length xs) = omega arith in ap (records_of xs) k

  room-record : needed (length xs) ≤ length s → (length xs % 14 ≡ 0 → ⊥) → 2 * c.records + 1 < length m.store
  unfolding frame_count
  room-record room q = let few = count-few s ws xs m f in omega (arith, f.size)

  pub asked : needed (length xs) ≤ length s → record_coefficients (Store.records (padded_store c m.store) (padded_count c)) ≡ coefficients_of xs
  unfolding padded_store padded_count coefficients_of
  asked room = go (eqb (length xs % 14) 0) refl
    where
      go : (t : Bool) → eqb (length xs % 14) 0 ≡ t
          → (let b = eqb (c.samples % 14) 0 in record_coefficients (Store.records (cond b m.store (stored m.store c.records found)) (cond b c.records (counted c.records found))))
          ≡ record_coefficients (records_of xs (frame_count (length xs)))
      go true e = rw (is-full ∙ e) (ap record_coefficients (f.records ∙ without-padded (eqb-true (length xs % 14) 0 e)))
      go false e =
          let z = eqb-false (length xs % 14) 0 e in
          rw (is-full ∙ e)
          (ap record_coefficients
          (stored-records m.store c.records found (room-record room z)
          ∙ ap (λ (l : List Record). l ++ record_of found) f.records
          ∙ with-padded z))

  -- the store with the records of all frames
  padded-store : padded_store c m.store ≡ with_records (asked_of s ws) (records_of xs (frame_count (length xs)))
  unfolding padded_store store_of
  padded-store = go (eqb (length xs % 14) 0) refl
    where
      go : (t : Bool) → eqb (length xs % 14) 0 ≡ t
          → cond (eqb (c.samples % 14) 0) m.store (stored m.store c.records found) ≡ with_records (asked_of s ws) (records_of xs (frame_count (length xs)))
      go true e = rw (is-full ∙ e) (f.store ∙ ap (with_records (asked_of s ws)) (without-padded (eqb-true (length xs % 14) 0 e)))
      go false e = rw (is-full ∙ e) (store_found s ws xs m f found ∙ ap (with_records (asked_of s ws)) (with-padded (eqb-false (length xs % 14) 0 e)))

  -- it is that of X after the asking
  asked-store : padded_store c m.store ≡ store_of s (ws ++ (xs ∷ [])) xs
  unfolding store_of
  asked-store =
      padded-store
      ∙ sym (ap (λ (l : List Float). with_records l (records_of xs (length xs / 14))) (asked-more s ws xs) ∙ again (eqb (length xs % 14) 0) refl)
    where
      again : (t : Bool) → eqb (length xs % 14) 0 ≡ t
          → (let all = with_records (asked_of s ws) (records_of xs (frame_count (length xs))) in with_records all (records_of xs (length xs / 14)) ≡ all)
      again true e =
          let z = without-padded (eqb-true (length xs % 14) 0 e) in
          subst (λ (l : List Record). with_records (with_records (asked_of s ws) l) (records_of xs (length xs / 14)) ≡ with_records (asked_of s ws) l)
          (append-nil (records_of xs (length xs / 14)) ∙ z) (front-again (asked_of s ws) (records_of xs (length xs / 14)) [])
      again false e =
          subst (λ (l : List Record). with_records (with_records (asked_of s ws) l) (records_of xs (length xs / 14)) ≡ with_records (asked_of s ws) l)
          (with-padded (eqb-false (length xs % 14) 0 e)) (front-again (asked_of s ws) (records_of xs (length xs / 14)) (record_of found))

  -- its first records are those from before
  padded-kept : Store.records (padded_store c m.store) c.records ≡ Store.records m.store c.records
  unfolding padded_store
  padded-kept = go (eqb (c.samples % 14) 0)
    where
      go : (t : Bool) → Store.records (cond t m.store (stored m.store c.records found)) c.records ≡ Store.records m.store c.records
      go true = refl
      go false = stored-kept m.store c.records found

  padded-size : length (padded_store c m.store) ≡ length m.store
  unfolding padded_store
  padded-size = go (eqb (c.samples % 14) 0)
    where
      go : (t : Bool) → length (cond t m.store (stored m.store c.records found)) ≡ length m.store
      go true = refl
      go false = stored-length m.store c.records found

  pub asked-follows : Follows s (ws ++ (xs ∷ [])) xs (measuring c (padded_store c m.store))
  asked-follows =
      record {
        samples = f.samples;
        history = f.history;
        records = padded-kept ∙ f.records;
        size = padded-size ∙ f.size;
        store = asked-store;
      }
