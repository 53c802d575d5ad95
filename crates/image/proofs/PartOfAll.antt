-- Playing from a sample on, beside playing the whole image.
use mathlib.Core.Bool.{Bool, true, false}
use mathlib.Core.List.{List, [], ◌++◌}
use mathlib.Core.Path.{◌≡◌, refl, sym, ap, ◌∙◌}
use Prim.Native.Nat.{ℕ, suc, ◌+◌, ◌-◌, ◌/◌, ◌≤◌, ◌<◌}
use native.Mathlib.Nat.{add-zero}
use native.Mathlib.Omega.{arith}
use borrow.Author.Tests.{leb-false, lt-leb, le-leb, ltb-true, ltb-false}
use lib.Dec.{leb, ltb}
use lib.IntN.{ℤ}
use lib.ListN.{length, take, drop, length-append, length-drop}
use lib.Seq.{sets, length-sets, length-take-le, take-add, take-append-le, drop-drop, drop-append-le}
use Rattle.whole.specs.Outcome.{Outcome, accepted, refused_at, refused, effect}
use Rattle.whole.proofs.Outcomes.{failed}
use Rattle.whole.proofs.Stores.{spread, sets-append, sets-left, sets-right-at}
use Rattle.image.specs.Reading.{total_in, blocks_in}
use Rattle.image.specs.inner.Asked.{Opens, AllPlayable}
use Rattle.image.specs.Part.{from_answer, run_count, run_of, per_block, touched, play_from}
use Rattle.image.specs.PartCut.{PartCut}
use Rattle.image.specs.Sameness.{compare_answer, samples_in}
use Rattle.image.specs.WholeImage.{play_all}
use Rattle.image.proofs.Joined.{samples-count}
use Rattle.image.proofs.LawsAll.{all-output}
use Rattle.image.proofs.LawsRun.{per-some, blocks-hold}
use Rattle.image.proofs.LawsSame.{Comparable, compare-accepted, compare-accepts}
use Rattle.image.proofs.TestsInTurn.{and-then}
use Rattle.image.proofs.Touched.{touched_none, touched-formula, shared-none, touched-cut}

-- ---- what an accepted call tells

pub from-accepted : (l : List ℕ) (first : ℕ) → from_answer l first ≡ accepted tt → Comparable l × (first < total_in l)
unfolding from_answer
from-accepted l first p =
    let a = and-then (compare_answer l) _ p in
    let f = failed (leb (total_in l) first) 19 (accepted tt) a.1 in
    (compare-accepted l a.0, leb-false (total_in l) first f.0)

pub from-accepts : (l : List ℕ) (first : ℕ) → Comparable l → first < total_in l → from_answer l first ≡ accepted tt
unfolding from_answer
from-accepts l first c h = rw (compare-accepts l c, lt-leb (total_in l) first h)

-- ---- that part of the whole

module _ (l : List ℕ) (first : ℕ) (e : from_answer l first ≡ accepted tt) where
  opened-image : Opens l
  opened-image = (from-accepted l first e).0.opens

  there : first < total_in l
  there = (from-accepted l first e).1

  run_length : (n : ℕ) → n ≤ total_in l - first → length (run_of l first n) ≡ n
  run_length n h =
      let d = length-drop first (samples_in l) in
      let c = samples-count l opened-image in
      length-take-le n (drop first (samples_in l)) (omega (arith, d, c, h))

  pub part-answered : (out : List ℤ) → (let n = run_count l first (length out) in (play_from l first out).outcome ≡ accepted (n, touched (per_block l) first n (blocks_in l)))
  unfolding play_from
  part-answered out = rw e

  -- the output after an accepted call: the run, and what stood beyond it
  pub part-output : (out : List ℤ) → (let n = run_count l first (length out) in (play_from l first out).left ≡ run_of l first n ++ drop n out)
  unfolding play_from
  part-output out =
      let n = run_count l first (length out) in
      let r = run_length n (omega arith) in
      rw e (spread (run_of l first n) out (omega (arith, r)) ∙ ap (λ (i : ℕ). run_of l first n ++ drop i out) r)

  -- The output after an accepted call: as many samples of what playing the whole image leaves in an output with room for N, from sample `first` on, and what stood beyond them.
  pub part-of-all : (out all : List ℤ) → total_in l ≤ length all
      → (let n = run_count l first (length out) in (play_from l first out).left ≡ take n (drop first (play_all l all).left.samples) ++ drop n out)
  part-of-all out all h =
      let n = run_count l first (length out) in
      let c = (from-accepted l first e).0 in
      let p : AllPlayable l (length all) = record { opens = c.opens; pairs = c.pairs; enough = h } in
      let s = samples-count l c.opens in
      let d = length-drop first (samples_in l) in
      let t = there in
      let f : take n (drop first (samples_in l ++ drop (total_in l) all)) ≡ run_of l first n =
      ap (take n) (drop-append-le first (samples_in l) (drop (total_in l) all) (omega (arith, s, t)))
      ∙ take-append-le n (drop first (samples_in l)) (drop (total_in l) all) (omega (arith, d, s)) in
      part-output out ∙ rw (all-output l all p, f)

  -- The blocks that are answered: from the first sample's block to the last one's.
  pub part-blocks : (out : List ℤ) → 0 < length out
      → (let p = per_block l in let n = run_count l first (length out) in (play_from l first out).outcome ≡ accepted (n, suc ((first + n - 1) / p - first / p)))
  part-blocks out h =
      let n = run_count l first (length out) in
      let s = per-some l opened-image in
      let k = blocks-hold l opened-image in
      let t = there in
      part-answered out ∙ ap (λ (b : ℕ). accepted (n, b)) (touched-formula (per_block l) first n (omega (arith, s)) (omega (arith, h, t)) (blocks_in l) (omega (arith, k, t)))

  -- An empty output touches none.
  pub part-empty : play_from l first [] ≡ effect (accepted (0, 0)) []
  unfolding play_from
  part-empty = let z : run_count l first 0 ≡ 0 = omega arith in rw (e, z, touched_none (per_block l) first (blocks_in l))

-- ---- cut in two

-- both parts have a first sample
cut_inside : (l : List ℕ) (first : ℕ) (u v : List ℤ) → from_answer l (first + length u) ≡ accepted tt → PartCut l first u v
unfolding play_from
cut_inside l first u v e =
    let a = from-accepted l (first + length u) e in
    let o = a.0.opens in
    let t = a.1 in
    let e₁ = from-accepts l first a.0 (omega (arith, t)) in
    let m = length u in
    let n = run_count l (first + m) (length v) in
    let xs = samples_in l in
    let lu : run_count l first m ≡ m = omega (arith, t) in
    let la = length-append u v in
    let lw : run_count l first (length (u ++ v)) ≡ m + n = omega (arith, la, t) in
    let r₁ = run_length l first e₁ m (omega (arith, t)) in
    let cut : run_of l first (m + n) ≡ run_of l first m ++ run_of l (first + m) n =
    take-add m n (drop first xs) ∙ ap (λ (ys : List ℤ). run_of l first m ++ take n ys) (drop-drop m first xs) in
    let ls = length-sets u 0 (run_of l first m) in
    let put : sets (u ++ v) 0 (run_of l first (m + n)) ≡ sets u 0 (run_of l first m) ++ sets v 0 (run_of l (first + m) n) =
    ap (sets (u ++ v) 0) cut
    ∙ sets-append (u ++ v) 0 (run_of l first m) (run_of l (first + m) n)
    ∙ ap (λ (ys : List ℤ). sets ys (0 + length (run_of l first m)) (run_of l (first + m) n)) (sets-left u v 0 (run_of l first m) (omega (arith, r₁)))
    ∙ sets-right-at (sets u 0 (run_of l first m)) v (0 + length (run_of l first m)) 0 (run_of l (first + m) n) (omega (arith, r₁, ls)) in
    let b = touched-cut (per_block l) first m n (blocks_in l) (let s = per-some l o in omega (arith, s)) (let k = blocks-hold l o in omega (arith, k, t)) in
    record {
      code = rw e₁;
      left = rw (e, e₁, lu, lw) put;
      samples = rw (e, e₁, lu, lw);
      blocks = rw (e, e₁, lu, lw) b;
    }

-- the first part ends where the clip ends, or beyond: the second is refused, and keeps its output
cut-beyond : (l : List ℕ) (first : ℕ) (u v : List ℤ) → from_answer l first ≡ accepted tt → total_in l ≤ first + length u → PartCut l first u v
unfolding play_from from_answer
cut-beyond l first u v e h =
    let a = from-accepted l first e in
    let e₂ : from_answer l (first + length u) ≡ refused 19 = rw (compare-accepts l a.0, le-leb (total_in l) (first + length u) h) in
    let n = total_in l - first in
    let la = length-append u v in
    let lu : run_count l first (length u) ≡ n = omega (arith, h) in
    let lw : run_count l first (length (u ++ v)) ≡ n = omega (arith, la, h) in
    let r = run_length l first e n (omega arith) in
    record {
      code = rw e;
      left = rw (e, e₂, lu, lw) (sets-left u v 0 (run_of l first n) (omega (arith, r, h)));
      samples = rw (e, e₂, lu, lw) (sym (add-zero n));
      blocks = rw (e, e₂, lu, lw, shared-none (per_block l) (first + length u) n);
    }

-- the first part is refused, and so is the second
cut-refused : (l : List ℕ) (first n j i k : ℕ) (u v : List ℤ) → from_answer l first ≡ refused_at n j → from_answer l (first + length u) ≡ refused_at i k → PartCut l first u v
unfolding play_from
cut-refused l first n j i k u v e f = record { code = rw e; left = rw (e, f); samples = rw (e, f); blocks = rw (e, f) }

-- A run cut in two is its parts in turn.
pub part_cut : (l : List ℕ) (first : ℕ) (u v : List ℤ) → PartCut l first u v
part_cut l first u v = go (from_answer l first) (from_answer l (first + length u)) refl refl
  where
    here : from_answer l first ≡ accepted tt → (t : Bool) → ltb (first + length u) (total_in l) ≡ t → PartCut l first u v
    here e true q = cut_inside l first u v (from-accepts l (first + length u) (from-accepted l first e).0 (ltb-true (first + length u) (total_in l) q))
    here e false q = cut-beyond l first u v e (ltb-false (first + length u) (total_in l) q)

    go : (a b : Outcome Unit) → from_answer l first ≡ a → from_answer l (first + length u) ≡ b → PartCut l first u v
    go (accepted x) b e f = here e (ltb (first + length u) (total_in l)) refl
    go (refused_at n j) (accepted x) e f = cut_inside l first u v f
    go (refused_at n j) (refused_at i k) e f = cut-refused l first n j i k u v e f
