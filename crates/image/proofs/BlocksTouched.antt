-- Where the samples of a block stand in the clip, and the blocks that a run is made of.
use mathlib.Core.Bool.{Bool, true, false}
use mathlib.Core.List.{List, ◌++◌, append-nil}
use mathlib.Core.Path.{◌≡◌, refl, sym, ap, ◌∙◌}
use Prim.Native.Nat.{ℕ, zero, suc, ◌+◌, ◌-◌, ◌*◌, ◌/◌, ◌%◌, ◌≤◌, ◌<◌, min}
use native.Mathlib.Nat.{suc-mul}
use native.Mathlib.Omega.{arith}
use borrow.Author.Tests.{ltb-true, ltb-false}
use lib.Dec.{ltb}
use lib.ListN.{length, take, drop, length-drop}
use lib.Seq.{take_all, take_at, take-append-le, drop_at, drop-drop, drop-append-le}
use Rattle.whole.specs.Outcome.{accepted}
use Rattle.image.specs.Reading.{total_in, blocks_in}
use Rattle.image.specs.inner.Asked.{Opens, Run}
use Rattle.image.specs.Opening.{open_answer}
use Rattle.image.specs.Part.{from_answer, run_count, run_of, per_block, touched}
use Rattle.image.specs.Sameness.{block_samples, samples_from, samples_in}
use Rattle.image.proofs.LawsAll.{block-there}
use Rattle.image.proofs.LawsPlayed.{block-count}
use Rattle.image.proofs.LawsRun.{samples-append, per-some, blocks-hold, block-begins, samples-upto, samples-between, block-samples, start, from, from_place}
use Rattle.image.proofs.OpenImages.{opened}
use Rattle.image.proofs.PartOfAll.{from-accepted}
use Rattle.image.proofs.Touched.{first-from, last-before, first-to-last, last-there, touched-formula}

-- the clip from block j on
blocks-on : (l : List ℕ) → Opens l → (j : ℕ) → j < blocks_in l → drop (j * per_block l) (samples_in l) ≡ samples_from l j (blocks_in l - j)
unfolding samples_in
blocks-on l o j h =
    let a : blocks_in l ≡ j + (blocks_in l - j) = omega arith in
    let z : 0 + j ≡ j = omega arith in
    let b = block-begins l o j h in
    let u = samples-upto l o j (omega arith) in
    ap (λ (k : ℕ). drop (j * per_block l) (samples_from l 0 k)) a
    ∙ ap (drop (j * per_block l)) (samples-append l 0 j (blocks_in l - j))
    ∙ drop_at (samples_from l 0 j) (samples_from l (0 + j) (blocks_in l - j)) (j * per_block l) (omega (arith, b, u))
    ∙ rw z

-- Block j's samples are those from j times p on: p of them, or up to the clip's last.
pub block-in-clip : (l : List ℕ) (j : ℕ) → open_answer l ≡ accepted tt → j < blocks_in l → block_samples l j ≡ take (per_block l) (drop (j * per_block l) (samples_in l))
unfolding samples_from
block-in-clip l j e h = sym (ap (take (per_block l)) (blocks-on l o j h ∙ ap (samples_from l j) one) ∙ go (ltb (suc j) (blocks_in l)) refl)
  where
    o : Opens l
    o = opened l e

    one : blocks_in l - j ≡ suc (blocks_in l - suc j)
    one = omega arith

    many : length (block_samples l j) + j * per_block l ≡ min (suc j * per_block l) (total_in l)
    many = ap (λ (n : ℕ). n + j * per_block l) (block-count l j (block-there l o j h)) ∙ block-samples l o j h

    go : (t : Bool) → ltb (suc j) (blocks_in l) ≡ t → take (per_block l) (block_samples l j ++ samples_from l (suc j) (blocks_in l - suc j)) ≡ block_samples l j
    go true q =
        let b = block-begins l o (suc j) (ltb-true (suc j) (blocks_in l) q) in
        let w = suc-mul j (per_block l) in
        take_at (block_samples l j) (samples_from l (suc j) (blocks_in l - suc j)) (per_block l) (omega (arith, many, b, w))
    go false q =
        let z : blocks_in l - suc j ≡ 0 = omega (arith, ltb-false (suc j) (blocks_in l) q) in
        let w = suc-mul j (per_block l) in
        rw z (ap (take (per_block l)) (append-nil (block_samples l j)) ∙ take_all (per_block l) (block_samples l j) (omega (arith, many, w)))

-- a run, of the blocks that it touches alone
enough : (l : List ℕ) (first n : ℕ) (r : Run l first n)
    → run_of l first n ≡ take n (drop (first % per_block l) (samples_from l (first / per_block l) (touched (per_block l) first n (blocks_in l))))
enough l first n r =
    let o = r.opens in
    let p = per_block l in
    let s = start l first n r in
    let i = from l first n r in
    let t = touched p first n (blocks_in l) in
    let x = (first + n - 1) / p in
    let g = per-some l o in
    let h : 0 < p = omega (arith, g) in
    let z = r.some in
    let f = from_place l first n r in
    let hold = blocks-hold l o in
    let a = first-from p first n h z in
    let inside = r.inside in
    let held : first + n ≤ blocks_in l * p = omega (arith, hold, inside, z) in
    let y = last-there p first n h z (blocks_in l) held in
    let hi = last-before p first n h z in
    let m = touched-formula p first n h z (blocks_in l) held in
    let q = first-to-last p first n h z in
    let k : s + t ≡ suc x = omega (arith, m, q) in
    let there : s < blocks_in l = omega (arith, q, y) in
    let u : blocks_in l - s ≡ t + (blocks_in l - suc x) = omega (arith, k, q, y) in
    let v = samples-between l o s t (omega (arith, k, y)) in
    let v' = rw k at v in
    let ys = samples_from l s t in
    let zs = samples_from l (s + t) (blocks_in l - suc x) in
    let e = length-drop i ys in
    ap (λ (j : ℕ). take n (drop j (samples_in l))) (sym f)
    ∙ ap (take n) (sym (drop-drop i (s * p) (samples_in l)) ∙ ap (drop i) (blocks-on l o s there ∙ ap (samples_from l s) u ∙ samples-append l s t (blocks_in l - suc x)))
    ∙ ap (take n) (drop-append-le i ys zs (omega (arith, v', a, f, hi, inside, z)))
    ∙ take-append-le n (drop i ys) zs (omega (arith, e, v', a, f, hi, inside))

-- The blocks touched, played from their entries, are enough: no sample of another block is in the run.
pub touched-enough : (l : List ℕ) (first room : ℕ) → from_answer l first ≡ accepted tt
    → (let p = per_block l in let n = run_count l first room in run_of l first n ≡ take n (drop (first % p) (samples_from l (first / p) (touched p first n (blocks_in l)))))
touched-enough l first room e = go (run_count l first room) (omega arith)
  where
    go : (n : ℕ) → n ≤ total_in l - first → run_of l first n ≡ take n (drop (first % per_block l) (samples_from l (first / per_block l) (touched (per_block l) first n (blocks_in l))))
    go zero h = refl
    go (suc n) h =
        let a = from-accepted l first e in
        enough l first (suc n) (record { opens = a.0.opens; some = omega arith; inside = omega (arith, h, a.1) })
