-- A run of an image's samples, block by block.
use mathlib.Core.Bool.{Bool, true, false}
use mathlib.Core.List.{List, ◌++◌, append_assoc, append-nil}
use mathlib.Core.Path.{◌≡◌, refl, sym, ap, ◌∙◌, subst}
use Prim.Native.Nat.{ℕ, zero, suc, ◌+◌, ◌-◌, ◌*◌, ◌/◌, ◌%◌, ◌≤◌, ◌<◌, min}
use native.Mathlib.Nat.{add-zero, zero-add, add-suc, suc-add, zero-mul, suc-mul, add-mul, mul_left_comm, mod-lt, div-add-mod', div-lt_iff_lt-mul, lt_of_mul-lt-mul_right}
use native.Mathlib.Numerals.{add-one}
use native.Mathlib.Omega.{arith}
use borrow.Author.Tests.{ltb-true, ltb-false}
use lib.Dec.{ltb}
use lib.IntN.{ℤ}
use lib.ListN.{length, take, drop, length-append, length-take}
use lib.Seq.{sets, take_all, take_at, take-append-le, take-append-add, drop-append-le, drop-append-add, length-take-le}
use Rattle.block.specs.declared.FrameContext.{FrameContext}
use Rattle.block.specs.Address.{address_to_sample, sample_to_address}
use Rattle.block.specs.Frame.{Playing, playing}
use Rattle.block.specs.Play as Block
use Rattle.block.specs.inner.Parts.{play_on}
use Rattle.block.proofs.LawsAddress.{back}
use Rattle.block.proofs.LawsOn.{sample-place, sample-end, sample-before, sample-order, rest-count, rest-begins, rest-is}
use Rattle.layout.specs.Sizes.{block_count}
use Rattle.layout.proofs.SizeLaws.{frames-some, blocks-most, blocks-all, block-first}
use Rattle.whole.specs.Frames.{frame_count}
use Rattle.whole.specs.Outcome.{accepted, effect}
use Rattle.whole.proofs.Stores.{part_then}
use Rattle.image.specs.Reading.{shape_in, total_in, block_in, blocks_in, coefficients_in, length_in, context_in}
use Rattle.image.specs.inner.Asked.{Opens, Found, SomeOf, Later, Run}
use Rattle.image.specs.inner.ByFrames.{frames_in}
use Rattle.image.specs.inner.Runs.{context_at_sample, part_of}
use Rattle.image.specs.Looping.{rest_in, samples_on}
use Rattle.image.specs.Bodies.{body_in}
use Rattle.image.specs.Part.{run_count, per_block, touched}
use Rattle.image.specs.Sameness.{block_samples, samples_from, samples_in}
use Rattle.image.proofs.Joined.{samples-snoc, frames-blocks, frames-all, frames-before, samples-count}
use Rattle.image.proofs.LawsAll.{block-there}
use Rattle.image.proofs.LawsBody.{body-length}
use Rattle.image.proofs.LawsPlayed.{block-count}
use Rattle.image.proofs.Touched.{touched-between, touched_none}

-- ---- where a block's samples stand in the clip

-- some blocks, and those after them
pub samples-append : (l : List ℕ) (j m n : ℕ) → samples_from l j (m + n) ≡ samples_from l j m ++ samples_from l (j + m) n
unfolding samples_from
samples-append l j zero n = rw (zero-add n, add-zero j)
samples-append l j (suc m) n =
    rw (suc-add m n, samples-append l (suc j) m n, suc-add j m, ← add-suc j m) (sym (append_assoc (block_samples l j) (samples_from l (suc j) m) (samples_from l (j + suc m) n)))

module _ (l : List ℕ) (o : Opens l) where
  pub per-some : 14 ≤ per_block l
  per-some = let w = o.head.limits.wide in omega arith

  per-frames : (j : ℕ) → j * per_block l ≡ 14 * (j * (block_in l / 8))
  per-frames j = mul_left_comm j 14 (block_in l / 8)

  pub blocks-few : blocks_in l ≤ 1048576
  blocks-few = subst (λ (k : ℕ). k ≤ 1048576) (sym o.head.blocks) (blocks-most (shape_in l) o.head.limits)

  -- the blocks hold the clip
  pub blocks-hold : total_in l ≤ blocks_in l * per_block l
  blocks-hold =
      let a = blocks-all (shape_in l) o.head.limits in
      let s = frames-some (total_in l) o.head.limits.some in
      let e = per-frames (block_count (shape_in l)) in
      subst (λ (k : ℕ). total_in l ≤ k * per_block l) (sym o.head.blocks) (omega (arith, a, s.0, s.1, s.2, e))

  -- every block begins within it
  pub block-begins : (j : ℕ) → j < blocks_in l → j * per_block l < total_in l
  unfolding frame_count
  block-begins j h =
      let f = block-first (shape_in l) j o.head.limits (block-there l o j h).block in
      let s = o.head.limits.some in
      let e = per-frames j in
      omega (arith, f, s, e)

  frames-upto : (j : ℕ) → j ≤ blocks_in l → length (frames_in l (min (j * (block_in l / 8)) (frame_count (total_in l)))).samples ≡ length (samples_from l 0 j)
  frames-upto j h = ap length (frames-blocks l o j (subst (λ (k : ℕ). j ≤ k) o.head.blocks h))

  -- the samples of the first j blocks
  pub samples-upto : (j : ℕ) → j ≤ blocks_in l → length (samples_from l 0 j) ≡ min (j * per_block l) (total_in l)
  samples-upto j h = go (ltb (j * (block_in l / 8)) (frame_count (total_in l))) refl
    where
      go : (t : Bool) → ltb (j * (block_in l / 8)) (frame_count (total_in l)) ≡ t → length (samples_from l 0 j) ≡ min (j * per_block l) (total_in l)
      go true q =
          let at = j * (block_in l / 8) in
          let lt = ltb-true at (frame_count (total_in l)) q in
          let m : min at (frame_count (total_in l)) ≡ at = omega arith in
          let s = frames-some (total_in l) o.head.limits.some in
          let e = per-frames j in
          let r = frames-before l at lt in
          sym (frames-upto j h) ∙ ap (λ (i : ℕ). length (frames_in l i).samples) m ∙ r ∙ omega (arith, lt, s.0, s.1, e)
      go false q =
          let at = j * (block_in l / 8) in
          let le = ltb-false at (frame_count (total_in l)) q in
          let m : min at (frame_count (total_in l)) ≡ frame_count (total_in l) = omega arith in
          let s = frames-some (total_in l) o.head.limits.some in
          let e = per-frames j in
          sym (frames-upto j h)
          ∙ ap (λ (i : ℕ). length (frames_in l i).samples) m
          ∙ ap length (frames-all l o)
          ∙ samples-count l o
          ∙ omega (arith, le, s.0, s.1, s.2, e)

  -- and those of some blocks after them
  pub samples-between : (j m : ℕ) → j + m ≤ blocks_in l → length (samples_from l j m) + min (j * per_block l) (total_in l) ≡ min ((j + m) * per_block l) (total_in l)
  samples-between j m h =
      let z : 0 + j ≡ j = omega arith in
      let a = ap length (samples-append l 0 j m) ∙ length-append (samples_from l 0 j) (samples_from l (0 + j) m) in
      let b = samples-upto j (omega arith) in
      let c = samples-upto (j + m) h in
      omega (arith, rw z at a, b, c)

  -- the samples of block j, as its entry counts them
  pub block-samples : (j : ℕ) → j < blocks_in l → address_to_sample (length_in l j) + j * per_block l ≡ min (suc j * per_block l) (total_in l)
  unfolding samples_from
  block-samples j h =
      let b = block-begins j h in
      let c = block-count l j (block-there l o j h) in
      let s = ap length (samples-snoc l 0 j j (omega arith)) ∙ length-append (samples_from l 0 j) (block_samples l j) in
      let u = samples-upto j (omega arith) in
      let v = samples-upto (suc j) h in
      omega (arith, b, c, s, u, v)

-- a block from its first sample on is the block
pub rest-whole : (l : List ℕ) (k : ℕ) → rest_in l k 0 (context_in l k) ≡ block_samples l k
unfolding rest_in block_samples sample_to_address Block.play
rest-whole l k = refl

none_over : (v p : ℕ) → v * p < p → v * p ≡ 0
none_over zero p h = zero-mul p
none_over (suc v) p h = let w = suc-mul v p in absurd (omega (arith, w, h))

-- ---- some samples of a block

module _ (l : List ℕ) (k s n : ℕ) (f : SomeOf l k s n) where
  pub some-small : s + n ≤ 14680064
  some-small =
      let o = f.found.opens in
      let c = block-samples l o k (subst (λ (x : ℕ). k < x) (sym o.head.blocks) f.found.block) in
      let m = o.head.limits.few in
      let i = f.inside in
      omega (arith, c, m, i)

  -- what playing on asks, of the body
  pub some-asked : (room : ℕ) → n ≤ room
      → (2 ≤ sample_to_address s % 16) × (sample_to_address s < sample_to_address (s + n - 1) + 1) × (sample_to_address (s + n - 1) + 1 ≤ 2 * length (body_in l k))
      × (address_to_sample (sample_to_address (s + n - 1) + 1) ≤ address_to_sample (sample_to_address s) + room)
  some-asked room h =
      let z = f.some in
      let i = f.inside in
      let t = s + n - 1 in
      let a = sample-order s t (omega (arith, z)) in
      let b = sample-before t (length_in l k) (omega (arith, z, i)) in
      let m = body-length l k f.found in
      let e = sample-end t in
      let d = back s in
      rw (add-one (sample_to_address t)) (sample-place s, a, omega (arith, b, m), omega (arith, e, d, z, h))

  -- what it leaves
  pub some_stored : (c after : FrameContext) (out o : List ℤ) → playing after o ≡ play_on (body_in l k) (coefficients_in l) (sample_to_address s) (sample_to_address (s + n - 1) + 1) c out
      → o ≡ sets out 0 (take n (rest_in l k s c))
  unfolding play_on rest_in
  some_stored c after out o e =
      let z = f.some in
      let i = f.inside in
      let b = rest-begins (body_in l k) (coefficients_in l) (length_in l k) s (omega (arith, z, i)) c n z i in
      ap (λ (p : Playing). p.samples) (rw (add-one (sample_to_address (s + n - 1))) at e) ∙ ap (sets out 0) b

-- ---- some samples from a block's first on

module _ (l : List ℕ) (k n : ℕ) (r : Later l k n) where
  abbrev rest : List ℤ
  rest = samples_from l k (blocks_in l - k)

  -- a turn: j blocks are done, and there is more
  module _ (j done : ℕ) (e : done ≡ min (j * per_block l) n) (t : done < n) where
    abbrev place : ℕ
    place = (k + j) * per_block l

    done-blocks : place ≡ k * per_block l + done
    done-blocks = add-mul k j (per_block l) ∙ omega (arith, e, t)

    turn-there : k + j < blocks_in l
    turn-there =
        let a = done-blocks in
        let b = blocks-hold l r.opens in
        let i = r.inside in
        lt_of_mul-lt-mul_right (per_block l) (omega (arith, a, b, i, t))

    pub turn-found : Found l (k + j)
    turn-found = block-there l r.opens (k + j) turn-there

    pub turn-some : (here : ℕ) → here ≡ min (per_block l) (n - done) → SomeOf l (k + j) 0 here
    turn-some here f =
        let a = done-blocks in
        let c = block-samples l r.opens (k + j) turn-there in
        let s = per-some l r.opens in
        let w = suc-mul (k + j) (per_block l) in
        let i = r.inside in
        record { found = turn-found; some = omega (arith, s, t, f); inside = omega (arith, a, c, w, i, t, f) }

    -- where the turn comes to
    pub turn-next : (here : ℕ) → here ≡ min (per_block l) (n - done) → (done + here ≡ min ((j + 1) * per_block l) n) × ((j + 1) * per_block l < done + here + per_block l)
    turn-next here f =
        let s = per-some l r.opens in
        let w : (j + 1) * per_block l ≡ j * per_block l + per_block l = ap (λ (i : ℕ). i * per_block l) (add-one j) ∙ suc-mul j (per_block l) in
        (omega (arith, e, w, t, f), omega (arith, e, w, s, t, f))

    turn-length : length (samples_from l k j) ≡ done
    turn-length =
        let a = done-blocks in
        let m = samples-between l r.opens k j (omega (arith, turn-there)) in
        let i = r.inside in
        omega (arith, a, m, i, t)

    turn-split : rest ≡ samples_from l k j ++ (block_samples l (k + j) ++ samples_from l (suc (k + j)) (blocks_in l - suc (k + j)))
    unfolding samples_from
    turn-split =
        let a : blocks_in l - k ≡ j + suc (blocks_in l - suc (k + j)) = omega (arith, turn-there) in
        ap (samples_from l k) a ∙ samples-append l k j (suc (blocks_in l - suc (k + j)))

    -- its samples are the next
    turn-stored : (here : ℕ) → here ≡ min (per_block l) (n - done) → take done rest ++ take here (block_samples l (k + j)) ≡ take (done + here) rest
    turn-stored here f =
        let z = turn-split in
        let q = turn-length in
        let m = block-count l (k + j) turn-found in
        let i = (turn-some here f).inside in
        let u = samples_from l k j in
        let x = block_samples l (k + j) in
        let y = samples_from l (suc (k + j)) (blocks_in l - suc (k + j)) in
        let g : take done rest ≡ u = ap (take done) z ∙ take_at u (x ++ y) done q in
        let v : take (done + here) rest ≡ u ++ take here (x ++ y) =
        ap (take (done + here)) z ∙ ap (λ (d : ℕ). take (d + here) (u ++ (x ++ y))) (sym q) ∙ take-append-add u (x ++ y) here in
        let w : take here (x ++ y) ≡ take here x = take-append-le here x y (omega (arith, i, m)) in
        rw (g, v, w)

    -- as the call leaves it
    pub turn-written : (here : ℕ) (out cur ys : List ℤ) → here ≡ min (per_block l) (n - done) → n ≤ length out → cur ≡ sets out 0 (take done rest)
        → ys ≡ sets (take (length cur - done) (drop done cur)) 0 (take here (block_samples l (k + j)))
        → take done cur ++ (ys ++ drop (length cur - done) (drop done cur)) ≡ sets out 0 (take (done + here) rest)
    turn-written here out cur ys f h e₁ e₂ =
        let u = take done rest in
        let v = take here (block_samples l (k + j)) in
        let m : length u ≡ done = ap (λ (x : List ℤ). length (take done x)) turn-split ∙ ap length (take_at (samples_from l k j) _ done turn-length) ∙ turn-length in
        let z : length (take (done + here) rest) ≡ length u + length v = ap length (sym (turn-stored here f)) ∙ length-append u v in
        let w = length-take (done + here) rest in
        part_then out cur u v ys done e₁ m (omega (arith, m, z, w, f, h, t)) e₂ ∙ ap (sets out 0) (turn-stored here f)

-- ---- a run

module _ (l : List ℕ) (first n : ℕ) (r : Run l first n) where
  -- the first sample's block, and its place in the block
  abbrev pub start : ℕ
  start = first / per_block l

  abbrev pub from : ℕ
  from = first % per_block l

  pub from_place : start * per_block l + from ≡ first
  from_place = div-add-mod' first (per_block l)

  pub from-inside : from < per_block l
  from-inside = let s = per-some l r.opens in mod-lt first (omega (arith, s))

  start-there : start < blocks_in l
  start-there =
      let s = per-some l r.opens in
      let b = blocks-hold l r.opens in
      let i = r.inside in
      let z = r.some in
      let p : 0 < per_block l = omega (arith, s) in
      let lt : first < blocks_in l * per_block l = omega (arith, b, i, z) in
      (div-lt_iff_lt-mul p).1 lt

  pub start-found : Found l start
  start-found = block-there l r.opens start start-there

  -- the first turn's samples are in its block
  pub head-some : (done : ℕ) → done ≡ min (per_block l - from) n → SomeOf l start from done
  head-some done e =
      let c = block-samples l r.opens start start-there in
      let a = from_place in
      let b = from-inside in
      let w = suc-mul start (per_block l) in
      let i = r.inside in
      let z = r.some in
      record { found = start-found; some = omega (arith, b, z, e); inside = omega (arith, a, b, c, w, i, e) }

  pub from-before : from < address_to_sample (length_in l start)
  from-before = let h = head-some (min (per_block l - from) n) refl in let z = h.some in let i = h.inside in omega (arith, z, i)

  -- the later blocks have the others
  pub later-run : (done : ℕ) → done ≡ min (per_block l - from) n → Later l (start + 1) (n - done)
  later-run done e =
      let a = from_place in
      let b = from-inside in
      let w = suc-mul start (per_block l) in
      let i = r.inside in
      record { opens = r.opens; inside = rw (add-one start) (omega (arith, a, b, w, i, e)) }

  -- the blocks visited are those that the run overlaps
  pub run-touched : (done v : ℕ) → done ≡ min (per_block l - from) n → n - done ≤ v * per_block l → v * per_block l < n - done + per_block l
      → 1 + v ≡ touched (per_block l) first n (blocks_in l)
  run-touched done v e lo hi = sym (touched-between (per_block l) first n start (suc start + v) r.some low high (ends (ltb done n) refl) reach (blocks_in l) most ∙ omega arith)
    where
      w : suc start * per_block l ≡ start * per_block l + per_block l
      w = suc-mul start (per_block l)

      sum : (suc start + v) * per_block l ≡ suc start * per_block l + v * per_block l
      sum = add-mul (suc start) v (per_block l)

      low : start * per_block l ≤ first
      low = let a = from_place in omega (arith, a)

      high : first < suc start * per_block l
      high = let a = from_place in let b = from-inside in omega (arith, a, b, w)

      reach : first + n ≤ (suc start + v) * per_block l
      reach = let a = from_place in let b = from-inside in omega (arith, a, b, w, sum, lo, e)

      ends : (t : Bool) → ltb done n ≡ t → (suc start + v) * per_block l < first + n + per_block l
      ends true q = let a = from_place in let lt = ltb-true done n q in omega (arith, a, w, sum, hi, e, lt)
      ends false q =
          let ge = ltb-false done n q in
          let z = none_over v (per_block l) (omega (arith, hi, ge)) in
          let i = r.some in
          omega (arith, low, w, sum, z, i)

      most : suc start + v ≤ blocks_in l
      most =
          let b = blocks-hold l r.opens in
          let i = r.inside in
          let k = suc-mul (blocks_in l) (per_block l) in
          let f = ends (ltb done n) refl in
          let lt : suc start + v < suc (blocks_in l) = lt_of_mul-lt-mul_right (per_block l) (omega (arith, b, i, k, f)) in
          omega (arith, lt)

  rest-length : (c : FrameContext) → length (rest_in l start from c) + from ≡ address_to_sample (length_in l start)
  unfolding rest_in
  rest-length c = rest-count (body_in l start) (coefficients_in l) (length_in l start) from from-before c

  -- from the first sample on there are all that follow it in the clip
  pub on-length : (c : FrameContext) → length (samples_on l first c) + first ≡ total_in l
  unfolding samples_on
  on-length c =
      let a = length-append (rest_in l start from c) (samples_from l (suc start) (blocks_in l - suc start)) in
      let k = rest-length c in
      let t = start-there in
      let m = samples-between l r.opens (suc start) (blocks_in l - suc start) (omega (arith, t)) in
      let z : suc start + (blocks_in l - suc start) ≡ blocks_in l = omega (arith, t) in
      let b = block-samples l r.opens start start-there in
      let h = blocks-hold l r.opens in
      let d = from_place in
      omega (arith, a, k, rw z at m, b, h, d)

  -- the first turn's samples and the later ones are the run's
  run-stored : (c : FrameContext) (done : ℕ) → done ≡ min (per_block l - from) n
      → take done (rest_in l start from c) ++ take (n - done) (samples_from l (start + 1) (blocks_in l - (start + 1))) ≡ take n (samples_on l first c)
  unfolding samples_on
  run-stored c done e = rw (add-one start) (go (ltb done n) refl)
    where
      ahead : List ℤ
      ahead = rest_in l start from c

      after : List ℤ
      after = samples_from l (suc start) (blocks_in l - suc start)

      go : (t : Bool) → ltb done n ≡ t → take done ahead ++ take (n - done) after ≡ take n (ahead ++ after)
      go true q =
          let lt = ltb-true done n q in
          let k = rest-length c in
          let b = block-samples l r.opens start start-there in
          let w = suc-mul start (per_block l) in
          let i = r.inside in
          let m : length ahead ≡ done = omega (arith, lt, k, b, w, i, e, from_place, from-inside) in
          let f : n ≡ length ahead + (n - done) = omega (arith, m, lt) in
          ap (λ (x : List ℤ). x ++ take (n - done) after) (take_all done ahead (omega (arith, m)))
          ∙ sym (ap (λ (x : ℕ). take x (ahead ++ after)) f ∙ take-append-add ahead after (n - done))
      go false q =
          let ge = ltb-false done n q in
          let f : done ≡ n = omega (arith, ge, e) in
          let z : n - done ≡ 0 = omega (arith, f) in
          let k = rest-length c in
          let i = (head-some done e).inside in
          rw (z, f) (append-nil (take n ahead) ∙ sym (take-append-le n ahead after (omega (arith, k, i, f))))

  -- as the calls leave them
  pub run-written : (c : FrameContext) (done : ℕ) (out cur ys : List ℤ) → done ≡ min (per_block l - from) n → n ≤ length out → cur ≡ sets out 0 (take done (rest_in l start from c))
      → ys ≡ sets (take (length cur - done) (drop done cur)) 0 (take (n - done) (samples_from l (start + 1) (blocks_in l - (start + 1))))
      → take done cur ++ (ys ++ drop (length cur - done) (drop done cur)) ≡ sets out 0 (take n (samples_on l first c))
  run-written c done out cur ys e h e₁ e₂ =
      let u = take done (rest_in l start from c) in
      let v = take (n - done) (samples_from l (start + 1) (blocks_in l - (start + 1))) in
      let k = rest-length c in
      let i = (head-some done e).inside in
      let m : length u ≡ done = length-take-le done (rest_in l start from c) (omega (arith, k, i)) in
      let w = length-take (n - done) (samples_from l (start + 1) (blocks_in l - (start + 1))) in
      part_then out cur u v ys done e₁ m (omega (arith, w, h, e)) e₂ ∙ ap (sets out 0) (run-stored c done e)

  -- ---- the whole run

  -- under the context at its first sample it is that part of what playing the whole clip gives
  pub run-is-part : samples_on l first (context_at_sample l first) ≡ drop first (samples_in l)
  unfolding samples_on context_at_sample rest_in samples_in samples_from block_samples
  run-is-part =
      let a : blocks_in l ≡ start + suc (blocks_in l - suc start) = omega (arith, start-there) in
      let p = per_block l in
      let b = block-begins l r.opens start start-there in
      let u = samples-upto l r.opens start (omega (arith, start-there)) in
      let m : length (samples_from l 0 start) ≡ start * p = omega (arith, u, b) in
      let c = block-count l start start-found in
      let d = from_place in
      let g : first ≡ length (samples_from l 0 start) + from = omega (arith, d, m) in
      let z : 0 + start ≡ start = omega arith in
      let x = block_samples l start in
      let y = samples_from l (suc start) (blocks_in l - suc start) in
      let q = rest-is (body_in l start) (coefficients_in l) (length_in l start) from from-before (context_in l start) in
      sym
      (ap (λ (k : ℕ). drop first (samples_from l 0 k)) a
      ∙ ap (drop first) (samples-append l 0 start (suc (blocks_in l - suc start)))
      ∙ ap (λ (j : ℕ). drop first (samples_from l 0 start ++ (block_samples l j ++ samples_from l (suc j) (blocks_in l - suc start)))) z
      ∙ ap (λ (j : ℕ). drop j (samples_from l 0 start ++ (x ++ y))) g
      ∙ drop-append-add (samples_from l 0 start) (x ++ y) from
      ∙ drop-append-le from x y (omega (arith, c, from-before))
      ∙ ap (λ (t : List ℤ). t ++ y) (sym q))

-- ---- what an accepted call leaves

-- an empty output touches no block
pub part_none : (l : List ℕ) (first n : ℕ) (out : List ℤ) → n ≡ run_count l first (length out) → n ≡ 0 → effect (accepted (0, 0)) out ≡ part_of l first out
part_none l first n out e z = rw (← e, z, touched_none (per_block l) first (blocks_in l))

pub part-made : (l : List ℕ) (first n v : ℕ) (out left : List ℤ) → Run l first n → n ≡ run_count l first (length out) → v ≡ touched (per_block l) first n (blocks_in l)
    → left ≡ sets out 0 (take n (samples_on l first (context_at_sample l first))) → effect (accepted (n, v)) left ≡ part_of l first out
part-made l first n v out left r e f g = rw (f, g, run-is-part l first n r, ← e)
