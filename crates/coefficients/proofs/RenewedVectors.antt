-- One vector more is made anew, or doubled; and what is done to some vectors at the front leaves those behind them.
use Rattle.std.proofs.Common.{◌≡◌, ℕ, zero, suc, ◌+◌, ◌/◌, ◌≤◌, List, ◌++◌, length, get_or, set, take, drop, sym, refl, ap, ap₂, ◌∙◌, add-one, arith, length-set, length-append, length-drop, length-take-le}
use Rattle.std.proofs.lemmas.List.{get_or_append_left, set-append_left, take-append-drop}
use Rattle.coefficients.specs.declared.contrasts.Best.{Best}
use Rattle.coefficients.specs.declared.merging.Record.{Record}
use Rattle.coefficients.specs.declared.clusters.Cluster.{Cluster}
use Rattle.coefficients.specs.declared.merging.Vec3.{Vec3}
use Rattle.coefficients.specs.Analysis.{contrast, merge_finish_record}
use Rattle.coefficients.specs.Clusters.{blank, blank_cluster, better, least, joined, add_to_nearest, empty, gather, mean, with_one, made, renewed, filter_round, doubled, beside, grown}
use Rattle.coefficients.proofs.StoredRecords.{foldl-same}

-- every vector is made anew, also one that no record joined
pub renewed-next : (vs : List Vec3) (t : List Cluster) (k : ℕ) → renewed vs t (suc k) ≡ set (renewed vs t k) k (made t k)
unfolding renewed
renewed-next vs t k = refl

-- as the code has it
pub renewed_more : (vs : List Vec3) (t : List Cluster) (k : ℕ)
    → renewed vs t (k + 1) ≡ set (renewed vs t k) k (with_one (merge_finish_record (mean (get_or t k blank_cluster).sum (get_or t k blank_cluster).count)))
unfolding made
renewed_more vs t k = rw add-one (renewed-next vs t k)

pub doubled_more : (vs : List Vec3) (m k : ℕ) → doubled vs m (k + 1) ≡ set (doubled vs m k) (m + k) (beside (get_or (doubled vs m k) k blank))
unfolding doubled
doubled_more vs m k = rw add-one

-- ---- the front of some vectors

pub renewed-length : (vs : List Vec3) (cs : List Cluster) (k : ℕ) → length (renewed vs cs k) ≡ length vs
unfolding renewed
renewed-length vs cs zero = refl
renewed-length vs cs (suc k) = length-set (renewed vs cs k) k (made cs k) ∙ renewed-length vs cs k

pub doubled-length : (vs : List Vec3) (m k : ℕ) → length (doubled vs m k) ≡ length vs
unfolding doubled
doubled-length vs m zero = refl
doubled-length vs m (suc k) = length-set (doubled vs m k) (m + k) (beside (get_or (doubled vs m k) k blank)) ∙ doubled-length vs m k

module _ (front rest : List Vec3) where
  doubled-front : (m k : ℕ) → m + k ≤ length front → doubled (front ++ rest) m k ≡ doubled front m k ++ rest
  unfolding doubled
  doubled-front m zero h = refl
  doubled-front m (suc k) h =
      let n = doubled-length front m k in
      ap (λ (vs : List Vec3). set vs (m + k) (beside (get_or vs k blank))) (doubled-front m k (omega arith))
      ∙ ap (λ (v : Vec3). set (doubled front m k ++ rest) (m + k) (beside v)) (get_or_append_left (doubled front m k) rest blank k (omega (arith, n)))
      ∙ set-append_left (doubled front m k) rest (m + k) (beside (get_or (doubled front m k) k blank)) (omega (arith, n))

  renewed-front : (cs : List Cluster) (k : ℕ) → k ≤ length front → renewed (front ++ rest) cs k ≡ renewed front cs k ++ rest
  unfolding renewed
  renewed-front cs zero h = refl
  renewed-front cs (suc k) h =
      ap (λ (vs : List Vec3). set vs k (made cs k)) (renewed-front cs k (omega arith))
      ∙ set-append_left (renewed front cs k) rest k (made cs k) (omega (arith, renewed-length front cs k))

  least-front : (r : Record) (k : ℕ) → k ≤ length front → least (front ++ rest) r k ≡ least front r k
  unfolding least
  least-front r zero h = refl
  least-front r (suc k) h =
      ap₂ (λ (b : Best) (v : Vec3). better b (contrast v r) k) (least-front r k (omega arith)) (get_or_append_left front rest blank k (omega arith))

  round-front : (n : ℕ) (rs : List Record) → n ≤ length front → filter_round (front ++ rest) n rs ≡ filter_round front n rs ++ rest
  unfolding filter_round gather add_to_nearest
  round-front n rs h =
      ap (λ (cs : List Cluster). renewed (front ++ rest) cs n)
      (foldl-same (add_to_nearest (front ++ rest) n) (add_to_nearest front n) empty rs
      (λ cs r. ap (λ (b : Best). set cs b.index (joined (get_or cs b.index blank_cluster) r)) (least-front r n h)))
      ∙ renewed-front (gather front n rs) n h

pub round-length : (vs : List Vec3) (n : ℕ) (rs : List Record) → length (filter_round vs n rs) ≡ length vs
unfolding filter_round
round-length vs n rs = renewed-length vs (gather vs n rs) n

grown-front : (front rest : List Vec3) (m : ℕ) (rs : List Record) → m + m ≤ length front → grown (front ++ rest) m rs ≡ grown front m rs ++ rest
unfolding grown
grown-front front rest m rs h =
    let d = doubled front m m in
    let l = doubled-length front m m in
    let f = filter_round d (m + m) rs in
    ap (λ (vs : List Vec3). filter_round (filter_round vs (m + m) rs) (m + m) rs) (doubled-front front rest m m h)
    ∙ ap (λ (vs : List Vec3). filter_round vs (m + m) rs) (round-front d rest (m + m) rs (omega (arith, l)))
    ∙ round-front f rest (m + m) rs (omega (arith, l, round-length d (m + m) rs))

-- the first 2 m of some vectors, grown in place
pub grown-part : (vs ys : List Vec3) (k m : ℕ) (rs : List Record) → k ≡ m + m → k ≤ length vs → ys ≡ grown (take k vs) m rs → ys ++ drop k vs ≡ grown vs m rs
grown-part vs ys k m rs e h p =
    ap (λ (l : List Vec3). l ++ drop k vs) p
    ∙ sym (grown-front (take k vs) (drop k vs) m rs (omega (arith, length-take-le k vs h)))
    ∙ ap (λ (l : List Vec3). grown l m rs) (take-append-drop k vs)

pub grown-length : (vs : List Vec3) (m : ℕ) (rs : List Record) → length (grown vs m rs) ≡ length vs
unfolding grown
grown-length vs m rs = round-length (filter_round (doubled vs m m) (m + m) rs) (m + m) rs ∙ round-length (doubled vs m m) (m + m) rs ∙ doubled-length vs m m

pub still-eight : (a b rest : List Vec3) → length a ≡ 2 → length rest ≡ 6 → length b ≡ length (take 4 (a ++ rest)) → 8 ≡ length (b ++ drop 4 (a ++ rest))
still-eight a b rest h k l =
    let n = length-append a rest in
    omega (arith, length-append b (drop 4 (a ++ rest)), length-drop 4 (a ++ rest), length-take-le 4 (a ++ rest) (omega arith))

-- eight vectors grown in place: two of them, then four, then all
pub grown-thrice : (vs a b c : List Vec3) (rs : List Record) → length vs ≡ 8 → a ≡ grown (take 2 vs) (length (take 2 vs) / 2) rs
    → b ≡ grown (take 4 (a ++ drop 2 vs)) (length (take 4 (a ++ drop 2 vs)) / 2) rs
    → c ≡ grown (b ++ drop 4 (a ++ drop 2 vs)) (length (b ++ drop 4 (a ++ drop 2 vs)) / 2) rs
    → c ≡ grown (grown (grown vs 1 rs) 2 rs) 4 rs
grown-thrice vs a b c rs l p q r =
    let n : length (take 2 vs) / 2 ≡ 1 = omega (arith, length-take-le 2 vs (omega arith)) in
    let first = grown-part vs a 2 1 rs refl (omega arith) (rw n at p) in
    let ws = a ++ drop 2 vs in
    let k : length ws ≡ 8 = ap length first ∙ grown-length vs 1 rs ∙ l in
    let m : length (take 4 ws) / 2 ≡ 2 = omega (arith, length-take-le 4 ws (omega arith)) in
    let second = grown-part ws b 4 2 rs refl (omega arith) (rw m at q) in
    let i : length (b ++ drop 4 ws) / 2 ≡ 4 = omega (arith, ap length second, grown-length ws 2 rs) in
    (rw i at r) ∙ ap (λ (us : List Vec3). grown us 4 rs) second ∙ ap (λ (us : List Vec3). grown (grown us 2 rs) 4 rs) first
