-- The scale search for one pair of coefficients. Definitions only.
use Rattle.std.specs.Prelude.{Bool, cond, ◌||◌, List, ℕ, zero, suc, ◌+◌, ◌/◌, min, eqb, leb, ltb, ℤ}
use Rattle.whole.specs.declared.History.{History}
use Rattle.frame.specs.declared.pass.Pass.{Pass}
use Rattle.frame.specs.declared.search.Coded.{Coded}
use Rattle.frame.specs.Estimate.{first_exponent}
use Rattle.frame.specs.Pass.{run_pass}

-- "While y > 256, p becomes min(p+1, 11) and y is halved", k times at most
unfoldable pub raise_within : ℕ → ℕ → ℕ → ℕ
raise_within zero y p = p
raise_within (suc k) y p = cond (ltb 256 y) (raise_within k (y / 2) (min (p + 1) 11)) p

-- "y = o + 8"; 24 halvings are more than any overflow needs (`raise-ends`)
unfoldable pub raise : ℕ → ℕ → ℕ
raise o p = raise_within 24 (o + 8) p

-- "If p is 12 or o ≤ 1"
unfoldable pub is_last : ℕ → ℕ → Bool
is_last p o = eqb p 12 || leb o 1

-- a finished pass with its exponent and the passes made
unfoldable pub finished : Pass → ℕ → ℕ → Coded
finished t p n = record { nibbles = t.nibbles; samples = t.samples; distance = t.distance; exponent = p; passes = n }

-- from a pass with exponent p, with n passes made; k more at most: "the first pass that meets it ends the search; else p rises by 1 and another pass runs"
unfoldable pub search_within : ℕ → ℤ → ℤ → History → List ℤ → ℕ → ℕ → Coded
search_within zero c0 c1 h xs p n = finished (run_pass c0 c1 h xs p) p n
search_within (suc k) c0 c1 h xs p n =
    let t = run_pass c0 c1 h xs p in
    let q = raise t.overflow p in
    cond (is_last q t.overflow) (finished t q (n + 1)) (search_within k c0 c1 h xs (q + 1) (n + 1))

-- `try_coefficients`; "At most 13 passes" is never what ends it (`try-bound`)
unfoldable pub try_coefficients : ℤ → ℤ → History → List ℤ → Coded
try_coefficients c0 c1 h xs = search_within 13 c0 c1 h xs (first_exponent c0 c1 h xs) 0
