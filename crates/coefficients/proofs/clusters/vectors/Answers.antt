-- The vectors at the front grow, those behind them stay.
use Rattle.std.proofs.Common.{◌≡◌, ℕ, ◌%◌, replicate, ap, sym, refl, arith, rules}
use Rattle.coefficients.specs.Clusters.{vectors, none}
use Rattle.coefficients.proofs.RenewedVectors.{grown-thrice, still-eight}
use Rattle.coefficients.proofs.clusters.vectors.Goals as goal

pub slice_bounds-grow-end-3 : goal.slice_bounds-grow-end-3
slice_bounds-grow-end-3 c = still-eight c.grow.new.vs c.grow-2.new.vs _ c.grow.auto.vs refl c.grow-2.auto.vs

pub grow-requires-3 : goal.grow-requires-3
grow-requires-3 c =
    let d = c.default-vs.result in
    let e = still-eight c.grow.new.vs c.grow-2.new.vs (replicate 6 d) c.grow.auto.vs refl c.grow-2.auto.vs in (omega (arith, e), ap (λ (n : ℕ). n % 2) (sym e))

pub returns : goal.returns
unfolding vectors none
returns c =
    let e : c.default-vs.result ≡ none = search rules in
    rw (← c.first_vector.ensures, ← c.with_one.ensures, ← e)
    (grown-thrice _ c.grow.new.vs c.grow-2.new.vs c.grow-3.new.vs c.args.records.now refl c.grow.ensures c.grow-2.ensures c.grow-3.ensures)
