-- One record more.
use Rattle.std.proofs.Common.{◌<◌, length, ap, ◌∙◌, refl, take_all, arith}
use Rattle.coefficients.specs.Store.{totals, start, add_filtered, blank_record}
use Rattle.coefficients.proofs.StoredRecords.{foldl-take}
use Rattle.coefficients.proofs.store.totals.Goals as goal

pub loop-k-init : goal.loop-k-init
unfolding totals start
loop-k-init c = refl

pub loop-k-preserved : goal.loop-k-preserved
unfolding totals
loop-k-preserved c = let h : c.loop-k.k < length c.args.records.now = omega arith in
    rw (foldl-take add_filtered start c.args.records.now c.loop-k.k blank_record h, ← c.loop-k.invariant, ← c.get.ensures) c.add_filtered-sums.ensures

pub returns : goal.returns
returns c = c.loop-k.invariant ∙ ap totals (take_all c.loop-k.k c.args.records.now (omega arith))
