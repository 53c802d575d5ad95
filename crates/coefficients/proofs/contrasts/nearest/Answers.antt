-- The place of the least plain contrast is that of the least exact one where the gap is wide enough.
use Rattle.std.proofs.Common.{◌≡◌, ap, length, arith, lit≤}
use lib.Ieee.{of_bits, fits}
use Rattle.float.specs.Operations.{negative}
use Rattle.float.proofs.InUnits.{over, under, mag, at-most-literal}
use Rattle.float.proofs.RoundingError.{slack}
use Rattle.coefficients.specs.declared.contrasts.Best.{Best}
use Rattle.coefficients.specs.inner.SharedTerms.{record_side, least_by_terms}
use Rattle.coefficients.specs.inner.PlainContrasts.{plain_side, leading}
use Rattle.coefficients.proofs.ChosenVector.{least-below}
use Rattle.coefficients.proofs.PlainContrasts.{clear}
use Rattle.coefficients.proofs.contrasts.nearest.Goals as goal

pub returns-then-lead : goal.returns-then-lead
unfolding of_bits fits over under mag negative slack
returns-then-lead c =
    let a = c.args in
    let n = length a.ts.now in
    let l = c.gone_through-lead.result in
    let e : l ≡ leading a.ts.now (plain_side a.r a.val) n = c.gone_through-lead.ensures in
    let v : l.index ≡ (least_by_terms a.ts.now (record_side a.r a.val) n).index =
    rw e
    (clear a.ts.now n a.r a.val (c.requires.all_small c.if-small.true) (c.are_small.ensures c.if-are_small.true) _ (record { at_most = at-most-literal 1 tt (lit≤ tt); wide = lit≤ tt }) (rw e at c.if-lead.true)) in
    record { value = v; below = rw v (least-below _ _ n 8 (omega arith) c.requires.eight) }

pub returns : goal.returns
returns c =
    record {
      value = ap (λ (b : Best). b.index) c.gone_through.ensures;
      below = rw c.gone_through.ensures (least-below _ _ (length c.args.ts.now) 8 (omega arith) c.requires.eight);
    }
