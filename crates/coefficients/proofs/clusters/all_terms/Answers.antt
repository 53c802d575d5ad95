-- The terms of one vector more.
use Rattle.std.proofs.Common.{◌<◌, length, sym, ◌∙◌, arith, length-set}
use Rattle.std.proofs.lemmas.List.{take_more_set, map_more}
use Rattle.coefficients.specs.Clusters.{blank}
use Rattle.coefficients.specs.inner.SharedTerms.{vector_terms}
use Rattle.coefficients.proofs.clusters.all_terms.Goals as goal

pub loop-i-preserved : goal.loop-i-preserved
loop-i-preserved c =
    let v = c.loop-i.invariant in
    let y = c.vector_terms.result in
    let h : c.loop-i.i < length c.loop-i.terms = omega (arith, v.0) in (
      length-set c.loop-i.terms c.loop-i.i y ∙ v.0,
      rw (take_more_set c.loop-i.terms c.loop-i.i y h, v.1, c.vector_terms.ensures) (sym (map_more vector_terms c.args.vs.now c.loop-i.i blank c.loop-i-test.true)),
    )
