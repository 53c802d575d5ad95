-- One record more joins.
use Rattle.std.proofs.Common.{◌≡◌, length, map, ap, ◌∙◌, arith, take_all, ◌<◌, rules}
use Rattle.std.proofs.lemmas.List.{length-map}
use mathlib.Core.List.{foldl}
use Rattle.coefficients.specs.inner.SharedTerms.{vector_terms}
use Rattle.coefficients.specs.Clusters.{gather, add_to_nearest, empty, none, no_cluster}
use Rattle.coefficients.specs.Store.{blank_record}
use Rattle.coefficients.proofs.ChosenVector.{counts-joined, counts-none}
use Rattle.coefficients.proofs.StoredRecords.{foldl-take, foldl-same}
use Rattle.coefficients.proofs.SharedTerms.{add_to_nearest_by_terms, added_is, added-terms}
use Rattle.coefficients.proofs.clusters.gather.Goals as goal

pub loop-k-init : goal.loop-k-init
unfolding empty none
loop-k-init c = let e : c.default-clusters.result ≡ no_cluster = search rules in (rw e, counts-none c.default-clusters.result 8 e)

pub loop-k-preserved : goal.loop-k-preserved
loop-k-preserved c =
    let ts = map vector_terms c.args.vs.now in
    let n = length c.args.vs.now in
    let cs = c.loop-k.clusters in
    let i = c.nearest-i.result in
    let h : c.loop-k.k < length c.args.records.now = omega arith in
    let v = rw (c.all_terms-terms.ensures, length-map) at c.nearest-i.ensures.value in (
      rw (foldl-take (add_to_nearest_by_terms ts n) empty c.args.records.now c.loop-k.k blank_record h, ← c.loop-k.invariant.0, ← c.get-r.ensures)
          (added_is ts n cs c.get-r.result c.record_terms-q.result i c.plus3.result c.record_terms-q.ensures v c.plus3.ensures),
      counts-joined cs i c.loop-k.k _ (omega (arith, c.loop-k.invariant.1 i)) c.loop-k.invariant.1,
    )

pub returns : goal.returns
unfolding gather
returns c =
    let vs = c.args.vs.now in
    let rs = c.args.records.now in
    let n = length vs in
    c.loop-k.invariant.0
    ∙ ap (foldl (add_to_nearest_by_terms (map vector_terms vs) n) empty) (take_all c.loop-k.k rs (omega arith))
    ∙ foldl-same (add_to_nearest_by_terms (map vector_terms vs) n) (add_to_nearest vs n) empty rs (λ u r. added-terms vs u r)
