-- `coefficients_ok` meets its contract: each chunk is the next pair.
use Rattle.std.proofs.Common.{◌≡◌, ◌∙◌, refl, sym, ap, ◌*◌, arith, rules, w16, length, length-append, length-drop}
use Rattle.std.proofs.Math.Facts.{to_z-of_z}
use mir.Val.{SFits}
use Rattle.frame.specs.Choice.{c0_at, c1_at}
use Rattle.frame.specs.Frame.{pairs_ok, coefficients_ok}
use Rattle.frame.proofs.LawsFrame.{limit-broken, next_pair, pairs-good}
use Rattle.frame.proofs.coefficients_ok.Goals as goal

pub loop-pair-init : goal.loop-pair-init
unfolding pairs_ok
loop-pair-init c =
    let e = c.into_iter-pair-iterator.ensures.into_iter_gives in
    rw e (c.chunks_exact-pair-items.ensures.size, omega arith, c.chunks_exact-pair-items.ensures.rest, refl)

pub returns-then-not-pair_ok : goal.returns-then-not-pair_ok
returns-then-not-pair_ok c =
    let cs = c.args.coefficients in
    let k = length c.loop-pair.yielded in
    let st = c.in-Some.ensures.steps in
    let v = c.loop-pair.invariant in
    let n : length cs ≡ 16 = search rules in
    let t = next_pair cs c.in-Some.pair.now _ k (sym v.2 ∙ st.1.0) (st.1.1 ∙ v.0) n in
    let f : SFits w16 (c0_at cs k) = search rules in
    let g : SFits w16 (c1_at cs k) = search rules in
    let e = rw (t.1, t.2, to_z-of_z f, to_z-of_z g) at c.pair_ok.ensures in
    limit-broken cs k t.0 (cc)

pub loop-pair-preserved : goal.loop-pair-preserved
loop-pair-preserved c =
    let cs = c.args.coefficients in
    let k = length c.loop-pair.yielded in
    let st = c.in-Some.ensures.steps in
    let v = c.loop-pair.invariant in
    let n : length cs ≡ 16 = search rules in
    let t = next_pair cs c.in-Some.pair.now _ k (sym v.2 ∙ st.1.0) (st.1.1 ∙ v.0) n in
    let f : SFits w16 (c0_at cs k) = search rules in
    let g : SFits w16 (c1_at cs k) = search rules in
    let e = rw (t.1, t.2, to_z-of_z f, to_z-of_z g) at c.pair_ok.ensures in
    rw (length-append) (st.0 ∙ v.0, omega (arith, t.0), t.3, v.3 ∙ pairs-good cs k (cc))

pub returns : goal.returns
unfolding coefficients_ok
returns c =
    let cs = c.args.coefficients in
    let k = length c.loop-pair.yielded in
    let v = c.loop-pair.invariant in
    let n : length cs ≡ 16 = search rules in
    let e : k ≡ 8 = omega (arith, v.1, ap length v.2, length-drop (2 * k) cs, c.in-None.ensures.steps.1.0, v.0, n) in
    v.3 ∙ ap (pairs_ok cs) e
