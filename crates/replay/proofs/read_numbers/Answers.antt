use Rattle.std.proofs.Common.{ℕ, ◌≡◌, ◌+◌, ◌*◌, ◌<◌, length, arith, ap, ◌∙◌}
use Rattle.std.proofs.Math.ListN.{length-set}
use Rattle.std.proofs.lemmas.List.Edits.{fill_by_more}
use Rattle.std.proofs.lemmas.List.FromFn.{fill_by_all}
use Rattle.replay.proofs.read_numbers.Goals as goal

pub loop-i-preserved : goal.loop-i-preserved
loop-i-preserved g c =
    let at = g.T.Number.number_at in
    let w = g.T.Number.DIGITS in
    let l = c.loop-i in
    let e : c.read.result ≡ at c.args.line.now (c.args.at + w * l.i) =
    c.read.ensures ∙ ap (λ (m : ℕ). at c.args.line.now (c.args.at + m * l.i)) c.DIGITS.ensures in
    let n : l.i < length l.numbers = omega (arith, l.invariant.0) in (
      length-set l.numbers l.i c.read.result ∙ l.invariant.0,
      λ k d h. rw e (fill_by_more (λ (j : ℕ). at c.args.line.now (c.args.at + w * j)) l.numbers l.i d n (λ j q. l.invariant.1 j d q) k h),
    )

pub returns : goal.returns
returns g c =
    let l = c.loop-i in
    fill_by_all (λ (j : ℕ). g.T.Number.number_at c.args.line.now (c.args.at + g.T.Number.DIGITS * j)) l.numbers (length c.args.numbers.now) (g.T.Number.number_at c.args.line.now c.args.at) l.invariant.0
    (λ k q. l.invariant.1 k (g.T.Number.number_at c.args.line.now c.args.at) (omega arith))
