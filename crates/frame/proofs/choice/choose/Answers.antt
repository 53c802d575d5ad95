-- `choose` meets its contract.
use Rattle.std.proofs.Common.{◌≡◌, ap, ◌∙◌, arith}
use Rattle.frame.specs.Choice.{held_after}
use Rattle.frame.specs.inner.Places.{history_of, samples_of}
use Rattle.frame.proofs.choice.choose.Goals as goal

pub returns : goal.returns
returns c =
    let fs = c.new-frame.result.samples in
    let e : c.loop-k.k ≡ 8 = omega arith in
    rw (c.new-frame.ensures.before, c.new-frame.ensures.within) at (c.loop-k.invariant ∙ ap (held_after (history_of fs) (samples_of fs) c.args.bank.now.coefficients) e)
