use Rattle.std.proofs.Common.{◌+◌, ◌^◌, Bool, cond, sym, ap, ◌∙◌, zero-add}
use Rattle.float.proofs.Patterns.{pattern-law}
use Rattle.float.proofs.packing.pattern.Goals as goal

pub returns-then-negative : goal.returns-then-negative
returns-then-negative c =
    let n = c.magnitude-n.result in
    ap (λ (b : Bool). cond b (2 ^ 63) 0 + n) (sym c.if-negative.true)
    ∙ pattern-law c.args.negative c.args.q c.args.k n c.requires.0 c.requires.1 c.magnitude-n.ensures

pub returns-else-negative : goal.returns-else-negative
returns-else-negative c =
    let n = c.magnitude-n.result in
    sym (zero-add n)
    ∙ ap (λ (b : Bool). cond b (2 ^ 63) 0 + n) (sym c.if-negative.false)
    ∙ pattern-law c.args.negative c.args.q c.args.k n c.requires.0 c.requires.1 c.magnitude-n.ensures
