use Rattle.std.proofs.Common.{◌≡◌, true, ◌∙◌, rules}
use lib.Ieee.{binary64, to_bits}
use Rattle.float.specs.inner.Operands.{are_near}
use Rattle.float.proofs.Decomposition.{near-is}
use Rattle.float.proofs.SpecialValues.{normal-finite, fma-read, fma-bits, read_back, held}
use Rattle.float.proofs.mul_add.Goals as goal

pub float_from_bits-result : goal.float_from_bits-result
float_from_bits-result c =
    let a = c.args in
    let w = c.well_formed in
    let near : are_near (to_bits binary64 a.a) (to_bits binary64 a.b) (to_bits binary64 a.c) ≡ true = search rules in
    let n = near-is (to_bits binary64 a.a) (to_bits binary64 a.b) (to_bits binary64 a.c) near in
    fma-bits a.a a.b a.c c.fused_near.result (normal-finite a.a (held w.0.1) n.first) (normal-finite a.b (held w.1.0.1) n.second) (normal-finite a.c (held w.1.1.0.1) n.third)
    (c.fused_near.ensures ∙ read_back a.a a.b a.c (held w.0.1) (held w.1.0.1) (held w.1.1.0.1))

pub returns-then-are_near : goal.returns-then-are_near
returns-then-are_near c =
    let a = c.args in
    let w = c.well_formed in
    fma-read a.a a.b a.c c.fused_near.result (c.fused_near.ensures ∙ read_back a.a a.b a.c (held w.0.1) (held w.1.0.1) (held w.1.1.0.1))
