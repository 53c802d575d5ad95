use Rattle.std.proofs.Common.{◌%◌, ◌^◌, sym, ◌∙◌, mod-lt, pow_pos}
use Rattle.float.proofs.Decomposition.{t-pos, zeros-ge, parts_low, plain-normal}
use Rattle.float.proofs.fusing.decomposed.Goals as goal

pub normal_parts-requires : goal.normal_parts-requires
normal_parts-requires c = plain-normal c.args.n c.requires (λ z. c.if-field-ne0.true (c.field.ensures ∙ z))

pub overflow_sub-up : goal.overflow_sub-up
overflow_sub-up c =
    let n = c.args.n in
    rw c.from-up.ensures (zeros-ge (n % 2 ^ 52) (t-pos n c.requires (sym c.field.ensures ∙ c.if-field-ne0.false)) (mod-lt n (pow_pos 52)))

pub returns : goal.returns
returns c = rw (c.is_negative.ensures, c.from-up.ensures) (parts_low c.args.n c.requires (sym c.field.ensures ∙ c.if-field-ne0.false))
