use Rattle.std.proofs.Common.{ap, ◌∙◌, arith}
use Rattle.std.proofs.lemmas.Int.{to_z-of_z}
use Rattle.clip.specs.Encoding.{left, push}
use Rattle.clip.proofs.Storing.{full-framed, push-full, push-part}
use Rattle.clip.proofs.Encoder.push.Goals as goal

pub encode-requires : goal.encode-requires
encode-requires c = full-framed c.args.self.now _ c.args.image.now _ c.requires (omega (arith, c.if-full.true))

pub overflow_add-self : goal.overflow_add-self
overflow_add-self c = omega (arith, c.requires.rest, c.requires.limits.few)

pub returns-then-full : goal.returns-then-full
returns-then-full c =
    let e = c.args.self.now in
    let l = c.args.image.now in
    c.encode.ensures ∙ push-full e _ l (omega (arith, c.if-full.true)) ∙ ap (push (left e l)) (to_z-of_z _ _ c.ranges.sample)

pub returns-else-full : goal.returns-else-full
returns-else-full c =
    let e = c.args.self.now in
    let l = c.args.image.now in
    push-part e _ l (λ q. c.if-full.false (omega (arith, q))) ∙ ap (push (left e l)) (to_z-of_z _ _ c.ranges.sample)
