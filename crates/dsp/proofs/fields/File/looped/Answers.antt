use Rattle.std.proofs.Common.{◌≡◌, sym, ◌∙◌, arith}
use borrow.Author.Tests.{eq-eqb, ne_eqb}
use Rattle.block.specs.Address.{address_to_sample}
use Rattle.layout.specs.Sizes.{no_loop}
use Rattle.dsp.specs.File.{loop_of}
use Rattle.dsp.proofs.fields.File.looped.Goals as goal

pub returns-then-flag-ne1 : goal.returns-then-flag-ne1
unfolding loop_of
returns-then-flag-ne1 c =
    let d = c.default.ensures in
    let none : c.default.result ≡ no_loop = λ i. record { start = d.0 i; end = d.1.0 i; present = d.1.1 i } in
    rw (none, ← c.flag.ensures, ne_eqb _ _ c.if-flag-ne1.true)

pub overflow_cast-result : goal.overflow_cast-result
unfolding address_to_sample
overflow_cast-result c = omega (arith, c.address_to_sample.ensures, c.start_address.type_inv)

pub overflow_add-result : goal.overflow_add-result
unfolding address_to_sample
overflow_add-result c = omega (arith, c.address_to_sample-2.ensures, c.last_address.type_inv)

pub overflow_cast-result-2 : goal.overflow_cast-result-2
unfolding address_to_sample
overflow_cast-result-2 c = omega (arith, c.address_to_sample-2.ensures, c.last_address.type_inv)

pub returns : goal.returns
unfolding loop_of
returns c =
    rw (
      c.address_to_sample.ensures,
      c.start_address.ensures,
      c.address_to_sample-2.ensures,
      c.last_address.ensures,
      eq-eqb _ _ (sym c.flag.ensures ∙ c.if-flag-ne1.false),
    )
