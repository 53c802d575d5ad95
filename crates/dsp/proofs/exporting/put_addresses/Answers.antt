use Rattle.std.proofs.Common.{ℕ, List, refl, ap, ◌∙◌, arith}
use Rattle.std.proofs.lemmas.List.Edits.{sets}
use Rattle.whole.proofs.Stores.{sets_then}
use Rattle.block.specs.Address.{sample_to_address}
use Rattle.layout.specs.Fields.{be32}
use Rattle.dsp.specs.Export.{address_bytes}
use Rattle.dsp.proofs.exporting.put_addresses.Goals as goal

pub overflow_cast-sample_to_address : goal.overflow_cast-sample_to_address
unfolding sample_to_address
overflow_cast-sample_to_address c =
    let b = c.requires.below c.if-looped.true in
    let w = c.requires.within c.if-looped.true in
    omega (arith, c.sample_to_address.ensures, b, w)

pub overflow_cast-sample_to_address-then-looped : goal.overflow_cast-sample_to_address-then-looped
unfolding sample_to_address
overflow_cast-sample_to_address-then-looped c = let w = c.requires.within c.if-looped.true in omega (arith, c.sample_to_address-then-looped.ensures, w)

pub returns-then-looped : goal.returns-then-looped
unfolding address_bytes
returns-then-looped c =
    let s = c.sample_to_address in
    let e = c.sample_to_address-then-looped in
    c.put32-then-looped.ensures
    ∙ ap (λ (m : List ℕ). sets m 20 (be32 e.result)) c.put32.ensures
    ∙ sets_then c.args.header.now 16 20 (be32 s.result) (be32 e.result) refl
    ∙ rw (c.if-looped.true, s.ensures, e.ensures)

pub returns-else-looped : goal.returns-else-looped
unfolding address_bytes
returns-else-looped c = c.zeros.ensures ∙ rw c.if-looped.false
