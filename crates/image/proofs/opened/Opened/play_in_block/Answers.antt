use Rattle.std.proofs.Common.{length, arith}
use Rattle.block.specs.Address.{sample_to_address}
use Rattle.image.proofs.LawsRun.{some-small, some-asked, some_stored}
use Rattle.image.proofs.opened.Opened.play_in_block.Goals as goal

pub body-body-requires : goal.body-body-requires
body-body-requires c = c.requires.0.found

pub overflow_cast-from : goal.overflow_cast-from
overflow_cast-from c = let m = some-small c.args.self.now c.args.k c.args.from c.args.count c.requires.0 in omega (arith, m)

pub overflow_add-from : goal.overflow_add-from
overflow_add-from c = let m = some-small c.args.self.now c.args.k c.args.from c.args.count c.requires.0 in omega (arith, m)

pub overflow_cast-from-2 : goal.overflow_cast-from-2
overflow_cast-from-2 c = let m = some-small c.args.self.now c.args.k c.args.from c.args.count c.requires.0 in omega (arith, m)

pub overflow_add-last : goal.overflow_add-last
unfolding sample_to_address
overflow_add-last c = let m = some-small c.args.self.now c.args.k c.args.from c.args.count c.requires.0 in omega (arith, m, c.sample_to_address-last.ensures)

pub play_on-requires : goal.play_on-requires
play_on-requires c =
    let a = c.args in
    rw (c.body-body.ensures, c.sample_to_address-address.ensures, c.sample_to_address-last.ensures)
    (some-asked a.self.now a.k a.from a.count c.requires.0 (length a.out.now) c.requires.1)

pub returns : goal.returns
returns c =
    let a = c.args in
    let e = rw (c.body-body.ensures, c.sample_to_address-address.ensures, c.sample_to_address-last.ensures, c.coefficients.ensures) at c.play_on.ensures in
    some_stored a.self.now a.k a.from a.count c.requires.0 a.context c.play_on.result a.out.now _ e
