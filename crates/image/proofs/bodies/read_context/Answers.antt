use Rattle.std.proofs.Common.{◌≡◌, ◌+◌, arith}
use Rattle.layout.specs.Sizes.{entry_place}
use Rattle.image.specs.Reading.{header_in, newest_in, older_in, context_in}
use Rattle.image.proofs.bodies.read_context.Goals as goal

pub returns : goal.returns
unfolding header_in newest_in older_in context_in
returns c =
    let at = entry_place c.args.k in
    let newest : at + 8 + 2 ≡ at + 10 = omega arith in
    let older : at + 8 + 4 ≡ at + 12 = omega arith in
    rw (c.context_at.ensures, c.entry_place.ensures, newest, older)
