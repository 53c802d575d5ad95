use Rattle.std.proofs.Common.{◌∙◌, arith}
use Rattle.image.proofs.LawsBody.{found_some, body-length}
use Rattle.image.proofs.opened.Opened.play_block.Goals as goal

pub body-body-requires : goal.body-body-requires
body-body-requires c = c.requires.0.found

pub play_into-requires : goal.play_into-requires
play_into-requires c =
    let l = c.args.self.now in
    let f = c.requires.0.found in
    rw (c.body-body.ensures, c.requires.1) (omega (arith, found_some l c.args.k f), omega (arith, body-length l c.args.k f), c.requires.0.enough)

pub returns : goal.returns
returns c = c.play_into.ensures ∙ rw (c.body-body.ensures, c.requires.1, c.coefficients.ensures)
