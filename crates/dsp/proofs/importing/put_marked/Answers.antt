use Rattle.std.proofs.Common.{◌≡◌, ℕ, List, length, ap, ◌∙◌, rules}
use Rattle.std.proofs.lemmas.List.Edits.{sets}
use Rattle.layout.specs.Fields.{mark}
use Rattle.dsp.proofs.Contents.{marked-head}
use Rattle.dsp.proofs.importing.put_marked.Goals as goal

pub returns : goal.returns
returns c =
    let sixteen : length c.args.given.coefficients ≡ 16 = search rules in
    c.put_mark.ensures
    ∙ ap (λ (m : List ℕ). sets m 0 mark) c.put_head.ensures
    ∙ marked-head c.args.image.now c.args.given sixteen c.requires.0
