use Rattle.std.proofs.Common.{◌≡◌, ℕ, ◌+◌, ◌++◌, length, refl, ap, ◌∙◌, arith, rules}
use Rattle.std.proofs.lemmas.List.Edits.{sets}
use Rattle.whole.specs.Frames.{frame_count}
use Rattle.layout.specs.Fields.{be16, be32, no_mark}
use Rattle.layout.specs.Sizes.{loop_count, block_count}
use Rattle.clip.specs.Image.{coefficient_bytes, head_bytes}
use Rattle.clip.proofs.FieldRuns.{runs4, coefficient-length}
use Rattle.clip.proofs.contents.put_head.Goals as goal

pub returns : goal.returns
unfolding head_bytes coefficient_bytes block_count frame_count
returns c =
    let g = c.args.g in
    let l = c.args.image.now in
    let cs = g.coefficients in
    let n : length cs ≡ 16 = search rules in
    let len : 48 ≡ 16 + length (coefficient_bytes cs) = omega (arith, coefficient-length cs) in
    runs4 l c.zeros.new.buf c.put_numbers.new.image c.put_coefficients.new.image c.put_rest.new.image
    no_mark (be32 g.total ++ (be32 g.rate ++ be32 g.block)) (coefficient_bytes cs) (be16 g.gain ++ (be16 (loop_count g.looped) ++ be32 c.args.blocks)) 0 4 16 48
    c.zeros.ensures c.put_numbers.ensures c.put_coefficients.ensures c.put_rest.ensures refl refl len
    ∙ ap (λ (b : ℕ). sets l 0 (no_mark ++ ((be32 g.total ++ (be32 g.rate ++ be32 g.block)) ++ (coefficient_bytes cs ++ (be16 g.gain ++ (be16 (loop_count g.looped) ++ be32 b))))))
    c.requires.1
