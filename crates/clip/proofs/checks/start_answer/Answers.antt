use Rattle.std.proofs.Common.{◌≤◌, arith}
use Rattle.whole.specs.Frames.{most}
use Rattle.clip.proofs.AcceptedCalls.{start-limits}
use Rattle.clip.proofs.checks.start_answer.Goals as goal

pub image_size-needed-requires : goal.image_size-needed-requires
image_size-needed-requires c =
    let g = c.args.g in
    let some : 1 ≤ g.total = grind arith in
    let few : g.total ≤ most = grind arith in
    let wide : 8 ≤ g.block = grind arith in
    let narrow : g.block ≤ 65536 = grind arith in
    rw (c.shape.ensures, c.cut.ensures) (start-limits g some few wide narrow)
