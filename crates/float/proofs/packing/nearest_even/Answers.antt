use Rattle.std.proofs.Common.{◌-◌, ◌^◌, sym, ap, ◌∙◌, pow_pos}
use lib.Ieee.Nearest.{closest}
use Rattle.float.proofs.NearestEven.{near-lt, near-eq, near-gt, half, unshifted}
use Rattle.float.proofs.packing.nearest_even.Goals as goal

pub returns-then-h-eq0 : goal.returns-then-h-eq0
returns-then-h-eq0 c =
    let d = c.args.d in
    near-lt c.args.w (2 ^ (d - 1)) (pow_pos (d - 1)) c.if-h-eq0.true ∙ ap (closest c.args.w) (half d c.requires.0)

pub returns-then-h-d : goal.returns-then-h-d
returns-then-h-d c =
    let w = c.args.w in
    let d = c.args.d in
    near-eq w (2 ^ (d - 1)) (pow_pos (d - 1)) c.if-h-eq0.false (sym (unshifted w (2 ^ (d - 1)) c.ranges.w.fits) ∙ c.if-h-d.true) ∙ ap (closest w) (half d c.requires.0)

pub returns-else-h-d : goal.returns-else-h-d
returns-else-h-d c =
    let w = c.args.w in
    let d = c.args.d in
    near-gt w (2 ^ (d - 1)) (pow_pos (d - 1)) c.if-h-eq0.false (λ e. c.if-h-d.false (unshifted w (2 ^ (d - 1)) c.ranges.w.fits ∙ e)) ∙ ap (closest w) (half d c.requires.0)
