use Rattle.std.proofs.Common.{◌^◌, pow_pos}
use Rattle.float.proofs.Shifts.{cut-none, cut-some, shift-all}
use Rattle.float.proofs.terms.shift_right_sticky.Goals as goal

pub returns-then-kept-d : goal.returns-then-kept-d
returns-then-kept-d c = cut-none c.args.w (2 ^ c.args.d) (pow_pos c.args.d) c.ranges.w.fits c.if-kept-d.true

pub returns-else-kept-d : goal.returns-else-kept-d
returns-else-kept-d c = cut-some c.args.w (2 ^ c.args.d) (pow_pos c.args.d) c.ranges.w.fits c.if-kept-d.false

pub returns-else-d-lt128 : goal.returns-else-d-lt128
returns-else-d-lt128 c = shift-all c.args.w c.args.d c.requires c.ranges.w.fits c.if-d-lt128.false
