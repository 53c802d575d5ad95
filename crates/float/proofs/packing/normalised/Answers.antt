use Rattle.std.proofs.Common.{◌*◌, ◌^◌, ◌<◌, ap, ◌∙◌, arith, rules}
use lib.Ieee.{binary64, to_bits}
use Rattle.float.proofs.Shifts.{shifted-pos, top-least, top-most, finish, rounded-up}
use Rattle.float.proofs.packing.normalised.Goals as goal

pub shift_right_sticky-top-requires : goal.shift_right_sticky-top-requires
shift_right_sticky-top-requires c =
    let w : c.args.number.size < 2 ^ 128 = search rules in
    shifted-pos c.args.number.size c.requires.0 w

pub overflow_cast-top : goal.overflow_cast-top
overflow_cast-top c =
    let w : c.args.number.size < 2 ^ 128 = search rules in
    record { fits = top-most c.args.number.size c.shift_right_sticky-top.result c.requires.0 w c.shift_right_sticky-top.ensures }

pub rounded-requires : goal.rounded-requires
rounded-requires c =
    let w : c.args.number.size < 2 ^ 128 = search rules in
    let e = c.requires.1 in
    (top-least c.args.number.size c.shift_right_sticky-top.result c.requires.0 w c.shift_right_sticky-top.ensures, omega arith)

pub returns : goal.returns
returns c m s =
    let n = c.args.number in
    let w : n.size < 2 ^ 128 = search rules in
    c.rounded.ensures (m * 2 ^ 64) (rw c.from.ensures (finish n.size c.shift_right_sticky-top.result c.requires.0 w c.shift_right_sticky-top.ensures m n.exponent s))
    ∙ ap (to_bits binary64) (rounded-up 1198 n.negative m)
