-- `rounded` meets its contract: a number of at most 24 bits stays, the magnitude of any other is rounded.
use Rattle.std.proofs.Common.{sym, ap, ◌∙◌, arith}
use Rattle.std.proofs.Math.Facts.{to_z-of_z}
use lib.IntN.{nat_abs}
use Rattle.frame.specs.Quantise.{with_sign}
use Rattle.frame.proofs.LawsQuantise.{round_same, round24-le, sign-abs}
use Rattle.frame.proofs.quantise.rounded.Goals as goal

pub returns-then-short : goal.returns-then-short
returns-then-short c =
    let d = c.args.d in
    let m = rw (to_z-of_z c.ranges.d) at c.unsigned_abs-m.ensures.value in
    rw (to_z-of_z c.ranges.d) (sym (sign-abs d) ∙ ap (with_sign d) (round_same (nat_abs d) (omega (arith, m))))

pub with_sign-requires : goal.with_sign-requires
with_sign-requires c =
    let m = rw (to_z-of_z c.ranges.d) at c.unsigned_abs-m.ensures.value in
    let e = rw m at c.round_24.ensures in
    omega (arith, e, round24-le (nat_abs c.args.d) c.requires)
