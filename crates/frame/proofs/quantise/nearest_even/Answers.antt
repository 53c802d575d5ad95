-- `nearest_even` meets its contract: half the unit less one is added, and one where the quotient is odd.
use Rattle.std.proofs.Common.{◌-◌, ◌^◌, arith}
use lib.Pow.{pow_pos}
use Rattle.frame.proofs.LawsQuantise.{one_shl, halves, even_is}
use Rattle.frame.proofs.quantise.nearest_even.Goals as goal

pub returns : goal.returns
returns c =
    let k = c.args.k in
    rw (one_shl (k - 1) 8 (omega arith) tt) (even_is c.args.m (2 ^ k) (2 ^ (k - 1)) (pow_pos (k - 1)) (halves k c.requires.le_k.0))
