-- `round_24` meets its contract: the digits dropped are counted by the leading zeros.
use Rattle.std.proofs.Common.{◌-◌}
use lib.Count.{count_leading_zeros}
use Rattle.frame.proofs.LawsQuantise.{round_is, digits-dropped, one_shl}
use Rattle.frame.proofs.quantise.round_24.Goals as goal

pub overflow_sub-k : goal.overflow_sub-k
overflow_sub-k c = (digits-dropped c.args.m c.requires.m_bound c.requires.le_m).0

pub nearest_even-requires-clause-le_k : goal.nearest_even-requires-clause-le_k
nearest_even-requires-clause-le_k c = let d = digits-dropped c.args.m c.requires.m_bound c.requires.le_m in (d.2, d.3)

pub returns : goal.returns
returns c =
    let m = c.args.m in
    let d = digits-dropped m c.requires.m_bound c.requires.le_m in
    let k = 40 - count_leading_zeros 64 m in
    round_is m k _ _ d.1 c.nearest_even.ensures (one_shl k 8 d.3 tt)
