use Rattle.std.proofs.Common.{arith}
use Rattle.image.specs.Reading.{total_in}
use Rattle.dsp.proofs.opened.Opened.total.Goals as goal

pub returns : goal.returns
unfolding total_in
returns c =
    let L = c.self.invariant.head.limits in
    record { same = rw (← c.self.view_is) c.get32.ensures; some = omega (arith, c.get32.ensures, L.some); few = omega (arith, c.get32.ensures, L.few) }
