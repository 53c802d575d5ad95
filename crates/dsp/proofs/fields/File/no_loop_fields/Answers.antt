use Rattle.std.proofs.Common.{arith}
use Rattle.dsp.specs.Import.{no_loop_fields}
use Rattle.dsp.proofs.TestLaws.{zeros-in}
use Rattle.dsp.proofs.fields.File.no_loop_fields.Goals as goal

pub returns-then-all_zeros : goal.returns-then-all_zeros
unfolding no_loop_fields
returns-then-all_zeros c =
    let l = c.self.inside.bytes.now in
    let room = c.self.invariant.bodies in
    rw (← c.self.view_is, ← zeros-in l 16 8 (omega (arith, room)), ← zeros-in l 68 6 (omega (arith, room)), ← c.all_zeros.ensures, c.if-all_zeros.true, ← c.all_zeros-then-all_zeros.ensures)

pub returns-else-all_zeros : goal.returns-else-all_zeros
unfolding no_loop_fields
returns-else-all_zeros c =
    let l = c.self.inside.bytes.now in
    let room = c.self.invariant.bodies in
    rw (← c.self.view_is, ← zeros-in l 16 8 (omega (arith, room)), ← c.all_zeros.ensures, c.if-all_zeros.false)
