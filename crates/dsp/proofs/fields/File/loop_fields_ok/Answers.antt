use Rattle.std.proofs.Common.{◌≡◌, ◌≤◌, ◌+◌, true, ap, length, length-drop, arith, tests}
use Rattle.layout.specs.Sizes.{body_bytes}
use Rattle.dsp.specs.File.{total_of}
use Rattle.dsp.specs.Import.{of_sample, loop_fields_ok}
use Rattle.dsp.proofs.TestLaws.{frame-inside}
use Rattle.dsp.proofs.fields.File.loop_fields_ok.Goals as goal

pub bounds-bodies-start : goal.bounds-bodies-start
bounds-bodies-start c =
    let first : of_sample c.total-total.result c.start_address-start.result ≡ true = grind (arith, tests) in
    let i = frame-inside c.total-total.result c.start_address-start.result first in
    let b : 96 + body_bytes (total_of c.args.self.now) ≤ length c.args.self.now = rw (← c.self.view_is) c.self.invariant.bodies in
    let d = length-drop 96 c.args.self.now in
    rw c.bodies.ensures (omega (arith, i, b, d, ap body_bytes c.total-total.ensures))

pub returns-then-start-last : goal.returns-then-start-last
unfolding loop_fields_ok
returns-then-start-last c = let e = c.self.view_is in grind (arith, tests)

pub returns-else-start-last : goal.returns-else-start-last
unfolding loop_fields_ok
returns-else-start-last c = grind (arith, tests)
