use Rattle.std.proofs.Common.{◌+◌, ◌≤◌, length, length-drop, arith, tests}
use Rattle.layout.specs.Sizes.{body_bytes}
use Rattle.dsp.specs.File.{total_of}
use Rattle.dsp.proofs.TestLaws.{zeros-in, fields-parts}
use Rattle.dsp.proofs.fields.File.fields_ok.Goals as goal

pub bounds-bodies-0 : goal.bounds-bodies-0
unfolding body_bytes
bounds-bodies-0 c =
    let b : 96 + body_bytes (total_of c.args.self.now) ≤ length c.args.self.now = rw (← c.self.view_is) c.self.invariant.bodies in
    rw c.bodies.ensures (omega (arith, b, length-drop 96 c.args.self.now))

pub returns-then-flag-eq1 : goal.returns-then-flag-eq1
returns-then-flag-eq1 c =
    let e = c.self.view_is in
    let z = zeros-in c.self.inside.bytes.now 74 22 (let b = c.self.invariant.bodies in omega (arith, b)) in
    rw (fields-parts c.args.self.now) (grind (arith, tests))

pub returns-else-flag-eq1 : goal.returns-else-flag-eq1
returns-else-flag-eq1 c =
    let e = c.self.view_is in
    let z = zeros-in c.self.inside.bytes.now 74 22 (let b = c.self.invariant.bodies in omega (arith, b)) in
    rw (fields-parts c.args.self.now) (grind (arith, tests))

pub returns-else-get16-from : goal.returns-else-get16-from
returns-else-get16-from c =
    let e = c.self.view_is in
    let z = zeros-in c.self.inside.bytes.now 74 22 (let b = c.self.invariant.bodies in omega (arith, b)) in
    rw (fields-parts c.args.self.now) (grind (arith, tests))
