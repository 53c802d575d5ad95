-- After some turns that many samples are measured, and there is room for those that are left.
use Rattle.std.proofs.Common.{◌≡◌, ◌-◌, length, take}
use mathlib.Core.List.{foldl}
use Rattle.coefficients.specs.Measure.{measuring, push}
use Rattle.coefficients.specs.inner.Measurable.{Measurable}
use Rattle.coefficients.proofs.CoefficientCalculator.push_all.Given as goal

abbrev pub invariant-loop-x : goal.invariant-loop-x
invariant-loop-x l =
    Measurable l.next.samples l.next.records (length l.samples - l.x-index) (length l.s)
    × (length l.s ≡ length l.initial.s)
    × (measuring l.next l.s ≡ foldl push (measuring l.initial.next l.initial.s) (take l.x-index l.samples))
