-- The search from here leads to what the definition gives; the exponent rises with each pass.
use Rattle.std.proofs.Common.{◌≡◌, ◌-◌, ◌≤◌}
use Rattle.frame.specs.Search.{search_within, try_coefficients}
use Rattle.frame.specs.inner.Places.{history_of, samples_of}
use Rattle.frame.proofs.search.try_coefficients.Given as goal

abbrev pub invariant-loop-seen : goal.invariant-loop-seen
invariant-loop-seen l =
    let fs = l.frame.samples in
    (l.passes ≤ l.p.value)
    × (search_within (13 - l.passes) l.pair.c0 l.pair.c1 (history_of fs) (samples_of fs) l.p.value l.passes ≡ try_coefficients l.pair.c0 l.pair.c1 (history_of fs) (samples_of fs))

abbrev pub decreases-loop-seen : goal.decreases-loop-seen
decreases-loop-seen l = 12 - l.p.value
