-- The pairs so far are within the limit.
use Rattle.std.proofs.Common.{◌≡◌, ◌*◌, ◌≤◌, true, length, drop}
use Rattle.std.specs.Slice.Iter.{chunks_exact_rest, chunks_exact_size}
use Rattle.frame.specs.Frame.{pairs_ok}
use Rattle.frame.proofs.coefficients_ok.Given as goal

abbrev pub invariant-loop-pair : goal.invariant-loop-pair
invariant-loop-pair l =
    let k = length l.yielded in
    (chunks_exact_size l.pair-iterator ≡ 2) × (k ≤ 8) × (chunks_exact_rest l.pair-iterator ≡ drop (2 * k) l.fn.coefficients) × (true ≡ pairs_ok l.fn.coefficients k)
