use Rattle.std.proofs.Common.{◌≡◌, ◌+◌, ◌*◌, drop, length, false}
use Rattle.block.specs.Refusals.{lowest_among}
use Rattle.block.proofs.coefficients.lowest_pair.Given as goal

abbrev pub invariant-loop-pair : goal.invariant-loop-pair
invariant-loop-pair l =
    (l.pair-iterator.size ≡ 2) × (l.pair-iterator.rest.now ≡ drop (2 * length l.yielded) l.fn.coefficients)
    × (length l.pair-iterator.rest.now + 2 * length l.yielded ≡ 16) × (lowest_among l.fn.coefficients (length l.yielded) ≡ false)
