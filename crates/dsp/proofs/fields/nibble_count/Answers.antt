use Rattle.std.proofs.Common.{ℕ, ◌+◌, ap, arith}
use Rattle.block.specs.Address.{sample_to_address}
use Rattle.dsp.specs.File.{nibble_count}
use Rattle.dsp.proofs.fields.nibble_count.Goals as goal

pub overflow_add-result : goal.overflow_add-result
unfolding sample_to_address
overflow_add-result c = omega (arith, c.sample_to_address.ensures)

pub overflow_cast-result : goal.overflow_cast-result
unfolding sample_to_address
overflow_cast-result c = omega (arith, c.requires.1, c.sample_to_address.ensures)

pub returns : goal.returns
unfolding nibble_count
returns c = ap (λ (a : ℕ). a + 1) c.sample_to_address.ensures
