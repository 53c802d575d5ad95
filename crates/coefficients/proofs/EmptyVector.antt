-- "A vector no record joined becomes [1, 0, 0]", computed.
use Rattle.std.proofs.Common.{◌≡◌, refl}
use lib.Ieee.{of_bits, neg, lt, le, add, mul, div}
use Rattle.float.specs.FusedMultiplyAdd.{fused_multiply_add}
use Rattle.coefficients.specs.declared.merging.Vec3.{Vec3}
use Rattle.coefficients.specs.Constants.{f0, f1}
use Rattle.coefficients.specs.Analysis.{within_one, finish_record, quotient, merge_finish_record}
use Rattle.coefficients.specs.Clusters.{none, mean, with_one}

pub unjoined : ◌≡◌ {A = Vec3} (with_one (merge_finish_record (mean none 0))) (record { x0 = f1; x1 = f0; x2 = f0 })
unfolding with_one merge_finish_record mean none quotient finish_record within_one fused_multiply_add of_bits neg lt le add mul div
unjoined = refl
