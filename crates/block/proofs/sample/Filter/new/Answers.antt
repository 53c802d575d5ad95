use Rattle.std.proofs.Common.{◌<◌, arith}
use Rattle.block.proofs.LawsContext.{predictor-lt, scale-le}
use Rattle.block.proofs.sample.Filter.new.Goals as goal

pub overflow_mul-index : goal.overflow_mul-index
overflow_mul-index c = let e : c.predictor-index.result < 8 = rw c.predictor-index.ensures (predictor-lt _) in omega arith

pub offset_bounds-coefficients-index : goal.offset_bounds-coefficients-index
offset_bounds-coefficients-index c = let e : c.predictor-index.result < 8 = rw c.predictor-index.ensures (predictor-lt _) in omega arith

pub bounds-coefficients-index : goal.bounds-coefficients-index
bounds-coefficients-index c = let e : c.predictor-index.result < 8 = rw c.predictor-index.ensures (predictor-lt _) in omega arith

pub overflow_add-result : goal.overflow_add-result
overflow_add-result c = let e : c.predictor-index.result < 8 = rw c.predictor-index.ensures (predictor-lt _) in omega arith

pub offset_bounds-coefficients-index-2 : goal.offset_bounds-coefficients-index-2
offset_bounds-coefficients-index-2 c = let e : c.predictor-index.result < 8 = rw c.predictor-index.ensures (predictor-lt _) in omega arith

pub bounds-coefficients-index-2 : goal.bounds-coefficients-index-2
bounds-coefficients-index-2 c = let e : c.predictor-index.result < 8 = rw c.predictor-index.ensures (predictor-lt _) in omega arith

pub invariant_of-result : goal.invariant_of-result
invariant_of-result c = record { in_range = rw c.scale.ensures (scale-le _) }
