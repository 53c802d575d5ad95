-- What is refused, by the tests in turn.
use Rattle.std.proofs.Common.{◌+◌, sym, ◌∙◌, arith, le-ltb, lt-ltb}
use Rattle.whole.specs.Frames.{most}
use Rattle.coefficients.specs.Measure.{process_answer}
use Rattle.coefficients.proofs.AcceptedCalls.{valid-samples}
use Rattle.coefficients.proofs.CoefficientCalculator.tested.Goals as goal

pub returns-then-not-is_valid : goal.returns-then-not-is_valid
unfolding process_answer
returns-then-not-is_valid c = simp (← c.is_valid.ensures, c.if-not-is_valid.true)

pub overflow_sub-before : goal.overflow_sub-before
overflow_sub-before c = valid-samples c.args.self.now.samples c.args.self.now.records (sym c.is_valid.ensures ∙ c.if-not-is_valid.false)

pub returns-then-len-before : goal.returns-then-len-before
unfolding process_answer
returns-then-len-before c =
    let v = valid-samples c.args.self.now.samples c.args.self.now.records (sym c.is_valid.ensures ∙ c.if-not-is_valid.false) in
    simp (← c.is_valid.ensures, c.if-not-is_valid.false, lt-ltb most (c.args.self.now.samples + c.args.len) (omega arith))

pub needed-requires : goal.needed-requires
needed-requires c = let v = valid-samples c.args.self.now.samples c.args.self.now.records (sym c.is_valid.ensures ∙ c.if-not-is_valid.false) in omega arith

pub returns-then-size-needed : goal.returns-then-size-needed
unfolding process_answer
returns-then-size-needed c =
    let v = valid-samples c.args.self.now.samples c.args.self.now.records (sym c.is_valid.ensures ∙ c.if-not-is_valid.false) in
    simp (← c.is_valid.ensures, c.if-not-is_valid.false, le-ltb most (c.args.self.now.samples + c.args.len) (omega arith), lt-ltb _ _ (rw c.needed.ensures at c.if-size-needed.true))

pub returns : goal.returns
unfolding process_answer
returns c =
    let v = valid-samples c.args.self.now.samples c.args.self.now.records (sym c.is_valid.ensures ∙ c.if-not-is_valid.false) in
    simp (← c.is_valid.ensures, c.if-not-is_valid.false, le-ltb most (c.args.self.now.samples + c.args.len) (omega arith), le-ltb _ _ (rw c.needed.ensures at c.if-size-needed.false))
