-- The count and the store with the padded frame's record.
use Rattle.std.proofs.Common.{ℕ, ap, ◌∙◌, drop, length-drop, length-take-le, ◌≡◌, ◌+◌, ◌-◌, ◌%◌, replicate, pos, arith, length, rules, eq-eqb, ne_eqb}
use Rattle.coefficients.specs.Measure.{padded_count, padded_store}
use Rattle.coefficients.proofs.AcceptedCalls.{measurable-padded}
use Rattle.coefficients.proofs.OneSample.{padded-is}
use Rattle.coefficients.proofs.CoefficientCalculator.padded_record.Goals as goal

pub returns-then-k-eq0 : goal.returns-then-k-eq0
unfolding padded_count padded_store
returns-then-k-eq0 c = record { count = simp (eq-eqb _ _ c.if-k-eq0.true); store = simp (eq-eqb _ _ c.if-k-eq0.true) }

pub process_frame-requires : goal.process_frame-requires
process_frame-requires c = measurable-padded c.args.self.samples c.args.self.records (length c.args.s.now) c.requires c.if-k-eq0.false

pub returns : goal.returns
unfolding padded_count padded_store
returns c =
    let h = c.args.self.history in
    let k = c.args.self.samples % 14 in
    let l : length h ≡ 28 = search rules in
    let z : c.fill.new.self ≡ replicate (28 - (14 + k)) (pos 0) =
    c.fill.ensures.after (λ y e. search rules)
    ∙ ap (λ (n : ℕ). replicate n (pos 0)) (length-take-le (28 - (14 + k)) (drop (14 + k) h) (omega (arith, length-drop (14 + k) h)))
    in
    let g = padded-is h c.fill.new.self k l (omega arith) z in
    record {
      count = simp (ne_eqb _ _ c.if-k-eq0.false, ← g, ← c.process_frame.ensures.count);
      store = simp (ne_eqb _ _ c.if-k-eq0.false, ← g, ← c.process_frame.ensures.store);
    }
