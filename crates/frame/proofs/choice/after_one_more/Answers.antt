-- `after_one_more` meets its contract: the one tried is taken where its distance is less.
use Rattle.std.proofs.Common.{ap, arith}
use Rattle.frame.specs.declared.choice.Held.{Held}
use Rattle.frame.specs.declared.search.Coded.{Coded}
use Rattle.frame.specs.Choice.{held_after}
use Rattle.frame.specs.inner.Places.{history_of, samples_of}
use Rattle.frame.proofs.LawsChoice.{passes-le, candidate-shape, held-taken, held-left}
use Rattle.frame.proofs.choice.after_one_more.Goals as goal

pub overflow_add-passes : goal.overflow_add-passes
unfolding held_after
overflow_add-passes c =
    let a = c.args in
    let fs = a.frame.now.samples in
    let h = history_of fs in
    let xs = samples_of fs in
    omega (
      arith,
      ap (λ (b : Held). b.passes) c.requires.held_value,
      passes-le h xs a.bank.now.coefficients a.k,
      ap (λ (t : Coded). t.passes) c.candidate_at-tried.ensures,
      (candidate-shape h xs a.bank.now.coefficients a.k).passes-le,
      c.requires.le_k.1,
    )

pub returns-then-tried-held : goal.returns-then-tried-held
returns-then-tried-held c =
    let a = c.args in
    let fs = a.frame.now.samples in
    held-taken (history_of fs) (samples_of fs) a.bank.now.coefficients a.k a.held.candidate c.candidate_at-tried.result a.held.index a.held.passes
    c.requires.le_k.0 c.requires.held_value c.candidate_at-tried.ensures c.if-tried-held.true

pub returns : goal.returns
returns c =
    let a = c.args in
    let fs = a.frame.now.samples in
    held-left (history_of fs) (samples_of fs) a.bank.now.coefficients a.k a.held.candidate c.candidate_at-tried.result a.held.index a.held.passes
    c.requires.le_k.0 c.requires.held_value c.candidate_at-tried.ensures c.if-tried-held.false
