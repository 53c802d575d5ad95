use Rattle.std.proofs.Common.{sym, ◌∙◌}
use Rattle.std.proofs.lemmas.Result.{err_from_is_err_and}
use Rattle.image.specs.Opening.{open_answer}
use Rattle.image.proofs.OpenImages.{head-says}
use Rattle.image.proofs.checks.open_answer.Goals as goal

pub returns-then-not-head_ok : goal.returns-then-not-head_ok
unfolding open_answer
returns-then-not-head_ok c = simp (← c.head_ok.ensures, c.if-not-head_ok.true)

pub read_shape-requires : goal.read_shape-requires
read_shape-requires c = (head-says c.args.image.now (sym c.head_ok.ensures ∙ c.if-not-head_ok.false)).long

pub entries_answer-requires : goal.entries_answer-requires
entries_answer-requires c =
    let h = head-says c.args.image.now (sym c.head_ok.ensures ∙ c.if-not-head_ok.false) in
    rw c.read_shape.ensures (h.limits, h.size)

pub returns-in_err-entries_answer : goal.returns-in_err-entries_answer
unfolding open_answer
returns-in_err-entries_answer c =
    let p = err_from_is_err_and c.from_residual.result c.from_residual.ensures.1 in
    rw (p.1, p.2, ← c.head_ok.ensures, c.if-not-head_ok.false, ← c.read_shape.ensures, ← c.in_err-entries_answer.ensures)

pub loop_fits-requires : goal.loop_fits-requires
loop_fits-requires c = head-says c.args.image.now (sym c.head_ok.ensures ∙ c.if-not-head_ok.false)

pub returns-then-not-loop_fits : goal.returns-then-not-loop_fits
unfolding open_answer
returns-then-not-loop_fits c = simp (
  ← c.head_ok.ensures,
  c.if-not-head_ok.false,
  ← c.read_shape.ensures,
  ← c.in_ok-entries_answer.ensures,
  ← c.loop_fits.ensures,
  c.if-not-loop_fits.true,
)

pub returns : goal.returns
unfolding open_answer
returns c = simp (
  ← c.head_ok.ensures,
  c.if-not-head_ok.false,
  ← c.read_shape.ensures,
  ← c.in_ok-entries_answer.ensures,
  ← c.loop_fits.ensures,
  c.if-not-loop_fits.false,
)
