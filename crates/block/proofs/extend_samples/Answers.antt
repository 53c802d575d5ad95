use Rattle.std.proofs.Common.{◌+◌, length, List, ℕ, sym, ap, ◌∙◌, zero-add}
use lib.Seq.{sets}
use Rattle.whole.specs.Outcome.{accepted, effect}
use Rattle.whole.proofs.Stores.{sets_then}
use Rattle.block.proofs.LawsCalls.{join-14, join-18, join-done}
use Rattle.block.proofs.extend_samples.Goals as goal

pub returns-then-shorter : goal.returns-then-shorter
returns-then-shorter c =
    let a = c.args in
    join-14 a.first.now a.first_len a.first_coefficients a.second.now a.second_len a.second_coefficients a.out.now
    (sym c.shorter.ensures ∙ c.if-shorter.true)

pub returns-then-not-equal_coefficients : goal.returns-then-not-equal_coefficients
returns-then-not-equal_coefficients c =
    let a = c.args in
    join-18 a.first.now a.first_len a.first_coefficients a.second.now a.second_len a.second_coefficients a.out.now
    (sym c.shorter.ensures ∙ c.if-shorter.false) (sym c.equal_coefficients.ensures ∙ c.if-not-equal_coefficients.true)

pub returns : goal.returns
returns c =
    let a = c.args in
    rw (c.from.ensures, c.from-2.ensures)
    (ap (λ (o : List ℕ). effect (accepted (a.first_len + a.second_len)) o)
    (c.copy-2.ensures
    ∙ ap (λ (o : List ℕ). sets o (length a.first.now) a.second.now) c.copy.ensures
    ∙ sets_then a.out.now 0 (length a.first.now) a.first.now a.second.now (sym (zero-add (length a.first.now))))
    ∙ join-done a.first.now a.first_len a.first_coefficients a.second.now a.second_len a.second_coefficients a.out.now
    (sym c.shorter.ensures ∙ c.if-shorter.false) (sym c.equal_coefficients.ensures ∙ c.if-not-equal_coefficients.false))
