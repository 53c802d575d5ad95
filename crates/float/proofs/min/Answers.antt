use Rattle.std.proofs.Common.{◌≡◌, ◌||◌, sym, ◌∙◌}
use lib.Ieee.{ne}
use Rattle.float.specs.Operations.{is_less, minimum_number}
use Rattle.float.proofs.LessThan.{chosen, kept, flag-yes, flag-no, nan-differs}
use Rattle.float.proofs.min.Goals.{then-is_nan, else-is_nan}
use Rattle.float.proofs.min.Goals as goal

pub returns-then-is_less : goal.returns-then-is_less
unfolding minimum_number
returns-then-is_less c =
    let x = c.args.a in
    let n = c.is_nan.ensures.value ∙ sym (nan-differs x) in
    let l = is_less c.args.b c.args.a in
    let test : ne x x || l ≡ c.if-is_nan.value =
    elim c.if-is_nan.branch [
      | then-is_nan w ↦ flag-yes (ne x x) l _ (sym n ∙ w.if-is_nan.true) (w.value-is ∙ n)
      | else-is_nan w ↦ flag-no (ne x x) l _ _ (sym n ∙ w.if-is_nan.false) w.is_less.ensures w.value-is
    ] in
    chosen (ne x x) l x c.args.b (test ∙ c.if-is_less.true)

pub returns-else-is_less : goal.returns-else-is_less
unfolding minimum_number
returns-else-is_less c =
    let x = c.args.a in
    let n = c.is_nan.ensures.value ∙ sym (nan-differs x) in
    let l = is_less c.args.b c.args.a in
    let test : ne x x || l ≡ c.if-is_nan.value =
    elim c.if-is_nan.branch [
      | then-is_nan w ↦ flag-yes (ne x x) l _ (sym n ∙ w.if-is_nan.true) (w.value-is ∙ n)
      | else-is_nan w ↦ flag-no (ne x x) l _ _ (sym n ∙ w.if-is_nan.false) w.is_less.ensures w.value-is
    ] in
    kept (ne x x) l x c.args.b (test ∙ c.if-is_less.false)
