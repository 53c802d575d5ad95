use Rattle.std.proofs.Common.{ℕ, ◌≡◌, ◌+◌, ◌-◌, arith, length, replicate, take, drop, ap, ◌∙◌, length-drop}
use lib.ListN.{length-replicate}
use lib.Seq.{length-take-le}
use Rattle.layout.proofs.Stored.{part-stored}
use Rattle.layout.proofs.fields.zeros.Goals as goal

pub returns : goal.returns
returns c =
    let a = c.args in
    let l = a.buf.now in
    let some = length-replicate {A = ℕ} a.n 0 in
    let all : length (take (a.at + a.n - a.at) (drop a.at l)) ≡ a.n = length-take-le _ _ (omega (arith, length-drop a.at l)) ∙ omega arith in
    part-stored l (replicate a.n 0) c.fill.new.self a.at _ (omega (arith, some)) (omega (arith, some)) (c.fill.ensures.after (λ _ e. e) ∙ ap (λ k. replicate k 0) all)
