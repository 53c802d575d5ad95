use Rattle.std.proofs.Common.{◌≡◌, true, sym, ◌∙◌, arith}
use Rattle.layout.proofs.LimitLaws.{numbers-sound}
use Rattle.clip.proofs.Encoder.valid.Goals as goal

pub counts_ok-requires : goal.counts_ok-requires
counts_ok-requires c =
    let a = c.args.self in
    let e : c.numbers_ok.result ≡ true = grind arith in
    let s = numbers-sound a.fed a.total a.block a.rate (sym c.numbers_ok.ensures ∙ e) in
    (s.fed, (s.limits 0 (omega arith)).few)
