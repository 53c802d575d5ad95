use Rattle.std.proofs.Common.{◌≡◌, ℤ, pos, ◌-◌, ◌%◌, length, replicate, take, drop, ap, ◌∙◌, arith, rules, length-drop}
use lib.ListN.{length-replicate}
use lib.Seq.{length-take-le}
use Rattle.layout.proofs.Stored.{part-stored}
use Rattle.clip.proofs.LastFrame.{last-framed, last-part, last-none}
use Rattle.clip.proofs.Encoder.encode_last.Goals as goal

pub encode-requires : goal.encode-requires
encode-requires c = last-framed c.args.self.now _ _ c.requires c.if-m-ne0.true

pub returns-then-m-ne0 : goal.returns-then-m-ne0
returns-then-m-ne0 c =
    let e = c.args.self.now in
    let m = e.fed % 14 in
    let n : length e.frame ≡ 14 = search rules in
    let some = length-replicate {A = ℤ} (14 - m) (pos 0) in
    let all : length (take (14 - m) (drop m e.frame)) ≡ 14 - m = length-take-le _ _ (omega (arith, length-drop m e.frame)) in
    let zeros = part-stored e.frame (replicate (14 - m) (pos 0)) c.fill.new.self m (14 - m) (omega (arith, some)) (omega (arith, some))
    (c.fill.ensures.after (λ _ e. e) ∙ ap (λ k. replicate k (pos 0)) all) in
    last-part e c.args.image.now _ _ c.if-m-ne0.true zeros c.encode.ensures

pub returns-else-m-ne0 : goal.returns-else-m-ne0
returns-else-m-ne0 c = last-none c.args.self.now c.args.image.now c.if-m-ne0.false
