use Rattle.std.proofs.Common.{◌≡◌, ◌+◌, ◌-◌, ◌<◌, ℕ, length, get_or, arith, refl, ◌∙◌}
use Rattle.std.proofs.Math.ListN.{length-set}
use Rattle.std.proofs.lemmas.List.{ext_get_or}
use Rattle.std.proofs.lemmas.List.Edits.{fill_by_more}
use Rattle.block.proofs.LawsStores.{part-stored, length-part}
use Rattle.block.proofs.join.copy.Goals as goal

pub loop-j-init : goal.loop-j-init
loop-j-init c = (length-part c.args.out.now c.args.to (length c.args.source.now) c.requires, λ k h. omega arith)

pub loop-j-preserved : goal.loop-j-preserved
loop-j-preserved c =
    let l = c.loop-j in
    let s = c.args.source.now in
    let n : l.j < length l.place-items = omega (arith, l.invariant.0) in
    (length-set l.place-items l.j (get_or s l.j 0) ∙ l.invariant.0, fill_by_more (λ (k : ℕ). get_or s k 0) l.place-items l.j 0 n l.invariant.1)

pub returns : goal.returns
returns c =
    let l = c.loop-j in
    let s = c.args.source.now in
    let n : c.args.to + length s - c.args.to ≡ length s = omega arith in
    let e : l.place-items ≡ s = ext_get_or 0 l.place-items s l.invariant.0 (λ k h. l.invariant.1 k (omega (arith, l.invariant.0))) in
    rw (e, n) (part-stored c.args.out.now s c.args.to (length s) refl c.requires)
