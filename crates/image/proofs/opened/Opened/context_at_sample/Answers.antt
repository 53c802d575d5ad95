use Rattle.std.proofs.Common.{◌/◌, ◌%◌, ◌∙◌, arith}
use Rattle.block.proofs.LawsOn.{sample-place, sample-before}
use Rattle.image.specs.inner.Runs.{context_at_sample}
use Rattle.image.specs.Part.{per_block}
use Rattle.image.proofs.LawsBody.{body-length}
use Rattle.image.proofs.LawsRun.{per-some, start-found, from-before, from-inside}
use Rattle.image.proofs.opened.Opened.context_at_sample.Goals as goal

pub nonzero_div-k : goal.nonzero_div-k
nonzero_div-k c = let p = per-some _ c.requires.opens in rw c.per_block-per.ensures (omega (arith, p))

pub entry-entry-requires : goal.entry-entry-requires
entry-entry-requires c = rw c.per_block-per.ensures (start-found c.args.self.now c.args.first 1 c.requires)

pub nonzero_rem-first : goal.nonzero_rem-first
nonzero_rem-first c = let p = per-some _ c.requires.opens in rw c.per_block-per.ensures (omega (arith, p))

pub overflow_cast-first : goal.overflow_cast-first
overflow_cast-first c =
    let i = from-inside c.args.self.now c.args.first 1 c.requires in
    let m = c.requires.opens.head.limits.narrow in
    rw c.per_block-per.ensures (omega (arith, i, m))

pub body-requires : goal.body-requires
body-requires c = rw c.per_block-per.ensures (start-found c.args.self.now c.args.first 1 c.requires)

pub context_after-requires : goal.context_after-requires
context_after-requires c =
    let l = c.args.self.now in
    let f = from-before l c.args.first 1 c.requires in
    let a = sample-place (c.args.first % per_block l) in
    let b = sample-before (c.args.first % per_block l) _ f in
    let m = body-length l (c.args.first / per_block l) (start-found l c.args.first 1 c.requires) in
    rw (c.body.ensures, c.sample_to_address-address.ensures, c.per_block-per.ensures) (omega (arith, a), omega (arith, b, m))

pub returns : goal.returns
unfolding context_at_sample
returns c = c.context_after.ensures ∙ rw (c.body.ensures, c.sample_to_address-address.ensures, c.entry-entry.ensures, c.per_block-per.ensures, c.coefficients.ensures)
