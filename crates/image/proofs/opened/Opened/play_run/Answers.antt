use Rattle.std.proofs.Common.{◌≡◌, ◌-◌, ◌%◌, min, length, ap, ◌∙◌, arith, length-drop}
use Rattle.whole.proofs.Stores.{part-all}
use Rattle.image.specs.Part.{per_block}
use Rattle.image.specs.Reading.{blocks_in}
use Rattle.image.proofs.LawsRun.{per-some, blocks-few, from-inside, start-found, head-some, later-run, run-touched, run-written}
use Rattle.image.proofs.Touched.{touched-le}
use Rattle.image.proofs.opened.Opened.play_run.Goals as goal

pub nonzero_div-k : goal.nonzero_div-k
nonzero_div-k c = let p = per-some _ c.requires.0.opens in rw c.per_block-per.ensures (omega (arith, p))

pub nonzero_rem-from : goal.nonzero_rem-from
nonzero_rem-from c = let p = per-some _ c.requires.0.opens in rw c.per_block-per.ensures (omega (arith, p))

pub overflow_sub-per : goal.overflow_sub-per
overflow_sub-per c = let i = from-inside c.args.self.now c.args.first c.args.count c.requires.0 in rw c.per_block-per.ensures (omega (arith, i))

pub play_in_block-requires : goal.play_in_block-requires
play_in_block-requires c =
    let a = c.args in
    let h : c.min-done.result ≡ min (per_block a.self.now - a.first % per_block a.self.now) a.count = c.min-done.ensures ∙ rw c.per_block-per.ensures in
    (rw c.per_block-per.ensures (head-some a.self.now a.first a.count c.requires.0 _ h), omega (arith, h, c.requires.1))

pub overflow_add-k : goal.overflow_add-k
overflow_add-k c =
    let l = c.args.self.now in
    let f = (start-found l c.args.first c.args.count c.requires.0).block in
    let b = c.requires.0.opens.head.blocks in
    let k = blocks-few l c.requires.0.opens in
    rw c.per_block-per.ensures (omega (arith, f, b, k))

pub play_later_blocks-later-requires : goal.play_later_blocks-later-requires
play_later_blocks-later-requires c =
    let a = c.args in
    let h : c.min-done.result ≡ min (per_block a.self.now - a.first % per_block a.self.now) a.count = c.min-done.ensures ∙ rw c.per_block-per.ensures in
    let left = c.play_in_block.new.out in
    let d = ap length (part-all left c.min-done.result) ∙ length-drop c.min-done.result left in (
      rw c.per_block-per.ensures (later-run a.self.now a.first a.count c.requires.0 _ h),
      omega (arith, d, c.play_in_block.auto.out, c.requires.1),
    )

pub overflow_add-result : goal.overflow_add-result
overflow_add-result c =
    let a = c.args in
    let l = a.self.now in
    let h : c.min-done.result ≡ min (per_block l - a.first % per_block l) a.count = c.min-done.ensures ∙ rw c.per_block-per.ensures in
    let v = c.play_later_blocks-later.ensures.visited in
    let w = run-touched l a.first a.count c.requires.0 _ _ h v.0 v.1 in
    let t = touched-le (per_block l) a.first a.count (blocks_in l) in
    let k = blocks-few l c.requires.0.opens in
    omega (arith, w, t, k)

pub returns-clause-visited : goal.returns-clause-visited
returns-clause-visited c =
    let a = c.args in
    let h : c.min-done.result ≡ min (per_block a.self.now - a.first % per_block a.self.now) a.count = c.min-done.ensures ∙ rw c.per_block-per.ensures in
    let v = c.play_later_blocks-later.ensures.visited in
    run-touched a.self.now a.first a.count c.requires.0 _ _ h v.0 v.1

pub returns-clause-stored : goal.returns-clause-stored
returns-clause-stored c =
    let a = c.args in
    let e = c.per_block-per.ensures in
    let h : c.min-done.result ≡ min (per_block a.self.now - a.first % per_block a.self.now) a.count = c.min-done.ensures ∙ rw e in
    run-written a.self.now a.first a.count c.requires.0 a.context _ a.out.now _ _ h c.requires.1 (rw e at c.play_in_block.ensures) (rw e at c.play_later_blocks-later.ensures.stored)
