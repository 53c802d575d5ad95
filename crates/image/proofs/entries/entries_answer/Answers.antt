use Rattle.std.proofs.Common.{arith, ap, refl, sym, ◌≡◌, ◌<◌, ◌∙◌}
use Rattle.layout.proofs.SizeLaws.{blocks_some, first-length}
use Rattle.layout.specs.Sizes.{block_count}
use Rattle.image.specs.Opening.{entry_answer, entries_answer}
use Rattle.image.proofs.EntriesInTurn.{answer-stays, next-entry, entries-last, entries-all}
use Rattle.image.proofs.entries.entries_answer.Goals as goal
use Rattle.image.proofs.entries.entries_answer.Goals.{else-loop-j-test, then-loop-j-test+then-is_err}

pub loop-j-init : goal.loop-j-init
loop-j-init c = (refl, entries-all _ _ _)

pub entry_answer-requires : goal.entry_answer-requires
entry_answer-requires c =
    let r = c.requires in
    let n = c.block_count-blocks.ensures.same in
    let t = c.loop-j-test.true in
    let e = first-length c.args.shape c.loop-j.j r.0 (omega arith) in
    (r.0, c.bodies_place-bodies.ensures, omega arith, r.1, c.block_length-nibbles.ensures.same ∙ e)

pub loop-j-preserved : goal.loop-j-preserved
loop-j-preserved c =
    let a = c.args in
    let n = c.block_count-blocks.ensures.same in
    let t = c.loop-j-test.true in
    let e = sym c.is_err.ensures.value ∙ c.if-is_err.false in
    (c.loop-j.invariant.0, c.loop-j.invariant.1 ∙ next-entry a.image.now a.shape _ c.loop-j.j (omega arith) c.entry_answer.result c.entry_answer.ensures e)

pub block_length-rest-requires : goal.block_length-rest-requires
block_length-rest-requires c =
    let n = c.block_count-blocks.ensures.same in
    let b = blocks_some c.args.shape c.requires.0 in
    let below : c.loop-j-test.first < block_count c.args.shape = elim c.loop-j-test.branch [
      | else-loop-j-test w ↦ omega (arith, w.first-is, c.loop-j.invariant.0)
      | then-loop-j-test+then-is_err w ↦ omega (arith, w.first-is, w.loop-j-test.true)
    ] in
    (c.requires.0, below)

pub entry_answer-requires-2 : goal.entry_answer-requires-2
entry_answer-requires-2 c =
    let r = c.requires in
    let n = c.block_count-blocks.ensures.same in
    let b = blocks_some c.args.shape r.0 in
    let below : c.loop-j-test.first < block_count c.args.shape = elim c.loop-j-test.branch [
      | else-loop-j-test w ↦ omega (arith, w.first-is, c.loop-j.invariant.0)
      | then-loop-j-test+then-is_err w ↦ omega (arith, w.first-is, w.loop-j-test.true)
    ] in
    (r.0, c.bodies_place-bodies.ensures, below, r.1, c.block_length-rest.ensures.same)

pub returns : goal.returns
returns c =
    let l = c.args.image.now in
    let s = c.args.shape in
    let j = c.loop-j.j in
    let n = c.block_count-blocks.ensures.same in
    let b = blocks_some s c.requires.0 in
    let all : entries_answer l s 0 (block_count s) ≡ entry_answer l s c.loop-j-test.first = elim c.loop-j-test.branch [
      | else-loop-j-test w ↦
          let e : j ≡ c.loop-j-test.first = omega (arith, w.loop-j-test.false, c.loop-j.auto.j-end, w.first-is, c.loop-j.invariant.0) in
          c.loop-j.invariant.1 ∙ entries-last l s _ j (omega arith) ∙ ap (entry_answer l s) e
      | then-loop-j-test+then-is_err w ↦
          let t = w.loop-j-test.true in
          let e = sym w.is_err.ensures.value ∙ w.if-is_err.true in
          c.loop-j.invariant.1 ∙ answer-stays l s _ j (omega arith) w.entry_answer.result w.entry_answer.ensures e ∙ ap (entry_answer l s) (sym w.first-is)
    ] in
    c.entry_answer-2.ensures ∙ sym all
