use Rattle.std.proofs.Common.{◌≡◌, ◌-◌, ap, ◌∙◌, ℕ, min, length, arith}
use Rattle.image.specs.inner.Asked.{Run}
use Rattle.image.specs.Part.{per_block, run_count}
use Rattle.image.specs.Reading.{blocks_in}
use Rattle.image.proofs.LawsRun.{blocks-few, part_none, part-made}
use Rattle.image.proofs.Touched.{touched-le}
use Rattle.image.proofs.opened.Opened.play_from.Goals as goal

pub overflow_sub-left : goal.overflow_sub-left
overflow_sub-left c = omega (arith, c.total.ensures.read, c.requires)

pub returns-then-count-eq0 : goal.returns-then-count-eq0
returns-then-count-eq0 c =
    let a = c.args in
    let n : c.min-count.result ≡ run_count a.self.now a.first (length a.out.now) = c.min-count.ensures ∙ ap (λ (n : ℕ). min (length a.out.now) (n - a.first)) c.total.ensures.read in
    part_none a.self.now a.first _ _ n (omega (arith, c.if-count-eq0.true))

pub play_run-blocks-requires : goal.play_run-blocks-requires
play_run-blocks-requires c =
    let a = c.args in
    let n : c.min-count.result ≡ run_count a.self.now a.first (length a.out.now) = c.min-count.ensures ∙ ap (λ (n : ℕ). min (length a.out.now) (n - a.first)) c.total.ensures.read in (
      record { opens = c.total.ensures.opens; some = omega (arith, c.if-count-eq0.false); inside = omega (arith, n, c.requires) },
      omega (arith, n),
    )

pub overflow_cast-result : goal.overflow_cast-result
overflow_cast-result c =
    let l = c.args.self.now in
    let t = touched-le (per_block l) c.args.first c.min-count.result (blocks_in l) in
    let k = blocks-few l c.total.ensures.opens in
    omega (arith, c.play_run-blocks.ensures.visited, t, k)

pub returns : goal.returns
returns c =
    let a = c.args in
    let n : c.min-count.result ≡ run_count a.self.now a.first (length a.out.now) = c.min-count.ensures ∙ ap (λ (n : ℕ). min (length a.out.now) (n - a.first)) c.total.ensures.read in
    let r : Run a.self.now a.first c.min-count.result = record { opens = c.total.ensures.opens; some = omega (arith, c.if-count-eq0.false); inside = omega (arith, n, c.requires) } in
    part-made a.self.now a.first _ _ _ _ r n c.play_run-blocks.ensures.visited (rw c.context_at_sample-context.ensures at c.play_run-blocks.ensures.stored)
