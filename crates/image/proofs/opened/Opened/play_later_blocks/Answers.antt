use Rattle.std.proofs.Common.{◌≡◌, ◌*◌, ◌-◌, min, ℕ, length, take, sym, ap, ◌∙◌, arith, length-drop}
use Rattle.std.proofs.lemmas.List.Edits.{sets}
use Rattle.std.proofs.lemmas.Grind.{div_ceil_times}
use Rattle.std.proofs.Math.Seq.{length-sets}
use Rattle.whole.proofs.Stores.{part-all}
use Rattle.image.specs.Part.{per_block}
use Rattle.image.specs.Reading.{blocks_in}
use Rattle.image.specs.Sameness.{samples_from}
use Rattle.image.proofs.BlocksOf.{begins-within, begins-at}
use Rattle.image.proofs.LawsBody.{found_within}
use Rattle.image.proofs.LawsRun.{per-some, turn-found, turn-some, turn-next, turn-written}
use Rattle.image.proofs.opened.Opened.play_later_blocks.Goals as goal

pub loop-j-init : goal.loop-j-init
loop-j-init c =
    let a = c.args in
    let z : 0 ≡ min (0 * per_block a.self.now) a.count = omega arith in
    ap (λ (d : ℕ). sets a.out.now 0 (take d (samples_from a.self.now a.k (blocks_in a.self.now - a.k)))) z

pub overflow_mul-done : goal.overflow_mul-done
overflow_mul-done c =
    let p = per-some _ c.requires.0.opens in
    let t = begins-within _ _ _ _ (omega (arith, p, c.per_block-per.ensures)) c.div_ceil-blocks.ensures c.loop-j-test.true in
    omega (arith, t)

pub overflow_sub-count : goal.overflow_sub-count
overflow_sub-count c =
    let p = per-some _ c.requires.0.opens in
    let t = begins-within _ _ _ _ (omega (arith, p, c.per_block-per.ensures)) c.div_ceil-blocks.ensures c.loop-j-test.true in
    omega (arith, t)

pub overflow_add-k : goal.overflow_add-k
overflow_add-k c =
    let p = per-some _ c.requires.0.opens in
    let t = begins-within _ _ _ _ (omega (arith, p, c.per_block-per.ensures)) c.div_ceil-blocks.ensures c.loop-j-test.true in
    let f = turn-found c.args.self.now c.args.k c.args.count c.requires.0 c.loop-j.j _ (begins-at _ _ _ _ c.per_block-per.ensures t) t in
    let w = (found_within _ _ f).all in
    let b = f.block in
    omega (arith, w, b)

pub offset_bounds-out-done : goal.offset_bounds-out-done
offset_bounds-out-done c =
    let p = per-some _ c.requires.0.opens in
    let t = begins-within _ _ _ _ (omega (arith, p, c.per_block-per.ensures)) c.div_ceil-blocks.ensures c.loop-j-test.true in
    let m = c.requires.0.opens.head.limits.few in
    let i = c.requires.0.inside in
    omega (arith, t, m, i)

pub slice_bounds-play_first-start : goal.slice_bounds-play_first-start
slice_bounds-play_first-start c =
    let a = c.args in
    let p = per-some _ c.requires.0.opens in
    let t = begins-within _ _ _ _ (omega (arith, p, c.per_block-per.ensures)) c.div_ceil-blocks.ensures c.loop-j-test.true in
    let e = ap length c.loop-j.invariant ∙ length-sets a.out.now 0 (take (min (c.loop-j.j * per_block a.self.now) a.count) (samples_from a.self.now a.k (blocks_in a.self.now - a.k))) in
    omega (arith, t, e, c.requires.1)

pub play_first-requires : goal.play_first-requires
play_first-requires c =
    let a = c.args in
    let done = c.loop-j.j * c.per_block-per.result in
    let p = per-some _ c.requires.0.opens in
    let t = begins-within _ _ _ _ (omega (arith, p, c.per_block-per.ensures)) c.div_ceil-blocks.ensures c.loop-j-test.true in
    let f : c.min-here.result ≡ min (per_block a.self.now) (a.count - done) = c.min-here.ensures ∙ ap (λ (x : ℕ). min x (a.count - done)) c.per_block-per.ensures in
    let e = ap length c.loop-j.invariant ∙ length-sets a.out.now 0 (take (min (c.loop-j.j * per_block a.self.now) a.count) (samples_from a.self.now a.k (blocks_in a.self.now - a.k))) in
    let d = ap length (part-all c.loop-j.out done) ∙ length-drop done c.loop-j.out in (
      turn-some a.self.now a.k a.count c.requires.0 c.loop-j.j done (begins-at _ _ _ _ c.per_block-per.ensures t) t _ f,
      omega (arith, e, d, t, f, c.requires.1),
    )

pub loop-j-preserved : goal.loop-j-preserved
loop-j-preserved c =
    let a = c.args in
    let done = c.loop-j.j * c.per_block-per.result in
    let p = per-some _ c.requires.0.opens in
    let t = begins-within _ _ _ _ (omega (arith, p, c.per_block-per.ensures)) c.div_ceil-blocks.ensures c.loop-j-test.true in
    let f : c.min-here.result ≡ min (per_block a.self.now) (a.count - done) = c.min-here.ensures ∙ ap (λ (x : ℕ). min x (a.count - done)) c.per_block-per.ensures in
    let b = begins-at _ _ _ _ c.per_block-per.ensures t in
    let part = λ (d : ℕ). sets a.out.now 0 (take d (samples_from a.self.now a.k (blocks_in a.self.now - a.k))) in
    let q = turn-next a.self.now a.k a.count c.requires.0 c.loop-j.j done b t _ f in
    turn-written a.self.now a.k a.count c.requires.0 c.loop-j.j done b t _ a.out.now c.loop-j.out _ f c.requires.1 (c.loop-j.invariant ∙ ap part (sym b)) c.play_first.ensures
    ∙ ap part q.0

pub returns-clause-visited : goal.returns-clause-visited
returns-clause-visited c =
    let p = per-some _ c.requires.0.opens in
    rw (c.div_ceil-blocks.ensures, ← c.per_block-per.ensures) (div_ceil_times c.args.count c.per_block-per.result (omega (arith, p, c.per_block-per.ensures)))

pub returns-clause-stored : goal.returns-clause-stored
returns-clause-stored c =
    let a = c.args in
    let p = per-some _ c.requires.0.opens in
    let w = (div_ceil_times a.count c.per_block-per.result (omega (arith, p, c.per_block-per.ensures))).0 in
    let j : c.loop-j.j ≡ c.div_ceil-blocks.result = omega (arith, c.loop-j.auto.j-end, c.loop-j-test.false) in
    let n : min (c.loop-j.j * per_block a.self.now) a.count ≡ a.count = rw (j, c.div_ceil-blocks.ensures, ← c.per_block-per.ensures) (omega (arith, w)) in
    c.loop-j.invariant ∙ ap (λ (d : ℕ). sets a.out.now 0 (take d (samples_from a.self.now a.k (blocks_in a.self.now - a.k)))) n
