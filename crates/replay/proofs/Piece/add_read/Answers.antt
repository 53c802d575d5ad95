use Rattle.std.proofs.Common.{ℕ, ◌≡◌, ◌≤◌, ◌+◌, ◌-◌, ◌*◌, List, length, take, arith, rules, ap, sym, ◌∙◌}
use Prim.Native.Nat.{min}
use Rattle.std.proofs.lemmas.List.FromFn.{length-map-range_with_len, take-map-range_with_len}
use Rattle.replay.specs.Digits.{sample_at, numbers_at}
use Rattle.replay.proofs.Pieces.{piece_grown, length-part}
use Rattle.replay.proofs.Piece.add_read.Goals as goal

pub returns : goal.returns
returns g c =
    let p = c.self.inside in
    let m = c.min-added.result in
    let f = λ (k : ℕ). sample_at c.args.line.now (c.args.at + 4 * k) in
    let xs = numbers_at sample_at 4 c.args.line.now c.args.at c.args.count in
    let n : length xs ≡ c.args.count = length-map-range_with_len f 0 c.args.count in
    let k : m ≡ min (g.row.N - p.count) (length xs) = search rules in
    let b : m ≤ c.args.count = omega (arith, c.min-added.ensures) in
    let ys : c.read_numbers.new.numbers ≡ take m xs =
    c.read_numbers.ensures
    ∙ ap (λ (i : ℕ). numbers_at sample_at 4 c.args.line.now c.args.at i) (length-part p.samples p.count m (omega arith))
    ∙ sym (take-map-range_with_len f 0 c.args.count m b) in
    rw (← c.self.view_is) (piece_grown p.samples xs c.read_numbers.new.numbers p.count g.row.N m c.self.invariant (search rules) k ys)
