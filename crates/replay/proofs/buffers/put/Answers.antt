use Rattle.std.proofs.Common.{ℕ, ◌≡◌, ◌≤◌, ◌+◌, ◌-◌, ◌*◌, length, take, arith, rules, ap, sym, ◌∙◌}
use Prim.Native.Nat.{min}
use Rattle.std.proofs.lemmas.List.{length-take-le}
use Rattle.std.proofs.lemmas.List.FromFn.{length-map-range_with_len, take-map-range_with_len}
use Rattle.layout.proofs.Stored.{part-stored}
use Rattle.replay.specs.Digits.{byte, word, numbers_at}
use Rattle.replay.specs.Buffers.{put}
use Rattle.replay.proofs.Pieces.{length-part}
use Rattle.replay.proofs.buffers.put.Goals as goal

pub returns : goal.returns
unfolding put
returns g c =
    let l = c.args.line.now in
    let b = c.args.buffer.now in
    let k = g.row.MOST in
    let m = c.min-count.result in
    let f = λ (i : ℕ). byte l (7 + 2 * i) in
    let xs = numbers_at byte 2 l 7 k in
    let s : c.min-start.result ≡ min (word l 1) (length b - k) = search rules in
    let h : m ≡ min (byte l 5) k = search rules in
    let few : m ≤ k = omega (arith, h) in
    let n : length (take m xs) ≡ m = length-take-le m xs (omega (arith, few, length-map-range_with_len f 0 k)) in
    let ys : c.read_numbers.new.numbers ≡ take m xs =
    c.read_numbers.ensures
    ∙ ap (λ (i : ℕ). numbers_at byte 2 l 7 i) (length-part b c.min-start.result m (omega (arith, s, few)))
    ∙ sym (take-map-range_with_len f 0 k m few) in
    rw (← s, ← h) (part-stored b (take m xs) c.read_numbers.new.numbers c.min-start.result _ (omega (arith, s, n, few)) (omega (arith, n)) ys)
