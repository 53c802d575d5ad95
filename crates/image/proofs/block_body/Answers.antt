use Rattle.std.proofs.Common.{◌≡◌, ℕ, ◌+◌, [], sym, ap, arith}
use Rattle.whole.specs.Outcome.{effect}
use Rattle.image.specs.Bodies.{body_in, block_body, block_part}
use Rattle.image.proofs.LawsBody.{block-accepted, found-end}
use Rattle.image.proofs.block_body.Goals as goal

pub read_entry-entry-requires : goal.read_entry-entry-requires
read_entry-entry-requires c = block-accepted _ _ (sym c.in-Ok.ensures)

pub find_body-requires : goal.find_body-requires
find_body-requires c = rw c.read_entry-entry.ensures (found-end c.args.image.now c.args.k (block-accepted _ _ (sym c.in-Ok.ensures)))

pub returns-in-Ok : goal.returns-in-Ok
unfolding block_part block_body body_in
returns-in-Ok c = simp (← c.in-Ok.ensures, c.find_body.ensures.result_value, c.find_body.ensures.ref_ptr_value, c.read_entry-entry.ensures)

pub returns-in-Err : goal.returns-in-Err
unfolding block_part block_body
returns-in-Err c =
    let p = c.args.image.ref_ptr in
    let z : p.1 ≡ p.1 + 0 = omega arith in
    simp (← c.in-Err.ensures) (ap (λ (x : ℕ). effect (p.0, x) []) z)
