-- An image without a loop opens, or does not, as it did before there were loops.
use mathlib.Core.Path.{◌≡◌, ap₂, ◌∙◌}
use mathlib.Core.Bool.{Bool, not, cond}
use mathlib.Core.List.{List}
use Prim.Native.Nat.{ℕ}
use Rattle.whole.specs.Outcome.{Outcome, accepted, refused}
use Rattle.layout.specs.Sizes.{shape, block_count}
use Rattle.image.specs.Reading.{total_in, block_in, loops_in}
use Rattle.image.specs.Opening.{and_then, numbers_fit, head_ok, entries_answer, open_answer}
use Rattle.image.specs.Unlooped.{head_before, open_before}
use Rattle.image.proofs.LawsLoop.{fits-zero}
use Rattle.image.proofs.TestsInTurn.{then-nothing}

head-is : (l : List ℕ) → loops_in l ≡ 0 → head_ok l ≡ head_before l
unfolding head_ok numbers_fit head_before
head-is l z = rw z

-- Opening an image that has 0 at bytes 50 to 51 answers what it answered before there were loops.
pub unlooped-opens : (l : List ℕ) → loops_in l ≡ 0 → open_answer l ≡ open_before l
unfolding open_answer open_before
unlooped-opens l z =
    let n = total_in l in
    let b = block_in l in
    ap₂ (λ (x : ℕ) (f : Bool). cond (not (head_ok l)) (refused 15)
    (and_then (entries_answer l (shape n b x) 0 (block_count (shape n b x))) (cond (not f) (refused 24) (accepted tt)))) z (fits-zero l z)
    ∙ ap₂ (λ (h : Bool) (o : Outcome Unit). cond (not h) (refused 15) o) (head-is l z) (then-nothing (entries_answer l (shape n b 0) 0 (block_count (shape n b 0))))
