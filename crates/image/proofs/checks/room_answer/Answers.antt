use borrow.Author.Tests.{lt-ltb, le-ltb}
use Rattle.image.specs.Playing.{room_answer}
use Rattle.image.proofs.checks.room_answer.Goals as goal

pub returns-then-lowest_pair : goal.returns-then-lowest_pair
unfolding room_answer
returns-then-lowest_pair c = simp (← c.lowest_pair.ensures, c.if-lowest_pair.true)

pub returns-then-short : goal.returns-then-short
unfolding room_answer
returns-then-short c = simp (← c.lowest_pair.ensures, c.if-lowest_pair.false, lt-ltb _ _ c.if-short.true)

pub returns : goal.returns
unfolding room_answer
returns c = simp (← c.lowest_pair.ensures, c.if-lowest_pair.false, le-ltb _ _ c.if-short.false)
