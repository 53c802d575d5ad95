use Rattle.clip.specs.Image.{loop_bytes}
use Rattle.clip.proofs.contents.put_loop.Goals as goal

pub returns-then-looped : goal.returns-then-looped
unfolding loop_bytes
returns-then-looped c = rw c.if-looped.true c.put_entry.ensures

pub returns-else-looped : goal.returns-else-looped
unfolding loop_bytes
returns-else-looped c = rw c.if-looped.false
