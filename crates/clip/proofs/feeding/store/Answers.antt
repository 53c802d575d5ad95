use Rattle.std.proofs.Common.{length, ap, ◌∙◌, arith}
use lib.Seq.{length-sets}
use Rattle.layout.specs.Sizes.{frame_place}
use Rattle.clip.proofs.Storing.{room-few, room-place, room-context, part-at, with-context, without-context}
use Rattle.clip.proofs.feeding.store.Goals as goal

pub overflow_mul-at : goal.overflow_mul-at
overflow_mul-at c = omega (arith, room-few c.args.shape c.args.q _ _ c.requires)

pub overflow_add-at : goal.overflow_add-at
overflow_add-at c = omega (arith, room-place c.args.shape c.args.q _ _ c.requires, c.bodies_place.ensures)

pub overflow_add-at-2 : goal.overflow_add-at-2
overflow_add-at-2 c = omega (arith, room-place c.args.shape c.args.q _ _ c.requires, c.bodies_place.ensures)

pub slice_bounds-copy_from_slice-end : goal.slice_bounds-copy_from_slice-end
slice_bounds-copy_from_slice-end c = omega (arith, room-place c.args.shape c.args.q _ _ c.requires, c.bodies_place.ensures)

pub entry_place-requires : goal.entry_place-requires
entry_place-requires c = omega (arith, room-context c.args.shape c.args.q _ _ c.requires c.if-q-per-eq0.true)

pub overflow_add-entry_place : goal.overflow_add-entry_place
overflow_add-entry_place c =
    omega (arith, room-context c.args.shape c.args.q _ _ c.requires c.if-q-per-eq0.true, c.entry_place.ensures)

pub put_context-requires : goal.put_context-requires
put_context-requires c =
    let a = c.args in
    let p = part-at a.shape a.q a.bytes.now a.image.now _ _ c.bodies_place.ensures c.requires c.copy_from_slice.ensures.after in
    omega (arith, room-context a.shape a.q _ _ c.requires c.if-q-per-eq0.true, c.entry_place.ensures, ap length p, length-sets a.image.now (frame_place a.shape a.q) a.bytes.now)

pub returns-then-q-per-eq0 : goal.returns-then-q-per-eq0
returns-then-q-per-eq0 c =
    let a = c.args in
    let p = part-at a.shape a.q a.bytes.now a.image.now _ _ c.bodies_place.ensures c.requires c.copy_from_slice.ensures.after in
    with-context a.shape a.q a.bytes.now a.image.now _ a.history p
    c.put_context.new.image c.if-q-per-eq0.true (c.put_context.ensures ∙ rw (c.entry_place.ensures, c.from.ensures))

pub returns-else-q-per-eq0 : goal.returns-else-q-per-eq0
returns-else-q-per-eq0 c =
    let a = c.args in
    let p = part-at a.shape a.q a.bytes.now a.image.now _ _ c.bodies_place.ensures c.requires c.copy_from_slice.ensures.after in
    without-context a.shape a.q a.bytes.now a.image.now _ a.history p c.if-q-per-eq0.false
