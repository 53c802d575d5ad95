use borrow.Author.Tests.{not-true, not-false, eq-eqb, ne_eqb}
use Rattle.std.proofs.Common.{◌≡◌, ◌+◌, ◌*◌, ◌/◌, ◌<◌, true, ◌&&◌, eqb, get_or, List, ℕ, refl, sym, ap, ap₂, ◌∙◌, arith}
use Rattle.layout.specs.declared.Loop.{Loop}
use Rattle.layout.specs.declared.Shape.{Shape}
use Rattle.layout.specs.Limits.{loop_ok}
use Rattle.layout.specs.Sizes.{bodies_place, frame_place}
use Rattle.image.specs.Opening.{loop_fits}
use Rattle.image.specs.Reading.{shape_in, total_in, blocks_in, header_in, entry_zero_in, loop_in}
use Rattle.image.proofs.LawsLoop.{loop-one, blocks-small, loop-entry, loop-frame, frame_small, loop_rule, fits_not, fits-none, fits_told}
use Rattle.image.proofs.loops.loop_fits.Goals as goal

-- where the frame that holds the start stands, of what was read
frame : (l : List ℕ) (p : Loop) (s : Shape) (b : ℕ) → p ≡ loop_in l → s ≡ shape_in l → b ≡ bodies_place s → b + 8 * (p.start / 14) ≡ frame_place (shape_in l) ((loop_in l).start / 14)
frame l p s b e f g = rw (g, f, e)

-- the rule of start and end holds of a loop that is there
begins : (l : List ℕ) (p : Loop) → p ≡ loop_in l → p.present ≡ true → loop_ok p (total_in l) ≡ true → (loop_in l).start < total_in l
begins l p e f g = let r = loop_rule l (sym (ap (λ (q : Loop). q.present) e) ∙ f) (sym (ap (λ (q : Loop). loop_ok q (total_in l)) e) ∙ g) in let a = r.0 in let b = r.1 in omega (arith, a, b)

pub returns-then-not-loop_ok : goal.returns-then-not-loop_ok
unfolding total_in
returns-then-not-loop_ok c = fits_not _ (sym (c.loop_ok.ensures ∙ ap₂ loop_ok c.read_loop-looped.ensures c.get32.ensures) ∙ c.if-not-loop_ok.true)

pub returns-then-not-looped : goal.returns-then-not-looped
returns-then-not-looped c = fits-none _ (sym (ap (λ (p : Loop). p.present) c.read_loop-looped.ensures) ∙ not-true _ c.if-not-looped.true)

pub entry_place-at-requires : goal.entry_place-at-requires
unfolding blocks_in
entry_place-at-requires c = let b = blocks-small _ c.requires in omega (arith, b, c.get32-2.ensures)

pub overflow_add-frame : goal.overflow_add-frame
unfolding total_in
overflow_add-frame c =
    let e = c.read_loop-looped.ensures in
    let s = frame_small _ c.requires _ (begins _ _ e (not-false _ c.if-not-looped.false) (ap (loop_ok c.read_loop-looped.result) (sym c.get32.ensures) ∙ sym c.loop_ok.ensures ∙ c.if-not-loop_ok.false)) in
    rw (frame c.args.image.now _ _ _ e c.read_shape.ensures c.bodies_place.ensures) (omega (arith, s))

pub get16-told-requires : goal.get16-told-requires
unfolding blocks_in
get16-told-requires c =
    let e = loop-entry _ c.requires (loop-one _ (sym (ap (λ (p : Loop). p.present) c.read_loop-looped.ensures) ∙ not-false _ c.if-not-looped.false)) in
    rw (c.entry_place-at.ensures, c.get32-2.ensures) (omega (arith, e))

pub bounds-image-frame : goal.bounds-image-frame
unfolding total_in
bounds-image-frame c =
    let e = c.read_loop-looped.ensures in
    rw (frame c.args.image.now _ _ _ e c.read_shape.ensures c.bodies_place.ensures)
    (loop-frame _ c.requires _ (begins _ _ e (not-false _ c.if-not-looped.false) (ap (loop_ok c.read_loop-looped.result) (sym c.get32.ensures) ∙ sym c.loop_ok.ensures ∙ c.if-not-loop_ok.false)))

pub get16-requires : goal.get16-requires
unfolding blocks_in
get16-requires c =
    let e = loop-entry _ c.requires (loop-one _ (sym (ap (λ (p : Loop). p.present) c.read_loop-looped.ensures) ∙ not-false _ c.if-not-looped.false)) in
    rw (c.entry_place-at.ensures, c.get32-2.ensures) (omega (arith, e))

-- its header and zero bytes, as they were read
told : (l : List ℕ) (p : Loop) (t h z : ℕ) → p ≡ loop_in l → p.present ≡ true → loop_ok p (total_in l) ≡ true
    → t ≡ header_in l (blocks_in l) → h ≡ get_or l (frame_place (shape_in l) ((loop_in l).start / 14)) 0 → z ≡ entry_zero_in l (blocks_in l)
    → eqb t h && eqb z 0 ≡ loop_fits l
told l p t h z e f g q r s =
    rw (q, r, s) (fits_told l (sym (ap (λ (x : Loop). x.present) e) ∙ f) (sym (ap (λ (x : Loop). loop_ok x (total_in l)) e) ∙ g))

-- where the header is the frame's, and where it is another
zeros-left : (l : List ℕ) (t h z : ℕ) → eqb t h && eqb z 0 ≡ loop_fits l → t ≡ h → eqb z 0 ≡ loop_fits l
zeros-left l t h z e p = rw (eq-eqb t h p) at e

other-header : (l : List ℕ) (t h z : ℕ) → eqb t h && eqb z 0 ≡ loop_fits l → (t ≡ h → ⊥) → eqb t h ≡ loop_fits l
other-header l t h z e n = rw (ne_eqb t h n) (rw (ne_eqb t h n) at e)

pub returns-then-same : goal.returns-then-same
unfolding blocks_in header_in entry_zero_in total_in
returns-then-same c =
    let l = c.args.image.now in
    let e = c.read_loop-looped.ensures in
    let g = ap (loop_ok c.read_loop-looped.result) (sym c.get32.ensures) ∙ sym c.loop_ok.ensures ∙ c.if-not-loop_ok.false in
    zeros-left l c.get16-told.result c.from-header.result c.get16.result
    (told l _ c.get16-told.result c.from-header.result c.get16.result e (not-false _ c.if-not-looped.false) g
    (c.get16-told.ensures ∙ rw (c.entry_place-at.ensures, c.get32-2.ensures))
    (c.from-header.ensures ∙ ap (λ (i : ℕ). get_or l i 0) (frame l _ _ _ e c.read_shape.ensures c.bodies_place.ensures))
    (c.get16.ensures ∙ rw (c.entry_place-at.ensures, c.get32-2.ensures)))
    c.if-same.true

pub returns-else-same : goal.returns-else-same
unfolding blocks_in header_in entry_zero_in total_in
returns-else-same c =
    let l = c.args.image.now in
    let e = c.read_loop-looped.ensures in
    let g = ap (loop_ok c.read_loop-looped.result) (sym c.get32.ensures) ∙ sym c.loop_ok.ensures ∙ c.if-not-loop_ok.false in
    let z = entry_zero_in l (blocks_in l) in
    other-header l c.get16-told.result c.from-header.result z
    (told l _ c.get16-told.result c.from-header.result z e (not-false _ c.if-not-looped.false) g
    (c.get16-told.ensures ∙ rw (c.entry_place-at.ensures, c.get32-2.ensures))
    (c.from-header.ensures ∙ ap (λ (i : ℕ). get_or l i 0) (frame l _ _ _ e c.read_shape.ensures c.bodies_place.ensures)) refl)
    c.if-same.false
