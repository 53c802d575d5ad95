-- `encode_frame` meets its contract: the winner among all eight, packed.
use Rattle.std.proofs.Common.{sym, ap, subst, arith}
use mathlib.Core.List.{List}
use lib.IntN.{ℤ, pos}
use lib.ListN.{get_or}
use Rattle.frame.specs.declared.choice.Held.{Held}
use Rattle.frame.specs.declared.EncodedFrame.{EncodedFrame}
use Rattle.frame.specs.Choice.{winner, held_after}
use Rattle.frame.specs.Frame.{header, pack_frame, encode_frame}
use Rattle.frame.specs.inner.Nibbles.{InNibble}
use Rattle.frame.proofs.LawsChoice.{winner-le, candidate-shape, candidate-nibble}
use Rattle.frame.proofs.encode_frame.Goals as goal

abbrev frame-of : Held → EncodedFrame
frame-of b = record { bytes = pack_frame (header b.index b.candidate.exponent) b.candidate.nibbles 7; passes = b.passes; samples = b.candidate.samples }

pub overflow_mul-index : goal.overflow_mul-index
unfolding held_after
overflow_mul-index c =
    let a = c.args in
    omega (arith, ap (λ (b : Held). b.index) c.choose-index.ensures, winner-le a.history a.samples a.coefficients 7)

pub overflow_add-index : goal.overflow_add-index
unfolding held_after
overflow_add-index c =
    let a = c.args in
    let e = candidate-shape a.history a.samples a.coefficients (winner a.history a.samples a.coefficients 7) in
    omega (arith, ap (λ (b : Held). b.index) c.choose-index.ensures, winner-le a.history a.samples a.coefficients 7, ap (λ (b : Held). b.candidate.exponent) c.choose-index.ensures, e.exponent-le)

pub pack_frame-bytes-requires : goal.pack_frame-bytes-requires
unfolding held_after
pack_frame-bytes-requires c =
    let a = c.args in
    λ k l.
    subst (λ (ns : List ℤ). InNibble (get_or ns k (pos 0))) (sym (ap (λ (b : Held). b.candidate.nibbles) c.choose-index.ensures))
    (candidate-nibble a.history a.samples a.coefficients (winner a.history a.samples a.coefficients 7) k l)

pub returns : goal.returns
unfolding encode_frame held_after
returns c = rw c.pack_frame-bytes.ensures (ap frame-of c.choose-index.ensures)
