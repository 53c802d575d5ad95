-- The library's clamp is the definition's.
use Rattle.std.proofs.Common.{refl, ◌∙◌, w16, w64}
use Rattle.std.proofs.Math.Facts.{to_z-of_z, sfits_widen}
use Rattle.whole.proofs.Clamping.{clamp-library, clamp-fits}
use Rattle.whole.proofs.clamp_i16.Goals as goal

pub returns : goal.returns
returns c =
    let f = clamp-fits c.args.x in
    let v = rw (to_z-of_z c.ranges.x) at c.clamp.ensures.value in
    rw (v ∙ clamp-library 32767 c.args.x, to_z-of_z {w = w64} (sfits_widen tt f), to_z-of_z {w = w16} f) refl
