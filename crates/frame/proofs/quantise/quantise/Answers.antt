-- `quantise` meets its contract: rounded to 24 bits, then divided to the nearest.
use Rattle.std.proofs.Common.{◌≡◌, ◌∙◌, ap, ℕ, nat_abs, arith, w64, to_z, of_z}
use Rattle.std.proofs.Math.Facts.{to_z-of_z}
use Rattle.frame.specs.Quantise.{round24, scale, nearest_down, with_sign, quantise}
use Rattle.frame.proofs.LawsQuantise.{round24-le, sign-size, sign-twice, scale-pos}
use Rattle.frame.proofs.quantise.quantise.Goals as goal

-- what was rounded, as the next call reads it
value : (c : goal.After-rounded) → to_z w64 (of_z w64 c.rounded.result) ≡ with_sign c.args.d (round24 (nat_abs c.args.d))
value c = to_z-of_z {w = w64} (record { sfits = c.rounded.type_inv }) ∙ rw (to_z-of_z c.ranges.d) at c.rounded.ensures

pub nearest-requires : goal.nearest-requires
nearest-requires c =
    let d = c.args.d in omega (arith, ap nat_abs (value c), sign-size d (round24 (nat_abs d)), round24-le (nat_abs d) c.requires)

pub returns : goal.returns
unfolding quantise
returns c =
    let d = c.args.d in
    let m = round24 (nat_abs d) in
    let s = scale c.args.p.value in
    let e = rw (value c.before) at c.nearest.ensures in
    rw (to_z-of_z (record { sfits = c.nearest.type_inv }))
    (e ∙ ap (λ (n : ℕ). with_sign (with_sign d m) (nearest_down n s)) (sign-size d m) ∙ sign-twice d m s (scale-pos c.args.p.value))
