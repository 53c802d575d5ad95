use Rattle.std.proofs.Common.{refl, arith}
use Rattle.float.proofs.Decomposition.{near-is, near-normals, near-under, near-above, near-product, near-addend, near-kept, near-law}
use Rattle.float.proofs.fusing.fused_near.Goals as goal

pub normal_parts-x-requires : goal.normal_parts-x-requires
normal_parts-x-requires c = (near-normals c.args.x c.args.y c.args.z c.requires).0

pub normal_parts-y-requires : goal.normal_parts-y-requires
normal_parts-y-requires c = (near-normals c.args.x c.args.y c.args.z c.requires).1

pub normal_parts-z-requires : goal.normal_parts-z-requires
normal_parts-z-requires c = (near-normals c.args.x c.args.y c.args.z c.requires).2

pub overflow_sub-addend : goal.overflow_sub-addend
overflow_sub-addend c =
    near-under c.args.x c.args.y c.args.z (near-is c.args.x c.args.y c.args.z c.requires)
    c.normal_parts-x.ensures.exponent c.normal_parts-y.ensures.exponent c.normal_parts-z.ensures.exponent

pub overflow_shl-addend : goal.overflow_shl-addend
overflow_shl-addend c =
    let above =
    near-above c.args.x c.args.y c.args.z (near-is c.args.x c.args.y c.args.z c.requires)
    c.normal_parts-x.ensures.exponent c.normal_parts-y.ensures.exponent c.normal_parts-z.ensures.exponent in
    omega arith

pub signed_sum-requires : goal.signed_sum-requires
signed_sum-requires c =
    let x = c.normal_parts-x in
    let y = c.normal_parts-y in
    let z = c.normal_parts-z in
    let n = near-is c.args.x c.args.y c.args.z c.requires in
    let under = near-under c.args.x c.args.y c.args.z n x.ensures.exponent y.ensures.exponent z.ensures.exponent in
    let above = near-above c.args.x c.args.y c.args.z n x.ensures.exponent y.ensures.exponent z.ensures.exponent in
    let a = x.ensures.parts.low in
    let b = y.ensures.parts.low in
    rw (c.from.ensures, c.from-2.ensures, c.from-3.ensures) (
      (near-product _ _ _ _ _ _ _ _ _ _ _ _ x.ensures.parts y.ensures.parts z.ensures.parts under above).1,
      rw (near-kept _ _ _ _ _ _ _ _ _ _ _ _ x.ensures.parts y.ensures.parts z.ensures.parts under above)
          (near-addend _ _ _ _ _ _ _ _ _ _ _ _ x.ensures.parts y.ensures.parts z.ensures.parts under above),
      (near-product _ _ _ _ _ _ _ _ _ _ _ _ x.ensures.parts y.ensures.parts z.ensures.parts under above).0,
      refl,
      omega arith,
    )

pub returns : goal.returns
returns c =
    let x = c.normal_parts-x in
    let y = c.normal_parts-y in
    let z = c.normal_parts-z in
    let n = near-is c.args.x c.args.y c.args.z c.requires in
    let under = near-under c.args.x c.args.y c.args.z n x.ensures.exponent y.ensures.exponent z.ensures.exponent in
    let above = near-above c.args.x c.args.y c.args.z n x.ensures.exponent y.ensures.exponent z.ensures.exponent in
    near-law _ _ _ _ _ _ _ _ _ _ _ _ x.ensures.parts y.ensures.parts z.ensures.parts under above c.signed_sum.result
    (λ p q f. c.signed_sum.ensures p q
    (rw (c.from.ensures, c.from-2.ensures, c.from-3.ensures, near-kept _ _ _ _ _ _ _ _ _ _ _ _ x.ensures.parts y.ensures.parts z.ensures.parts under above) f))
