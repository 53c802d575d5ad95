use Rattle.std.proofs.Common.{◌≡◌, length, get_or, pos, of_z, arith, rules}
use Rattle.std.specs.Int.{w16}
use Rattle.std.proofs.lemmas.Int.{to_z-of_z}
use Rattle.clip.proofs.FieldRuns.{coefficient-none, coefficient-turn}
use Rattle.clip.proofs.contents.put_coefficients.Goals as goal

pub loop-i-init : goal.loop-i-init
loop-i-init c = coefficient-none c.args.image.now c.args.at c.args.coefficients

pub loop-i-preserved : goal.loop-i-preserved
loop-i-preserved c =
    let a = c.args in
    let l = c.loop-i in
    let n : length a.coefficients ≡ 16 = search rules in
    let v : c.cast_unsigned.result ≡ of_z w16 (get_or a.coefficients l.i (pos 0)) = grind (arith, to_z-of_z) in
    coefficient-turn a.image.now l.image c.put16.new.buf a.at a.coefficients l.i c.cast_unsigned.result (omega arith) l.invariant v c.put16.ensures
