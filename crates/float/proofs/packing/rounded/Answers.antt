use Rattle.std.proofs.Common.{ℕ, ◌-◌, ◌^◌, ◌≤◌, sym, refl, ap, ◌∙◌, subst, inl, arith}
use lib.Ieee.{binary64, units, to_bits}
use Rattle.float.proofs.RoundedByExponent.{closest-le, at-normal, at_low, at_none}
use Rattle.float.proofs.packing.rounded.Goals as goal

pub pattern-requires-then-x-lt1251 : goal.pattern-requires-then-x-lt1251
pattern-requires-then-x-lt1251 c =
    let x = c.if-tiny.false in
    let y = c.if-x-lt1251.true in
    (subst (λ (z : ℕ). z ≤ 2 ^ 53) (sym c.nearest_even.ensures) (closest-le c.args.w (1262 - c.args.x) c.ranges.w.fits (omega arith)), inl refl)

pub returns-then-tiny : goal.returns-then-tiny
returns-then-tiny c m j =
    let a = c.args in
    c.pattern.ensures ∙ ap (to_bits binary64) (sym (at_none a.negative m a.w a.x j c.requires.0 c.ranges.w.fits c.if-tiny.true))

pub returns-then-x-lt1251 : goal.returns-then-x-lt1251
returns-then-x-lt1251 c m j =
    let a = c.args in
    c.pattern-then-x-lt1251.ensures
    ∙ ap (λ (z : ℕ). to_bits binary64 (units binary64 a.negative z 0)) c.nearest_even.ensures
    ∙ ap (to_bits binary64) (sym (at_low a.negative m a.w a.x j c.requires.0 c.ranges.w.fits c.if-x-lt1251.true))

pub returns-else-x-lt1251 : goal.returns-else-x-lt1251
returns-else-x-lt1251 c m j =
    let a = c.args in
    c.pattern-else-x-lt1251.ensures
    ∙ ap (λ (z : ℕ). to_bits binary64 (units binary64 a.negative z (a.x - 1251))) c.nearest_even_53.ensures
    ∙ ap (to_bits binary64) (sym (at-normal a.negative m a.w a.x j c.requires.0 c.ranges.w.fits c.if-x-lt1251.false))
