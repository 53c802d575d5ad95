use Rattle.std.proofs.Common.{◌≡◌, true, false, sym, ap, ◌∙◌, rules}
use lib.Ieee.{eq}
use Rattle.float.specs.inner.Operands.{is_plain}
use Rattle.float.proofs.SpecialValues.{zero_is, special-left, special-right, zero-third, other-third, plain-no-nan, plain-bits, plain-finite, fma-read, fma-bits, read_back, held}
use Rattle.float.proofs.mul_add_any.Goals.{then-not-is_plain-via-then-not-is_plain, then-not-is_plain-via-else-not-is_plain+then-not-is_plain-2}
use Rattle.float.proofs.mul_add_any.Goals as goal

pub returns-then-not-is_plain : goal.returns-then-not-is_plain
returns-then-not-is_plain c =
    let a = c.args in
    elim c.then-not-is_plain.branch [
      | then-not-is_plain-via-then-not-is_plain w ↦ special-left a.a a.b a.c (sym c.is_plain.ensures ∙ w.if-not-is_plain.true)
      | then-not-is_plain-via-else-not-is_plain+then-not-is_plain-2 w ↦ special-right a.a a.b a.c (sym w.is_plain-else-not-is_plain.ensures ∙ w.if-not-is_plain-2.true)
    ]

pub float_to_bits-a : goal.float_to_bits-a
float_to_bits-a c = let p : is_plain c.args.a ≡ true = search rules in plain-no-nan c.args.a p

pub float_to_bits-b : goal.float_to_bits-b
float_to_bits-b c = let p : is_plain c.args.b ≡ true = search rules in plain-no-nan c.args.b p

pub float_to_bits-c : goal.float_to_bits-c
float_to_bits-c c = let p : is_plain c.args.c ≡ true = search rules in plain-no-nan c.args.c p

pub fused-r-requires : goal.fused-r-requires
fused-r-requires c =
    let w = c.well_formed in
    let p : is_plain c.args.a ≡ true = search rules in
    let q : is_plain c.args.b ≡ true = search rules in
    let r : is_plain c.args.c ≡ true = search rules in
    (plain-bits c.args.a (held w.0.1) p, plain-bits c.args.b (held w.1.0.1) q, plain-bits c.args.c (held w.1.1.0.1) r)

pub float_from_bits-result : goal.float_from_bits-result
float_from_bits-result c =
    let w = c.well_formed in
    let p : is_plain c.args.a ≡ true = search rules in
    let q : is_plain c.args.b ≡ true = search rules in
    let r : is_plain c.args.c ≡ true = search rules in
    fma-bits c.args.a c.args.b c.args.c c.fused-r.result (plain-finite c.args.a p) (plain-finite c.args.b q) (plain-finite c.args.c r)
    (c.fused-r.ensures ∙ read_back c.args.a c.args.b c.args.c (held w.0.1) (held w.1.0.1) (held w.1.1.0.1))

pub returns-then-is_plain : goal.returns-then-is_plain
returns-then-is_plain c =
    let w = c.well_formed in
    fma-read c.args.a c.args.b c.args.c c.fused-r.result (c.fused-r.ensures ∙ read_back c.args.a c.args.b c.args.c (held w.0.1) (held w.1.0.1) (held w.1.1.0.1))

pub returns-then-c : goal.returns-then-c
returns-then-c c =
    let p : is_plain c.args.a ≡ true = search rules in
    let q : is_plain c.args.b ≡ true = search rules in
    let r : is_plain c.args.c ≡ false = search rules in
    zero-third c.args.a c.args.b c.args.c p q r (ap (eq c.args.c) (sym zero_is) ∙ c.if-c.true)

pub returns-else-c : goal.returns-else-c
returns-else-c c =
    let p : is_plain c.args.a ≡ true = search rules in
    let q : is_plain c.args.b ≡ true = search rules in
    let r : is_plain c.args.c ≡ false = search rules in
    other-third c.args.a c.args.b c.args.c p q r (ap (eq c.args.c) (sym zero_is) ∙ c.if-c.false)
