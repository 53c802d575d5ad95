use Rattle.std.proofs.Common.{length, arith, sym, ◌∙◌}
use Rattle.block.proofs.LawsRefusals.{good_length}
use Rattle.block.proofs.LawsCalls.{play-12, play-13, play-14, play-done}
use Rattle.block.proofs.play_bytes.Goals as goal

pub returns-then-bad_length : goal.returns-then-bad_length
returns-then-bad_length c =
    let a = c.args in
    play-12 a.bytes.now a.len a.coefficients a.context a.out.now (sym c.bad_length.ensures ∙ c.if-bad_length.true)

pub returns-then-lowest_pair : goal.returns-then-lowest_pair
returns-then-lowest_pair c =
    let a = c.args in
    play-13 a.bytes.now a.len a.coefficients a.context a.out.now (sym c.bad_length.ensures ∙ c.if-bad_length.false)
    (sym c.lowest_pair.ensures ∙ c.if-lowest_pair.true)

pub returns-then-short : goal.returns-then-short
returns-then-short c =
    let a = c.args in
    play-14 a.bytes.now a.len a.coefficients a.context a.out.now (sym c.bad_length.ensures ∙ c.if-bad_length.false)
    (sym c.lowest_pair.ensures ∙ c.if-lowest_pair.false)
    (omega (arith, c.address_to_sample-count.ensures))

pub play_into-after-requires : goal.play_into-after-requires
play_into-after-requires c =
    let a = c.args in
    let good = good_length a.len (length a.bytes.now) (sym c.bad_length.ensures ∙ c.if-bad_length.false) in
    (good.0, good.1, omega (arith, c.address_to_sample-count.ensures))

pub returns : goal.returns
returns c =
    let a = c.args in
    play-done a.bytes.now a.len a.coefficients a.context a.out.now _ _ (sym c.bad_length.ensures ∙ c.if-bad_length.false)
    (sym c.lowest_pair.ensures ∙ c.if-lowest_pair.false)
    (omega (arith, c.address_to_sample-count.ensures)) c.address_to_sample-count.ensures c.play_into-after.ensures
