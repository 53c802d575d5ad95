-- `try_coefficients` meets its contract.
use Rattle.std.proofs.Common.{ℕ, ◌+◌, sym, ap, ◌∙◌, subst, arith}
use lib.IntN.{pos}
use lib.ListN.{get_or}
use lib.Seq.{get_or-take}
use Rattle.frame.specs.declared.pass.Pass.{Pass}
use Rattle.frame.specs.Pass.{run_pass}
use Rattle.frame.specs.Search.{raise, is_last, finished, search_within, try_coefficients}
use Rattle.frame.specs.inner.Nibbles.{InNibble}
use Rattle.frame.specs.inner.Places.{history_of, samples_of}
use Rattle.frame.proofs.LawsPass.{overflow-le, pass-nibble}
use Rattle.frame.proofs.LawsPlaces.{samples-fit, history-fits}
use Rattle.frame.proofs.LawsSearch.{not-twelve, goes_on, raise-same, search-more, search-last}
use Rattle.frame.proofs.search.try_coefficients.Goals as goal

pub loop-seen-init : goal.loop-seen-init
unfolding try_coefficients
loop-seen-init c =
    let a = c.args.pair in
    let d = c.args.frame.now in
    let h = history_of d.samples in
    let xs = samples_of d.samples in
    let e = c.first_exponent-p.ensures in
    (omega arith, ap (λ (p : ℕ). search_within 13 a.c0 a.c1 h xs p 0) e)

-- ---- a pass that is sure: it is the pass at p, and its overflow raises nothing

pub finished-requires : goal.finished-requires
finished-requires c =
    let a = c.args.pair in
    let d = c.args.frame.now in
    let h = history_of d.samples in
    let xs = samples_of d.samples in
    let l = c.loop-seen in
    let ns = c.in-Some.seen.nibbles in
    λ k q. subst InNibble (ap (λ (t : Pass). get_or t.nibbles k (pos 0)) (sym c.in-Some.ensures.0) ∙ get_or-take 14 ns k (pos 0) q) (pass-nibble a.c0 a.c1 h xs l.p.value k q)

pub next-p-requires : goal.next-p-requires
next-p-requires c =
    let a = c.args.pair in
    let d = c.args.frame.now in
    let h = history_of d.samples in
    let xs = samples_of d.samples in
    let l = c.loop-seen in
    let fh = history-fits d.samples d.padded in
    let fx = samples-fit d.samples d.padded in
    let told = c.in-Some.ensures in
    let o = ap (λ (t : Pass). t.overflow) told.0 in
    let same = sym (raise-same (run_pass a.c0 a.c1 h xs l.p.value).overflow l.p.value (omega (arith, o, told.1))) in
    let test = c.is_last.ensures ∙ ap (is_last l.p.value) o in
    let r = goes_on a.c0 a.c1 h xs a.bounded fh fx l.p.value l.p.value l.p.most same (not-twelve _ _ (sym test ∙ c.if-is_last.false)) in
    omega (arith, r.1)

pub loop-seen-smaller-in-Some : goal.loop-seen-smaller-in-Some
loop-seen-smaller-in-Some c =
    let a = c.args.pair in
    let d = c.args.frame.now in
    let h = history_of d.samples in
    let xs = samples_of d.samples in
    let l = c.loop-seen in
    let fh = history-fits d.samples d.padded in
    let fx = samples-fit d.samples d.padded in
    let told = c.in-Some.ensures in
    let o = ap (λ (t : Pass). t.overflow) told.0 in
    let same = sym (raise-same (run_pass a.c0 a.c1 h xs l.p.value).overflow l.p.value (omega (arith, o, told.1))) in
    let test = c.is_last.ensures ∙ ap (is_last l.p.value) o in
    let r = goes_on a.c0 a.c1 h xs a.bounded fh fx l.p.value l.p.value l.p.most same (not-twelve _ _ (sym test ∙ c.if-is_last.false)) in
    omega (arith, r.1)

pub loop-seen-preserved-in-Some : goal.loop-seen-preserved-in-Some
loop-seen-preserved-in-Some c =
    let a = c.args.pair in
    let d = c.args.frame.now in
    let h = history_of d.samples in
    let xs = samples_of d.samples in
    let l = c.loop-seen in
    let fh = history-fits d.samples d.padded in
    let fx = samples-fit d.samples d.padded in
    let told = c.in-Some.ensures in
    let o = ap (λ (t : Pass). t.overflow) told.0 in
    let same = sym (raise-same (run_pass a.c0 a.c1 h xs l.p.value).overflow l.p.value (omega (arith, o, told.1))) in
    let test = c.is_last.ensures ∙ ap (is_last l.p.value) o in
    let r = goes_on a.c0 a.c1 h xs a.bounded fh fx l.p.value l.p.value l.p.most same (not-twelve _ _ (sym test ∙ c.if-is_last.false)) in
    (omega arith, rw c.next-p.ensures (search-more a.c0 a.c1 h xs l.p.value l.passes l.p.value _ (omega arith) same l.invariant.1 (sym test ∙ c.if-is_last.false)))

pub returns-then-is_last : goal.returns-then-is_last
returns-then-is_last c =
    let a = c.args.pair in
    let d = c.args.frame.now in
    let h = history_of d.samples in
    let xs = samples_of d.samples in
    let l = c.loop-seen in
    let told = c.in-Some.ensures in
    let o = ap (λ (t : Pass). t.overflow) told.0 in
    let same = sym (raise-same (run_pass a.c0 a.c1 h xs l.p.value).overflow l.p.value (omega (arith, o, told.1))) in
    let test = c.is_last.ensures ∙ ap (is_last l.p.value) o in
    c.finished.ensures ∙ ap (λ (v : Pass). finished v l.p.value (l.passes + 1)) told.0
    ∙ search-last a.c0 a.c1 h xs l.p.value l.passes l.p.value _ (omega arith) same l.invariant.1 (sym test ∙ c.if-is_last.true)

-- ---- a pass that is not

pub raise-q-requires : goal.raise-q-requires
raise-q-requires c =
    let a = c.args.pair in
    let d = c.args.frame.now in
    let h = history_of d.samples in
    let xs = samples_of d.samples in
    let l = c.loop-seen in
    let fh = history-fits d.samples d.padded in
    let fx = samples-fit d.samples d.padded in
    let o = ap (λ (t : Pass). t.overflow) c.run_pass-pass.ensures in
    omega (arith, o, overflow-le a.c0 a.c1 h xs a.bounded fh fx l.p.value)

pub next-p-requires-in_default : goal.next-p-requires-in_default
next-p-requires-in_default c =
    let a = c.args.pair in
    let d = c.args.frame.now in
    let h = history_of d.samples in
    let xs = samples_of d.samples in
    let l = c.loop-seen in
    let fh = history-fits d.samples d.padded in
    let fx = samples-fit d.samples d.padded in
    let o = ap (λ (t : Pass). t.overflow) c.run_pass-pass.ensures in
    let q = c.raise-q.ensures ∙ ap (λ (n : ℕ). raise n l.p.value) o in
    let test = c.is_last-in_default.ensures ∙ ap (is_last c.raise-q.result.value) o in
    let r = goes_on a.c0 a.c1 h xs a.bounded fh fx l.p.value c.raise-q.result.value l.p.most q (not-twelve _ _ (sym test ∙ c.if-is_last-2.false)) in
    omega (arith, r)

pub loop-seen-smaller : goal.loop-seen-smaller
loop-seen-smaller c =
    let a = c.args.pair in
    let d = c.args.frame.now in
    let h = history_of d.samples in
    let xs = samples_of d.samples in
    let l = c.loop-seen in
    let fh = history-fits d.samples d.padded in
    let fx = samples-fit d.samples d.padded in
    let o = ap (λ (t : Pass). t.overflow) c.run_pass-pass.ensures in
    let q = c.raise-q.ensures ∙ ap (λ (n : ℕ). raise n l.p.value) o in
    let test = c.is_last-in_default.ensures ∙ ap (is_last c.raise-q.result.value) o in
    let r = goes_on a.c0 a.c1 h xs a.bounded fh fx l.p.value c.raise-q.result.value l.p.most q (not-twelve _ _ (sym test ∙ c.if-is_last-2.false)) in
    omega (arith, r)

pub loop-seen-preserved : goal.loop-seen-preserved
loop-seen-preserved c =
    let a = c.args.pair in
    let d = c.args.frame.now in
    let h = history_of d.samples in
    let xs = samples_of d.samples in
    let l = c.loop-seen in
    let fh = history-fits d.samples d.padded in
    let fx = samples-fit d.samples d.padded in
    let o = ap (λ (t : Pass). t.overflow) c.run_pass-pass.ensures in
    let q = c.raise-q.ensures ∙ ap (λ (n : ℕ). raise n l.p.value) o in
    let test = c.is_last-in_default.ensures ∙ ap (is_last c.raise-q.result.value) o in
    let r = goes_on a.c0 a.c1 h xs a.bounded fh fx l.p.value c.raise-q.result.value l.p.most q (not-twelve _ _ (sym test ∙ c.if-is_last-2.false)) in
    (omega (arith, r), rw c.next-p-in_default.ensures (search-more a.c0 a.c1 h xs l.p.value l.passes c.raise-q.result.value _ (omega arith) q l.invariant.1 (sym test ∙ c.if-is_last-2.false)))

pub returns-then-is_last-2 : goal.returns-then-is_last-2
returns-then-is_last-2 c =
    let a = c.args.pair in
    let d = c.args.frame.now in
    let h = history_of d.samples in
    let xs = samples_of d.samples in
    let l = c.loop-seen in
    let o = ap (λ (t : Pass). t.overflow) c.run_pass-pass.ensures in
    let q = c.raise-q.ensures ∙ ap (λ (n : ℕ). raise n l.p.value) o in
    let test = c.is_last-in_default.ensures ∙ ap (is_last c.raise-q.result.value) o in
    c.finished-then-is_last-2.ensures ∙ ap (λ (v : Pass). finished v c.raise-q.result.value (l.passes + 1)) c.run_pass-pass.ensures
    ∙ search-last a.c0 a.c1 h xs l.p.value l.passes c.raise-q.result.value _ (omega arith) q l.invariant.1 (sym test ∙ c.if-is_last-2.true)
