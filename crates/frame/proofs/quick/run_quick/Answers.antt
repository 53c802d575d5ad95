-- `run_quick` meets its contract.
use Rattle.std.proofs.Common.{◌≡◌, ℕ, ◌+◌, ◌*◌, ◌^◌, ◌≤◌, ◌<◌, rules, sym, ap, ap₂, ◌∙◌, subst, arith, w16, w32, w64}
use Rattle.std.proofs.Math.Facts.{to_z-of_z}
use mathlib.Core.List.{List}
use native.Mathlib.Nat.{mul-le-mul, le_refl}
use lib.IntN.{ℤ, pos, nat_abs, ◌+ℤ◌, ◌-ℤ◌, ◌*ℤ◌}
use lib.ListN.{get_or}
use mir.Val.{SFits, to_z, of_z}
use Rattle.whole.proofs.SignedLocals.{Is, is-lit, is_mul, is-add, chk-add, is_call, is-size, abs-sfits, abs-sub, abs-mul}
use Rattle.frame.specs.declared.quick.Traced.{Traced}
use Rattle.frame.specs.declared.quick.Scales.{Scales}
use Rattle.frame.specs.inner.Quick.{Fine, Roomy, ScalesOf, fine_scale, rest_of, traced_by, trace, trace_at, tracked}
use Rattle.frame.proofs.LawsPlaces.{sample-at}
use Rattle.frame.proofs.LawsQuick.{y_of, w_of, traced-is, weigh-le, rest_le, w-size, raised-size, sum-size, product_le, fine-scale-pos, shl-le, newest_at, older_at, at, lifted, started, Ran, ran-start, ran-more, ran-done, newest-more, older-more, within-16}
use Rattle.frame.proofs.quick.run_quick.Goals as goal

-- a coefficient times 2^32 − 1
scaled : (r : ℤ) {z : ℤ} → r ≡ z → SFits w16 z → to_z w64 (of_z w64 (pos 4294967295 *ℤ to_z w64 (of_z w64 r))) ≡ pos 4294967295 *ℤ z
scaled r e f = (is_mul (is-lit w64 4294967295 tt) (is_call {w = w64} e (abs-sfits f) tt) tt).is

-- the scales' half and eight
half-call : (p : ℕ) (k : Scales) → p ≤ 12 → ScalesOf p k → Is w64 (of_z w64 k.half) (pos (4398046511104 * 2 ^ p + 4400193994752)) 18018798703476736
half-call p k h e = is_call e.half_is (omega (arith, shl-le 4398046511104 p h)) tt

eight-call : (p : ℕ) (k : Scales) → p ≤ 12 → ScalesOf p k → Is w64 (of_z w64 k.eight) (pos (70368744177664 * 2 ^ p) -ℤ pos 4400193994752) 288234776345706496
eight-call p k h e =
    let u = 70368744177664 * 2 ^ p in
    is_call e.eight_is (omega (arith, abs-sub (pos u) (pos 4400193994752), shl-le 70368744177664 p h)) tt

-- 2048 × (2^32 − 1) times a sample, and y
fine-call : (fs xs : List ℤ) → Fine fs xs → (i : ℕ) → i < 16 → SFits w16 (get_or fs (i + 2) (pos 0)) → Is w64 (of_z w64 (get_or xs i (pos 0))) (pos 8796093020160 *ℤ get_or fs (i + 2) (pos 0)) 288230376084602880
fine-call fs xs d i h f =
    let m : 8796093020160 * nat_abs (get_or fs (i + 2) (pos 0)) ≤ 8796093020160 * 32768 = mul-le-mul (le_refl 8796093020160) (abs-sfits f) in
    is_call (d.at i h) (omega (arith, abs-mul (pos 8796093020160) (get_or fs (i + 2) (pos 0)))) tt

y-call : (c0 c1 : ℤ) (fs xs : List ℤ) (p : ℕ) (k : Scales) → Fine fs xs → p ≤ 12 → ScalesOf p k → (i : ℕ) → i < 16 → SFits w16 (get_or fs (i + 2) (pos 0))
    → Is w64 (of_z w64 (to_z w64 (of_z w64 (get_or xs i (pos 0))) +ℤ to_z w64 (of_z w64 k.half))) (lifted c0 c1 fs p i) 306249174788079616
y-call c0 c1 fs xs p k d h e i l f = is-add (fine-call fs xs d i l f) (half-call p k h e) tt

-- ---- a place, of which what stands before it is known

module _ (c0 c1 : ℤ) (fs : List ℤ) (p i : ℕ) (ro : Roomy c0 c1) (h : p ≤ 12) (fx : SFits w16 (get_or fs (i + 2) (pos 0))) (ws ss : List ℤ) (r : Ran c0 c1 fs p i ws ss) where
  abbrev new : ℤ
  new = newest_at c0 c1 fs p i

  abbrev old : ℤ
  old = older_at c0 c1 fs p i

  abbrev x : ℤ
  x = get_or fs (i + 2) (pos 0)

  -- the place's own trace
  here-is : i < 14 → at c0 c1 fs p i ≡ trace c0 c1 new old x p
  unfolding trace_at
  here-is l = ap (λ (z : ℤ). trace c0 c1 new old z p) (sample-at fs i l)

  here-size : i < 14 → nat_abs (at c0 c1 fs p i).w ≤ 2017460224
  unfolding trace
  here-size l = subst (λ (v : Traced). nat_abs v.w ≤ 2017460224) (sym (here-is l)) (raised-size c0 c1 new old x p ro h r.newest-fits r.older-fits fx)

  size_of : nat_abs (w_of c0 c1 new old x p) ≤ 2017460224 * 4294967296
  size_of = w-size c0 c1 new old x p ro h r.newest-fits r.older-fits fx

  sum_of : nat_abs (y_of c0 c1 new old x p -ℤ rest_of (w_of c0 c1 new old x p) (fine_scale p)) ≤ 2017460224 * 4294967296
  sum_of = sum-size c0 c1 new old x p ro h r.newest-fits r.older-fits fx

  own_of : traced_by (y_of c0 c1 new old x p) (w_of c0 c1 new old x p) (fine_scale p) ≡ trace c0 c1 new old x p
  own_of =
      let l = rest_le c0 c1 new old x p ro h r.newest-fits r.older-fits fx in
      let q = weigh-le c0 c1 new old x p ro h r.newest-fits r.older-fits fx in
      traced-is c0 c1 new old x p (omega arith) (omega arith)

  -- the code's numbers there: y, g, a and newest
  module _ (y g a n : ℤ) (m : ℕ) (ye : y ≡ lifted c0 c1 fs p i) (ge : g ≡ started c0 c1 fs p i) (ae : a ≡ pos 4294967295 *ℤ c0) (ne : n ≡ new) (me : m ≡ fine_scale p) where
    w-of : g -ℤ a *ℤ n ≡ w_of c0 c1 new old x p
    w-of = ap₂ ◌-ℤ◌ ge (ap₂ ◌*ℤ◌ ae ne)

    w-bound : nat_abs (g -ℤ a *ℤ n) ≤ 2017460224 * 4294967296
    w-bound = rw w-of size_of

    mask-bound : nat_abs (y -ℤ rest_of (g -ℤ a *ℤ n) m) ≤ 2017460224 * 4294967296
    mask-bound = subst (λ (z : ℤ). nat_abs z ≤ 2017460224 * 4294967296) (sym (ap₂ ◌-ℤ◌ ye (ap₂ rest_of w-of me))) sum_of

    made-is : (t : Traced) → i < 14 → t ≡ traced_by y (g -ℤ a *ℤ n) m → t ≡ at c0 c1 fs p i
    made-is t l e = e ∙ ap₂ (λ (v w : ℤ). traced_by v w m) ye w-of ∙ ap (traced_by (y_of c0 c1 new old x p) (w_of c0 c1 new old x p)) me ∙ own_of ∙ sym (here-is l)

-- one step, by the scales' mask
one-step : (p : ℕ) (k : Scales) → ScalesOf p k → nat_abs k.mask + 1 ≡ fine_scale p
one-step p k e = ap (λ (z : ℤ). nat_abs z + 1) e.mask_is ∙ omega (arith, fine-scale-pos p)

-- ---- before the first sample

pub begun-g-requires-clause-y_bound : goal.begun-g-requires-clause-y_bound
begun-g-requires-clause-y_bound c =
    let a = c.args in
    let d = a.frame.now in
    omega (arith, is-size (y-call a.pair.c0 a.pair.c1 d.samples d.fine a.p.value _ d.fine_is c.args.p.most c.scales_at-k.ensures 0 (omega arith) (d.padded.fit.at 2 (omega arith))))

pub begun-g-requires-clause-e_bound : goal.begun-g-requires-clause-e_bound
begun-g-requires-clause-e_bound c = omega (arith, is-size (eight-call c.args.p.value _ c.args.p.most c.scales_at-k.ensures))

pub begun-g-requires-clause-older_bound : goal.begun-g-requires-clause-older_bound
begun-g-requires-clause-older_bound c =
    let a = c.args in
    let fo = a.frame.now.padded.fit.at 0 (omega arith) in
    let f1 : SFits w16 a.pair.c1 = search rules in
    let b = scaled c.from-b.result (search rules) f1 in
    let o : c.from.result ≡ get_or a.frame.now.samples 0 (pos 0) = search rules in
    let r = (is_call {w = w64} o (abs-sfits fo) tt).is in
    rw (b, r) (product_le f1 fo)

pub loop-i-init : goal.loop-i-init
unfolding tracked
loop-i-init c =
    let a = c.args in
    let d = a.frame.now in
    let fn = d.padded.fit.at 1 (omega arith) in
    let fo = d.padded.fit.at 0 (omega arith) in
    let f1 : SFits w16 a.pair.c1 = search rules in
    let b = scaled c.from-b.result (search rules) f1 in
    let n : c.from-newest.result ≡ get_or d.samples 1 (pos 0) = search rules in
    let o : c.from.result ≡ get_or d.samples 0 (pos 0) = search rules in
    let y = (y-call a.pair.c0 a.pair.c1 d.samples d.fine a.p.value _ d.fine_is c.args.p.most c.scales_at-k.ensures 0 (omega arith) (d.padded.fit.at 2 (omega arith))).is in (
      ran-start a.pair.c0 a.pair.c1 d.samples a.p.value a.room.now.w a.room.now.s a.room.now.spare fn fo,
      (is_call {w = w64} n (abs-sfits fn) tt).is,
      y,
      to_z-of_z {w = w64} (record { sfits = c.begun-g.type_inv }) ∙ c.begun-g.ensures
          ∙ ap₂ ◌+ℤ◌ y (ap₂ ◌-ℤ◌ (eight-call a.p.value _ c.args.p.most c.scales_at-k.ensures).is (ap₂ ◌*ℤ◌ b (is_call {w = w64} o (abs-sfits fo) tt).is)),
    )

-- ---- a turn

pub trace-t-requires-clause-newest_bound : goal.trace-t-requires-clause-newest_bound
trace-t-requires-clause-newest_bound c =
    let a = c.args in
    let inv = c.loop-i.invariant in
    let f0 : SFits w16 a.pair.c0 = search rules in
    rw (scaled c.from-a.result (search rules) f0, inv.1) (product_le f0 inv.0.newest-fits)

pub trace-t-requires-clause-newest_bound_2 : goal.trace-t-requires-clause-newest_bound_2
trace-t-requires-clause-newest_bound_2 c =
    let a = c.args in
    let d = a.frame.now in
    let i = c.loop-i.i in
    let inv = c.loop-i.invariant in
    let f0 : SFits w16 a.pair.c0 = search rules in
    let sa = scaled c.from-a.result (search rules) f0 in
    let fx = d.padded.fit.at (i + 2) (omega arith) in
    let me = one-step a.p.value _ c.scales_at-k.ensures in
    w-bound a.pair.c0 a.pair.c1 d.samples a.p.value i c.requires c.args.p.most fx _ _ inv.0 _ _ _ _ _ inv.2 inv.3 sa inv.1 me

pub trace-t-requires-clause-mask_bound : goal.trace-t-requires-clause-mask_bound
trace-t-requires-clause-mask_bound c =
    let a = c.args in
    let d = a.frame.now in
    let i = c.loop-i.i in
    let inv = c.loop-i.invariant in
    let f0 : SFits w16 a.pair.c0 = search rules in
    let sa = scaled c.from-a.result (search rules) f0 in
    let fx = d.padded.fit.at (i + 2) (omega arith) in
    let me = one-step a.p.value _ c.scales_at-k.ensures in
    mask-bound a.pair.c0 a.pair.c1 d.samples a.p.value i c.requires c.args.p.most fx _ _ inv.0 _ _ _ _ _ inv.2 inv.3 sa inv.1 me

pub overflow_cast-room : goal.overflow_cast-room
overflow_cast-room c =
    let fs : SFits w64 c.trace-t.result.s = search rules in
    rw (to_z-of_z fs) (within-16 c.trace-t.result.s (rw (to_z-of_z fs) at (sym c.is_beyond.ensures ∙ c.if-is_beyond.false)))

pub invariant_of-room : goal.invariant_of-room
invariant_of-room c =
    let a = c.args in
    let d = a.frame.now in
    let i = c.loop-i.i in
    let inv = c.loop-i.invariant in
    let f0 : SFits w16 a.pair.c0 = search rules in
    let sa = scaled c.from-a.result (search rules) f0 in
    let fx = d.padded.fit.at (i + 2) (omega arith) in
    let me = one-step a.p.value _ c.scales_at-k.ensures in
    let made = made-is a.pair.c0 a.pair.c1 d.samples a.p.value i c.requires c.args.p.most fx _ _ inv.0 _ _ _ _ _ inv.2 inv.3 sa inv.1 me c.trace-t.result (omega arith) c.trace-t.ensures in
    let fs : SFits w64 c.trace-t.result.s = search rules in
    let fw : SFits w32 c.trace-t.result.w = search rules in
    let within = within-16 c.trace-t.result.s (rw (to_z-of_z fs) at (sym c.is_beyond.ensures ∙ c.if-is_beyond.false)) in
    let sf = subst (λ (v : Traced). SFits w16 v.s) made within in
    let ran = ran-more a.pair.c0 a.pair.c1 d.samples a.p.value i c.loop-i.room.w c.loop-i.room.s (omega arith) inv.0 sf (here-size a.pair.c0 a.pair.c1 d.samples a.p.value i c.requires c.args.p.most fx _ _ inv.0 (omega arith)) in
    let ws = to_z-of_z fw ∙ ap (λ (t : Traced). t.w) made in
    let ss = to_z-of_z fs ∙ ap (λ (t : Traced). t.s) made in
    record { spare = rw (ws, ss, to_z-of_z sf) ran.spare }

-- ---- the next place

pub overflow_add-y-in-loop-i-2 : goal.overflow_add-y-in-loop-i-2
overflow_add-y-in-loop-i-2 c =
    let a = c.args in
    let d = a.frame.now in
    let i = c.loop-i.i in
    chk-add (fine-call d.samples d.fine d.fine_is (i + 1) (omega arith) (d.padded.fit.at (i + 1 + 2) (omega arith))) (half-call a.p.value _ c.args.p.most c.scales_at-k.ensures) tt

pub begun-g-requires-in-loop-i-clause-y_bound : goal.begun-g-requires-in-loop-i-clause-y_bound
begun-g-requires-in-loop-i-clause-y_bound c =
    let a = c.args in
    let d = a.frame.now in
    let i = c.loop-i.i in
    omega (arith, is-size (y-call a.pair.c0 a.pair.c1 d.samples d.fine a.p.value _ d.fine_is c.args.p.most c.scales_at-k.ensures (i + 1) (omega arith) (d.padded.fit.at (i + 1 + 2) (omega arith))))

pub begun-g-requires-in-loop-i-clause-e_bound : goal.begun-g-requires-in-loop-i-clause-e_bound
begun-g-requires-in-loop-i-clause-e_bound c = omega (arith, is-size (eight-call c.args.p.value _ c.args.p.most c.scales_at-k.ensures))

pub begun-g-requires-in-loop-i-clause-older_bound : goal.begun-g-requires-in-loop-i-clause-older_bound
begun-g-requires-in-loop-i-clause-older_bound c =
    let a = c.args in
    let inv = c.loop-i.invariant in
    let f1 : SFits w16 a.pair.c1 = search rules in
    rw (scaled c.from-b.result (search rules) f1, inv.1) (product_le f1 inv.0.newest-fits)

pub loop-i-preserved : goal.loop-i-preserved
loop-i-preserved c =
    let a = c.args in
    let d = a.frame.now in
    let i = c.loop-i.i in
    let inv = c.loop-i.invariant in
    let f0 : SFits w16 a.pair.c0 = search rules in
    let sa = scaled c.from-a.result (search rules) f0 in
    let fx = d.padded.fit.at (i + 2) (omega arith) in
    let me = one-step a.p.value _ c.scales_at-k.ensures in
    let made = made-is a.pair.c0 a.pair.c1 d.samples a.p.value i c.requires c.args.p.most fx _ _ inv.0 _ _ _ _ _ inv.2 inv.3 sa inv.1 me c.trace-t.result (omega arith) c.trace-t.ensures in
    let fs : SFits w64 c.trace-t.result.s = search rules in
    let fw : SFits w32 c.trace-t.result.w = search rules in
    let within = within-16 c.trace-t.result.s (rw (to_z-of_z fs) at (sym c.is_beyond.ensures ∙ c.if-is_beyond.false)) in
    let sf = subst (λ (v : Traced). SFits w16 v.s) made within in
    let ran = ran-more a.pair.c0 a.pair.c1 d.samples a.p.value i c.loop-i.room.w c.loop-i.room.s (omega arith) inv.0 sf (here-size a.pair.c0 a.pair.c1 d.samples a.p.value i c.requires c.args.p.most fx _ _ inv.0 (omega arith)) in
    let ws = to_z-of_z fw ∙ ap (λ (t : Traced). t.w) made in
    let ss = to_z-of_z fs ∙ ap (λ (t : Traced). t.s) made in
    let f1 : SFits w16 a.pair.c1 = search rules in
    let b = scaled c.from-b.result (search rules) f1 in
    let y = (y-call a.pair.c0 a.pair.c1 d.samples d.fine a.p.value _ d.fine_is c.args.p.most c.scales_at-k.ensures (i + 1) (omega arith) (d.padded.fit.at (i + 1 + 2) (omega arith))).is in (
      rw (ws, ss, to_z-of_z sf) ran,
      ss ∙ sym (newest-more a.pair.c0 a.pair.c1 d.samples a.p.value i),
      y,
      to_z-of_z {w = w64} (record { sfits = c.begun-g-in-loop-i.type_inv }) ∙ c.begun-g-in-loop-i.ensures
          ∙ ap₂ ◌+ℤ◌ y (ap₂ ◌-ℤ◌ (eight-call a.p.value _ c.args.p.most c.scales_at-k.ensures).is (ap₂ ◌*ℤ◌ b (inv.1 ∙ sym (older-more a.pair.c0 a.pair.c1 d.samples a.p.value i)))),
    )

pub returns : goal.returns
returns c =
    let a = c.args in
    let fs = a.frame.now.samples in
    let l = c.loop-i in
    let e : l.i ≡ 14 = omega arith in
    ran-done a.pair.c0 a.pair.c1 fs a.p.value l.room.w l.room.s (subst (λ (n : ℕ). Ran a.pair.c0 a.pair.c1 fs a.p.value n l.room.w l.room.s) e l.invariant.0)
