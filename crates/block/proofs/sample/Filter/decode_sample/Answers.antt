use Rattle.std.proofs.Common.{ℤ, pos, ◌≡◌, ◌+ℤ◌, ◌*ℤ◌, ◌∙◌, ap, rules}
use native.Mathlib.Nat.{le_trans}
use mir.Facts.{to_z-of_z}
use mir.Syntax.{w16, w64}
use mir.Val.{SFits, to_z, of_z}
use Rattle.whole.specs.Whole.{clamp16, floored, signed_nibble}
use Rattle.whole.proofs.SignedLocals.{Is, is-lit, is-add, chk-add, is_mul, chk-mul, is_call, abs-shr, abs-sfits}
use Rattle.block.specs.Sample.{decode_sample}
use Rattle.block.proofs.LawsSample.{nibble-size}
use Rattle.block.proofs.sample.Filter.decode_sample.Goals as goal

-- an i16 as i64
of_16 : {z r : ℤ} → r ≡ to_z w16 (of_z w16 z) → SFits w16 z → Is w64 (of_z w64 r) z 32768
of_16 e f = is_call (e ∙ to_z-of_z f) (abs-sfits f) tt

-- the two products, and their sum with 1,024
module _ (c0 s0 c1 s1 : ℤ) {q r s t : ℤ}
    (d : q ≡ to_z w16 (of_z w16 c0)) (f : SFits w16 c0) (e : r ≡ to_z w16 (of_z w16 s0)) (g : SFits w16 s0)
    (h : s ≡ to_z w16 (of_z w16 c1)) (j : SFits w16 c1) (i : t ≡ to_z w16 (of_z w16 s1)) (k : SFits w16 s1) where
  abbrev products : ℤ
  products = to_z w64 (of_z w64 (to_z w64 (of_z w64 q) *ℤ to_z w64 (of_z w64 r))) +ℤ to_z w64 (of_z w64 (to_z w64 (of_z w64 s) *ℤ to_z w64 (of_z w64 t)))

  products-fit : SFits w64 products
  products-fit = chk-add (is_mul (of_16 d f) (of_16 e g) tt) (is_mul (of_16 h j) (of_16 i k) tt) tt

  products-is : Is w64 (of_z w64 products) (c0 *ℤ s0 +ℤ c1 *ℤ s1) 2147483648
  products-is = is-add (is_mul (of_16 d f) (of_16 e g) tt) (is_mul (of_16 h j) (of_16 i k) tt) tt

  sum-fits : SFits w64 (to_z w64 (of_z w64 products) +ℤ pos 1024)
  sum-fits = chk-add products-is (is-lit w64 1024 tt) tt

  sum-is : Is w64 (of_z w64 (to_z w64 (of_z w64 products) +ℤ pos 1024)) (c0 *ℤ s0 +ℤ c1 *ℤ s1 +ℤ pos 1024) 2147484672
  sum-is = is-add products-is (is-lit w64 1024 tt) tt

  shifted-is : {x : ℤ} → x ≡ floored (to_z w64 (of_z w64 (to_z w64 (of_z w64 products) +ℤ pos 1024))) 2048
      → Is w64 (of_z w64 x) (floored (c0 *ℤ s0 +ℤ c1 *ℤ s1 +ℤ pos 1024) 2048) 2147484672
  shifted-is e =
      is_call (e ∙ ap (λ (z : ℤ). floored z 2048) sum-is.is) (le_trans (abs-shr (c0 *ℤ s0 +ℤ c1 *ℤ s1 +ℤ pos 1024) 2048) sum-is.size) tt

pub overflow_add-products : goal.overflow_add-products
overflow_add-products c =
    products-fit c.args.self.c0 c.args.history.newest c.args.self.c1 c.args.history.older c.from.ensures (search rules) c.from-2.ensures (search rules) c.from-3.ensures (search rules) c.from-4.ensures (search rules)

pub overflow_add-sum : goal.overflow_add-sum
overflow_add-sum c =
    sum-fits c.args.self.c0 c.args.history.newest c.args.self.c1 c.args.history.older c.from.ensures (search rules) c.from-2.ensures (search rules) c.from-3.ensures (search rules) c.from-4.ensures (search rules)

nibble-is : (c : goal.After-from-5) → Is w64 (of_z w64 c.signed_nibble.result) (signed_nibble c.args.nibble) 31
nibble-is c = is_call c.signed_nibble.ensures (nibble-size c.args.nibble c.requires) tt

scale-is : (c : goal.After-from-5) → Is w64 (of_z w64 c.from-5.result) (pos c.args.self.scale) 32768
scale-is c = is_call c.from-5.ensures c.args.self.in_range tt

shift-is : (c : goal.After-from-5) → let s = c.args.self in
    let h = c.args.history in
    Is w64 (of_z w64 c.shift_11.result) (floored (s.c0 *ℤ h.newest +ℤ s.c1 *ℤ h.older +ℤ pos 1024) 2048) 2147484672
shift-is c =
    shifted-is c.args.self.c0 c.args.history.newest c.args.self.c1 c.args.history.older c.from.ensures (search rules) c.from-2.ensures (search rules) c.from-3.ensures (search rules) c.from-4.ensures (search rules) c.shift_11.ensures

pub overflow_mul-signed_nibble : goal.overflow_mul-signed_nibble
overflow_mul-signed_nibble c = chk-mul (nibble-is c) (scale-is c) tt

pub overflow_add-shift_11 : goal.overflow_add-shift_11
overflow_add-shift_11 c = chk-add (shift-is c) (is_mul (nibble-is c) (scale-is c) tt) tt

pub returns : goal.returns
unfolding decode_sample
returns c =
    let f : SFits w16 c.clamp_i16.result = search rules in
    to_z-of_z f ∙ c.clamp_i16.ensures ∙ ap clamp16 (is-add (shift-is c.before) (is_mul (nibble-is c.before) (scale-is c.before) tt) tt).is
