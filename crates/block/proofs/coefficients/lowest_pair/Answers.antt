use Rattle.std.proofs.Common.{◌≡◌, [], ◌∷◌, false, ℕ, ◌+◌, ◌*◌, ◌<◌, List, ◌++◌, length, drop, ℤ, pos, negsuc, arith, rules, refl, sym, ap, ◌∙◌, get_or}
use Rattle.std.proofs.lemmas.List.{get_or-drop, get_or_append_left, length-append}
use lib.Seq.{drop-append_seam, drop-drop}
use mir.Facts.{to_z-of_z}
use mir.Syntax.{w16}
use mir.Val.{SFits, to_z, of_z}
use Rattle.block.specs.Refusals.{lowest_among, lowest_pair}
use Rattle.block.proofs.LawsRefusals.{both-lowest, first-above, second-above, lowest-more, lowest-found}
use Rattle.block.proofs.coefficients.lowest_pair.Goals as goal
use Rattle.block.proofs.coefficients.lowest_pair.Goals.{else-pair-via-then-pair+else-pair-2, else-pair-via-else-pair}

pub loop-pair-init : goal.loop-pair-init
unfolding lowest_among
loop-pair-init c =
    let e = c.into_iter-pair-iterator.ensures.into_iter_gives in
    let h = c.chunks_exact-pair-items.ensures in
    let n : length c.args.coefficients ≡ 16 = search rules in
    rw e (h.size, h.rest, rw h.rest (omega (arith, n)), refl)

-- a number of 16 bits is the lowest where its bits are
lowest-bits : {x : ℤ} → of_z w16 x ≡ 32768 → SFits w16 x → x ≡ negsuc 32767
lowest-bits e f = sym (to_z-of_z f) ∙ ap (to_z w16) e

-- a pair's numbers among the coefficients
member : (cs rest pair new : List ℤ) (k i : ℕ) → rest ≡ drop (2 * k) cs → rest ≡ pair ++ new → i < length pair → get_or cs (2 * k + i) (pos 0) ≡ get_or pair i (pos 0)
member cs rest pair new k i e f h =
    sym (get_or-drop (2 * k) cs i (pos 0)) ∙ ap (λ (l : List ℤ). get_or l i (pos 0)) (sym e ∙ f) ∙ get_or_append_left pair new (pos 0) i h

pub returns-then-pair-2 : goal.returns-then-pair-2
returns-then-pair-2 c =
    let cs = c.args.coefficients in
    let k = length c.loop-pair.yielded in
    let inv = c.loop-pair.invariant in
    let s = c.in-Some.ensures.steps in
    let p = c.in-Some.pair.now in
    let new = c.next.new.self.rest.now in
    let n : length p ≡ 2 = s.1.1 ∙ inv.0 in
    let few : k < 8 = omega (arith, inv.2, ap length s.1.0, length-append p new, n) in
    let first : get_or cs (2 * k) (pos 0) ≡ get_or p 0 (pos 0) = ap (λ (m : ℕ). get_or cs m (pos 0)) (omega arith) ∙ member cs _ p new k 0 inv.1 s.1.0 (omega (arith, n)) in
    let second = member cs _ p new k 1 inv.1 s.1.0 (omega (arith, n)) in
    sym (lowest-found cs k few (both-lowest cs k (first ∙ lowest-bits c.if-pair.true (search rules)) (second ∙ lowest-bits c.if-pair-2.true (search rules))))

pub loop-pair-preserved : goal.loop-pair-preserved
loop-pair-preserved c =
    let cs = c.args.coefficients in
    let k = length c.loop-pair.yielded in
    let inv = c.loop-pair.invariant in
    let s = c.in-Some.ensures.steps in
    let p = c.in-Some.pair.now in
    let new = c.next.new.self.rest.now in
    let n : length p ≡ 2 = s.1.1 ∙ inv.0 in
    let first : get_or cs (2 * k) (pos 0) ≡ get_or p 0 (pos 0) = ap (λ (m : ℕ). get_or cs m (pos 0)) (omega arith) ∙ member cs _ p new k 0 inv.1 s.1.0 (omega (arith, n)) in
    let second = member cs _ p new k 1 inv.1 s.1.0 (omega (arith, n)) in
    let more : length (c.loop-pair.yielded ++ (c.in-Some.pair ∷ [])) ≡ k + 1 = length-append c.loop-pair.yielded (c.in-Some.pair ∷ []) in
    let rest : new ≡ drop (2 * (k + 1)) cs =
    sym (drop-append_seam p new) ∙ ap (λ (l : List ℤ). drop (length p) l) (sym s.1.0 ∙ inv.1) ∙ drop-drop (length p) (2 * k) cs ∙ ap (λ (m : ℕ). drop m cs) (omega (arith, n)) in
    let left : length new + 2 * (k + 1) ≡ 16 = omega (arith, inv.2, ap length s.1.0, length-append p new, n) in
    let none : lowest_among cs (k + 1) ≡ false = elim c.else-pair.branch [
      | else-pair-via-then-pair+else-pair-2 w ↦ lowest-more cs k inv.3 (second-above cs k (first ∙ lowest-bits w.if-pair.true (search rules)) (λ e. w.if-pair-2.false (ap (of_z w16) (sym second ∙ e))))
      | else-pair-via-else-pair w ↦ lowest-more cs k inv.3 (first-above cs k (λ e. w.if-pair.false (ap (of_z w16) (sym first ∙ e))))
    ] in
    rw more (s.0 ∙ inv.0, rest, left, none)

pub returns : goal.returns
unfolding lowest_pair
returns c =
    let inv = c.loop-pair.invariant in
    let s = c.in-None.ensures.steps in
    let e : length c.loop-pair.yielded ≡ 8 = omega (arith, inv.2, s.1.0, inv.0) in
    sym (rw e at inv.3)
