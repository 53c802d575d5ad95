-- What a call that was lent a part of a list leaves in the list.
use mathlib.Core.List.{List, append_assoc, append-nil}
use mathlib.Core.Path.{◌≡◌, ◌∙◌}
use Prim.Native.Nat.{ℕ, ◌+◌, ◌-◌, ◌≤◌}
use native.Mathlib.Omega.{arith}
use borrow.Rule.Slice.PartMut.{put_mid}
use Rattle.std.proofs.lemmas.List.{length-take-le}
use lib.ListN.{length, take, drop, drop_of_length-le, length-drop}
use lib.Seq.{sets, sets-eq, drop-drop}
use Rattle.whole.proofs.Stores.{spread}

module _ {A : Type 0} where
  -- a part written anew is a run of stores
  pub part-stored : (l vs : List A) (at k : ℕ) → length vs ≡ k → at + k ≤ length l → put_mid at k l vs ≡ sets l at vs
  part-stored l vs at k e h =
      let n : at + k ≡ at + length vs = omega arith in
      rw (sets-eq vs l at (omega arith), drop-drop k at l, n, append_assoc)

  -- stores over the whole list
  pub stored-whole : (l vs : List A) → length vs ≡ length l → sets l 0 vs ≡ vs
  stored-whole l vs e = spread vs l (omega arith) ∙ rw (drop_of_length-le l {i = length vs} (omega arith), append-nil)

  -- k elements from a place on are k
  pub length-part : (l : List A) (at k : ℕ) → at + k ≤ length l → length (take (at + k - at) (drop at l)) ≡ k
  length-part l at k h =
      let d : length (drop at l) ≡ length l - at = length-drop at l in
      length-take-le (at + k - at) (drop at l) (omega (arith, d)) ∙ omega arith
