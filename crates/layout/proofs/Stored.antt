-- A run of stores as a part that is written whole.
use Prim.Native.Nat.{ℕ, ◌+◌, ◌≤◌}
use mathlib.Core.Path.{◌≡◌, sym, ◌∙◌}
use mathlib.Core.List.{List, ◌++◌, append_assoc}
use lib.ListN.{length, take, drop}
use lib.Seq.{sets, sets-eq, drop-drop}

-- the k elements from place i on are now vs, which are as many
pub part-stored : {A : Type 0} (l vs ys : List A) (i k : ℕ) → i + length vs ≤ length l → k ≡ length vs → ys ≡ vs
    → take i l ++ (ys ++ drop k (drop i l)) ≡ sets l i vs
part-stored l vs ys i k h e f =
    rw (f, e, drop-drop (length vs) i l) (sym (sets-eq vs l i h ∙ append_assoc (take i l) vs (drop (i + length vs) l)))
