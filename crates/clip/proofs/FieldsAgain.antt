-- Fields read back from where they were written, within a run of bytes.
use mathlib.Core.List.{List, [], ◌∷◌, ◌++◌}
use mathlib.Core.Path.{◌≡◌, ap, ap₂, ◌∙◌}
use Prim.Native.Nat.{ℕ, zero, suc, ◌+◌, ◌*◌, ◌/◌, ◌%◌, ◌<◌}
use native.Mathlib.Omega.{arith}
use lib.IntN.{ℤ, pos}
use lib.ListN.{length, get_or}
use lib.Seq.{get_or-append-add}
use mir.Syntax.{w16}
use mir.Val.{of_z}
use Rattle.layout.specs.Fields.{at16, at32, sample16}
use Rattle.clip.specs.Image.{coefficient_bytes}

-- ---- fields after a known part

pub shift : (p l : List ℕ) (n i : ℕ) → n ≡ length p + i → get_or (p ++ l) n 0 ≡ get_or l i 0
shift p l n i e = ap (λ (k : ℕ). get_or (p ++ l) k 0) e ∙ get_or-append-add p l i 0

pub shift16 : (p l : List ℕ) (n i : ℕ) → n ≡ length p + i → at16 (p ++ l) n ≡ at16 l i
shift16 p l n i e = ap₂ (λ (a b : ℕ). a * 256 + b) (shift p l n i e) (shift p l (n + 1) (i + 1) (omega arith))

pub shift32 : (p l : List ℕ) (n i : ℕ) → n ≡ length p + i → at32 (p ++ l) n ≡ at32 l i
shift32 p l n i e =
    let a = shift p l n i e in
    let b = shift p l (n + 1) (i + 1) (omega arith) in
    let c = shift p l (n + 2) (i + 2) (omega arith) in
    let d = shift p l (n + 3) (i + 3) (omega arith) in
    rw (a, b, c, d)

-- a field is the number that was written
pub whole16 : (v : ℕ) → v / 256 * 256 + v % 256 ≡ v
whole16 v = omega arith

pub whole32 : (v : ℕ) → v / 16777216 * 16777216 + v / 65536 % 256 * 65536 + v / 256 % 256 * 256 + v % 256 ≡ v
whole32 v = omega arith

-- ---- coefficients, two bytes each

pub coefficient-at : (cs : List ℤ) (l : List ℕ) (i : ℕ) → i < length cs → at16 (coefficient_bytes cs ++ l) (2 * i) ≡ of_z w16 (get_or cs i (pos 0))
unfolding coefficient_bytes
coefficient-at [] l i h = absurd (omega arith)
coefficient-at (x ∷ cs) l zero h = whole16 (of_z w16 x)
coefficient-at (x ∷ cs) l (suc i) h = shift16 (sample16 x) (coefficient_bytes cs ++ l) (2 * suc i) (2 * i) (omega arith) ∙ coefficient-at cs l i (omega arith)
