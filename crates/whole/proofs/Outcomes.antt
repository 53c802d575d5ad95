-- What an accepted outcome tells of the tests before it; equal refusals.
use mathlib.Core.Bool.{Bool, true, false, not, cond}
use mathlib.Core.Path.{◌≡◌, refl, ap}
use Prim.Native.Nat.{ℕ}
use native.Mathlib.Omega.{arith}
use Rattle.whole.specs.Outcome.{Outcome, accepted, refused_at, refused, outcome_code, outcome_entry}

-- 1 where a call is accepted
unfoldable is_accepted : {A : Type 0} → Outcome A → ℕ
is_accepted (accepted a) = 1
is_accepted (refused_at n j) = 0

pub not-both : {A : Type 0} {n j : ℕ} {a : A} → ◌≡◌ {A = Outcome A} (refused_at n j) (accepted a) → ⊥
unfolding is_accepted
not-both p = let z : ◌≡◌ {A = ℕ} 0 1 = ap is_accepted p in omega arith

-- a test that holds, or the call is refused
pub passed-at : {A : Type 0} (v : Bool) (n j : ℕ) (o : Outcome A) {a : A} → cond (not v) (refused_at n j) o ≡ accepted a → (v ≡ true) × (o ≡ accepted a)
passed-at true n j o p = (refl, p)
passed-at false n j o p = absurd (not-both p)

pub passed : {A : Type 0} (v : Bool) (n : ℕ) (o : Outcome A) {a : A} → cond (not v) (refused n) o ≡ accepted a → (v ≡ true) × (o ≡ accepted a)
passed v n o p = passed-at v n 0 o p

-- a test that does not hold, or the call is refused
pub failed : {A : Type 0} (t : Bool) (n : ℕ) (o : Outcome A) {a : A} → cond t (refused n) o ≡ accepted a → (t ≡ false) × (o ≡ accepted a)
failed true n o p = absurd (not-both p)
failed false n o p = (refl, p)

-- ---- equal refusals

-- equal refusals have one number, and name one block
pub same_number : {A : Type 0} {n j m i : ℕ} → ◌≡◌ {A = Outcome A} (refused_at n j) (refused_at m i) → n ≡ m
same_number p = ap outcome_code p

pub same_block : {A : Type 0} {n j m i : ℕ} → ◌≡◌ {A = Outcome A} (refused_at n j) (refused_at m i) → j ≡ i
same_block p = ap outcome_entry p
