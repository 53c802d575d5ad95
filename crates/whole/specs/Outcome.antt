-- What a call answers, by the documents' numbers, and what it leaves. Definitions only.
use Rattle.std.specs.Prelude.{ℕ, Result, Ok, Err}

-- the values of an accepted call; or the number of a refusal, and the block whose entry is bad, 0 where none is named
pub data Outcome (A : Type 0) : Type 0 where
  accepted : A → Outcome A
  refused_at : ℕ → ℕ → Outcome A

-- a refusal that names no block
abbrev pub refused : {A : Type 0} → ℕ → Outcome A
refused n = refused_at n 0

-- what an answer says: its values, or its refusal's number and the block that is named, 0 where none is
abbrev pub answered : {A R : Type 0} → (R → ℕ) → (R → ℕ) → Result A R → Outcome A
answered number named (Ok v) = accepted v
answered number named (Err r) = refused_at (number r) (named r)

-- what is left of a state: an accepted call returns it anew, a refused one keeps the one given
abbrev pub or_kept : {A R : Type 0} → Result A R → A → A
or_kept (Ok v) kept = v
or_kept (Err r) kept = kept

-- the same outcome, its values left out
abbrev pub without_values : {A : Type 0} → Outcome A → Outcome Unit
without_values (accepted v) = accepted tt
without_values (refused_at n j) = refused_at n j

-- the outcome of a call that has values where it is accepted
abbrev pub with_values : {A : Type 0} → Outcome Unit → A → Outcome A
with_values (accepted u) v = accepted v
with_values (refused_at n j) v = refused_at n j

-- the value of an accepted call; where it is refused, another
abbrev pub value_or : {A : Type 0} → Outcome A → A → A
value_or (accepted v) w = v
value_or (refused_at n j) w = w

-- the one where a call is accepted, the other where it is refused
abbrev pub if_accepted : {A B : Type 0} → Outcome A → B → B → B
if_accepted (accepted a) x y = x
if_accepted (refused_at n j) x y = y

-- 0 where a call is accepted, else the documents' number
abbrev pub outcome_code : {A : Type 0} → Outcome A → ℕ
outcome_code (accepted a) = 0
outcome_code (refused_at n j) = n

-- the block whose entry is bad, 0 where none is named
abbrev pub outcome_entry : {A : Type 0} → Outcome A → ℕ
outcome_entry (accepted a) = 0
outcome_entry (refused_at n j) = j

-- what a call answers, and what it leaves: its state and the buffers that it was lent
pub record Effect (A B : Type 0) : Type 0 where
  pub outcome : A
  pub left : B

abbrev pub effect : {A B : Type 0} → A → B → Effect A B
effect o l = record { outcome = o; left = l }
