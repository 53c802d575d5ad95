-- Numbers in hexadecimal digits, the first digit highest. Definitions only.
use Rattle.std.specs.Prelude.{cond, List, ℕ, ◌+◌, ◌*◌, ◌%◌, ltb, ℤ, get_or, map}
use Rattle.std.specs.List.{range_with_len}
use Rattle.std.specs.Int.{w16}
use Rattle.std.proofs.Common.{to_z}
use Rattle.whole.specs.declared.History.{History}

-- the number that a character stands for; one that is no digit stands for some number below 16
unfoldable pub digit : ℕ → ℕ
digit c = cond (ltb c 58) (c % 16) ((c % 16 + 9) % 16)

-- the number of the two digits from place i on
abbrev pub byte : List ℕ → ℕ → ℕ
byte l i = digit (get_or l i 0) * 16 + digit (get_or l (i + 1) 0)

-- the number of the four digits from place i on
abbrev pub word : List ℕ → ℕ → ℕ
word l i = byte l i * 256 + byte l (i + 2)

-- the number of the eight digits from place i on
abbrev pub double_word : List ℕ → ℕ → ℕ
double_word l i = word l i * 65536 + word l (i + 4)

-- the number of the sixteen digits from place i on
abbrev pub quad_word : List ℕ → ℕ → ℕ
quad_word l i = double_word l i * 4294967296 + double_word l (i + 8)

-- the sample of the four digits from place i on
abbrev pub sample_at : List ℕ → ℕ → ℤ
sample_at l i = to_z w16 (word l i)

-- the two samples from place i on, the newest first
abbrev pub history_at : List ℕ → ℕ → History
history_at l i = record { newest = sample_at l i; older = sample_at l (i + 4) }

-- n numbers, of d digits each, from place i on; f tells the number from a place on
abbrev pub numbers_at : {A : Type 0} → (List ℕ → ℕ → A) → ℕ → List ℕ → ℕ → ℕ → List A
numbers_at f d l i n = map (λ k. f l (i + d * k)) (range_with_len 0 n)
