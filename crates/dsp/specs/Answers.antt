-- What export and import answer. Definitions only.
use Rattle.std.specs.Prelude.{ℕ, Result}
use Rattle.whole.specs.Outcome.{Outcome, refused_at, answered}
use Rattle.image.specs.Opening as Image
use Rattle.dsp.specs.declared.Refusal.{Refusal}
use Rattle.dsp.specs.declared.Refusal.TheVariants.{BadSampleCount, RateZero, BadBlockSize, ImageTooShort, LowestPair, OutputTooShort, FileTooShort, BadField, OtherHistory, OfImage}

-- the number of each refusal in documents 01 and 02; export gives those of an image, 13 among them, by `OfImage`, and import 13 by `LowestPair`
abbrev pub code : Refusal → ℕ
code BadSampleCount = 4
code RateZero = 5
code BadBlockSize = 6
code ImageTooShort = 8
code LowestPair = 13
code OutputTooShort = 14
code FileTooShort = 25
code BadField = 26
code (OtherHistory j) = 35
code (OfImage r) = Image.code r

-- the block that a refusal names, 0 where it names none
abbrev pub bad_block : Refusal → ℕ
bad_block BadSampleCount = 0
bad_block RateZero = 0
bad_block BadBlockSize = 0
bad_block ImageTooShort = 0
bad_block LowestPair = 0
bad_block OutputTooShort = 0
bad_block FileTooShort = 0
bad_block BadField = 0
bad_block (OtherHistory j) = j
bad_block (OfImage r) = Image.bad_block r

-- a refusal's number, and the block that it names
abbrev pub refusal : {A : Type 0} → Refusal → Outcome A
refusal r = refused_at (code r) (bad_block r)

-- what an answer says: its values, or the refusal
abbrev pub outcome : {A : Type 0} → Result A Refusal → Outcome A
outcome = answered code bad_block

-- what an answer of a call says: how many bytes, or the refusal
abbrev pub written : Result ℕ Refusal → Outcome ℕ
written = outcome
