-- The choice of a record's vector by plain products and sums, where these leave no doubt. proofs/PlainContrasts.antt shows that it is the choice by exact contrasts. Definitions only.
use Rattle.std.specs.Prelude.{◌≡◌, ℕ, ◌<◌, true, cond, T, List, from_bits, slice_index_or, Float}
use Rattle.std.specs.Float.Ieee.{neg, lt, fits}
use Rattle.std.specs.Float.{binary64}
use Rattle.coefficients.specs.declared.contrasts.Lead.{Lead}
use Rattle.coefficients.specs.declared.merging.Record.{Record}
use Rattle.coefficients.specs.declared.merging.Side.{Side}
use Rattle.coefficients.specs.declared.merging.VectorTerms.{VectorTerms}
use Rattle.coefficients.specs.Constants.{f2, f_e30, ◌*f◌, ◌+f◌}
use Rattle.coefficients.specs.inner.SharedTerms.{blank_terms, gone_through}

-- 16
abbrev pub f16 : Float
f16 = from_bits binary64 0x4030_0000_0000_0000

-- less than 16 in size
pub record Small (x : Float) : Type 0 where
  pub format : T (fits binary64 x)
  pub above : lt (neg f16) x ≡ true
  pub below : lt x f16 ≡ true

-- three numbers are
pub record Smalls (a b c : Float) : Type 0 where
  pub one : Small a
  pub two : Small b
  pub three : Small c

-- a vector's terms are
abbrev pub SmallTerms : VectorTerms → Type 0
SmallTerms v = Smalls v.val1 v.val2 v.val3

-- the first n vectors' terms are
abbrev pub AllSmall : List VectorTerms → ℕ → Type 0
AllSmall vs n = (i : ℕ) → i < n → SmallTerms (slice_index_or vs i blank_terms)

-- a record's part in its contrasts, each operation rounded
unfoldable pub plain_side : Record → Float → Side
plain_side b val = record { twice = f2 *f val; last = f2 *f (neg b.v1 *f val +f neg b.v2) }

-- a contrast, each operation rounded
unfoldable pub plain_contrast : VectorTerms → Side → Float
plain_contrast v s = s.last *f v.val3 +f (s.twice *f v.val2 +f v.val1)

-- the lower of two numbers
unfoldable pub lower : Float → Float → Float
lower a b = cond (lt a b) a b

-- the least so far, the place it was found at and the least of the others, with number i
unfoldable pub closer : Lead → Float → ℕ → Lead
closer l t i =
    cond (lt t l.least) (record { least = t; second = lower l.least l.second; index = i })
    (record { least = l.least; second = lower t l.second; index = l.index })

-- no contrast yet
abbrev pub no_lead : Lead
no_lead = record { least = f_e30; second = f_e30; index = 0 }

-- of the plain contrasts with the first k vectors
abbrev pub leading : List VectorTerms → Side → ℕ → Lead
leading vs s k = gone_through no_lead closer plain_contrast vs s k
