-- A .dsp file: "The 96-byte header, big-endian", and the bodies after it. Definitions only.
use Rattle.std.specs.Prelude.{true, cond, List, ℕ, ◌+◌, ◌-◌, eqb, ℤ, drop}
use Rattle.block.specs.declared.FrameContext.{FrameContext}
use Rattle.block.specs.Address.{address_to_sample, sample_to_address}
use Rattle.block.specs.Context.{history_with, context_with}
use Rattle.layout.specs.declared.Loop.{Loop}
use Rattle.layout.specs.Fields.{at16, at32}
use Rattle.layout.specs.Sizes.{no_loop, body_bytes}
use Rattle.image.specs.Reading.{signed_at, coefficients_in}

-- "4 nibble count (the sum of the block lengths)": the address after the last sample's, for every block size
unfoldable pub nibble_count : ℕ → ℕ
nibble_count n = sample_to_address (n - 1) + 1

-- the bytes of a clip's file: the header, and the bodies joined
unfoldable pub file_bytes : ℕ → ℕ
file_bytes n = 96 + body_bytes n

-- "at 0 sample count, 4 nibble count …, 8 rate (four bytes each)"
abbrev pub total_of : List ℕ → ℕ
total_of f = at32 f 0

abbrev pub nibbles_of : List ℕ → ℕ
nibbles_of f = at32 f 4

abbrev pub rate_of : List ℕ → ℕ
rate_of f = at32 f 8

-- "12 loop flag 0 or 1", "16 loop start address, 20 address of the loop's last sample"
abbrev pub flag_of : List ℕ → ℕ
flag_of f = at16 f 12

abbrev pub start_address_of : List ℕ → ℕ
start_address_of f = at32 f 16

abbrev pub last_address_of : List ℕ → ℕ
last_address_of f = at32 f 20

-- the loop: its first sample, and the one after its last
unfoldable pub loop_of : List ℕ → Loop
loop_of f = cond (eqb (flag_of f) 1) (record { start = address_to_sample (start_address_of f); end = address_to_sample (last_address_of f) + 1; present = true }) no_loop

-- "28 coefficients": twelve bytes further on than an image's; "60 gain"
unfoldable pub coefficients_of : List ℕ → List ℤ
coefficients_of f = coefficients_in (drop 12 f)

abbrev pub gain_of : List ℕ → ℕ
gain_of f = at16 f 60

-- a header byte, the newest and the older history sample: "62 first header byte, 64 newest and 66 older history sample; 68, 70, 72 the same three for the loop"
unfoldable pub context_at : List ℕ → ℕ → FrameContext
context_at f i = context_with (at16 f i) (history_with (signed_at f (i + 2)) (signed_at f (i + 4)))

abbrev pub first_of : List ℕ → FrameContext
first_of f = context_at f 62

abbrev pub loop_context_of : List ℕ → FrameContext
loop_context_of f = context_at f 68

-- "The bodies follow joined", and behind them what import drops
abbrev pub bodies_of : List ℕ → List ℕ
bodies_of f = drop 96 f
