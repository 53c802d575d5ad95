-- Addresses: a frame is 16 nibbles, two of header and fourteen of samples. Definitions only.
use Rattle.std.specs.Prelude.{ℕ, ◌+◌, ◌-◌, ◌*◌, ◌/◌, ◌%◌}

-- the samples before an address: fourteen of each whole frame, and those after the header in its own
unfoldable pub address_to_sample : ℕ → ℕ
address_to_sample a = 14 * (a / 16) + (a % 16 - 2)

-- the address of a sample: its frame's start, the header, its place in the frame
unfoldable pub sample_to_address : ℕ → ℕ
sample_to_address s = 16 * (s / 14) + 2 + s % 14
