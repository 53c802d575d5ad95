-- Document 01's worked numbers of addresses, headers and nibbles, by computation.
use mathlib.Core.Path.{◌≡◌, refl}
use lib.IntN.{pos, negsuc}
use Rattle.block.specs.Address.{address_to_sample, sample_to_address}
use Rattle.block.specs.Context.{predictor, scale}
use Rattle.whole.specs.Whole.{signed_nibble}

-- address to sample: 0, 1, 2 → 0; 15 → 13; 16, 17, 18 → 14; 19 → 15; and the last address
pub to-sample : (address_to_sample 0 ≡ 0) × (address_to_sample 1 ≡ 0) × (address_to_sample 2 ≡ 0) × (address_to_sample 15 ≡ 13) ×
    (address_to_sample 16 ≡ 14) × (address_to_sample 17 ≡ 14) × (address_to_sample 18 ≡ 14) × (address_to_sample 19 ≡ 15) × (address_to_sample 4294967295 ≡ 3758096383)
unfolding address_to_sample
to-sample = (refl, refl, refl, refl, refl, refl, refl, refl, refl)

-- back: 0 → 2; 13 → 15; 14 → 18; 28 → 34; and the last sample
pub to-address : (sample_to_address 0 ≡ 2) × (sample_to_address 13 ≡ 15) × (sample_to_address 14 ≡ 18) × (sample_to_address 28 ≡ 34) × (sample_to_address 4294967295 ≡ 4908534053)
unfolding sample_to_address
to-address = (refl, refl, refl, refl, refl)

-- header 9C: predictor 1, scale 4096; nibbles 7, 8, 15: 7, −8, −1
pub header : (predictor 0x9c ≡ 1) × (scale 0x9c ≡ 4096) × (signed_nibble 7 ≡ pos 7) × (signed_nibble 8 ≡ negsuc 7) × (signed_nibble 15 ≡ negsuc 0)
unfolding predictor scale signed_nibble
header = (refl, refl, refl, refl, refl)
