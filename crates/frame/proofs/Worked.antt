-- Document 01's worked numbers of quantising and of one frame, computed.
use mathlib.Core.Path.{◌≡◌, refl}
use lib.Ieee.{size, span, climb}
use lib.IntN.{pos, negsuc}
use Rattle.whole.specs.Whole.{clamp}
use Rattle.frame.specs.Worked.{alone, frame}
use Rattle.frame.specs.Estimate.{weigh, difference, larger_magnitude, is_lowest, look, largest_difference, is_small, halvings_within, halvings, max_z, exponent_of, first_exponent}
use Rattle.frame.specs.Quantise.{unit24, round24, nearest_down, quantise}
use Rattle.frame.specs.Pass.{residual, reconstruct, code_sample, squared_difference, next, upto, run_pass}
use Rattle.frame.specs.Search.{raise_within, raise, is_last, finished, search_within, try_coefficients}
use Rattle.frame.specs.Choice.{candidate_at, winner, passes_up_to}
use Rattle.frame.specs.Frame.{low_four, byte_of, pack_frame, encode_frame}

-- "p = 0, D = 1024, 1025, −1024, −1025 → 0, 1, 0, −1. p = 12, D = 20,971,521 → 2"
pub quotients : (quantise (pos 1024) 0 ≡ pos 0) × (quantise (pos 1025) 0 ≡ pos 1) × (quantise (negsuc 1023) 0 ≡ pos 0) × (quantise (negsuc 1024) 0 ≡ negsuc 0) × (quantise (pos 20971521) 12 ≡ pos 2)
unfolding quantise round24 nearest_down unit24 size span climb
quotients = (refl, refl, refl, refl, refl)

-- "one sample: 7 → 00 70; 8 → 00 70; −9 → 00 80 (played −8), 8 passes each; 9 → 01 40 (played 8), 16 passes"
pub frames : (alone (pos 7) ≡ frame 0 0x70 8 (pos 7)) × (alone (pos 8) ≡ frame 0 0x70 8 (pos 7)) × (alone (negsuc 8) ≡ frame 0 0x80 8 (negsuc 7)) × (alone (pos 9) ≡ frame 1 0x40 16 (pos 8))
unfolding encode_frame pack_frame byte_of low_four winner passes_up_to candidate_at try_coefficients search_within finished is_last raise raise_within run_pass upto next code_sample squared_difference reconstruct
    residual weigh first_exponent exponent_of max_z halvings halvings_within is_small largest_difference look is_lowest larger_magnitude difference clamp quantise round24 nearest_down unit24 size span climb
frames = (refl, refl, refl, refl)
