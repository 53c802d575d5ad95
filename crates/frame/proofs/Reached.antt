-- Where the search's numbers are largest, computed: each is reached by a pair whose magnitudes add up to 61440, with both samples before at -32768.
use mathlib.Core.Path.{◌≡◌, refl}
use mathlib.Core.Bool.{true, false}
use lib.Ieee.{size, span, climb}
use lib.IntN.{pos, negsuc}
use Rattle.whole.specs.Whole.{clamp}
use Rattle.frame.specs.Estimate.{weigh}
use Rattle.frame.specs.Quantise.{unit24, round24, nearest_down, quantise}
use Rattle.frame.specs.Pass.{residual, code_sample, reconstruct, squared_difference}
use Rattle.frame.specs.Frame.{pair_ok}

-- the pairs of a sum of 61440 below are within the limit, and one more is not
pub pairs-taken : (pair_ok (negsuc 32767) (negsuc 28671) ≡ true) × (pair_ok (pos 32767) (pos 28673) ≡ true) × (pair_ok (pos 32767) (pos 28674) ≡ false)
unfolding pair_ok
pairs-taken = (refl, refl, refl)

-- c0 × s0 + c1 × s1: ±61440 × 32768 (`weigh-size`)
pub sum-reached : (weigh (negsuc 32767) (negsuc 28671) (negsuc 32767) (negsuc 32767) ≡ pos 2013265920) × (weigh (pos 32767) (pos 28673) (negsuc 32767) (negsuc 32767) ≡ negsuc 2013265919)
unfolding weigh
sum-reached = (refl, refl)

-- D: -2080374784 at the lowest sample, 2080372736 at the highest (`residual-size`)
pub residual-reached : (residual (negsuc 32767) (negsuc 28671) (negsuc 32767) (negsuc 32767) (negsuc 32767) ≡ negsuc 2080374783)
    × (residual (pos 32767) (pos 28673) (negsuc 32767) (negsuc 32767) (pos 32767) ≡ pos 2080372736)
unfolding residual weigh
residual-reached = (refl, refl)

-- a squared difference: 65535 × 65535, where the pair above plays 32767 for -32768
pub square-reached : ((code_sample (negsuc 32767) (negsuc 28671) (negsuc 32767) (negsuc 32767) (negsuc 32767) 12).sample ≡ pos 32767) × (squared_difference (negsuc 32767) (pos 32767) ≡ 4294836225)
unfolding code_sample reconstruct residual weigh squared_difference clamp quantise round24 nearest_down unit24 size span climb
square-reached = (refl, refl)

-- the overflow at exponent 12: 241, and y = 249 is not above 256 (`overflow-12`)
pub overflow-reached : (code_sample (pos 32767) (pos 28673) (negsuc 32767) (negsuc 32767) (pos 32767) 12).overflow ≡ 241
unfolding code_sample residual weigh clamp quantise round24 nearest_down unit24 size span climb
overflow-reached = refl
