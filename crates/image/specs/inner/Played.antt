-- The effects of playing, by the outcome of the tests.
use Rattle.std.specs.Prelude.{List, ℕ, ◌*◌, ℤ}
use Rattle.std.proofs.lemmas.List.Edits.{sets}
use Rattle.whole.specs.Outcome.{Outcome, with_values, if_accepted, Effect, effect}
use Rattle.block.specs.Address.{address_to_sample}
use Rattle.block.specs.Frame.{Playing}
use Rattle.block.specs.Play.{play_into}
use Rattle.image.specs.Reading.{total_in, coefficients_in, length_in, context_in}
use Rattle.image.specs.Bodies.{body_in}
use Rattle.image.specs.Playing.{played}
use Rattle.image.specs.WholeImage.{all_into}
use Rattle.image.specs.Looping.{loop_length, loop_once, repeated}

-- block k is played, or refused
abbrev pub play_by : Outcome Unit → List ℕ → ℕ → List ℤ → Effect (Outcome ℕ) Playing
play_by o l k out = played o (address_to_sample (length_in l k)) (play_into (body_in l k) (coefficients_in l) (length_in l k) (context_in l k) out) out

-- the whole image is played, or refused
abbrev pub play_all_by : Outcome Unit → List ℕ → List ℤ → Effect (Outcome ℕ) Playing
play_all_by o l out = played o (total_in l) (all_into l out) out

-- the loop is played so many times over, or refused
abbrev pub play_loop_by : Outcome Unit → List ℕ → ℕ → List ℤ → Effect (Outcome ℕ) (List ℤ)
play_loop_by o l times out = effect (with_values o (times * loop_length l)) (if_accepted o (sets out 0 (repeated times (loop_once l))) out)
