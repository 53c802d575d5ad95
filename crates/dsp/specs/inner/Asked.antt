-- What private functions ask of a file, a loop and a buffer.
use Rattle.std.specs.Prelude.{Bool, true, not, cond, ◌&&◌, List, ◌≡◌, ℕ, ◌+◌, ◌≤◌, ◌<◌, eqb, leb, length, get_or}
use Rattle.whole.specs.Frames.{most}
use Rattle.whole.specs.Outcome.{Outcome, accepted, refused}
use Rattle.layout.specs.declared.Loop.{Loop}
use Rattle.layout.specs.declared.Shape.{Shape}
use Rattle.layout.specs.Fields.{at16, at32}
use Rattle.layout.specs.Limits.{total_ok, Limits}
use Rattle.layout.specs.Sizes.{bodies_place, body_bytes, image_size}
use Rattle.clip.specs.declared.starting.Start.{Start}
use Rattle.clip.specs.Image.{start_shape}
use Rattle.dsp.specs.File.{nibble_count, total_of, nibbles_of, flag_of, bodies_of}
use Rattle.dsp.specs.Import.{long_enough}

-- a file that 25 and 4 do not refuse
pub record Whole (f : List ℕ) : Type 0 where
  pub some : 1 ≤ total_of f
  pub few : total_of f ≤ most
  pub bodies : 96 + body_bytes (total_of f) ≤ length f

-- 25 and 4, which refuse a file that is not so
unfoldable pub whole_answer : List ℕ → Outcome Unit
whole_answer f = cond (not (long_enough f)) (refused 25) (cond (not (total_ok (total_of f))) (refused 4) (accepted tt))

-- of the fields that 26 asks of, those that stand before the coefficients: 4; 12, 14; 24
unfoldable pub numbers_ok : List ℕ → Bool
numbers_ok f = eqb (nibbles_of f) (nibble_count (total_of f)) && (leb (flag_of f) 1 && (eqb (at16 f 14) 0 && eqb (at32 f 24) 2))

-- a loop, where there is one, within the most samples of a clip
pub record Looping (p : Loop) : Type 0 where
  pub below : p.present ≡ true → p.start < p.end
  pub within : p.present ≡ true → p.end ≤ most

-- the file has the bodies of a clip of this shape, its first header is that of its first frame, and a buffer has room for the contents
pub record Tabled (f : List ℕ) (s : Shape) (room : ℕ) : Type 0 where
  pub limits : Limits s
  pub bodies : 96 + body_bytes s.total ≤ length f
  pub header : at16 f 62 ≡ get_or (bodies_of f) 0 0
  pub enough : bodies_place s ≤ room

-- the file has the bodies of a clip that is started so, and a buffer has room for its image
pub record Imports (f : List ℕ) (g : Start) (room : ℕ) : Type 0 where
  pub limits : Limits (start_shape g)
  pub bodies : 96 + body_bytes g.total ≤ length f
  pub header : at16 f 62 ≡ get_or (bodies_of f) 0 0
  pub enough : image_size (start_shape g) ≤ room
