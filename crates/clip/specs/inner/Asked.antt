-- What the private functions ask of the state and the buffer.
use Rattle.layout.specs.declared.Shape.{Shape}
use Rattle.layout.specs.Limits.{Limits, loop_ok}
use Rattle.std.specs.Prelude.{ℕ, ◌+◌, ◌*◌, ◌/◌, ◌≤◌, ◌<◌, ◌≡◌, true}
use Rattle.frame.specs.Frame.{coefficients_ok}
use Rattle.clip.specs.declared.Encoder.{Encoder}
use Rattle.layout.specs.Sizes.{body_bytes, image_size}
use Rattle.whole.specs.Frames.{frame_count}
use Rattle.clip.specs.Encoding.{encoder_shape}

-- frame q's first k bytes are within the image
pub record Room (s : Shape) (q k len : ℕ) : Type 0 where
  pub limits : Limits s
  pub frame : q < frame_count s.total
  pub part : k ≤ 8
  pub one : 1 ≤ k
  pub body : 8 * q + k ≤ body_bytes s.total
  pub size : image_size s ≤ len

-- frame q, the unfinished one, of which m samples count, is within the image, and the passes are not too many
pub record Framed (e : Encoder) (q m len : ℕ) : Type 0 where
  pub room : Room (encoder_shape e) q (1 + (m + 1) / 2) len
  pub samples : m ≤ 14
  pub within : coefficients_ok e.coefficients ≡ true
  pub count : e.passes ≤ 104 * q

-- of m samples i are in: the others fit the clip, and the image is large enough
pub record Going (e : Encoder) (i m len : ℕ) : Type 0 where
  pub limits : Limits (encoder_shape e)
  pub within : coefficients_ok e.coefficients ≡ true
  pub looping : loop_ok e.looped e.total ≡ true
  pub rest : e.fed + m ≤ e.total + i
  pub count : e.passes ≤ 104 * (e.fed / 14)
  pub size : image_size (encoder_shape e) ≤ len

-- all samples are in
pub record Whole (e : Encoder) (len : ℕ) : Type 0 where
  pub limits : Limits (encoder_shape e)
  pub within : coefficients_ok e.coefficients ≡ true
  pub all : e.fed ≡ e.total
  pub count : e.passes ≤ 104 * (e.fed / 14)
  pub size : image_size (encoder_shape e) ≤ len
