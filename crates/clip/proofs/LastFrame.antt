-- The last frame and the mark.
use mathlib.Core.Path.{◌≡◌, refl, ◌∙◌, subst}
use mathlib.Core.List.{List}
use mathlib.Core.Bool.{Bool, true, false, cond}
use Prim.Native.Nat.{ℕ, ◌+◌, ◌-◌, ◌*◌, ◌/◌, ◌%◌, ◌≤◌, ◌<◌}
use native.Mathlib.Omega.{arith}
use borrow.Author.Tests.{eq-eqb, ne_eqb}
use lib.Dec.{eqb}
use lib.IntN.{ℤ, pos}
use lib.ListN.{replicate}
use lib.Seq.{sets}
use Rattle.whole.specs.Frames.{frame_count}
use Rattle.layout.specs.Sizes.{last_frame_samples, body_bytes}
use Rattle.clip.specs.declared.Encoder.{Encoder}
use Rattle.clip.specs.Encoding.{Left, left, encoder_shape, store, ended, moved, no_frame, finish}
use Rattle.clip.specs.Unheard.{framed}
use Rattle.clip.specs.inner.Asked.{Framed, Whole}
use Rattle.clip.specs.inner.Encoded.{encoded, last_encoded}

-- the short last frame's bytes are the image's last ones
last_frame : (n : ℕ) → (n % 14 ≡ 0 → ⊥) → (n / 14 < frame_count n) × (8 * (n / 14) + (1 + (n % 14 + 1) / 2) ≤ body_bytes n)
unfolding body_bytes last_frame_samples frame_count
last_frame n h = (omega arith, omega arith)

-- the state with it
abbrev pub padded : Encoder → Encoder
padded e = framed e (sets e.frame (e.fed % 14) (replicate (14 - e.fed % 14) (pos 0)))

pub last-framed : (e : Encoder) (f : List ℤ) (len : ℕ) → Whole e len → (e.fed % 14 ≡ 0 → ⊥) → Framed (framed e f) (e.fed / 14) (e.fed % 14) len
last-framed e f len w h =
    let r = subst (λ (n : ℕ). (e.fed / 14 < frame_count n) × (8 * (e.fed / 14) + (1 + (e.fed % 14 + 1) / 2) ≤ body_bytes n)) w.all (last_frame e.fed h) in
    record {
      room = record { limits = w.limits; frame = r.0; part = omega arith; one = omega arith; body = r.1; size = w.size };
      samples = omega arith;
      within = w.within;
      count = w.count;
    }

module _ (e : Encoder) (image : List ℕ) where
  pub last-part : (f : List ℤ) (r : Left) → (e.fed % 14 ≡ 0 → ⊥) → f ≡ sets e.frame (e.fed % 14) (replicate (14 - e.fed % 14) (pos 0))
      → r ≡ encoded (left (framed e f) image) (e.fed / 14) (e.fed % 14) → r ≡ last_encoded (left e image)
  unfolding last_encoded
  last-part f r h ef er = er ∙ rw (ef, ne_eqb (e.fed % 14) 0 h)

  pub last-none : e.fed % 14 ≡ 0 → left e image ≡ last_encoded (left e image)
  unfolding last_encoded
  last-none h = rw (eq-eqb (e.fed % 14) 0 h)

-- ---- closing

-- what the image's places depend on is as it was
pub last-shape : (e : Encoder) (image : List ℕ) → encoder_shape (last_encoded (left e image)).encoder ≡ encoder_shape e
unfolding last_encoded encoded
last-shape e image = go (eqb (e.fed % 14) 0)
  where
    go : (v : Bool) → encoder_shape (cond v (left e image) (encoded (left (padded e) image) (e.fed / 14) (e.fed % 14))).encoder ≡ encoder_shape e
    go true = refl
    go false = refl

-- the state and the image after the last frame, closed
abbrev pub closed : Left → Left
closed s =
    let e = s.encoder in
    left (moved e e.fed e.history no_frame e.passes true e.context) (ended (encoder_shape e) e.looped e.context s.bytes)

pub finish-last : (e : Encoder) (image : List ℕ) → closed (last_encoded (left e image)) ≡ finish (left e image)
unfolding finish last_encoded encoded store
finish-last e image = go (eqb (e.fed % 14) 0) refl
  where
    go : (v : Bool) → eqb (e.fed % 14) 0 ≡ v
        → closed (cond v (left e image) (encoded (left (padded e) image) (e.fed / 14) (e.fed % 14))) ≡ finish (left e image)
    go true h = rw h
    go false h = rw h
