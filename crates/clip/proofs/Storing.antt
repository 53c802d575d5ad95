-- A frame stored at its place, and one sample more.
use mathlib.Core.Path.{◌≡◌, refl, sym, ap, ◌∙◌, subst}
use mathlib.Core.List.{List, [], ◌∷◌, ◌++◌}
use Prim.Native.Nat.{ℕ, zero, suc, ◌+◌, ◌-◌, ◌*◌, ◌/◌, ◌%◌, ◌≤◌, ◌<◌}
use native.Mathlib.Omega.{arith}
use borrow.Author.Tests.{eq-eqb, ne_eqb}
use lib.IntN.{ℤ}
use lib.ListN.{length, take, drop, set, get_or}
use lib.Seq.{sets, take_all}
use Rattle.frame.specs.Frame.{encode_frame, history_after}
use Rattle.frame.specs.declared.EncodedFrame.{EncodedFrame}
use Rattle.whole.specs.declared.History.{History}
use Rattle.block.specs.declared.FrameContext.{FrameContext}
use Rattle.frame.proofs.LawsEncoded.{frame-lengths, frame-passes}
use Rattle.clip.specs.declared.Encoder.{Encoder}
use Rattle.layout.specs.Sizes.{last_frame_samples, block_count, body_bytes, image_size}
use Rattle.whole.specs.Frames.{frame_count}
use Rattle.clip.specs.Image.{context_bytes}
use Rattle.clip.specs.Encoding.{encoder_shape, left, store, loop_context, moved, no_frame, push}
use Rattle.clip.specs.inner.Encoded.{encoded}
use Rattle.layout.specs.Sizes.{bodies_place, frame_place, context_place}
use Rattle.layout.specs.declared.Shape.{Shape}
use Rattle.clip.specs.inner.Asked.{Room, Framed, Going}
use Rattle.layout.proofs.Stored.{part-stored}
use Rattle.layout.proofs.SizeLaws.{frames-le, blocks-most, first_block}

-- ---- room

module _ (s : Shape) (q k len : ℕ) (r : Room s q k len) where
  pub room-few : (q < 1048576) × (block_count s ≤ 1048576)
  room-few = (omega (arith, frames-le s.total r.limits.few, r.frame), blocks-most s r.limits)

  -- the frame's bytes
  pub room-place : frame_place s q + k ≤ len
  unfolding image_size block_count body_bytes frame_count last_frame_samples
  room-place = omega (arith, r.body, r.size)

  -- the context of the block that the frame is the first of
  pub room-context : q % (s.block / 8) ≡ 0 → (q / (s.block / 8) < 1048576) × (context_place (q / (s.block / 8)) + 6 ≤ len)
  unfolding image_size block_count body_bytes frame_count last_frame_samples
  room-context e =
      let h = first_block s q r.limits r.frame e in
      let m = blocks-most s r.limits in
      let t = r.size in
      (omega arith, omega arith)

-- a frame that sample k fills has its eight bytes in a clip of n samples
pub full-frame : (n k : ℕ) → k < n → k % 14 ≡ 13 → (k / 14 < frame_count n) × (8 * (k / 14) + 8 ≤ body_bytes n)
unfolding body_bytes last_frame_samples frame_count
full-frame n k h e = (omega arith, omega arith)

-- ---- storing

pub first_byte : (k : ℕ) (t : List ℕ) → 1 ≤ k → get_or (take k t) 0 0 ≡ get_or t 0 0
first_byte zero t h = absurd (omega arith)
first_byte (suc k) [] h = refl
first_byte (suc k) (x ∷ t) h = refl

-- a frame's bytes copied to its place
pub part-at : (s : Shape) (q : ℕ) (t image ys : List ℕ) (b : ℕ) → b ≡ bodies_place s → Room s q (length t) (length image) → ys ≡ t
    → take (b + 8 * q) image ++ (ys ++ drop (b + 8 * q + length t - (b + 8 * q)) (drop (b + 8 * q) image)) ≡ sets image (frame_place s q) t
part-at s q t image ys b e r f =
    part-stored image t ys (b + 8 * q) _ (omega (arith, room-place s q (length t) (length image) r)) (omega arith) f
    ∙ ap (λ (a : ℕ). sets image (a + 8 * q) t) e

module _ (s : Shape) (q : ℕ) (t image stored : List ℕ) (h : History) (put : stored ≡ sets image (frame_place s q) t) where
  pub with-context : (out : List ℕ) → q % (s.block / 8) ≡ 0
      → out ≡ sets stored (context_place (q / (s.block / 8))) (context_bytes (get_or t 0 0) h) → out ≡ store s q t h image
  unfolding store
  with-context out e f =
      f ∙ ap (λ (l : List ℕ). sets l (context_place (q / (s.block / 8))) (context_bytes (get_or t 0 0) h)) put ∙ rw (eq-eqb (q % (s.block / 8)) 0 e)

  pub without-context : (q % (s.block / 8) ≡ 0 → ⊥) → stored ≡ store s q t h image
  unfolding store
  without-context e = put ∙ rw (ne_eqb (q % (s.block / 8)) 0 e)

-- ---- a frame is encoded

pub passes-few : (h : History) (xs cs : List ℤ) (t : EncodedFrame) → t ≡ encode_frame h xs cs → t.passes ≤ 104
passes-few h xs cs t e = subst (λ (c : EncodedFrame). c.passes ≤ 104) (sym e) (frame-passes h xs cs)

-- all of a frame's bytes are its first eight
pub full-bytes : (h : History) (xs cs : List ℤ) → take 8 (encode_frame h xs cs).bytes ≡ (encode_frame h xs cs).bytes
full-bytes h xs cs = let n = (frame-lengths h xs cs).0 in take_all 8 (encode_frame h xs cs).bytes (omega arith)

pub framed-encoded : (e : Encoder) (q m k : ℕ) (image out : List ℕ) (t : EncodedFrame) (s : Shape) (after : History) (context : FrameContext)
    → t ≡ encode_frame e.history e.frame e.coefficients → s ≡ encoder_shape e → k ≡ 1 + (m + 1) / 2
    → out ≡ store s q (take k t.bytes) e.history image → after ≡ history_after e.history t.samples m → context ≡ loop_context e.looped q e.history t e.context
    → left (moved e e.fed after no_frame (e.passes + t.passes) e.closed context) out ≡ encoded (left e image) q m
unfolding encoded
framed-encoded e q m k image out t s after context et es ek eo ea ec = rw (eo, ec, ea, et, es, ek)

-- ---- one sample

module _ (e : Encoder) (x : ℤ) (image : List ℕ) where
  -- the state with it in its frame
  abbrev pub taken : Encoder
  taken = moved e (e.fed + 1) e.history (set e.frame (e.fed % 14) x) e.passes e.closed e.context

  -- it fills the frame
  pub push-full : e.fed % 14 ≡ 13 → encoded (left taken image) (e.fed / 14) 14 ≡ push (left e image) x
  unfolding push store encoded
  push-full h = rw (eq-eqb (e.fed % 14) 13 h, full-bytes e.history (set e.frame (e.fed % 14) x) e.coefficients)

  -- it does not
  pub push-part : (e.fed % 14 ≡ 13 → ⊥) → left taken image ≡ push (left e image) x
  unfolding push store
  push-part h = rw (ne_eqb (e.fed % 14) 13 h)

  -- the frame that it fills is within the image
  pub full-framed : (len : ℕ) → Going e 0 1 len → e.fed % 14 ≡ 13 → Framed taken (e.fed / 14) 14 len
  full-framed len g h =
      let r = g.rest in
      let f = full-frame e.total e.fed (omega arith) h in
      record {
        room = record { limits = g.limits; frame = f.0; part = omega arith; one = omega arith; body = f.1; size = g.size };
        samples = omega arith;
        within = g.within;
        count = g.count;
      }
