-- Bodies played in parts: no more than is played, and from a frame's start on.
use mathlib.Core.List.{List, []}
use mathlib.Core.Path.{◌≡◌, refl, sym, ap, ◌∙◌}
use Prim.Native.Nat.{ℕ, zero, suc, ◌+◌, ◌*◌, ◌≤◌, ◌<◌}
use native.Mathlib.Nat.{zero-add}
use native.Mathlib.Omega.{arith}
use lib.IntN.{ℤ}
use lib.ListN.{length, get_or, take, drop, take-append-drop}
use lib.Seq.{length-take-le}
use Rattle.block.specs.declared.FrameContext.{FrameContext}
use Rattle.block.specs.Context.{context_with, with_header}
use Rattle.block.specs.Frame.{Playing, playing}
use Rattle.block.specs.Play.{play_from, play}
use Rattle.block.proofs.LawsParts.{play-before, followed, cut}

-- only so many bytes are played
pub play-part : (bytes : List ℕ) (cs : List ℤ) (m len : ℕ) (c : FrameContext) → m ≤ length bytes → len ≤ 2 * m → play (take m bytes) cs len c ≡ play bytes cs len c
play-part bytes cs m len c h k =
    sym (play-before (take m bytes) (drop m bytes) cs len c (omega (arith, length-take-le m bytes h, k)))
    ∙ ap (λ (x : List ℕ). play x cs len c) (take-append-drop m bytes)

module _ (bytes : List ℕ) (cs : List ℤ) (c : FrameContext) (first : c.predictor_and_scale ≡ get_or bytes 0 0) where
  -- the context at frame q: its own header, and the history that the frames before it leave
  abbrev pub context_at_frame : ℕ → FrameContext
  context_at_frame q = with_header (play bytes cs (16 * q) c).context (get_or bytes (8 * q) 0)

  at_first : context_at_frame 0 ≡ c
  unfolding with_header play play_from
  at_first = ap (λ (h : ℕ). context_with h c.last_samples) (sym first)

  none : play bytes cs 0 c ≡ playing c []
  unfolding play play_from
  none = refl

  -- what is played after q whole frames is the rest of the bytes, played from the context there
  pub from-frame : (q n : ℕ) → 0 < n → play bytes cs (16 * q + n) c ≡ followed (play bytes cs (16 * q) c) (play (drop (8 * q) bytes) cs n (context_at_frame q))
  from-frame zero n h =
      ap (λ (m : ℕ). play bytes cs m c) (zero-add n)
      ∙ ap (λ (p : Playing). followed p (play bytes cs n c)) (sym none)
      ∙ ap (λ (d : FrameContext). followed (play bytes cs 0 c) (play bytes cs n d)) (sym at_first)
  from-frame (suc q) n h = cut bytes cs (suc q) n c (omega arith) h

  -- the history after them is that before the part's end
  pub history-on : (q n : ℕ) → 0 < n → (play bytes cs (16 * q + n) c).context ≡ (play (drop (8 * q) bytes) cs n (context_at_frame q)).context
  history-on q n h = ap (λ (p : Playing). p.context) (from-frame q n h)
