-- The frames of document 01's worked numbers. Definitions only.
use Rattle.std.specs.Prelude.{◌∷◌, ℕ, ℤ, pos, replicate}
use Rattle.frame.specs.declared.EncodedFrame.{EncodedFrame}
use Rattle.frame.specs.Frame.{encode_frame}

-- a frame of one sample, with zero coefficients and history
abbrev pub alone : ℤ → EncodedFrame
alone x = encode_frame (record { newest = pos 0; older = pos 0 }) (x ∷ replicate 13 (pos 0)) (replicate 16 (pos 0))

-- its bytes, passes and samples: header, first byte and first sample, the rest zero
abbrev pub frame : ℕ → ℕ → ℕ → ℤ → EncodedFrame
frame b c n x = record { bytes = b ∷ (c ∷ replicate 6 0); passes = n; samples = x ∷ replicate 13 (pos 0) }
