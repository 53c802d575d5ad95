-- What a header says, and the history. Definitions only.
use Rattle.std.specs.Prelude.{ℕ, ◌/◌, ◌%◌, ◌^◌, ℤ, pos}
use Rattle.whole.specs.declared.History.{History}
use Rattle.block.specs.declared.FrameContext.{FrameContext}

-- the pair that a header names: (header >> 4) & 7
unfoldable pub predictor : ℕ → ℕ
predictor h = h / 16 % 8

-- the scale that a header names: 2^(header & 15)
unfoldable pub scale : ℕ → ℕ
scale h = 2 ^ (h % 16)

-- a history: the newest sample and the one before it
abbrev pub history_with : ℤ → ℤ → History
history_with s0 s1 = record { newest = s0; older = s1 }

-- a context: a header and a history
abbrev pub context_with : ℕ → History → FrameContext
context_with header h = record { predictor_and_scale = header; last_samples = h }

-- all zeros
abbrev pub new_context : FrameContext
new_context = context_with 0 (history_with (pos 0) (pos 0))

-- a sample more: it is the newest, and the newest so far the older one
unfoldable pub push_sample : FrameContext → ℤ → FrameContext
push_sample c x = context_with c.predictor_and_scale (history_with x c.last_samples.newest)

-- another header with the same history
unfoldable pub with_header : FrameContext → ℕ → FrameContext
with_header c header = context_with header c.last_samples
