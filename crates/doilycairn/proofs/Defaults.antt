-- What derived defaults tell: zeros. Assumes nothing.
use Rattle.std.proofs.Common.{◌≡◌, false, pos}
use Rattle.image.specs.declared.Head.{Head}
use Rattle.image.specs.Opening.{no_head}
use Rattle.layout.specs.declared.Loop.{Loop}
use Rattle.layout.specs.Sizes.{no_loop}
use Rattle.block.specs.declared.FrameContext.{FrameContext}
use Rattle.block.specs.Context.{new_context}
use Rattle.clip.proofs.Defaults.{Zeros, zeros}

pub default-head : (h : Head) → (h.total ≡ 0) × ((h.rate ≡ 0) × ((h.block ≡ 0) × ((h.gain ≡ 0) × (Zeros 16 h.coefficients × (h.blocks ≡ 0))))) → h ≡ no_head
default-head h (total, (rate, (block, (gain, (coefficients, blocks))))) =
    let cs = zeros h.coefficients 16 coefficients in
    λ i. record { total = total i; rate = rate i; block = block i; gain = gain i; coefficients = cs i; blocks = blocks i }

pub default-loop : (p : Loop) → (p.start ≡ 0) × ((p.end ≡ 0) × (p.present ≡ false)) → p ≡ no_loop
default-loop p (start, (end, present)) = λ i. record { start = start i; end = end i; present = present i }

pub default-context : (c : FrameContext) → (c.predictor_and_scale ≡ 0) × ((c.last_samples.newest ≡ pos 0) × (c.last_samples.older ≡ pos 0)) → c ≡ new_context
default-context c (header, (newest, older)) = λ i. record { predictor_and_scale = header i; last_samples = record { newest = newest i; older = older i } }
