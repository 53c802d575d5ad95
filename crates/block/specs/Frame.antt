-- Nibbles, and what playing carries from one to the next. Definitions only.
use Rattle.std.specs.Prelude.{cond, List, [], ◌∷◌, ◌++◌, ℕ, ◌+◌, ◌*◌, ◌/◌, ◌%◌, eqb, ℤ, pos, get_or}
use Rattle.std.proofs.lemmas.List.Edits.{sets}
use Rattle.block.specs.declared.FrameContext.{FrameContext}
use Rattle.block.specs.Context.{predictor, scale, push_sample}
use Rattle.block.specs.Sample.{decode_sample}

-- the nibble at an address: two a byte, high nibble first
unfoldable pub nibble_at : List ℕ → ℕ → ℕ
nibble_at bytes a = cond (eqb (a % 2) 0) (get_or bytes (a / 2) 0 / 16) (get_or bytes (a / 2) 0 % 16)

-- what playing carries and leaves: a context, and samples: those so far, or those of a lent output
pub record Playing : Type 0 where
  pub context : FrameContext
  pub samples : List ℤ

-- a context and samples, together
abbrev pub playing : FrameContext → List ℤ → Playing
playing c xs = record { context = c; samples = xs }

-- the sample of a nibble, with the pair and the scale that the context's header names
unfoldable pub next_sample : List ℤ → FrameContext → ℕ → ℤ
next_sample cs c n =
    let header = c.predictor_and_scale in
    let h = c.last_samples in
    decode_sample (get_or cs (2 * predictor header) (pos 0)) (get_or cs (2 * predictor header + 1) (pos 0)) h.newest h.older n (scale header)

-- one sample more
unfoldable pub take_nibble : List ℤ → Playing → ℕ → Playing
take_nibble cs p n =
    let x = next_sample cs p.context n in
    playing (push_sample p.context x) (p.samples ++ (x ∷ []))

-- what was played, its samples stored in an output from a place on
abbrev pub into : List ℤ → ℕ → Playing → Playing
into out to p = playing p.context (sets out to p.samples)
