-- What a derived default tells: arrays of zeros, and the state of no clip.
use Rattle.std.proofs.Common.{◌≡◌, ℕ, false, List, replicate, ℤ, pos, sym, ◌∙◌}
use Rattle.std.specs.Array.{AllOfLen}
use Rattle.std.proofs.lemmas.List.{same_lists, length-replicate, get_or-replicate}
use Rattle.clip.specs.declared.Encoder.{Encoder}
use Rattle.clip.specs.Encoding.{no_encoder}

-- an array of n zeros
abbrev pub Zeros : ℕ → List ℤ → Type 0
Zeros n xs = AllOfLen (λ x. x ≡ pos 0) xs n

pub zeros : (xs : List ℤ) (n : ℕ) → Zeros n xs → xs ≡ replicate n (pos 0)
zeros xs n a =
    same_lists xs (replicate n (pos 0)) (a.long ∙ sym (length-replicate n (pos 0)))
    (λ k d lt. let h = rw a.long at lt in a.at k d h ∙ sym (get_or-replicate n k (pos 0) d h))

-- what `Encoder::default()` ensures of its fields, in their sequence
abbrev pub DefaultFields : Encoder → Type 0
DefaultFields e =
    (e.total ≡ 0)
    × ((e.rate ≡ 0)
    × ((e.block ≡ 0)
    × ((e.gain ≡ 0)
    × (Zeros 16 e.coefficients
    × ((e.fed ≡ 0)
    × (((e.history.newest ≡ pos 0) × (e.history.older ≡ pos 0))
    × (Zeros 14 e.frame
    × ((e.passes ≡ 0)
    × ((e.closed ≡ false)
    × (((e.looped.start ≡ 0) × ((e.looped.end ≡ 0) × (e.looped.present ≡ false)))
    × ((e.context.predictor_and_scale ≡ 0) × ((e.context.last_samples.newest ≡ pos 0) × (e.context.last_samples.older ≡ pos 0)))))))))))))

-- the default state is that of no clip
pub default-none : (e : Encoder) → DefaultFields e → e ≡ no_encoder
default-none e (total, (rate, (block, (gain, (coefficients, (fed, (history, (frame, (passes, (closed, (looped, context))))))))))) =
    let cs = zeros e.coefficients 16 coefficients in
    let f = zeros e.frame 14 frame in
    λ i. record {
      total = total i;
      rate = rate i;
      block = block i;
      gain = gain i;
      coefficients = cs i;
      fed = fed i;
      history = record { newest = history.0 i; older = history.1 i };
      frame = f i;
      passes = passes i;
      closed = closed i;
      looped = record { start = looped.0 i; end = looped.1.0 i; present = looped.1.1 i };
      context = record { predictor_and_scale = context.0 i; last_samples = record { newest = context.1.0 i; older = context.1.1 i } };
    }
